use Rattle.std.proofs.Common.{map, sym, ap, ◌∙◌}
use Rattle.std.proofs.lemmas.Result.{err_from_is_err_and}
use Rattle.istanbul_json.specs.Value.{in_turn}
use Rattle.json_pieces.proofs.Steps.{hands-of, hands-short, hands-join, hands-stops}
use Rattle.coverage_text.proofs.Texts.{members-behind}
use Rattle.coverage_text.proofs.listed.write_both.Goals as goal

pub returns-in_err-order : goal.returns-in_err-order
returns-in_err-order g c =
    let p = err_from_is_err_and c.from_residual.result c.from_residual.ensures.1 in
    rw (p.1, p.2) (hands-short _ _ _ _)

pub returns-in_err-write_list : goal.returns-in_err-write_list
returns-in_err-write_list g c =
    let p = err_from_is_err_and c.from_residual-in_err-write_list.result c.from_residual-in_err-write_list.ensures.1 in
    let key = g.T.HasKey.key_of in
    let counts = g.T.Listed.counts in
    let turn = c.in_ok-order.ensures counts ∙ ap (λ l. in_turn key counts (map (λ k. k.item.now) l)) (sym c.deref.ensures.value) in
    rw (p.1, p.2) (hands-stops _ _ _ _ _ _ _ _ (hands-of _ _ _ _ _ _ _
    (members-behind (λ k. k.item.now) key counts c.args.before_counts.now c.args.items.now c.deref.result.now turn) c.in_err-write_list.ensures))

pub returns : goal.returns
returns g c =
    let key = g.T.HasKey.key_of in
    let counts = g.T.Listed.counts in
    let entry = g.T.Listed.entry in
    let first = c.in_ok-order.ensures counts ∙ ap (λ l. in_turn key counts (map (λ k. k.item.now) l)) (sym c.deref.ensures.value) in
    let second = c.in_ok-order.ensures entry ∙ ap (λ l. in_turn key entry (map (λ k. k.item.now) l)) (sym c.deref-2.ensures.value) in
    hands-join _ _ _ _ _ _ _ _ _
    (hands-of _ _ _ _ _ _ _ (members-behind (λ k. k.item.now) key counts c.args.before_counts.now c.args.items.now c.deref.result.now first) c.in_ok-write_list.ensures)
    (hands-of _ _ _ _ _ _ _ (members-behind (λ k. k.item.now) key entry c.args.before_entries.now c.args.items.now c.deref-2.result.now second) c.write_list-2.ensures)
