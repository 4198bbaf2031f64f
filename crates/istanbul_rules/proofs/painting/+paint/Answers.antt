use Rattle.std.proofs.Common.{◌≡◌, ◌++◌, ◌∙◌, sym, subst, arith}
use Rattle.std.specs.Prelude.{map}
use Rattle.std.specs.Vec.{vec_len}
use Rattle.std.proofs.lemmas.Bool.{eqb-true}
use Rattle.std.proofs.lemmas.Result.{IfOk-weaker}
use Rattle.istanbul_rules.specs.Painting.{count_over}
use Rattle.istanbul_rules.proofs.Painted.{IsBlock, painted_flat, painted_halves}
use Rattle.istanbul_rules.proofs.painting.+paint.Goals as goal

pub returns-then-is_empty : goal.returns-then-is_empty
returns-then-is_empty t c =
    let block : IsBlock c.in-Some-Some.first.now c.in-Some-Some.last.now c.args.stretches.now (c.in_ok-base.base, c.in_ok-base.left.items) c.args.base c.args.ranges.now = record {
      starts = c.requires.starts;
      ends = c.requires.ends;
      at_first = c.in-Some-Some.ensures.item.1;
      at_last = c.in-Some-Some.ensures'.item.3.1 c.in-Some-Some.first.now;
      same = c.in_ok-base.ensures.same;
    } in
    let empty = eqb-true (vec_len c.in_ok-base.left) 0 (sym c.is_empty.ensures ∙ c.if-is_empty.true) in
    IfOk-weaker c.repeat.result _ _
    (λ x e. painted_flat c.in-Some-Some.first.now c.in-Some-Some.last.now c.args.stretches.now c.in_ok-base.base c.in_ok-base.left.items c.args.base c.args.ranges.now
    c.args.counts.now.items c.repeat.new.counts.items block (omega (arith, empty)) e)
    c.repeat.ensures

pub returns : goal.returns
returns t c =
    let block : IsBlock c.in-Some-Some.first.now c.in-Some-Some.last.now c.args.stretches.now (c.in_ok-base.base, c.in_ok-base.left.items) c.args.base c.args.ranges.now = record {
      starts = c.requires.starts;
      ends = c.requires.ends;
      at_first = c.in-Some-Some.ensures.item.1;
      at_last = c.in-Some-Some.ensures'.item.3.1 c.in-Some-Some.first.now;
      same = c.in_ok-base.ensures.same;
    } in
    let split = c.split_at.ensures.by_index.0 in
    IfOk-weaker c.paint-2.result _ _
    (λ x e. painted_halves c.in-Some-Some.first.now c.in-Some-Some.last.now c.args.stretches.now c.split_at.result.0.now c.split_at.result.1.now
    (c.in_ok-base.base, c.in_ok-base.left.items) c.args.base c.args.ranges.now
    c.args.counts.now.items c.paint.new.counts.items c.paint-2.new.counts.items block split
    (subst (λ rs. c.paint.new.counts.items ≡ c.args.counts.now.items ++ map (count_over c.in_ok-base.base rs) c.split_at.result.0.now) c.deref.ensures.value c.in_ok-paint.ensures)
    (subst (λ rs. c.paint-2.new.counts.items ≡ c.paint.new.counts.items ++ map (count_over c.in_ok-base.base rs) c.split_at.result.1.now) c.deref-2.ensures.value e))
    c.paint-2.ensures
