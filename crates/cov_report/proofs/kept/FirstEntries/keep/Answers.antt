use Rattle.std.proofs.Common.{◌≡◌, List, [], ◌∷◌, ◌++◌, map, length, sym, ap, ◌∙◌, subst, arith, rules}
use Rattle.std.specs.Vec.{vec_len}
use Rattle.std.specs.Vec.Iter.{into_iter_items}
use Rattle.std.proofs.lemmas.List.{append_assoc, append-nil}
use Rattle.cov_book.proofs.Placed.{none-left}
use Rattle.source_maps.specs.declared.entries.MapEntry.{MapEntry}
use Rattle.source_maps.specs.Entries.{Said, said}
use Rattle.cov_report.specs.First.{AreFirsts}
use Rattle.cov_report.proofs.kept.FirstEntries.keep.Goals as goal

pub loop-entry-init : goal.loop-entry-init
loop-entry-init c =
    let gives = c.into_iter-entry-iterator.ensures.into_iter_gives in
    let whole : vec_len c.into_vec-entry-items.result ≡ length c.into_vec-entry-items.result.items = search rules in
    record {
      kept = λ all are. (all, ap (λ (es : List MapEntry). all ++ map said es) (gives.0 ∙ c.into_vec-entry-items.ensures), are);
      count = gives.1 ∙ whole ∙ ap length (sym gives.0);
    }

pub loop-entry-preserved : goal.loop-entry-preserved
loop-entry-preserved c =
    let inv = c.loop-entry.invariant in
    let steps = c.in-Some.ensures.steps in
    let e = said c.in-Some.entry in
    record {
      kept = λ all are.
          let so_far = inv.kept all are in (
            so_far.0 ++ e ∷ [],
            append_assoc so_far.0 (e ∷ []) (map said (into_iter_items c.next.new.self)) ∙ ap (λ (es : List MapEntry). so_far.0 ++ map said es) (sym steps.0) ∙ so_far.1,
            c.in_ok-keep_first.ensures so_far.0 so_far.2,
          );
      count = let more = ap length steps.0 in omega (arith, steps.1, inv.count, more);
    }

pub returns : goal.returns
returns c = λ all are.
    let inv = c.loop-entry.invariant in
    let so_far = inv.kept all are in
    let none = none-left (into_iter_items c.loop-entry.entry-iterator) (let len = c.in-None.ensures.steps.0 in omega (arith, len, inv.count)) in
    subst (λ (es : List Said). AreFirsts es c.loop-entry.self) (sym (append-nil so_far.0) ∙ ap (λ (es : List MapEntry). so_far.0 ++ map said es) (sym none) ∙ so_far.1) so_far.2
