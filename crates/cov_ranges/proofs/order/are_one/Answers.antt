use Rattle.std.proofs.Common.{◌≡◌, ap}
use Rattle.std.specs.Prelude.{◌&&◌, ◌==◌}
use Rattle.std.specs.Bool.{Decides}
use Rattle.std.proofs.lemmas.Bool.Decides.{Decides-eqb}
use Rattle.std.proofs.lemmas.Slice.Eq.{slice_eq-Decides}
use Rattle.std.proofs.lemmas.Bool.{and_parts, and_from}
use Rattle.cov_model.specs.declared.report.Range.{Range}
use Rattle.cov_ranges.proofs.order.are_one.Goals as goal

one-range : (a b : Range) → Decides (a.start == b.start && (a.end == b.end && a.count == b.count)) (a ≡ b)
one-range a b = (
  (λ e.
      let p = and_parts (a.start == b.start) (a.end == b.end && a.count == b.count) e in
      let q = and_parts (a.end == b.end) (a.count == b.count) p.1 in
      let start = (Decides-eqb a.start b.start).0 p.0 in
      let end = (Decides-eqb a.end b.end).0 q.0 in
      let count = (Decides-eqb a.count b.count).0 q.1 in
      (λ i. record { start = start i; end = end i; count = count i })),
  (λ e.
      and_from (a.start == b.start) (a.end == b.end && a.count == b.count) ((Decides-eqb a.start b.start).1 (ap (λ (r : Range). r.start) e))
      (and_from (a.end == b.end) (a.count == b.count) ((Decides-eqb a.end b.end).1 (ap (λ (r : Range). r.end) e)) ((Decides-eqb a.count b.count).1 (ap (λ (r : Range). r.count) e)))),
)

pub returns : goal.returns
returns c = slice_eq-Decides one-range c.args.a.now c.args.b.now c.eq.result c.eq.ensures
