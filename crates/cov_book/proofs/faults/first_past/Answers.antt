use Rattle.std.proofs.Common.{ℕ, ◌+◌, map, sym, ap, ◌∙◌, subst, refl}
use Rattle.std.specs.Prelude.{Some, cond, find, option_copied, sum_by}
use Rattle.cov_model.specs.declared.sums.At.TheVariants.{Root, Offset}
use Rattle.cov_text.specs.Listing.{offsets}
use Rattle.cov_book.specs.Counts.{weight}
use Rattle.cov_book.specs.Prepared.{held_weight, passes_over}
use Rattle.cov_book.specs.Stretching.{TellsSums}
use Rattle.cov_book.proofs.Stretched.{tests-told}
use Rattle.cov_book.proofs.faults.first_past.Goals as goal

pub with_held-requires-clause-covers : goal.with_held-requires-clause-covers
with_held-requires-clause-covers g c = c.in_ok-added.ensures.sums.covers

pub returns-clause-point : goal.returns-clause-point
returns-clause-point g c =
    let key = c.args.key.now in
    let before = option_copied c.args.before in
    let new = map (λ r. r.now) c.args.new.now in
    let p = passes_over before new in
    let f : ℕ → ℕ = λ o. sum_by (weight (Offset o)) new in
    let told =
    subst (TellsSums key.start key.end (λ o. held_weight before (Offset o) + f o)) (sym c.deref.ensures.value) (c.in_ok-sums.ensures.sums f c.in_ok-added.ensures.sums) in
    c.first_over.ensures key.end p told.covers (tests-told key.start key.end (λ o. held_weight before (Offset o) + f o) c.deref.result.now p told (λ o. refl))
    ∙ sym (ap (λ b. cond b (Some Root) (find p (map Offset (offsets key.start key.end)))) (sym c.is_root_past.ensures ∙ c.if-is_root_past.false))
