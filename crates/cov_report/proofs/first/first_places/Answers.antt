use Rattle.std.proofs.Common.{◌≡◌, ◌∙◌, ap, sym, false}
use Rattle.std.specs.Prelude.{ℕ, Option, None, Some, is_some}
use Rattle.std.specs.BTreeMap.{get}
use Rattle.cov_report.specs.First.{lent_cmp}
use Rattle.cov_report.proofs.Firsts.{put-first, kept-first}
use Rattle.cov_report.proofs.first.first_places.Goals as goal
use Rattle.cov_report.proofs.first.first_places.Goals.{then-not-contains_key+in_ok-insert, else-not-contains_key}

is-none : (o : Option ℕ) → false ≡ is_some o → o ≡ None
is-none None e = sym (ap (λ x. None) e)
is-none (Some n) e = absurd cc

pub loop-place-preserved : goal.loop-place-preserved
loop-place-preserved c =
    elim c.if-not-contains_key.branch [
      | then-not-contains_key+in_ok-insert w ↦
          put-first c.args.entries.now c.loop-place.place c.index-entries-place.result c.loop-place-test.true c.index-entries-place.is c.loop-place.places c.if-not-contains_key.places c.as_text-url.result
          c.as_text-url.ensures (is-none _ w.if-not-contains_key.ensures) c.loop-place.invariant
          (λ url. ap (λ m. get lent_cmp m url) w.places-is ∙ w.in_ok-insert.ensures.updates.0 url)
      | else-not-contains_key w ↦
          kept-first c.args.entries.now c.loop-place.place c.index-entries-place.result c.loop-place-test.true c.index-entries-place.is c.loop-place.places c.if-not-contains_key.places c.as_text-url.result
          c.as_text-url.ensures (sym w.if-not-contains_key.ensures) c.loop-place.invariant w.places-is
    ]
