use Rattle.std.proofs.Common.{◌+◌, ◌∷◌, refl, sym, ap, ◌∙◌, subst, drop, arith}
use Rattle.std.specs.Prelude.{None}
use Rattle.std.proofs.lemmas.List.{drop_more, drop_all}
use Rattle.cov_text.specs.Listing.{inserted, text_cmp}
use Rattle.cov_book.specs.Listed.{all_listed, held_in}
use Rattle.cov_book.specs.Spent.{for_entries, own_all, runs_at}
use Rattle.cov_book.specs.Prepared.{with_reports, with_entries}
use Rattle.cov_book.specs.Least.{IsLeastSoFar, IsLeastPast}
use Rattle.cov_book.specs.Urls.{urls_of}
use Rattle.cov_book.specs.Weights.{entries_in, entry_of}
use Rattle.cov_book.proofs.Candidate.{least-start, least-done}
use Rattle.cov_book.proofs.Placed.{least-prepared}
use Rattle.cov_book.specs.Renewed.{AreChanged, changed_scripts, changed_urls}
use Rattle.cov_book.proofs.Renewing.{none-changed}
use Rattle.cov_model.specs.Nesting.{AreReportsNested}
use Rattle.cov_book.proofs.Nested.{All-at}
use Rattle.cov_book.proofs.Costs.{script-grows, script-within, script-cost}
use Rattle.cov_book.proofs.adding.changes_in.Goals as goal

pub loop-part-init : goal.loop-part-init
loop-part-init g c =
    let none = c.new-changed.ensures.items in
    record {
      order = subst AreChanged (sym none) none-changed;
      urls = ap (λ ss. inserted text_cmp (changed_urls ss) (urls_of (entries_in c.args.parts.now))) none;
      sums = (
        all_listed c.args.scripts.now,
        subst (λ ss. IsLeastSoFar (all_listed c.args.scripts.now) (held_in c.args.scripts.now) (all_listed (changed_scripts c.args.scripts.now ss)) None) (sym none) (least-start (all_listed c.args.scripts.now) c.requires.kept),
        refl,
        λ past key. omega arith,
      );
      cost = λ past bound within. omega arith;
      later = omega arith;
    }

pub add_script-requires-clause-nested : goal.add_script-requires-clause-nested
add_script-requires-clause-nested g c =
    All-at (λ e. AreReportsNested e.functions) entry_of c.args.parts.now c.loop-part.part-index c.part-item.result c.requires.nested c.loop-part-test.true c.part-item.is

pub loop-part-preserved : goal.loop-part-preserved
loop-part-preserved g c =
    let parts = c.args.parts.now in
    let items = entries_in parts in
    let k = c.loop-part.part-index in
    let part = c.part-item.result in
    let entry = entry_of part in
    let more = ap entries_in (drop_more parts k part c.loop-part-test.true ∙ ap (λ x. x ∷ drop (k + 1) parts) (sym c.part-item.is)) in
    let inv = c.loop-part.invariant in
    let so_far = inv.sums in
    let known = all_listed c.args.scripts.now in
    let left = entries_in (drop k parts) in
    let rest = entries_in (drop (k + 1) parts) in
    let next = c.in_ok-past.ensures in
    let now = with_reports so_far.0 entry.url entry.functions in
    record {
      order = next.order;
      urls = ap (λ us. inserted text_cmp us (urls_of rest)) next.urls ∙ sym (ap (λ es. inserted text_cmp (changed_urls c.loop-part.changed.items) (urls_of es)) more) ∙ inv.urls;
      sums = (
        now,
        next.sums so_far.0 so_far.1,
        sym (ap (with_entries so_far.0) more) ∙ so_far.2,
        λ none key. script-grows so_far.0 now entry left rest key (runs_at known key + own_all key items) more (so_far.3 (next.stays none) key) (next.grows none so_far.0 so_far.1 key),
      );
      cost = λ none bound within.
          script-cost bound entry left rest c.loop-part.steps c.add_script.new.steps (c.args.steps.now + for_entries bound items) more (inv.cost (next.stays none) bound within)
          (next.cost none so_far.0 bound so_far.1
          (λ key. script-within so_far.0 entry left rest key (runs_at known key + own_all key items) (bound key) more (so_far.3 (next.stays none) key) (within key)));
      later = omega (arith, inv.later, next.later);
    }

pub returns-clause-urls : goal.returns-clause-urls
returns-clause-urls g c =
    let done = ap entries_in (drop_all c.loop-part.part-index c.args.parts.now (omega (arith, c.loop-part-test.false))) in
    let inv = c.loop-part.invariant in
    sym (ap (λ es. inserted text_cmp (changed_urls c.loop-part.changed.items) (urls_of es)) done) ∙ inv.urls

pub returns-clause-sums : goal.returns-clause-sums
returns-clause-sums g c = λ none.
    let now = c.loop-part.invariant.sums in
    let done = ap entries_in (drop_all c.loop-part.part-index c.args.parts.now (omega (arith, c.loop-part-test.false))) in
    let all = sym (ap (with_entries now.0) done) ∙ now.2 in
    least-prepared (all_listed c.args.scripts.now) (entries_in c.args.parts.now) (held_in c.args.scripts.now) (all_listed (changed_scripts c.args.scripts.now c.loop-part.changed.items)) c.loop-part.past c.requires.kept.sorted none
    (subst (λ es. IsLeastSoFar es (held_in c.args.scripts.now) (all_listed (changed_scripts c.args.scripts.now c.loop-part.changed.items)) c.loop-part.past) all now.1)

pub returns-clause-past : goal.returns-clause-past
returns-clause-past g c =
    let now = c.loop-part.invariant.sums in
    let done = ap entries_in (drop_all c.loop-part.part-index c.args.parts.now (omega (arith, c.loop-part-test.false))) in
    let all = sym (ap (with_entries now.0) done) ∙ now.2 in
    subst (λ es. IsLeastPast es c.loop-part.past) all (least-done now.0 (held_in c.args.scripts.now) (all_listed (changed_scripts c.args.scripts.now c.loop-part.changed.items)) c.loop-part.past now.1)

pub returns-clause-cost : goal.returns-clause-cost
returns-clause-cost g c = λ none bound within.
    let spent = c.loop-part.invariant.cost none bound within in
    omega (arith, spent)
