use Rattle.std.proofs.Common.{◌≡◌, sym, subst, arith}
use Rattle.std.specs.Prelude.{IfOk, None}
use Rattle.std.proofs.lemmas.Result.{IfOk-weaker}
use Rattle.cov_model.specs.Nesting.{AreNested}
use Rattle.cov_book.specs.Least.{IsLeastPast}
use Rattle.cov_book.specs.Listed.{all_listed, held_in}
use Rattle.cov_book.specs.Renewed.{changed_scripts, changed_urls}
use Rattle.cov_book.specs.Prepared.{ArePrepared}
use Rattle.cov_book.specs.Spent.{for_entries, for_report, own_all, own_runs}
use Rattle.cov_book.specs.Weights.{entries_in, AreAlike}
use Rattle.cov_book.proofs.Weighed.{alike-entries, alike-urls}
use Rattle.cov_book.proofs.adding.changes_by.Goals as goal

pub changes_in-requires-clause-nested : goal.changes_in-requires-clause-nested
changes_in-requires-clause-nested g c =
    subst (λ ps. AreNested (entries_in ps)) (sym c.deref.ensures.value) (c.in_ok-parts.ensures.alike.nested c.in_ok-parts.ensures.nested)

pub returns-clause-urls : goal.returns-clause-urls
returns-clause-urls g c =
    let s = c.args.snapshot.now in
    let es = entries_in c.deref.result.now in
    let alike : AreAlike s es = subst (λ ps. AreAlike s (entries_in ps)) (sym c.deref.ensures.value) c.in_ok-parts.ensures.alike in
    subst (λ us. IfOk c.changes_in.result (λ changes. changed_urls changes.scripts.items ≡ us)) (alike-urls s es alike) c.changes_in.ensures.urls

pub returns-clause-sums : goal.returns-clause-sums
returns-clause-sums g c =
    let s = c.args.snapshot.now in
    let es = entries_in c.deref.result.now in
    let ss = c.args.scripts.now in
    let alike : AreAlike s es = subst (λ ps. AreAlike s (entries_in ps)) (sym c.deref.ensures.value) c.in_ok-parts.ensures.alike in
    let same = alike-entries (all_listed ss) c.requires.held.0 s es c.requires.held.1 alike in
    subst (λ all. IfOk c.changes_in.result (λ changes. changes.past ≡ None → ArePrepared all (held_in ss) (all_listed (changed_scripts ss changes.scripts.items)))) same c.changes_in.ensures.sums

pub returns-clause-past : goal.returns-clause-past
returns-clause-past g c =
    let s = c.args.snapshot.now in
    let es = entries_in c.deref.result.now in
    let ss = c.args.scripts.now in
    let alike : AreAlike s es = subst (λ ps. AreAlike s (entries_in ps)) (sym c.deref.ensures.value) c.in_ok-parts.ensures.alike in
    let same = alike-entries (all_listed ss) c.requires.held.0 s es c.requires.held.1 alike in
    subst (λ all. IfOk c.changes_in.result (λ changes. IsLeastPast all changes.past)) same c.changes_in.ensures.past

pub returns-clause-cost : goal.returns-clause-cost
returns-clause-cost g c =
    let s = c.args.snapshot.now in
    let es = entries_in c.deref.result.now in
    let known = all_listed c.args.scripts.now in
    let alike : AreAlike s es = subst (λ ps. AreAlike s (entries_in ps)) (sym c.deref.ensures.value) c.in_ok-parts.ensures.alike in
    IfOk-weaker c.changes_in.result _ _
    (λ changes step none bound within.
    let spent = step none bound (λ key. let own : own_all key s ≡ own_all key es = alike.weights (own_runs key) in omega (arith, own, within key)) in
    let all : for_entries bound s ≡ for_entries bound es = alike.weights (for_report bound) in
    omega (arith, spent, all))
    c.changes_in.ensures.cost
