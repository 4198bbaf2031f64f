use Rattle.std.proofs.Common.{◌≡◌, List, sym, ap, ◌∙◌, subst}
use Rattle.std.specs.Prelude.{option_map}
use Rattle.std.specs.Map.{lookup}
use Rattle.cov_model.specs.declared.snapshot.Snapshot.{Snapshot}
use Rattle.cov_model.specs.Normal.{maximal_runs}
use Rattle.cov_model.specs.Sums.{same_key, total}
use Rattle.cov_steps.specs.Runs.{RunList}
use Rattle.cov_book.specs.declared.sums.Sums.{Sums}
use Rattle.cov_book.specs.Stands.{StandsFor}
use Rattle.cov_book.specs.Told.{named}
use Rattle.cov_book.proofs.Looked.{looked, aligned-named, held-none, held-runs}
use Rattle.cov_book.proofs.Telling.{aligned}
use Rattle.cov_book.specs.Listed.{AreSorted, all_listed, urls_in}
use Rattle.cov_book.proofs.Flat.{scripts-sorted}
use Rattle.cov_book.proofs.Grown.{kept, urls-sorted}
use Rattle.cov_book.proofs.book.Book.held.Goals as goal

pub runs_named-requires : goal.runs_named-requires
runs_named-requires c =
    let items = c.self.inside.scripts.items in
    let us = urls_in items in
    let es = all_listed items in
    subst AreSorted (sym c.deref.ensures.value) (scripts-sorted items (urls-sorted us es c.self.invariant) (kept us es c.self.invariant).sorted)

pub returns-clause-none : goal.returns-clause-none
returns-clause-none c =
    let k = named c.args.url.now c.args.start c.args.end c.args.name.now in
    let is = c.runs_named.ensures ∙ ap (λ ss. option_map (λ (s : Sums). s.runs) (lookup (same_key k) (all_listed ss))) c.deref.ensures.value in
    held-none (urls_in c.self.inside.scripts.items) (all_listed c.self.inside.scripts.items) c.args.self.now c.self.invariant c.self.view_is k c.runs_named.result (λ (s : Sums). s.runs) is

pub returns-clause-root : goal.returns-clause-root
returns-clause-root c =
    let k = named c.args.url.now c.args.start c.args.end c.args.name.now in
    let entries = all_listed c.self.inside.scripts.items in
    let is = c.runs_named.ensures ∙ ap (λ ss. option_map (λ (s : Sums). s.runs) (lookup (same_key k) (all_listed ss))) c.deref.ensures.value in
    looked c.runs_named.result (lookup (same_key k) entries) (λ (s : Sums). s.runs) is (λ (r : RunList). (r.start ≡ c.args.start) × (r.end ≡ c.args.end))
    (λ s here. aligned-named k entries s (aligned (urls_in c.self.inside.scripts.items) entries c.self.invariant) here)

pub returns-clause-runs : goal.returns-clause-runs
returns-clause-runs c =
    let k = named c.args.url.now c.args.start c.args.end c.args.name.now in
    let entries = all_listed c.self.inside.scripts.items in
    let is = c.runs_named.ensures ∙ ap (λ ss. option_map (λ (s : Sums). s.runs) (lookup (same_key k) (all_listed ss))) c.deref.ensures.value in
    looked c.runs_named.result (lookup (same_key k) entries) (λ (s : Sums). s.runs) is
    (λ (r : RunList). (held : List Snapshot) → StandsFor c.args.self.now held → r.runs ≡ maximal_runs c.args.start c.args.end (total held k))
    (λ s here. held-runs (urls_in c.self.inside.scripts.items) entries c.args.self.now c.self.invariant c.self.view_is k s here)
