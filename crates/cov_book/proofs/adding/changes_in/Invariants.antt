use Rattle.std.proofs.Common.{◌≡◌, ◌≤◌, ◌+◌, ℕ, List, drop}
use Rattle.std.specs.Prelude.{None}
use Rattle.cov_text.specs.Listing.{inserted, text_cmp, in_order}
use Rattle.cov_model.specs.declared.sums.Key.{Key}
use Rattle.cov_book.specs.declared.sums.Sums.{Sums}
use Rattle.cov_book.specs.Spent.{for_entries, own_all, runs_at}
use Rattle.cov_book.specs.Prepared.{with_entries}
use Rattle.cov_book.specs.Least.{IsLeastSoFar}
use Rattle.cov_book.specs.Listed.{all_listed, held_in}
use Rattle.cov_book.specs.Renewed.{AreChanged, changed_scripts, changed_urls}
use Rattle.cov_book.specs.Urls.{urls_of}
use Rattle.cov_book.specs.Weights.{entries_in}
use Rattle.cov_book.proofs.adding.changes_in.Given as goal

-- what is left makes of the sums so far what all make of those held
abbrev pub invariant-loop-part : goal.invariant-loop-part
invariant-loop-part g l = record {
  order : AreChanged l.changed.items;
  urls : inserted text_cmp (changed_urls l.changed.items) (urls_of (entries_in (drop l.part-index l.parts))) ≡ in_order text_cmp (urls_of (entries_in l.parts));
  sums : (now : List (Key × Sums)) × IsLeastSoFar now (held_in l.scripts) (all_listed (changed_scripts l.scripts l.changed.items)) l.past × (with_entries now (entries_in (drop l.part-index l.parts)) ≡ with_entries (all_listed l.scripts) (entries_in l.parts))
      × (l.past ≡ None → (key : Key) → runs_at now key + own_all key (entries_in (drop l.part-index l.parts)) ≤ runs_at (all_listed l.scripts) key + own_all key (entries_in l.parts));
  cost : l.past ≡ None → (bound : Key → ℕ) → ((key : Key) → runs_at (all_listed l.scripts) key + own_all key (entries_in l.parts) ≤ bound key)
      → l.steps + for_entries bound (entries_in (drop l.part-index l.parts)) ≤ l.initial.steps + for_entries bound (entries_in l.parts);
  later : l.initial.steps ≤ l.steps;
}
