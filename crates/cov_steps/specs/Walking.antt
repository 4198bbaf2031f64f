-- What private helpers ask, keep and answer. It follows their walk, and no public contract cites it.
use Rattle.std.specs.Prelude.{◌≡◌, ℕ, ◌<◌, ◌≤◌, Bool, true, ◌&&◌, ◌==◌, nat_lt, nat_le, List, [], ◌∷◌, drop, length, filter, Option, Some, is_some, option_map, if◌then◌else◌}
use Rattle.std.specs.List.{list_all}
use Rattle.cov_text.specs.Listing.{last_of}
use Rattle.cov_model.specs.declared.report.Range.{Range}
use Rattle.cov_model.specs.Nesting.{has_offset, is_within}
use Rattle.cov_model.specs.Normal.{range, each_next, maximal_runs}
use Rattle.cov_ranges.specs.Order.{precedes, ends_behind}
use Rattle.cov_steps.specs.Runs.{AreRuns, count_in}

-- ---- runs that grow at their end, and runs that are read

-- the runs with one more behind them, or the last one made longer where that has the same count
abbrev pub pushed : List Range → Range → List Range
pushed [] run = run ∷ []
pushed (last ∷ []) run = if last.count == run.count then range last.start run.end last.count ∷ [] else last ∷ run ∷ []
pushed (first ∷ next ∷ rest) run = first ∷ pushed (next ∷ rest) run

-- All runs before place `next` were read, and `run` counts from `reached` up to its end.
pub record Walked (runs : List Range) (end next reached : ℕ) (run : Range) : Type 0 where
  pub within : next ≤ length runs
  pub ahead : reached ≤ run.end
  pub rest : AreRuns run.end end (drop next runs)
  pub here : (o : ℕ) → reached ≤ o → o < run.end → count_in runs o ≡ run.count
  pub behind : (o : ℕ) → run.end ≤ o → count_in runs o ≡ count_in (drop next runs) o

-- ---- ranges in V8's order

-- it ends no sooner than it starts, and lies in the root
abbrev pub lies_in : Range → Range → Bool
lies_in root r = nat_le r.start r.end && is_within root r

-- the count of the last of some ranges
abbrev pub last_count : List Range → Option ℕ
last_count ranges = option_map (λ r. r.count) (last_of ranges)

-- the count of the last range that has the offset, if there is one
abbrev pub last_at : List Range → ℕ → Option ℕ
last_at ranges o = last_count (filter (has_offset o) ranges)

-- the count of the last open range that ends behind the offset
abbrev pub open_count : List Range → ℕ → Option ℕ
open_count open_ranges o = last_count (filter (ends_behind o) open_ranges)

-- The runs go up to `at`, and from there up to `to` the open ranges tell the counts.
pub record Painted (f : ℕ → ℕ) (start at to : ℕ) (ranges runs : List Range) : Type 0 where
  pub from : start ≤ at
  pub done : runs ≡ maximal_runs start at f
  pub counts : (o : ℕ) → at ≤ o → o < to → open_count ranges o ≡ Some (f o)

-- the runs with one more behind them, unless that is empty
abbrev pub pushed_between : List Range → ℕ → ℕ → ℕ → List Range
pushed_between runs start end count = if nat_lt start end then pushed runs (range start end count) else runs

-- each of the ranges starts at the offset or behind
abbrev pub starts_from : ℕ → List Range → Bool
starts_from at ranges = list_all (λ r. nat_le at r.start) ranges

-- Ranges in V8's order, which lie in a root, and of which some one has each offset of the root.
pub record Walkable (root : Range) (ranges : List Range) : Type 0 where
  pub order : each_next precedes ranges ≡ true
  pub starts : starts_from root.start ranges ≡ true
  pub within : list_all (lies_in root) ranges ≡ true
  pub nonempty : root.start ≤ root.end
  pub covered : (o : ℕ) → root.start ≤ o → o < root.end → is_some (last_at ranges o) ≡ true
