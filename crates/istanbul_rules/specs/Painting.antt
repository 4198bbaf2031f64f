-- The counts of stretches of a text, by ranges in order.
use Rattle.std.specs.Prelude.{◌≡◌, ℕ, ◌+◌, Bool, ◌&&◌, ◌≤◌, List, length, map, nat_le, filter}
use Rattle.cov_model.specs.declared.report.Range.{Range}
use Rattle.cov_text.specs.Listing.{last_or}
use Rattle.utf16_lines.specs.declared.Span.{Span}
use Rattle.istanbul_rules.specs.declared.painting.Stretch.{Stretch}

-- the range goes over the whole stretch
abbrev pub covers : Stretch → Range → Bool
covers s r = nat_le r.start s.start && nat_le s.end r.end

-- the count of the last range that goes over the whole stretch, and `base` where none does
abbrev pub count_over : ℕ → List Range → Stretch → ℕ
count_over base ranges s = last_or base (map (λ r. r.count) (filter (covers s) ranges))

-- the stretch lies between these two, by its start and by its end
pub record LiesBetween (first last s : Stretch) : Type 0 where
  pub start_first : first.start ≤ s.start
  pub start_last : s.start ≤ last.start
  pub end_first : first.end ≤ s.end
  pub end_last : s.end ≤ last.end

-- For what lies between these two, the ranges left may be taken for all of them, over their own base.
abbrev pub IsSameBetween : Stretch → Stretch → ℕ × List Range → ℕ → List Range → Type 0
IsSameBetween first last left base ranges = (s : Stretch) → LiesBetween first last s → count_over left.0 left.1 s ≡ count_over base ranges s

-- where the two are one, no range is left
abbrev pub IsDecided : Stretch → Stretch → List Range → Type 0
IsDecided first last ranges = first.start ≡ last.start → first.end ≡ last.end → length ranges ≡ 0

-- a line as a stretch, and the one unit at an offset
abbrev pub stretch_of_line : Span → Stretch
stretch_of_line line = record { start = line.start; end = line.end }

abbrev pub stretch_at : ℕ → Stretch
stretch_at o = record { start = o; end = o + 1 }
