-- How counts are taken in, one after the other.
use Rattle.std.specs.Prelude.{ℕ, ◌+◌, min, max, List, [], ◌∷◌, Option, None, Some, nat_lt, if◌then◌else◌, unwrap_or}
use Rattle.std.specs.Ordering.{nat_cmp}
use Rattle.std.specs.Map.{lookup}
use Rattle.std.specs.BTreeMap.{insert_entry, is_at}
use Rattle.cov_text.specs.Listing.{limit}
use Rattle.istanbul_json.specs.declared.file.Statement.{Statement}
use Rattle.lcov_text.specs.declared.counts.LineCount.{LineCount}
use Rattle.lcov_text.specs.declared.counts.Share.{Share}

-- ---- the greatest count of each line

abbrev pub line_count : ℕ → ℕ → LineCount
line_count line count = record { line = line; count = count }

abbrev pub known_count : List (ℕ × ℕ) → ℕ → ℕ
known_count entries line = unwrap_or (lookup (is_at (nat_cmp line)) entries) 0

-- the entries with a count on a line, if there is a line
abbrev pub with_line : List (ℕ × ℕ) → Option ℕ → ℕ → List (ℕ × ℕ)
with_line entries None count = entries
with_line entries (Some line) count = insert_entry nat_cmp entries line (max (known_count entries line) count)

abbrev pub with_statements : List (ℕ × ℕ) → List Statement → List (ℕ × ℕ)
with_statements entries [] = entries
with_statements entries (s ∷ ss) = with_statements (with_line entries s.loc.start.line s.count) ss

-- ---- shares

abbrev pub nothing : Share
nothing = record { hit = 0; all = 0 }

abbrev pub with_count : Share → ℕ → Share
with_count s count = record { hit = if nat_lt 0 count then min (s.hit + 1) limit else s.hit; all = min (s.all + 1) limit }

abbrev pub with_counts : Share → List ℕ → Share
with_counts s [] = s
with_counts s (count ∷ counts) = with_counts (with_count s count) counts
