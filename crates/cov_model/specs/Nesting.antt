-- Ranges of one function: whether they nest, and which of them counts at an offset.
-- Ranges are `CoverageRange`s of the DevTools protocol 1.3, Profiler domain. The first of a list is the root.
use Rattle.std.specs.Prelude.{◌≡◌, ℕ, ◌-◌, Bool, true, false, ◌&&◌, ◌||◌, not, List, [], ◌∷◌, ◌++◌, length, nat_le, nat_lt, if◌then◌else◌, Option, None, Some, option_map, unwrap_or, filter, position}
use Rattle.std.specs.List.{list_all, AllByRecursion}
use Rattle.cov_model.specs.declared.report.FunctionReport.{FunctionReport}
use Rattle.cov_model.specs.declared.snapshot.Entry.{Entry}
use Rattle.cov_model.specs.declared.report.Range.{Range}
use Rattle.cov_model.specs.declared.report.RangeFault.{RangeFault}
use Rattle.cov_model.specs.declared.report.RangeFault.TheVariants.{NoRange, Inverted, Outside, Crossing}
use Rattle.cov_text.specs.Listing.{last_of}

-- how many offsets it has
abbrev pub size : Range → ℕ
size r = r.end - r.start

abbrev pub has_offset : ℕ → Range → Bool
has_offset o r = nat_le r.start o && nat_lt o r.end

abbrev pub is_within : Range → Range → Bool
is_within root r = nat_le root.start r.start && nat_le r.end root.end

-- a begins first and ends inside b
abbrev pub runs_into : Range → Range → Bool
runs_into a b = nat_lt a.start b.start && (nat_lt b.start a.end && nat_lt a.end b.end)

-- one of the two runs into the other
abbrev pub crosses : Range → Range → Bool
crosses a b = runs_into a b || runs_into b a

-- The fault of the range at k, if it has one: judged by itself, then against the root, then against those before it.
abbrev pub fault_at : Range → List Range → ℕ → Range → Option RangeFault
fault_at root earlier k r =
    if nat_lt r.end r.start then Some (Inverted k)
    else (if is_within root r then option_map (λ other. Crossing k other) (position (crosses r) earlier) else Some (Outside k))

abbrev pub or_else : {A : Type 0} → Option A → Option A → Option A
or_else (Some x) other = Some x
or_else None other = other

-- the first fault of the ranges that come after earlier
abbrev pub fault_from : Range → List Range → List Range → Option RangeFault
fault_from root earlier [] = None
fault_from root earlier (r ∷ rest) = or_else (fault_at root earlier (length earlier) r) (fault_from root (earlier ++ r ∷ []) rest)

-- the first fault of a list of ranges
unfoldable pub range_fault : List Range → Option RangeFault
range_fault [] = Some NoRange
range_fault (root ∷ rest) = fault_from root [] (root ∷ rest)

-- each two elements, the earlier first, pass the test
abbrev pub each_pair : {A : Type 0} → (A → A → Bool) → List A → Bool
each_pair test [] = true
each_pair test (x ∷ xs) = list_all (test x) xs && each_pair test xs

-- A report is well nested: it has a root, each range ends no sooner than it starts and lies in the root, and no two cross.
unfoldable pub is_well_nested : List Range → Bool
is_well_nested [] = false
is_well_nested (root ∷ rest) =
    list_all (λ r. nat_le r.start r.end && is_within root r) (root ∷ rest) && each_pair (λ a b. not (crosses a b)) (root ∷ rest)

-- the ranges that have the offset
abbrev pub around : List Range → ℕ → List Range
around ranges o = filter (has_offset o) ranges

-- none of these is shorter
abbrev pub is_shortest : List Range → Range → Bool
is_shortest others r = list_all (λ other. nat_le (size r) (size other)) others

-- the shortest range that has the offset, of equally short ones the last
abbrev pub innermost : List Range → ℕ → Option Range
innermost ranges o = last_of (filter (is_shortest (around ranges o)) (around ranges o))

-- the count at an offset: that of the innermost range there
unfoldable pub inner : List Range → ℕ → Option ℕ
inner ranges o = option_map (λ r. r.count) (innermost ranges o)

-- the same where some range has the offset
abbrev pub inner_count : List Range → ℕ → ℕ
inner_count ranges o = unwrap_or (inner ranges o) 0

-- the ranges of each function nest, and those of each function of each script
abbrev pub AreReportsNested : List FunctionReport → Type 0
AreReportsNested reports = AllByRecursion (λ f. range_fault f.ranges ≡ None) reports

abbrev pub AreNested : List Entry → Type 0
AreNested entries = AllByRecursion (λ entry. AreReportsNested entry.functions) entries
