-- What comes from each source of a script's map.
use Rattle.std.specs.Prelude.{◌≡◌, ℕ, List, map, ◌==◌, if◌then◌else◌, Option, None, Some, option_map, option_and_then, filter, flat_map}
use Rattle.std.specs.List.{All, Contains}
use Rattle.std.specs.List.Sorted.{IsNonDecreasing}
use Rattle.cov_text.specs.Listing.{first_of}
use Rattle.cov_model.specs.declared.report.Range.{Range}
use Rattle.cov_model.specs.declared.report.FunctionReport.{FunctionReport}
use Rattle.utf16_lines.specs.Table.{Table}
use Rattle.source_maps.specs.declared.map.MapSegment.{MapSegment}
use Rattle.source_remap.specs.declared.lines.Landing.{Landing}
use Rattle.source_remap.specs.Groups.{of_source, AreBySource}
use Rattle.source_remap.specs.Origins.{landing_of, original_span}
use Rattle.istanbul_rules.specs.declared.part.PartBranch.{PartBranch}
use Rattle.istanbul_rules.specs.declared.part.PartFunction.{PartFunction}
use Rattle.istanbul_rules.specs.declared.remapped.CountedSpan.{CountedSpan}
use Rattle.istanbul_rules.specs.declared.remapped.NamedSpan.{NamedSpan}
use Rattle.istanbul_rules.specs.Parts.{ranges_in_order, count_at, has_name, loc_in_source}

-- a script with a map: its lines, the map's segments and its functions
pub record MappedCode : Type 0 where
  pub generated : Table
  pub segments : List MapSegment
  pub functions : List FunctionReport

-- ---- spans

abbrev pub span_of : Table → List MapSegment → Range → Option CountedSpan
span_of generated segments r = option_map (λ span. record { span = span; count = r.count }) (original_span segments generated r.start r.end)

-- the range's span, if it comes from this source
abbrev pub span_from : Table → List MapSegment → ℕ → Range → Option CountedSpan
span_from generated segments source r = option_and_then (λ s. if s.span.source == source then Some s else None) (span_of generated segments r)

-- the ranges of the functions whose flag is true
abbrev pub flagged : List FunctionReport → List Range
flagged functions = flat_map (λ f. f.ranges) (filter (λ f. f.block) functions)

abbrev pub named_span : Table → List MapSegment → FunctionReport → Option NamedSpan
named_span generated segments f =
    if has_name f then option_map (λ root. record { name = f.name; root = root }) (option_and_then (span_of generated segments) (first_of f.ranges)) else None

-- the function, if its root comes from this source
abbrev pub named_from : Table → List MapSegment → ℕ → FunctionReport → Option NamedSpan
named_from generated segments source f = option_and_then (λ n. if n.root.span.source == source then Some n else None) (named_span generated segments f)

-- ---- in a source, whose lines are those of the table

abbrev pub branch_in : Table → ℕ → CountedSpan → Option PartBranch
branch_in table source s = option_map (λ loc. record { loc = loc; count = s.count }) (loc_in_source table source s.span)

abbrev pub function_in : Table → ℕ → NamedSpan → Option PartFunction
function_in table source n = option_map (λ loc. record { name = n.name; loc = loc; count = n.root.count }) (loc_in_source table source n.root.span)

-- ---- what is kept of a script

-- Each source has its landings, its spans and its functions.
pub record AreGrouped (generated : Table) (segments : List MapSegment) (functions : List FunctionReport) (landings : List (List Landing)) (branches : List (List CountedSpan))
    (named : List (List NamedSpan)) : Type 0 where
  pub lands : AreBySource (landing_of generated) segments landings
  pub ranges : AreBySource (span_from generated segments) (flagged functions) branches
  pub roots : AreBySource (named_from generated segments) functions named

-- The offsets rise, each landing's is one of them, and each has its count.
pub record AreCounted (functions : List FunctionReport) (landings : List (List Landing)) (offsets counts : List ℕ) : Type 0 where
  pub rise : IsNonDecreasing offsets
  pub within : (source : ℕ) → All (Contains offsets) (map (λ (l : Landing). l.offset) (of_source landings source))
  pub painted : counts ≡ map (count_at (ranges_in_order functions)) offsets
