-- What one script gives to a file: from its own text, or through a map.
use Rattle.std.specs.Prelude.{ℕ, suc, min, max, Bool, ◌&&◌, List, length, map, nat_lt, nat_le, ◌==◌, if◌then◌else◌, Option, None, Some, option_map, option_and_then, filter, filter_map, flat_map}
use Rattle.std.specs.List.{reduce}
use Rattle.cov_model.specs.declared.report.Range.{Range}
use Rattle.cov_model.specs.declared.report.FunctionReport.{FunctionReport}
use Rattle.cov_text.specs.Listing.{first_of, last_or}
use Rattle.cov_model.specs.Nesting.{has_offset}
use Rattle.utf16_lines.specs.declared.Span.{Span}
use Rattle.utf16_lines.specs.Table.{Table}
use Rattle.utf16_lines.specs.Lines.{line_length}
use Rattle.source_maps.specs.declared.map.MapSegment.{MapSegment}
use Rattle.source_remap.specs.declared.OriginalSpan.{OriginalSpan}
use Rattle.source_remap.specs.Origins.{original_lines, original_span, place_within}
use Rattle.istanbul_json.specs.declared.file.Mark.{Mark}
use Rattle.istanbul_json.specs.declared.file.Loc.{Loc}
use Rattle.istanbul_rules.specs.declared.part.Part.{Part}
use Rattle.istanbul_rules.specs.declared.part.PartBranch.{PartBranch}
use Rattle.istanbul_rules.specs.declared.part.PartFunction.{PartFunction}

-- the ranges of a script, function by function, each with its list in order
abbrev pub ranges_in_order : List FunctionReport → List Range
ranges_in_order functions = flat_map (λ f. f.ranges) functions

-- the count of the last of the ranges that pass the test, and 1 where none does
abbrev pub last_count : (Range → Bool) → List Range → ℕ
last_count test ranges = last_or 1 (map (λ r. r.count) (filter test ranges))

-- the greatest of these numbers, if there are any
abbrev pub greatest : List ℕ → Option ℕ
greatest ns = reduce max ns

-- ---- locations

-- a mark counts lines from 1
abbrev pub mark : ℕ → ℕ → Mark
mark line column = record { line = Some (suc line); column = Some column }

-- the mark of an offset, which counts as the units where it is past them; none where there is no line
abbrev pub mark_within : Table → ℕ → Option Mark
mark_within table o = option_map (λ spot. mark spot.line spot.column) (place_within table o)

abbrev pub loc_between : Mark → Mark → Loc
loc_between start end = record { start = start; end = end }

-- the location of a range in the text itself, where that has a line
unfoldable pub direct_loc : Table → Range → Option Loc
direct_loc table r = option_and_then (λ start. option_map (loc_between start) (mark_within table r.end)) (mark_within table r.start)

-- from the first spot to the end of the last spot's line
abbrev pub loc_of_span : Table → OriginalSpan → Loc
loc_of_span table s =
    record {
      start = mark s.first.line (min s.first.column (line_length table s.first.line));
      end = mark s.last.line (line_length table s.last.line);
    }

-- it is of this source, and its lines are in the table
abbrev pub lies_in : Table → ℕ → OriginalSpan → Bool
lies_in table source s = (s.source == source) && (nat_lt s.first.line (length table.spans) && nat_lt s.last.line (length table.spans))

abbrev pub loc_in_source : Table → ℕ → OriginalSpan → Option Loc
loc_in_source table source s = if lies_in table source s then Some (loc_of_span table s) else None

-- the location, in this source, of a range of the generated code
unfoldable pub mapped_loc : Table → Table → List MapSegment → ℕ → Range → Option Loc
mapped_loc table generated segments source r = option_and_then (loc_in_source table source) (original_span segments generated r.start r.end)

-- ---- lines

-- the range goes over the whole line
abbrev pub spans_line : Span → Range → Bool
spans_line line r = nat_le r.start line.start && nat_le line.end r.end

-- the count of a line: that of the last range that spans the whole line, and 1 where none does
unfoldable pub direct_line : List Range → Span → ℕ
direct_line ranges line = last_count (spans_line line) ranges

-- the count at an offset of the generated code: that of the last range that contains it, and 1 where none does
abbrev pub count_at : List Range → ℕ → ℕ
count_at ranges o = last_count (has_offset o) ranges

-- the count of an original line: the greatest count at its anchors, and none where it has no anchor
unfoldable pub mapped_line : List Range → List ℕ → Option ℕ
mapped_line ranges anchors = greatest (map (count_at ranges) anchors)

-- ---- branches and functions, by a location for each range

abbrev pub branch_of : (Range → Option Loc) → Range → Option PartBranch
branch_of loc_of r = option_map (λ loc. record { loc = loc; count = r.count }) (loc_of r)

-- the ranges that have a location, of the functions whose flag is true
abbrev pub branches_of : (Range → Option Loc) → List FunctionReport → List PartBranch
branches_of loc_of functions = flat_map (λ f. filter_map (branch_of loc_of) f.ranges) (filter (λ f. f.block) functions)

abbrev pub has_name : FunctionReport → Bool
has_name f = nat_lt 0 (length f.name)

abbrev pub function_of : (Range → Option Loc) → FunctionReport → Option PartFunction
function_of loc_of f = option_and_then (λ root. option_map (λ loc. record { name = f.name; loc = loc; count = root.count }) (loc_of root)) (first_of f.ranges)

-- the functions that have a name and whose root has a location
abbrev pub functions_of : (Range → Option Loc) → List FunctionReport → List PartFunction
functions_of loc_of functions = filter_map (function_of loc_of) (filter has_name functions)

-- ---- parts

-- what a script gives to the file that it is
unfoldable pub direct_part : Table → List FunctionReport → Part
direct_part table functions =
    record {
      lines = map (λ line. Some (direct_line (ranges_in_order functions) line)) table.spans;
      branches = branches_of (direct_loc table) functions;
      functions = functions_of (direct_loc table) functions;
    }

-- what a script gives to a source of its map
unfoldable pub mapped_part : Table → Table → List MapSegment → ℕ → List FunctionReport → Part
mapped_part table generated segments source functions =
    record {
      lines = map (mapped_line (ranges_in_order functions)) (original_lines segments source generated (length table.spans));
      branches = branches_of (mapped_loc table generated segments source) functions;
      functions = functions_of (mapped_loc table generated segments source) functions;
    }
