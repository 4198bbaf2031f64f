-- The lines on the error sink.
use Rattle.std.specs.Prelude.{ℕ, Bool, true, false, List, [], ◌∷◌, ◌++◌, Option, None, Some, codes, decimal}
use Rattle.cov_text.specs.Listing.{cleaned}
use Rattle.cov_model.specs.declared.report.RangeFault.{RangeFault}
use Rattle.cov_model.specs.declared.report.RangeFault.TheVariants.{NoRange, Inverted, Outside, Crossing}
use Rattle.cov_model.specs.declared.snapshot.Place.{Place}
use Rattle.cov_model.specs.declared.snapshot.Field as field
use Rattle.cov_model.specs.declared.snapshot.Field.TheVariants.{Top, Result, Script, Url, Functions, Function, FunctionName, Ranges, RangeItem, IsBlockCoverage, StartOffset, EndOffset, Count}
use Rattle.cov_model.specs.declared.snapshot.ShapeFault.{ShapeFault}
use Rattle.cov_model.specs.declared.snapshot.ShapeFault.TheVariants as shape
use Rattle.cov_model.specs.declared.snapshot.TextFault.{TextFault}
use Rattle.cov_model.specs.declared.snapshot.TextFault.TheVariants as text
use Rattle.cov_model.specs.declared.sums.At.{At}
use Rattle.cov_model.specs.declared.sums.At.TheVariants.{Root, Offset}
use Rattle.cov_model.specs.declared.sums.SumFault.{SumFault}
use Rattle.cov_model.specs.declared.sums.Answer.{Answer}
use Rattle.cov_model.specs.declared.sums.Answer.TheVariants.{Taken, Bad, Past}

abbrev pub shown_name : List ℕ → List ℕ
shown_name [] = codes "(anonymous)"
shown_name (b ∷ bytes) = cleaned (b ∷ bytes)

abbrev pub field_name : field.Field → List ℕ
field_name Top = codes "top"
field_name Result = codes "result"
field_name Script = codes "script"
field_name Url = codes "url"
field_name Functions = codes "functions"
field_name Function = codes "function"
field_name FunctionName = codes "functionName"
field_name Ranges = codes "ranges"
field_name RangeItem = codes "range"
field_name IsBlockCoverage = codes "isBlockCoverage"
field_name StartOffset = codes "startOffset"
field_name EndOffset = codes "endOffset"
field_name Count = codes "count"

-- a word and its number, where there is one
abbrev pub numbered : List ℕ → Option ℕ → List ℕ
numbered word None = []
numbered word (Some n) = word ++ decimal n

abbrev pub place_text : Place → List ℕ
place_text p = place_from p.script (numbered (codes " function ") p.function ++ numbered (codes " range ") p.range)
  where
    place_from : Option ℕ → List ℕ → List ℕ
    place_from None rest = codes "top"
    place_from (Some s) rest = codes "script " ++ (decimal s ++ rest)

abbrev pub range_fault_text : RangeFault → List ℕ
range_fault_text NoRange = codes "no range"
range_fault_text (Inverted k) = codes "range " ++ (decimal k ++ codes " inverted")
range_fault_text (Outside k) = codes "range " ++ (decimal k ++ codes " outside")
range_fault_text (Crossing k other) = codes "range " ++ (decimal k ++ (codes " crosses range " ++ decimal other))

abbrev pub shape_text : ShapeFault → List ℕ
shape_text (shape.Missing place name) = codes "missing " ++ (field_name name ++ (codes " at " ++ place_text place))
shape_text (shape.Wrong place name) = codes "wrong " ++ (field_name name ++ (codes " at " ++ place_text place))
shape_text (shape.Ranges place fault) = codes "ranges at " ++ (place_text place ++ (codes ": " ++ range_fault_text fault))
shape_text shape.NoMemory = []

abbrev pub text_fault_text : TextFault → List ℕ
text_fault_text text.TooLong = codes "too long"
text_fault_text text.Syntax = codes "syntax"
text_fault_text (text.Shape fault) = shape_text fault
text_fault_text text.NoMemory = []

abbrev pub point_text : At → List ℕ
point_text Root = codes "root"
point_text (Offset o) = codes "offset " ++ decimal o

-- ` START..END in `
abbrev pub span_text : SumFault → List ℕ
span_text f = 32 ∷ (decimal f.key.start ++ (codes ".." ++ (decimal f.key.end ++ codes " in ")))

-- `: HELD and ADDED`
abbrev pub sums_text : SumFault → List ℕ
sums_text f = codes ": " ++ (decimal f.held ++ (codes " and " ++ decimal f.added))

abbrev pub sum_text : SumFault → List ℕ
sum_text f = codes "sum of " ++ (shown_name f.key.name ++ (span_text f ++ (cleaned f.key.url ++ (codes " at " ++ (point_text f.at ++ sums_text f)))))

abbrev pub refused : List ℕ → List ℕ → List ℕ
refused path why = codes "refused " ++ (cleaned path ++ (codes ": " ++ (why ++ 10 ∷ [])))

-- the line of a text that was refused, and none of one that was taken
unfoldable pub answer_line : List ℕ → Answer → List ℕ
answer_line path Taken = []
answer_line path (Bad fault) = refused path (text_fault_text fault)
answer_line path (Past fault) = refused path (sum_text fault)

abbrev pub is_refusal : Answer → Bool
is_refusal Taken = false
is_refusal (Bad fault) = true
is_refusal (Past fault) = true

-- the lines of the texts at these paths
abbrev pub answer_lines : List (List ℕ) → List Answer → List ℕ
answer_lines [] answers = []
answer_lines (path ∷ paths) [] = []
answer_lines (path ∷ paths) (answer ∷ answers) = answer_line path answer ++ answer_lines paths answers
