-- The parts make the compact text.
use Rattle.std.proofs.Common.{◌≡◌, ℕ, suc, Bool, true, false, List, [], ◌∷◌, ◌++◌, codes, refl, sym, ap, ◌∙◌}
use Rattle.std.proofs.lemmas.List.{append_assoc}
use Rattle.json.specs.Print.{quoted, escape_byte}
use Rattle.json_shapes.specs.Shapes.{array_of}
use Rattle.serde_json.specs.Data.{boolean, string, array, object, Items, item, no_members, member}
use Rattle.serde_json.specs.Written.{compact_text, items_text}
use Rattle.json_pieces.specs.Joined.{joined, listed}
use Rattle.json_pieces.proofs.Elements.{array-text, listed-text}
use Rattle.cov_model.specs.declared.report.Range.{Range}
use Rattle.cov_model.specs.declared.report.FunctionReport.{FunctionReport}
use Rattle.cov_model.specs.declared.snapshot.Entry.{Entry}
use Rattle.cov_model.specs.File.{range_data, report_data, entry_data, entries_data, scripts_data, result_data}
use Rattle.scripts_text.specs.Parts.{range_text, behind_name, before_ranges, behind_functions}

entries-listed : (k : ℕ) (es : List Entry) → listed entry_data k es ≡ entries_data k es
entries-listed k [] = refl
entries-listed k (e ∷ es) = ap (item (entry_data k e)) (entries-listed (suc k) es)

pub range-text : (r : Range) → range_text r ≡ compact_text (range_data r)
unfolding escape_byte
range-text r = refl

report-parts : (name : List ℕ) (block : Bool) (items : Items) →
    codes "{\"functionName\":" ++ (quoted name ++ behind_name block) ++ (items_text false items ++ codes "}")
    ≡ compact_text (object (member (codes "functionName") (string name) (member (codes "isBlockCoverage") (boolean block) (member (codes "ranges") (array items) no_members))))
unfolding escape_byte
report-parts name true items = ap (λ t. codes "{\"functionName\":" ++ t) (append_assoc (quoted name) (behind_name true) (items_text false items ++ codes "}"))
report-parts name false items = ap (λ t. codes "{\"functionName\":" ++ t) (append_assoc (quoted name) (behind_name false) (items_text false items ++ codes "}"))

-- what ends with both brackets
both-closed : (text items : List ℕ) → text ++ codes "]" ≡ items → text ++ codes "]}" ≡ items ++ codes "}"
both-closed text items is = sym (append_assoc text (codes "]") (codes "}")) ∙ ap (λ t. t ++ codes "}") is

pub report-text : (f : FunctionReport) (ranges : List Range) → ranges ≡ f.ranges
    → before_ranges f ++ (joined (λ _ r. compact_text (range_data r)) false 0 ranges ++ codes "]}") ≡ compact_text (report_data f)
report-text f ranges same =
    ap (λ t. before_ranges f ++ t) (both-closed (joined (λ _ r. compact_text (range_data r)) false 0 ranges) _ (array-text range_data ranges ∙ ap (λ rs. items_text false (array_of range_data rs)) same))
    ∙ report-parts f.name f.block (array_of range_data f.ranges)

pub entry-text : (k : ℕ) (e : Entry) (functions : List FunctionReport) → functions ≡ e.functions
    → (codes "{\"functions\":[" ++ (joined (λ _ f. compact_text (report_data f)) false 0 functions ++ codes "]")) ++ behind_functions k e ≡ compact_text (entry_data k e)
unfolding escape_byte
entry-text k e functions same =
    ap (λ t. (codes "{\"functions\":[" ++ t) ++ behind_functions k e) (array-text report_data functions ∙ ap (λ fs. items_text false (array_of report_data fs)) same)

pub result-text : (es : List Entry) → codes "{\"result\":[" ++ (joined (λ k e. compact_text (entry_data k e)) false 0 es ++ codes "]}") ≡ compact_text (result_data es)
unfolding escape_byte scripts_data
result-text es =
    ap (λ t. codes "{\"result\":[" ++ t)
    (both-closed (joined (λ k e. compact_text (entry_data k e)) false 0 es) _ (listed-text entry_data false 0 es ∙ ap (items_text false) (entries-listed 0 es)))
