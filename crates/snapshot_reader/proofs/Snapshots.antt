-- What was found of an object is what the reading of its data says.
use Rattle.std.proofs.Common.{◌≡◌, ℕ, List, Some, None, subst}
use Rattle.std.specs.Prelude.{Option, Ok, codes}
use Rattle.json_shapes.specs.Shapes.{whole, offset_of}
use Rattle.serde_json.specs.Data.{Members, object}
use Rattle.serde_json.specs.Find.{as_str, as_bool, as_array}
use Rattle.cov_model.specs.declared.report.Range.{Range}
use Rattle.cov_model.specs.declared.report.FunctionReport.{FunctionReport}
use Rattle.cov_model.specs.declared.snapshot.Entry.{Entry}
use Rattle.cov_model.specs.Nesting.{range_fault, AreReportsNested, AreNested}
use Rattle.cov_model.specs.Reading.{range_of, report_of, entry_of, snapshot_of}
use Rattle.snapshot_reader.specs.declared.range.FoundRange.{FoundRange}
use Rattle.snapshot_reader.specs.declared.function.FoundFunction.{FoundFunction}
use Rattle.snapshot_reader.specs.declared.script.FoundScript.{FoundScript}
use Rattle.json_walk.specs.Shape.{Is, Has, GivesList}
use Rattle.snapshot_reader.specs.Snapshots.{GivesRange, GivesReport, GivesEntry, HoldsRange, HoldsFunction, HoldsScript, HasScripts}
use Rattle.json_walk.proofs.Lists.{all_given}
use Rattle.snapshot_reader.proofs.Lists.{each_given, member_has}

pub range_is : (ms : Members) (found : FoundRange) (r : Range) → HoldsRange found ms → (found.start ≡ Some r.start) × (found.end ≡ Some r.end) × (found.count ≡ Some r.count) → GivesRange r (object ms)
range_is ms found r h is s f k =
    let start = subst (Has (Is offset_of) (codes "startOffset") ms) is.0 h.0 in
    let end = subst (Has (Is offset_of) (codes "endOffset") ms) is.1 h.1 in
    let count = subst (Has (Is whole) (codes "count") ms) is.2 h.2 in
    rw (member_has offset_of _ _ (codes "startOffset") ms start.0 r.start start.1 start.2)
    (rw (member_has offset_of _ _ (codes "endOffset") ms end.0 r.end end.1 end.2)
    (rw (member_has whole _ _ (codes "count") ms count.0 r.count count.1 count.2)))

pub report_is : (ms : Members) (found : FoundFunction) (r : FunctionReport) → HoldsFunction found ms → found.name ≡ Some r.name → found.block ≡ Some r.block → found.ranges ≡ Some r.ranges → range_fault r.ranges ≡ None
    → (s k : ℕ) → report_of s k (object ms) ≡ Ok r
report_is ms found r h en eb er nested s k =
    let name = subst (Has (Is as_str) (codes "functionName") ms) en h.0 in
    let block = subst (Has (Is as_bool) (codes "isBlockCoverage") ms) eb h.1 in
    let ranges = subst (Has (GivesList GivesRange) (codes "ranges") ms) er h.2 in
    rw (member_has as_str _ _ (codes "functionName") ms name.0 r.name name.1 name.2)
    (rw (member_has as_array _ _ (codes "ranges") ms ranges.0 ranges.2.0 ranges.1 ranges.2.1)
    (rw (member_has as_bool _ _ (codes "isBlockCoverage") ms block.0 r.block block.1 block.2)
    (rw (each_given (range_of s k) GivesRange (λ x d g. g s k) r.ranges ranges.2.0 ranges.2.2 0)
    (rw (nested)))))

pub entry_is : (ms : Members) (found : FoundScript) (e : Entry) → HoldsScript found ms → found.url ≡ Some e.url → found.functions ≡ Some e.functions → GivesEntry e (object ms)
entry_is ms found e h eu ef =
    let url = subst (Has (Is as_str) (codes "url") ms) eu h.0 in
    let functions = subst (Has (GivesList GivesReport) (codes "functions") ms) ef h.1 in (
      λ k. rw (member_has as_str _ _ (codes "url") ms url.0 e.url url.1 url.2)
          (rw (member_has as_array _ _ (codes "functions") ms functions.0 functions.2.0 functions.1 functions.2.1)
          (rw (each_given (report_of k) GivesReport (λ x d g. g.0 k) e.functions functions.2.0 functions.2.2 0))),
      all_given (λ f. range_fault f.ranges ≡ None) GivesReport (λ x d g. g.1) e.functions functions.2.0 functions.2.2,
    )

-- of the scripts of a text's object
pub snapshot_is : (ms : Members) (es : List Entry) → Has (GivesList GivesEntry) (codes "result") ms (Some es) → (snapshot_of (object ms) ≡ Ok es) × AreNested es
unfolding snapshot_of
snapshot_is ms es h = (
  rw (member_has as_array _ _ (codes "result") ms h.0 h.2.0 h.1 h.2.1) (each_given entry_of GivesEntry (λ x e g. g.0) es h.2.0 h.2.2 0),
  all_given (λ e. AreReportsNested e.functions) GivesEntry (λ x d g. g.1) es h.2.0 h.2.2,
)

-- scripts that were found nest
pub scripts_nest : (ms : Members) (found : Option (List Entry)) → Has (GivesList GivesEntry) (codes "result") ms found → HasScripts found
scripts_nest ms None h = tt
scripts_nest ms (Some es) h = (snapshot_is ms es h).1

pub scripts_are : (ms : Members) (found : Option (List Entry)) (es : List Entry) → Has (GivesList GivesEntry) (codes "result") ms found → found ≡ Some es → snapshot_of (object ms) ≡ Ok es
scripts_are ms found es h is = (snapshot_is ms es (subst (Has (GivesList GivesEntry) (codes "result") ms) is h)).0
