-- The offsets of a snapshot that was read are below 2^32.
use Rattle.std.proofs.Common.{◌≡◌, ℕ, suc, ◌<◌, ◌^◌, Bool, true, false, List, [], ◌∷◌, refl, ap, subst}
use Rattle.std.specs.Prelude.{Option, None, Some, option_and_then, Result, Ok, Err, cond, nat_lt, codes, length}
use Rattle.cov_text.specs.Listing.{max_text}
use Rattle.std.specs.List.{AllByRecursion}
use Rattle.std.proofs.lemmas.Bool.{ltb-true}
use Rattle.serde_json.specs.Data.{Data, Items, no_items, item}
use Rattle.serde_json.specs.Find.{get, as_bool, as_str, as_array, as_object}
use Rattle.cov_model.specs.declared.report.Range.{Range}
use Rattle.cov_model.specs.declared.report.FunctionReport.{FunctionReport}
use Rattle.cov_model.specs.declared.report.RangeFault.{RangeFault}
use Rattle.cov_model.specs.declared.snapshot.Entry.{Entry}
use Rattle.cov_model.specs.declared.snapshot.Snapshot.{Snapshot}
use Rattle.cov_model.specs.declared.snapshot.Place.{Place}
use Rattle.cov_model.specs.declared.snapshot.Field as field
use Rattle.cov_model.specs.declared.snapshot.Field.TheVariants.{Top, Result as ResultList, Script, Url, Functions, Function, FunctionName, Ranges as RangeList, RangeItem, IsBlockCoverage, StartOffset, EndOffset, Count}
use Rattle.cov_model.specs.declared.snapshot.ShapeFault.{ShapeFault}
use Rattle.cov_model.specs.declared.snapshot.ShapeFault.TheVariants.{Missing, Wrong}
use Rattle.cov_model.specs.declared.snapshot.TextFault.TheVariants.{TooLong, Syntax}
use Rattle.cov_model.specs.Nesting.{range_fault}
use Rattle.json_shapes.specs.Shapes.{◌>>=◌, or_fault, whole, offset_of, parsed}
use Rattle.cov_model.specs.Reading.{nowhere, at_script, at_function, at_range, taken_as, member_as, each_item, range_of, nested_or_fault, report_of, entry_of, snapshot_of, shaped, reading}
use Rattle.cov_laws.specs.Laws.{AreRead, IsRead, HasOffsets, ReadingsAreRead}

pub is-ok : {A E : Type 0} (a b : A) → ◌≡◌ {A = Result A E} (Ok a) (Ok b) → a ≡ b
is-ok a b e = cc

-- ---- one offset

limited : (o : Option ℕ) (n : ℕ) (place : Place) (name : field.Field) → or_fault (Wrong place name) (option_and_then (λ k. cond (nat_lt k (2 ^ 32)) (Some k) None) o) ≡ Ok n → n < 2 ^ 32
limited None n place name e = absurd cc
limited (Some k) n place name e = by (nat_lt k (2 ^ 32)) refl e
  where
    by : (b : Bool) → nat_lt k (2 ^ 32) ≡ b → or_fault (Wrong place name) (cond b (Some k) None) ≡ Ok n → n < 2 ^ 32
    by true lt e = subst (λ m. m < 2 ^ 32) (is-ok k n e) (ltb-true k (2 ^ 32) lt)
    by false lt e = absurd cc

offset-below : (o : Option Data) (place : Place) (name : field.Field) (n : ℕ) → (or_fault (Missing place name) o >>= taken_as offset_of place name) ≡ Ok n → n < 2 ^ 32
offset-below None place name n e = absurd cc
offset-below (Some d) place name n e = limited (whole d) n place name e

-- ---- a range

abbrev IsRangeInRange : Range → Type 0
IsRangeInRange r = (r.start < 2 ^ 32) × (r.end < 2 ^ 32)

range-from : {A : Type 0} (thing : Result A ShapeFault) (start end count : Result ℕ ShapeFault) (r : Range)
    → (thing >>= λ _. start >>= λ s. end >>= λ e. count >>= λ c. Ok (record { start = s; end = e; count = c })) ≡ Ok r
    → (start ≡ Ok r.start) × (end ≡ Ok r.end)
range-from (Err x) start end count r h = absurd cc
range-from (Ok t) (Err x) end count r h = absurd cc
range-from (Ok t) (Ok s) (Err x) count r h = absurd cc
range-from (Ok t) (Ok s) (Ok e) (Err x) r h = absurd cc
range-from (Ok t) (Ok s) (Ok e) (Ok c) r h =
    let made : Range = record { start = s; end = e; count = c } in
    let same : made ≡ r = is-ok made r h in
    (ap (λ (k : Range). Ok k.start) same, ap (λ (k : Range). Ok k.end) same)

range-read : (s f k : ℕ) (d : Data) (r : Range) → range_of s f k d ≡ Ok r → IsRangeInRange r
range-read s f k d r h =
    let both = range-from (taken_as as_object (at_range s f k) RangeItem d) (member_as offset_of (at_range s f k) StartOffset (codes "startOffset") d)
    (member_as offset_of (at_range s f k) EndOffset (codes "endOffset") d) (member_as whole (at_range s f k) Count (codes "count") d) r h in (
      offset-below (get (codes "startOffset") d) (at_range s f k) StartOffset r.start both.0,
      offset-below (get (codes "endOffset") d) (at_range s f k) EndOffset r.end both.1,
    )

-- ---- each item

consed : {A : Type 0} (x : Result A ShapeFault) (xs : Result (List A) ShapeFault) (all : List A) (P : A → Type 0)
    → ((a : A) → x ≡ Ok a → P a) → ((ys : List A) → xs ≡ Ok ys → AllByRecursion P ys)
    → (x >>= λ a. xs >>= λ ys. Ok (a ∷ ys)) ≡ Ok all → AllByRecursion P all
consed (Err e) xs all P first rest h = absurd cc
consed (Ok a) (Err e) all P first rest h = absurd cc
consed (Ok a) (Ok ys) all P first rest h = subst (AllByRecursion P) (is-ok (a ∷ ys) all h) (first a refl, rest ys refl)

each-read : {A : Type 0} (reads : ℕ → Data → Result A ShapeFault) (P : A → Type 0) → ((k : ℕ) (d : Data) (x : A) → reads k d ≡ Ok x → P x)
    → (ds : Items) (k : ℕ) (xs : List A) → each_item reads k ds ≡ Ok xs → AllByRecursion P xs
each-read reads P each no_items k xs h = subst (AllByRecursion P) (is-ok [] xs h) tt
each-read reads P each (item d ds) k xs h = consed (reads k d) (each_item reads (suc k) ds) xs P (each k d) (λ ys e. each-read reads P each ds (suc k) ys e) h

-- ---- a function

abbrev IsReportInRange : FunctionReport → Type 0
IsReportInRange f = AllByRecursion IsRangeInRange f.ranges

pub nested-same : (place : Place) (fault : Option RangeFault) (report f : FunctionReport) → nested_or_fault place fault report ≡ Ok f → report ≡ f
nested-same place None report f h = is-ok report f h
nested-same place (Some fault) report f h = absurd cc

ranges-from : (place : Place) (name : List ℕ) (block : Bool) (ranges : Result (List Range) ShapeFault) (f : FunctionReport) → ((rs : List Range) → ranges ≡ Ok rs → AllByRecursion IsRangeInRange rs)
    → (ranges >>= λ rs. nested_or_fault place (range_fault rs) (record { name = name; block = block; ranges = rs })) ≡ Ok f → IsReportInRange f
ranges-from place name block (Err e) f each h = absurd cc
ranges-from place name block (Ok rs) f each h =
    let made : FunctionReport = record { name = name; block = block; ranges = rs } in
    subst IsReportInRange (nested-same place (range_fault rs) made f h) (each rs refl)

report-from : {A : Type 0} (thing : Result A ShapeFault) (name : Result (List ℕ) ShapeFault) (listed : Result Items ShapeFault) (block : Result Bool ShapeFault) (place : Place) (reads : Items → Result (List Range) ShapeFault) (f : FunctionReport)
    → ((ds : Items) (rs : List Range) → reads ds ≡ Ok rs → AllByRecursion IsRangeInRange rs)
    → (thing >>= λ _. name >>= λ n. listed >>= λ ds. block >>= λ b. reads ds >>= λ rs. nested_or_fault place (range_fault rs) (record { name = n; block = b; ranges = rs })) ≡ Ok f
    → IsReportInRange f
report-from (Err x) name listed block place reads f each h = absurd cc
report-from (Ok t) (Err x) listed block place reads f each h = absurd cc
report-from (Ok t) (Ok n) (Err x) block place reads f each h = absurd cc
report-from (Ok t) (Ok n) (Ok ds) (Err x) place reads f each h = absurd cc
report-from (Ok t) (Ok n) (Ok ds) (Ok b) place reads f each h = ranges-from place n b (reads ds) f (each ds) h

report-read : (s k : ℕ) (d : Data) (f : FunctionReport) → report_of s k d ≡ Ok f → IsReportInRange f
report-read s k d f h =
    report-from (taken_as as_object (at_function s k) Function d) (member_as as_str (at_function s k) FunctionName (codes "functionName") d)
    (member_as as_array (at_function s k) RangeList (codes "ranges") d) (member_as as_bool (at_function s k) IsBlockCoverage (codes "isBlockCoverage") d)
    (at_function s k) (each_item (range_of s k) 0) f (λ ds rs e. each-read (range_of s k) IsRangeInRange (range-read s k) ds 0 rs e) h

-- ---- a script

abbrev IsEntryInRange : Entry → Type 0
IsEntryInRange e = AllByRecursion IsReportInRange e.functions

functions-from : (url : List ℕ) (functions : Result (List FunctionReport) ShapeFault) (entry : Entry) → ((fs : List FunctionReport) → functions ≡ Ok fs → AllByRecursion IsReportInRange fs)
    → (functions >>= λ fs. Ok (record { url = url; functions = fs })) ≡ Ok entry → IsEntryInRange entry
functions-from url (Err e) entry each h = absurd cc
functions-from url (Ok fs) entry each h = let made : Entry = record { url = url; functions = fs } in subst IsEntryInRange (is-ok made entry h) (each fs refl)

entry-from : {A : Type 0} (thing : Result A ShapeFault) (url : Result (List ℕ) ShapeFault) (listed : Result Items ShapeFault) (reads : Items → Result (List FunctionReport) ShapeFault) (entry : Entry)
    → ((ds : Items) (fs : List FunctionReport) → reads ds ≡ Ok fs → AllByRecursion IsReportInRange fs)
    → (thing >>= λ _. url >>= λ u. listed >>= λ ds. reads ds >>= λ fs. Ok (record { url = u; functions = fs })) ≡ Ok entry → IsEntryInRange entry
entry-from (Err x) url listed reads entry each h = absurd cc
entry-from (Ok t) (Err x) listed reads entry each h = absurd cc
entry-from (Ok t) (Ok u) (Err x) reads entry each h = absurd cc
entry-from (Ok t) (Ok u) (Ok ds) reads entry each h = functions-from u (reads ds) entry (each ds) h

entry-read : (k : ℕ) (d : Data) (entry : Entry) → entry_of k d ≡ Ok entry → IsEntryInRange entry
entry-read k d entry h =
    entry-from (taken_as as_object (at_script k) Script d) (member_as as_str (at_script k) Url (codes "url") d) (member_as as_array (at_script k) Functions (codes "functions") d)
    (each_item (report_of k) 0) entry (λ ds fs e. each-read (report_of k) IsReportInRange (report-read k) ds 0 fs e) h

-- ---- a text

scripts-from : {A : Type 0} (thing : Result A ShapeFault) (listed : Result Items ShapeFault) (snapshot : Snapshot)
    → (thing >>= λ _. listed >>= λ ds. each_item entry_of 0 ds) ≡ Ok snapshot → AllByRecursion IsEntryInRange snapshot
scripts-from (Err x) listed snapshot h = absurd cc
scripts-from (Ok t) (Err x) snapshot h = absurd cc
scripts-from (Ok t) (Ok ds) snapshot h = each-read entry_of IsEntryInRange entry-read ds 0 snapshot h

shape-read : (d : Data) (snapshot : Snapshot) → snapshot_of d ≡ Ok snapshot → AllByRecursion IsEntryInRange snapshot
unfolding snapshot_of
shape-read d snapshot h = scripts-from (taken_as as_object nowhere Top d) (member_as as_array nowhere ResultList (codes "result") d) snapshot h

pub shaped-from : (r : Result Snapshot ShapeFault) (snapshot : Snapshot) → shaped r ≡ Ok snapshot → r ≡ Ok snapshot
shaped-from (Ok s) snapshot h = ap Ok (is-ok s snapshot h)
shaped-from (Err e) snapshot h = absurd cc

-- ---- what was read

value-read : (o : Option Data) (snapshot : Snapshot) → (or_fault Syntax o >>= λ d. shaped (snapshot_of d)) ≡ Ok snapshot → IsRead snapshot
value-read None snapshot h = absurd cc
value-read (Some d) snapshot h = (d, shaped-from (snapshot_of d) snapshot h)

sized : (long : Bool) (o : Option Data) (snapshot : Snapshot) → cond long (Err TooLong) (or_fault Syntax o >>= λ d. shaped (snapshot_of d)) ≡ Ok snapshot → IsRead snapshot
sized true o snapshot h = absurd cc
sized false o snapshot h = value-read o snapshot h

pub is_read : ReadingsAreRead
unfolding reading
is_read bytes snapshot h = sized (nat_lt max_text (length bytes)) (parsed bytes) snapshot h

pub read-offsets : (snapshots : List Snapshot) → AreRead snapshots → HasOffsets snapshots
read-offsets [] h = tt
read-offsets (snapshot ∷ snapshots) h = (shape-read h.0.0 snapshot h.0.1, read-offsets snapshots h.1)
