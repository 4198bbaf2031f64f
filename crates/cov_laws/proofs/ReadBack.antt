-- The text of scripts is read as these scripts, or not at all.
use Rattle.std.proofs.Common.{◌≡◌, ℕ, suc, ◌<◌, ◌≤◌, ◌^◌, Bool, true, false, cond, List, [], ◌∷◌, length, Some, None, refl, sym, ap, ◌∙◌, arith, append-nil, lt-ltb}
use Rattle.std.specs.Prelude.{Option, option_and_then, Result, Ok, Err, nat_lt}
use Rattle.std.specs.List.{AllByRecursion}
use Rattle.std.proofs.Math.Nat.{max-le}
use Rattle.std.specs.Str.{is_utf8}
use Rattle.json.specs.Lex.{tokens}
use Rattle.json.specs.Token.{Token}
use Rattle.json.specs.Json as json
use Rattle.json.specs.Tree as tree
use Rattle.json.proofs.Printed.Tokens.{tokens-print}
use Rattle.json.proofs.Printed.Trees.{value-json_tokens, ArePrintable-json_tokens}
use Rattle.serde_json.specs.Data.{Data, unsigned, number}
use Rattle.serde_json.specs.Read.{of_json, of_items, max_depth, read}
use Rattle.serde_json.specs.Written.{outline, items_outline, compact_text}
use Rattle.serde_json.proofs.Texts.{print-outline}
use Rattle.serde_json.proofs.Numbers.{number_of-decimal}
use Rattle.cov_text.specs.Listing.{max_text}
use Rattle.json_shapes.specs.Shapes.{◌>>=◌, or_fault, offset_of, array_of}
use Rattle.cov_model.specs.declared.report.Range.{Range}
use Rattle.cov_model.specs.declared.report.FunctionReport.{FunctionReport}
use Rattle.cov_model.specs.declared.snapshot.Entry.{Entry}
use Rattle.cov_model.specs.declared.snapshot.Snapshot.{Snapshot}
use Rattle.cov_model.specs.declared.snapshot.Place.{Place}
use Rattle.cov_model.specs.declared.snapshot.ShapeFault.{ShapeFault}
use Rattle.cov_model.specs.declared.snapshot.TextFault.TheVariants.{TooLong, Syntax}
use Rattle.cov_model.specs.File.{range_data, report_data, entry_data, entries_data, scripts_data, result_data}
use Rattle.cov_model.specs.Nesting.{range_fault}
use Rattle.cov_model.specs.Reading.{at_function, each_item, range_of, nested_or_fault, report_of, entry_of, snapshot_of, shaped, reading}
use Rattle.cov_laws.specs.Laws.{IsInBounds, AreInBounds, ReadBack}
use Rattle.cov_laws.proofs.Written.{IsSmall, HasSmall, HasAllSmall, written-result}
use Rattle.cov_laws.proofs.Offsets.{is-ok, nested-same, shaped-from}

-- ---- bounds

abbrev HasBounds : FunctionReport → Type 0
HasBounds f = AllByRecursion IsInBounds f.ranges

abbrev HasAllBounds : Entry → Type 0
HasAllBounds e = AllByRecursion HasBounds e.functions

each-of : {A : Type 0} (P Q : A → Type 0) → ((x : A) → P x → Q x) → (xs : List A) → AllByRecursion P xs → AllByRecursion Q xs
each-of P Q leads [] h = tt
each-of P Q leads (x ∷ xs) h = (leads x h.0, each-of P Q leads xs h.1)

small-range : (r : Range) → IsInBounds r → IsSmall r
small-range r h = record { start = omega (arith, h.0); end = omega (arith, h.1); count = h.2 }

all-small : (es : List Entry) → AreInBounds es → AllByRecursion HasAllSmall es
all-small es h = each-of HasAllBounds HasAllSmall (λ e. each-of HasBounds HasSmall (λ f. each-of IsInBounds IsSmall small-range f.ranges) e.functions) es h

-- ---- the value that the text is

kept-range : (r : Range) → IsSmall r → of_json (outline (range_data r)) ≡ Some (range_data r)
kept-range r h = rw (number_of-decimal r.count h.count, number_of-decimal r.end h.end, number_of-decimal r.start h.start)

kept-items : {A : Type 0} (data_of : A → Data) (P : A → Type 0) → ((x : A) → P x → of_json (outline (data_of x)) ≡ Some (data_of x))
    → (xs : List A) → AllByRecursion P xs → of_items (items_outline (array_of data_of xs)) ≡ Some (array_of data_of xs)
kept-items data_of P each [] h = refl
kept-items data_of P each (x ∷ xs) h = rw (each x h.0, kept-items data_of P each xs h.1)

kept-report : (f : FunctionReport) → HasSmall f → of_json (outline (report_data f)) ≡ Some (report_data f)
kept-report f h = rw (kept-items range_data IsSmall kept-range f.ranges h)

kept-entry : (k : ℕ) (e : Entry) → HasAllSmall e → of_json (outline (entry_data k e)) ≡ Some (entry_data k e)
kept-entry k e h = rw (kept-items report_data HasSmall kept-report e.functions h)

kept-entries : (k : ℕ) (es : List Entry) → AllByRecursion HasAllSmall es → of_items (items_outline (entries_data k es)) ≡ Some (entries_data k es)
kept-entries k [] h = refl
kept-entries k (e ∷ es) h = rw (kept-entry k e h.0, kept-entries (suc k) es h.1)

kept-result : (es : List Entry) → AllByRecursion HasAllSmall es → of_json (outline (result_data es)) ≡ Some (result_data es)
unfolding scripts_data
kept-result es h = rw (kept-entries 0 es h)

-- how deep it nests

one-deeper : (m n : ℕ) → m ≤ n → suc m ≤ suc n
one-deeper m n h = omega arith

deep-items : {A : Type 0} (data_of : A → Data) (n : ℕ) → ((x : A) → tree.depth (outline (data_of x)) ≤ n) → (xs : List A) → tree.items_depth (items_outline (array_of data_of xs)) ≤ n
deep-items data_of n each [] = omega arith
deep-items data_of n each (x ∷ xs) = max-le (each x) (deep-items data_of n each xs)

deep-range : (r : Range) → tree.depth (outline (range_data r)) ≤ 1
deep-range r = let e : tree.depth (outline (range_data r)) ≡ 1 = refl in omega arith

deep-report : (f : FunctionReport) → tree.depth (outline (report_data f)) ≤ 3
deep-report f =
    one-deeper _ 2 (max-le (omega arith) (max-le (omega arith) (max-le (one-deeper (tree.items_depth (items_outline (array_of range_data f.ranges))) 1 (deep-items range_data 1 deep-range f.ranges)) (omega arith))))

deep-entry : (k : ℕ) (e : Entry) → tree.depth (outline (entry_data k e)) ≤ 5
deep-entry k e =
    one-deeper _ 4 (max-le (one-deeper (tree.items_depth (items_outline (array_of report_data e.functions))) 3 (deep-items report_data 3 deep-report e.functions)) (omega arith))

deep-entries : (k : ℕ) (es : List Entry) → tree.items_depth (items_outline (entries_data k es)) ≤ 5
deep-entries k [] = omega arith
deep-entries k (e ∷ es) = max-le (deep-entry k e) (deep-entries (suc k) es)

deep-result : (es : List Entry) → tree.depth (outline (result_data es)) ≤ max_depth
unfolding scripts_data
deep-result es =
    let h : tree.depth (outline (result_data es)) ≤ 7 = one-deeper _ 6 (max-le (one-deeper (tree.items_depth (items_outline (entries_data 0 es))) 5 (deep-entries 0 es)) (omega arith)) in
    omega arith

abbrev whole : Option (json.Json × List Token) → Option Data
whole o = option_and_then of_json (option_and_then (λ p. json.if_last p.0 p.1) o)

text-read : (es : List Entry) → AllByRecursion HasAllSmall es → read (compact_text (result_data es)) ≡ Some (result_data es)
text-read es h =
    let d = result_data es in
    let ts = tree.json_tokens (outline d) in
    let same : tokens (compact_text d) ≡ ts = ap tokens (sym (print-outline d)) ∙ tokens-print ts (ArePrintable-json_tokens (outline d) (written-result es h)) in
    ap whole (ap (json.value max_depth) (same ∙ sym (append-nil ts)) ∙ value-json_tokens (outline d) max_depth [] (deep-result es)) ∙ kept-result es h

-- ---- the scripts that the value is

small-offset : (n : ℕ) → n < 2 ^ 32 → offset_of (number (unsigned n)) ≡ Some n
small-offset n h = ap (λ t. cond t (Some n) None) (lt-ltb n (2 ^ 32) h)

range-back : (s f k : ℕ) (r : Range) → IsInBounds r → range_of s f k (range_data r) ≡ Ok r
range-back s f k r h = rw (small-offset r.start h.0, small-offset r.end h.1)

consed-is : {A : Type 0} (one : Result A ShapeFault) (more : Result (List A) ShapeFault) (all : List A) (x : A) (xs : List A)
    → ((y : A) → one ≡ Ok y → y ≡ x) → ((ys : List A) → more ≡ Ok ys → ys ≡ xs) → (one >>= λ y. more >>= λ ys. Ok (y ∷ ys)) ≡ Ok all → all ≡ x ∷ xs
consed-is (Err e) more all x xs first rest h = absurd cc
consed-is (Ok y) (Err e) all x xs first rest h = absurd cc
consed-is (Ok y) (Ok ys) all x xs first rest h = sym (is-ok (y ∷ ys) all h) ∙ ap (λ z. z ∷ ys) (first y refl) ∙ ap (λ zs. x ∷ zs) (rest ys refl)

each-back : {A : Type 0} (reads : ℕ → Data → Result A ShapeFault) (data_of : A → Data) (P : A → Type 0) → ((k : ℕ) (x y : A) → P x → reads k (data_of x) ≡ Ok y → y ≡ x)
    → (xs : List A) (k : ℕ) (ys : List A) → AllByRecursion P xs → each_item reads k (array_of data_of xs) ≡ Ok ys → ys ≡ xs
each-back reads data_of P each [] k ys h e = sym (is-ok [] ys e)
each-back reads data_of P each (x ∷ xs) k ys h e =
    consed-is (reads k (data_of x)) (each_item reads (suc k) (array_of data_of xs)) ys x xs (λ y is. each k x y h.0 is)
    (λ zs is. each-back reads data_of P each xs (suc k) zs h.1 is) e

ranges-then : (place : Place) (f g : FunctionReport) (found : Result (List Range) ShapeFault) → ((rs : List Range) → found ≡ Ok rs → rs ≡ f.ranges)
    → (found >>= λ rs. nested_or_fault place (range_fault rs) (record { name = f.name; block = f.block; ranges = rs })) ≡ Ok g → g ≡ f
ranges-then place f g (Err e) is h = absurd cc
ranges-then place f g (Ok rs) is h =
    sym (nested-same place (range_fault rs) (record { name = f.name; block = f.block; ranges = rs }) g h)
    ∙ ap (λ (all : List Range). record { name = f.name; block = f.block; ranges = all }) (is rs refl)

report-back : (s k : ℕ) (f g : FunctionReport) → HasBounds f → report_of s k (report_data f) ≡ Ok g → g ≡ f
report-back s k f g h e =
    ranges-then (at_function s k) f g (each_item (range_of s k) 0 (array_of range_data f.ranges))
    (λ rs is. each-back (range_of s k) range_data IsInBounds (λ n r y b got. sym (is-ok r y (sym (range-back s k n r b) ∙ got))) f.ranges 0 rs h is) e

functions-then : (d e : Entry) (found : Result (List FunctionReport) ShapeFault) → ((fs : List FunctionReport) → found ≡ Ok fs → fs ≡ d.functions)
    → (found >>= λ fs. Ok (record { url = d.url; functions = fs })) ≡ Ok e → e ≡ d
functions-then d e (Err x) is h = absurd cc
functions-then d e (Ok fs) is h =
    sym (is-ok (record { url = d.url; functions = fs }) e h) ∙ ap (λ (all : List FunctionReport). record { url = d.url; functions = all }) (is fs refl)

entry-back : (k : ℕ) (d e : Entry) → HasAllBounds d → entry_of k (entry_data k d) ≡ Ok e → e ≡ d
entry-back k d e h got =
    functions-then d e (each_item (report_of k) 0 (array_of report_data d.functions))
    (λ fs is. each-back (report_of k) report_data HasBounds (λ n f g b one. report-back k n f g b one) d.functions 0 fs h is) got

entries-back : (es : List Entry) (k : ℕ) (ys : List Entry) → AreInBounds es → each_item entry_of k (entries_data k es) ≡ Ok ys → ys ≡ es
entries-back [] k ys h e = sym (is-ok [] ys e)
entries-back (x ∷ xs) k ys h e =
    consed-is (entry_of k (entry_data k x)) (each_item entry_of (suc k) (entries_data (suc k) xs)) ys x xs (λ y is. entry-back k x y h.0 is)
    (λ zs is. entries-back xs (suc k) zs h.1 is) e

result-back : (es : List Entry) (s : Snapshot) → AreInBounds es → snapshot_of (result_data es) ≡ Ok s → s ≡ es
unfolding snapshot_of scripts_data
result-back es s h e = entries-back es 0 s h e

-- ---- the text

from-value : (utf8 : Bool) (o : Option Data) (d : Data) (s : Snapshot) → o ≡ Some d → (or_fault Syntax (cond utf8 o None) >>= λ x. shaped (snapshot_of x)) ≡ Ok s → snapshot_of d ≡ Ok s
from-value false o d s is h = absurd cc
from-value true o d s is h = shaped-from (snapshot_of d) s (sym (ap (λ p. or_fault Syntax p >>= λ x. shaped (snapshot_of x)) is) ∙ h)

from-text : (long utf8 : Bool) (o : Option Data) (d : Data) (s : Snapshot) → o ≡ Some d
    → cond long (Err TooLong) (or_fault Syntax (cond utf8 o None) >>= λ x. shaped (snapshot_of x)) ≡ Ok s → snapshot_of d ≡ Ok s
from-text true utf8 o d s is h = absurd cc
from-text false utf8 o d s is h = from-value utf8 o d s is h

pub read_back : ReadBack
unfolding reading
read_back es s h e =
    let text = compact_text (result_data es) in
    result-back es s h (from-text (nat_lt max_text (length text)) (is_utf8 text) (read text) (result_data es) s (text-read es (all-small es h)) e)
