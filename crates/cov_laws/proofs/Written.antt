-- The JSON text of scripts tells the scripts.
use Rattle.std.proofs.Common.{◌≡◌, ℕ, suc, ◌+◌, ◌<◌, ◌^◌, List, [], ◌∷◌, ◌++◌, Some, refl, sym, ap, ◌∙◌, arith, decimal}
use Rattle.std.specs.Prelude.{Option, None}
use Rattle.std.specs.List.{AllByRecursion}
use Rattle.json.specs.Lex.{tokens}
use Rattle.json.specs.Json as json
use Rattle.json.specs.Tree as tree
use Rattle.json.proofs.Printed.Tokens.{tokens-print}
use Rattle.json.proofs.Printed.Trees.{value-json_tokens, ArePrintable-json_tokens}
use Rattle.json.proofs.Printed.Decimals.{IsNumber-decimal}
use Rattle.serde_json.specs.Data.{Data, unsigned}
use Rattle.serde_json.specs.Read.{number_of}
use Rattle.serde_json.specs.Written.{outline, items_outline, compact_text}
use Rattle.serde_json.proofs.Texts.{print-outline}
use Rattle.serde_json.proofs.Numbers.{number_of-decimal}
use Rattle.cov_model.specs.declared.report.Range.{Range}
use Rattle.cov_model.specs.declared.report.FunctionReport.{FunctionReport}
use Rattle.cov_model.specs.declared.snapshot.Entry.{Entry}
use Rattle.json_shapes.specs.Shapes.{array_of}
use Rattle.cov_model.specs.File.{range_data, report_data, entry_data, entries_data, scripts_data, result_data}

-- ---- a text tells its value

of-pair : {A B : Type 0} (a b : A) (x y : B) → ◌≡◌ {A = Option (A × B)} (Some (a, x)) (Some (b, y)) → a ≡ b
of-pair {A} {B} a b x y e = ap first e
  where
    first : Option (A × B) → A
    first None = a
    first (Some p) = p.0

one-value : (j k : json.Json) → tree.json_tokens j ≡ tree.json_tokens k → j ≡ k
one-value j k same =
    let most = tree.depth j + tree.depth k in
    of-pair j k [] []
    (sym (value-json_tokens j most [] (omega arith)) ∙ ap (λ ts. json.value most (ts ++ [])) same ∙ value-json_tokens k most [] (omega arith))

one-outline : (d e : Data) → tree.HasNumbers (outline d) → tree.HasNumbers (outline e) → compact_text d ≡ compact_text e → outline d ≡ outline e
one-outline d e h k same =
    one-value (outline d) (outline e)
    (sym (tokens-print (tree.json_tokens (outline d)) (ArePrintable-json_tokens (outline d) h))
    ∙ ap tokens (print-outline d ∙ same ∙ sym (print-outline e))
    ∙ tokens-print (tree.json_tokens (outline e)) (ArePrintable-json_tokens (outline e) k))

one-number : (n m : ℕ) → n < 2 ^ 64 → m < 2 ^ 64 → decimal n ≡ decimal m → n ≡ m
one-number n m h k same =
    let e : Some (unsigned n) ≡ Some (unsigned m) = sym (number_of-decimal n h) ∙ ap number_of same ∙ number_of-decimal m k in
    cc

-- ---- numbers that are written whole

pub record IsSmall (r : Range) : Type 0 where
  pub start : r.start < 2 ^ 64
  pub end : r.end < 2 ^ 64
  pub count : r.count < 2 ^ 64

abbrev pub AreSmall : List Range → Type 0
AreSmall ranges = AllByRecursion IsSmall ranges

abbrev pub HasSmall : FunctionReport → Type 0
HasSmall f = AreSmall f.ranges

abbrev pub HasAllSmall : Entry → Type 0
HasAllSmall e = AllByRecursion HasSmall e.functions

abbrev IsWritten : Data → Type 0
IsWritten d = tree.HasNumbers (outline d)

written-range : (r : Range) → IsSmall r → IsWritten (range_data r)
written-range r h = (IsNumber-decimal r.count h.count, (IsNumber-decimal r.end h.end, (IsNumber-decimal r.start h.start, tt)))

written-array : {A : Type 0} (data_of : A → Data) (P : A → Type 0) → ((x : A) → P x → IsWritten (data_of x)) → (xs : List A) → AllByRecursion P xs → tree.ItemsHaveNumbers (items_outline (array_of data_of xs))
written-array data_of P each [] h = tt
written-array data_of P each (x ∷ xs) h = (each x h.0, written-array data_of P each xs h.1)

written-report : (f : FunctionReport) → HasSmall f → IsWritten (report_data f)
written-report f h = (tt, (tt, (written-array range_data IsSmall written-range f.ranges h, tt)))

written-entry : (k : ℕ) (e : Entry) → HasAllSmall e → IsWritten (entry_data k e)
written-entry k e h = (written-array report_data HasSmall written-report e.functions h, (tt, (tt, tt)))

written-entries : (k : ℕ) (es : List Entry) → AllByRecursion HasAllSmall es → tree.ItemsHaveNumbers (items_outline (entries_data k es))
written-entries k [] h = tt
written-entries k (e ∷ es) h = (written-entry k e h.0, written-entries (suc k) es h.1)

pub written-result : (es : List Entry) → AllByRecursion HasAllSmall es → IsWritten (result_data es)
unfolding scripts_data
written-result es h = (written-entries 0 es h, tt)

-- ---- a value tells the scripts

one-range : (r s : Range) → IsSmall r → IsSmall s → outline (range_data r) ≡ outline (range_data s) → r ≡ s
one-range r s h k e =
    let count : decimal r.count ≡ decimal s.count = cc in
    let end : decimal r.end ≡ decimal s.end = cc in
    let start : decimal r.start ≡ decimal s.start = cc in
    let a = one-number r.start s.start h.start k.start start in
    let b = one-number r.end s.end h.end k.end end in
    let c = one-number r.count s.count h.count k.count count in
    (λ i. record { start = a i; end = b i; count = c i })

one-array : {A : Type 0} (data_of : A → Data) (P : A → Type 0) → ((x y : A) → P x → P y → outline (data_of x) ≡ outline (data_of y) → x ≡ y)
    → (xs ys : List A) → AllByRecursion P xs → AllByRecursion P ys → items_outline (array_of data_of xs) ≡ items_outline (array_of data_of ys) → xs ≡ ys
one-array data_of P each [] [] h k e = refl
one-array data_of P each [] (y ∷ ys) h k e = absurd cc
one-array data_of P each (x ∷ xs) [] h k e = absurd cc
one-array data_of P each (x ∷ xs) (y ∷ ys) h k e =
    let first : outline (data_of x) ≡ outline (data_of y) = cc in
    let rest : items_outline (array_of data_of xs) ≡ items_outline (array_of data_of ys) = cc in
    ap (λ z. z ∷ xs) (each x y h.0 k.0 first) ∙ ap (λ zs. y ∷ zs) (one-array data_of P each xs ys h.1 k.1 rest)

one-report : (f g : FunctionReport) → HasSmall f → HasSmall g → outline (report_data f) ≡ outline (report_data g) → f ≡ g
one-report f g h k e =
    let name : f.name ≡ g.name = cc in
    let block : f.block ≡ g.block = cc in
    let items : items_outline (array_of range_data f.ranges) ≡ items_outline (array_of range_data g.ranges) = cc in
    let ranges = one-array range_data IsSmall one-range f.ranges g.ranges h k items in
    (λ i. record { name = name i; block = block i; ranges = ranges i })

one-entry : (k : ℕ) (d e : Entry) → HasAllSmall d → HasAllSmall e → outline (entry_data k d) ≡ outline (entry_data k e) → d ≡ e
one-entry k d e h j same =
    let url : d.url ≡ e.url = cc in
    let items : items_outline (array_of report_data d.functions) ≡ items_outline (array_of report_data e.functions) = cc in
    let functions = one-array report_data HasSmall one-report d.functions e.functions h j items in
    (λ i. record { url = url i; functions = functions i })

one-list : (k : ℕ) (ds es : List Entry) → AllByRecursion HasAllSmall ds → AllByRecursion HasAllSmall es → items_outline (entries_data k ds) ≡ items_outline (entries_data k es) → ds ≡ es
one-list k [] [] h j e = refl
one-list k [] (x ∷ xs) h j e = absurd cc
one-list k (x ∷ xs) [] h j e = absurd cc
one-list k (x ∷ xs) (y ∷ ys) h j e =
    let first : outline (entry_data k x) ≡ outline (entry_data k y) = cc in
    let rest : items_outline (entries_data (suc k) xs) ≡ items_outline (entries_data (suc k) ys) = cc in
    ap (λ z. z ∷ xs) (one-entry k x y h.0 j.0 first) ∙ ap (λ zs. y ∷ zs) (one-list (suc k) xs ys h.1 j.1 rest)

one-result : (ds es : List Entry) → AllByRecursion HasAllSmall ds → AllByRecursion HasAllSmall es → outline (result_data ds) ≡ outline (result_data es) → ds ≡ es
unfolding scripts_data
one-result ds es h j e =
    let items : items_outline (entries_data 0 ds) ≡ items_outline (entries_data 0 es) = cc in
    one-list 0 ds es h j items

pub one-text : (ds es : List Entry) → AllByRecursion HasAllSmall ds → AllByRecursion HasAllSmall es → compact_text (result_data ds) ≡ compact_text (result_data es) → ds ≡ es
one-text ds es h j same = one-result ds es h j (one-outline (result_data ds) (result_data es) (written-result ds h) (written-result es j) same)
