-- Members and their keys, read one after the other.
use Rattle.std.proofs.Common.{◌≡◌, ℕ, List, [], ◌∷◌, ◌++◌, Option, Some, None, option_map, String, Vec, Global, Bor, map, string_bytes, string_cmp, refl, sym, ap, ◌∙◌, subst}
use Rattle.std.specs.Prelude.{option_and_then}
use Rattle.std.specs.declared.cmp.Ordering.TheVariants.{Less}
use Rattle.std.specs.List.{AllByRecursion}
use Rattle.std.specs.List.Sorted.{IsStrictlySortedBy}
use Rattle.std.specs.Map.{keys_of}
use Rattle.std.specs.Map.Iter.{TakesFirst, deref_pair}
use Rattle.std.proofs.lemmas.List.{append_assoc, append-nil, map-append}
use Rattle.std.proofs.lemmas.Map.Iter.{rest_more, rest_all}
use Rattle.cov_text.specs.Listing.{text_cmp}
use Rattle.json_shapes.specs.Members.{each_member}
use Rattle.serde_json.specs.Data.{Data, Members, no_members, member}
use Rattle.serde_json.specs.View.{view, members_view}
use Rattle.serde_json.specs.declared.value.Value.{Value}
use Rattle.istanbul_json.specs.Answers.{behind, pairs, AreRising}

abbrev Entry : Type 0
Entry = String Global × Value

-- ---- one more member

behind-more : {A : Type 0} (front : List A) (x : A) (read : Option (List A)) → behind (front ++ x ∷ []) read ≡ behind front (option_map (λ xs. x ∷ xs) read)
behind-more front x None = refl
behind-more front x (Some xs) = ap Some (append_assoc front (x ∷ []) xs)

read-one : {A : Type 0} (reads : Data → Option A) (key : List ℕ) (d : Data) (x : A) (ms : Members) → Some x ≡ reads d
    → each_member reads (member key d ms) ≡ option_map (λ xs. (key, x) ∷ xs) (each_member reads ms)
read-one reads key d x ms e = ap (λ r. option_and_then (λ y. option_map (λ ys. (key, y) ∷ ys) (each_member reads ms)) r) (sym e)

pub one-more : {A : Type 0} (reads : Data → Option A) (before after : Vec (Bor (List ℕ) × A) Global) (s t : List Entry) (r : Option (Bor (String Global) × Bor Value))
    (key : Bor (String Global)) (value : Bor Value) (text : Bor (List ℕ)) (x : A) (all : Option (List (List ℕ × A)))
    → r ≡ Some (key, value) → TakesFirst deref_pair s r t → text.now ≡ string_bytes key.now → Some x ≡ reads (view value.now)
    → after.items ≡ before.items ++ (text, x) ∷ [] → behind (pairs before) (each_member reads (members_view s)) ≡ all
    → behind (pairs after) (each_member reads (members_view t)) ≡ all
one-more reads before after s t r key value text x all is step same read grown so_far =
    let front = rest_more deref_pair s t r (key, value) is step in
    let longer : pairs after ≡ pairs before ++ (text.now, x) ∷ [] = ap (map (λ p. (p.0.now, p.1))) grown ∙ map-append (λ p. (p.0.now, p.1)) before.items ((text, x) ∷ []) in
    ap (λ l. behind l (each_member reads (members_view t))) longer
    ∙ behind-more (pairs before) (text.now, x) (each_member reads (members_view t))
    ∙ ap (behind (pairs before))
    (ap (λ k. option_map (λ xs. (k, x) ∷ xs) (each_member reads (members_view t))) same
    ∙ sym (ap (λ l. each_member reads (members_view l)) front ∙ read-one reads (string_bytes key.now) (view value.now) x (members_view t) read))
    ∙ so_far

-- ---- the keys

abbrev pub names : Members → List (List ℕ)
names no_members = []
names (member key d ms) = key ∷ names ms

consed : {A : Type 0} (key : List ℕ) (x : Option A) (rest : Option (List (List ℕ × A))) (keys : List (List ℕ)) (all : List (List ℕ × A))
    → ((xs : List (List ℕ × A)) → rest ≡ Some xs → map (λ x. x.0) xs ≡ keys)
    → option_and_then (λ y. option_map (λ ys. (key, y) ∷ ys) rest) x ≡ Some all → map (λ x. x.0) all ≡ key ∷ keys
consed key None rest keys all more e = absurd cc
consed key (Some x) None keys all more e = absurd cc
consed key (Some x) (Some xs) keys all more e =
    let is : all ≡ (key, x) ∷ xs = cc in
    ap (map (λ y. y.0)) is ∙ ap (λ ks. key ∷ ks) (more xs refl)

-- what is read has the keys of the members
pub keys-read : {A : Type 0} (reads : Data → Option A) (ms : Members) (xs : List (List ℕ × A)) → each_member reads ms ≡ Some xs → map (λ x. x.0) xs ≡ names ms
keys-read reads no_members xs e = let is : xs ≡ [] = cc in ap (map (λ x. x.0)) is
keys-read reads (member key d ms) xs e = consed key (reads d) (each_member reads ms) (names ms) xs (λ ys f. keys-read reads ms ys f) e

names-above : (first : String Global) (es : List Entry) → AllByRecursion (λ y. string_cmp first y ≡ Less) (keys_of es) → AllByRecursion (λ y. text_cmp (string_bytes first) y ≡ Less) (names (members_view es))
names-above first [] h = tt
names-above first (e ∷ es) h = (h.0, names-above first es h.1)

pub names-rise : (es : List Entry) → IsStrictlySortedBy string_cmp (keys_of es) → IsStrictlySortedBy text_cmp (names (members_view es))
unfolding IsStrictlySortedBy
names-rise [] h = tt
names-rise (e ∷ es) h = (names-above e.0 es h.0, names-rise es h.1)

pub all-rise : {A : Type 0} (reads : Data → Option A) (read : Vec (Bor (List ℕ) × A) Global) (s t es : List Entry) (r : Option (Bor (String Global) × Bor Value))
    → r ≡ None → TakesFirst deref_pair s r t → IsStrictlySortedBy string_cmp (keys_of es)
    → behind (pairs read) (each_member reads (members_view s)) ≡ each_member reads (members_view es) → AreRising (pairs read)
all-rise reads read s t es r is step order so_far =
    let done = rest_all deref_pair s t r is step in
    let all : each_member reads (members_view es) ≡ Some (pairs read) =
    sym so_far ∙ ap (λ l. behind (pairs read) (each_member reads (members_view l))) done ∙ ap Some (append-nil (pairs read))
    in
    subst (IsStrictlySortedBy text_cmp) (sym (keys-read reads (members_view es) (pairs read) all)) (names-rise es order)
