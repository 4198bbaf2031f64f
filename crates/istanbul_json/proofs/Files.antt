-- Files, one behind the other, and what holds of each.
use Rattle.std.proofs.Common.{◌≡◌, ℕ, suc, Bool, true, false, List, [], ◌∷◌, ◌++◌, length, map, Option, Some, None, String, Global, Bor, string_bytes, string_cmp, refl, sym, ap, ◌∙◌, subst, arith}
use Rattle.std.specs.Prelude.{Result, Ok, Err, OnOk, is_err, ◌==◌, ◌&&◌}
use Rattle.std.proofs.lemmas.Cmp.{nat_eq_equiv}
use Rattle.std.specs.List.{list_all, zip}
use Rattle.std.specs.List.Sorted.{IsStrictlySortedBy}
use Rattle.std.specs.Map.{keys_of}
use Rattle.std.specs.Map.Iter.{TakesFirst, deref_pair}
use Rattle.std.proofs.lemmas.List.{append_assoc, append-nil, length-append, map-append}
use Rattle.std.proofs.lemmas.Map.Iter.{rest_more, rest_all}
use Rattle.cov_text.specs.Listing.{text_cmp, in_order}
use Rattle.json_shapes.specs.Shapes.{◌>>=◌}
use Rattle.serde_json.specs.Data.{Data, Members, member}
use Rattle.serde_json.specs.View.{view, members_view}
use Rattle.serde_json.specs.declared.value.Value.{Value}
use Rattle.istanbul_json.specs.declared.entry.BranchEntry.{BranchEntry}
use Rattle.istanbul_json.specs.declared.file.FileParts.{FileParts}
use Rattle.istanbul_json.specs.declared.file.Statement.{Statement}
use Rattle.istanbul_json.specs.declared.file.Function.{Function}
use Rattle.istanbul_json.specs.declared.file.Branch.{Branch}
use Rattle.istanbul_json.specs.declared.file.CoverageFault.{CoverageFault}
use Rattle.istanbul_json.specs.Answers.{behind_files}
use Rattle.istanbul_json.specs.Coverage.{file_of, files_from, as_many_counts, branch}
use Rattle.istanbul_json.specs.Gives.{ArePathsInOrder}
use Rattle.istanbul_json.specs.Kept.{by_key, IsKeyed}
use Rattle.istanbul_json.proofs.Inserted.{in_order-all, in_order-strict}
use Rattle.istanbul_json.proofs.KeyOrder.{by_key-twice, text-total}
use Rattle.istanbul_json.proofs.Walked.{names, names-rise}

abbrev Entry : Type 0
Entry = String Global × Value

-- ---- one more file

behind-more : (front : List FileParts) (f : FileParts) (read : Result (List FileParts) CoverageFault) → behind_files (front ++ f ∷ []) read ≡ behind_files front (read >>= λ fs. Ok (f ∷ fs))
behind-more front f (Err e) = refl
behind-more front f (Ok fs) = ap Ok (append_assoc front (f ∷ []) fs)

read-one : (k : ℕ) (name : List ℕ) (d : Data) (f : FileParts) (ms : Members) → file_of k name d ≡ Ok f → files_from k (member name d ms) ≡ (files_from (suc k) ms >>= λ fs. Ok (f ∷ fs))
read-one k name d f ms e = ap (λ r. r >>= λ g. files_from (suc k) ms >>= λ fs. Ok (g ∷ fs)) e

one-longer : {A : Type 0} (front : List A) (x : A) → length (front ++ x ∷ []) ≡ suc (length front)
one-longer front x = length-append front (x ∷ []) ∙ omega arith

pub one-more : (before after : List FileParts) (s t : List Entry) (r : Option (Bor (String Global) × Bor Value)) (key : Bor (String Global)) (value : Bor Value) (text : Bor (List ℕ)) (f : FileParts)
    (k : ℕ) (all : Result (List FileParts) CoverageFault) → r ≡ Some (key, value) → TakesFirst deref_pair s r t → text.now ≡ string_bytes key.now → k ≡ length before
    → file_of k text.now (view value.now) ≡ Ok f → after ≡ before ++ f ∷ []
    → behind_files before (files_from (length before) (members_view s)) ≡ all → behind_files after (files_from (length after) (members_view t)) ≡ all
one-more before after s t r key value text f k all is step same at read grown so_far =
    let front = rest_more deref_pair s t r (key, value) is step in
    let here : file_of (length before) (string_bytes key.now) (view value.now) ≡ Ok f =
    ap (λ n. file_of n (string_bytes key.now) (view value.now)) (sym at) ∙ ap (λ b. file_of k b (view value.now)) (sym same) ∙ read
    in
    ap (λ l. behind_files l (files_from (length l) (members_view t))) grown
    ∙ ap (λ n. behind_files (before ++ f ∷ []) (files_from n (members_view t))) (one-longer before f)
    ∙ behind-more before f (files_from (suc (length before)) (members_view t))
    ∙ ap (behind_files before) (sym (ap (λ l. files_from (length before) (members_view l)) front ∙ read-one (length before) (string_bytes key.now) (view value.now) f (members_view t) here))
    ∙ so_far

pub one-path : (before after : List FileParts) (s t : List Entry) (r : Option (Bor (String Global) × Bor Value)) (key : Bor (String Global)) (value : Bor Value) (text : Bor (List ℕ)) (f : FileParts)
    (all : List (List ℕ)) → r ≡ Some (key, value) → TakesFirst deref_pair s r t → text.now ≡ string_bytes key.now → f.path ≡ text.now → after ≡ before ++ f ∷ []
    → map (λ g. g.path) before ++ names (members_view s) ≡ all → map (λ g. g.path) after ++ names (members_view t) ≡ all
one-path before after s t r key value text f all is step same path grown so_far =
    let front = rest_more deref_pair s t r (key, value) is step in
    ap (λ (l : List FileParts). map (λ g. g.path) l ++ names (members_view t)) grown
    ∙ ap (λ l. l ++ names (members_view t)) (map-append (λ (g : FileParts). g.path) before (f ∷ []))
    ∙ append_assoc (map (λ g. g.path) before) (f.path ∷ []) (names (members_view t))
    ∙ ap (λ p. map (λ g. g.path) before ++ p ∷ names (members_view t)) (path ∙ same)
    ∙ ap (λ l. map (λ g. g.path) before ++ names (members_view l)) (sym front)
    ∙ so_far

-- the paths are the names of the members, and rise
pub paths-in-order : (files : List FileParts) (s t es : List Entry) (r : Option (Bor (String Global) × Bor Value)) → r ≡ None → TakesFirst deref_pair s r t → IsStrictlySortedBy string_cmp (keys_of es)
    → map (λ g. g.path) files ++ names (members_view s) ≡ names (members_view es) → ArePathsInOrder files
unfolding IsStrictlySortedBy
paths-in-order files s t es r is step order so_far =
    let done = rest_all deref_pair s t r is step in
    let all : names (members_view es) ≡ map (λ g. g.path) files = sym so_far ∙ ap (λ l. map (λ g. g.path) files ++ names (members_view l)) done ∙ append-nil (map (λ g. g.path) files) in
    subst (λ ps. in_order text_cmp ps ≡ ps) all (in_order-strict text_cmp text-total (names (members_view es)) (names-rise es order))

-- ---- what holds of a file

pub kept-by_key : {A : Type 0} (key : A → List ℕ) (xs ys : List A) → xs ≡ by_key key ys → by_key key xs ≡ xs
kept-by_key key xs ys e = ap (by_key key) e ∙ by_key-twice key ys ∙ sym e

abbrev has_all_counts : Branch → Bool
has_all_counts b = length b.counts == length b.locations

both : (a b : Bool) → (a && b) ≡ true → (a ≡ true) × (b ≡ true)
both true b e = (refl, e)
both false b e = cc

same_back : (m n : ℕ) → (m == n) ≡ true → (n == m) ≡ true
same_back m n e = nat_eq_equiv.symm n m ∙ e

all_counts : (ps : List (List ℕ × BranchEntry)) (qs : List (List ℕ × List ℕ)) → as_many_counts ps qs ≡ true → list_all has_all_counts (map branch (zip ps qs)) ≡ true
all_counts [] qs e = refl
all_counts (p ∷ ps) [] e = refl
all_counts (p ∷ ps) (q ∷ qs) e =
    let parts = both (length p.1.locations == length q.1) (as_many_counts ps qs) e in
    ap (λ t. t && list_all has_all_counts (map branch (zip ps qs))) (same_back (length p.1.locations) (length q.1) parts.0) ∙ all_counts ps qs parts.1

pub keyed : (path : List ℕ) (statements ss : List Statement) (functions fs : List Function) (branches : List Branch) (ps : List (List ℕ × BranchEntry)) (qs : List (List ℕ × List ℕ))
    → statements ≡ by_key (λ s. s.key) ss → functions ≡ by_key (λ g. g.key) fs → branches ≡ by_key (λ b. b.key) (map branch (zip ps qs)) → as_many_counts ps qs ≡ true
    → IsKeyed (record { path = path; statements = statements; functions = functions; branches = branches })
keyed path statements ss functions fs branches ps qs s f b counts = record {
  statements = kept-by_key (λ x. x.key) statements ss s;
  functions = kept-by_key (λ x. x.key) functions fs f;
  branches = kept-by_key (λ x. x.key) branches (map branch (zip ps qs)) b;
  counts = ap (list_all has_all_counts) b ∙ in_order-all _ has_all_counts (map branch (zip ps qs)) (all_counts ps qs counts);
}

-- what an addition leaves, where it is no refusal
pub if-pushed : {X E P : Type 0} (r : Result X E) → is_err r ≡ false → OnOk r P → P
if-pushed (Ok x) e h = h
if-pushed (Err x) e h = absurd cc
