-- Files that were made of what was found in the tokens of a text.
use Rattle.std.proofs.Common.{◌≡◌, ◌≤◌, arith, ℕ, Bool, true, false, List, [], ◌∷◌, ◌++◌, length, map, reverse, Option, Some, refl, sym, ap, ◌∙◌, subst, Ordering}
use Rattle.std.specs.Prelude.{Ok, codes, ◌&&◌, nat_lt}
use Rattle.std.specs.Ordering.{is_lt}
use Rattle.std.specs.List.{list_all}
use Rattle.std.proofs.lemmas.Bool.Decides.{nat_tests}
use Rattle.std.proofs.lemmas.List.{map-append}
use Rattle.std.proofs.lemmas.List.Folds.{list_all-append}
use Rattle.cov_text.specs.Listing.{text_cmp, max_text}
use Rattle.serde_json.specs.Data.{Data, Members, object}
use Rattle.serde_json.specs.Find.{get_member, as_object, as_str}
use Rattle.json_shapes.specs.Shapes.{whole, parsed}
use Rattle.json_shapes.specs.Members.{each_member, keyed, listed}
use Rattle.json_walk.specs.Shape.{Is, Has, GivesList, GivesObject}
use Rattle.json_walk.specs.declared.keyed.Member.{Member}
use Rattle.json_walk.specs.declared.keyed.Object.{Object}
use Rattle.istanbul_json.specs.declared.file.CoverageField.{CoverageField}
use Rattle.istanbul_json.specs.declared.file.CoverageField.TheVariants.{Path, StatementMap, FnMap, BranchMap, S, F, B}
use Rattle.istanbul_json.specs.declared.file.FileParts.{FileParts}
use Rattle.istanbul_json.specs.declared.file.Statement.{Statement}
use Rattle.istanbul_json.specs.declared.file.Function.{Function}
use Rattle.istanbul_json.specs.declared.file.Branch.{Branch}
use Rattle.istanbul_json.specs.declared.found.FoundFile.{FoundFile}
use Rattle.istanbul_json.specs.Coverage.{member_as, file_of, files_of, coverage_reading}
use Rattle.istanbul_json.specs.Gives.{ArePathsInOrder}
use Rattle.istanbul_json.specs.Kept.{by_key, IsKeyed}
use Rattle.istanbul_json.specs.Members.{loc_of, function_of, branch_of, path_as}
use Rattle.istanbul_json.specs.Walks.{GivesMembers, HoldsFile, SaysFile, rising, shown_by, members_of, function_entry, branch_entry, AreListed, AreOrdered, by_text_total}
use Rattle.istanbul_json.proofs.Inserted.{placed, in_order-all, in_order-strict, list_all-placed}
use Rattle.istanbul_json.proofs.KeyOrder.{bytes_cmp, cmp, total, exact, text-total}
use Rattle.istanbul_json.proofs.Ordered.{reverse-cons, strict-rising, ordered-placed, ordered-placed_by}
use Rattle.istanbul_json.proofs.Gathered.{list_is}
use Rattle.istanbul_json.proofs.Files.{kept-by_key}
use Rattle.istanbul_json.proofs.Judged.{has_all_counts, judged, judged-is, text-same}
use Rattle.istanbul_json.proofs.PutIn.{AreInTurn, in-turn, members-read, files-read, shown-placed}

-- ---- lists that are turned

map-reversed : {A C : Type 0} (f : A → C) (xs : List A) → map f (reverse xs) ≡ reverse (map f xs)
map-reversed f [] = refl
map-reversed f (x ∷ xs) =
    ap (map f) (reverse-cons x xs) ∙ map-append f (reverse xs) (x ∷ []) ∙ ap (λ l. l ++ f x ∷ []) (map-reversed f xs) ∙ sym (reverse-cons (f x) (map f xs))

both : (a b : Bool) → (a && b) ≡ true → (a ≡ true) × (b ≡ true)
both true b e = (refl, e)
both false b e = cc

all-reversed : {A : Type 0} (q : A → Bool) (xs : List A) → list_all q xs ≡ true → list_all q (reverse xs) ≡ true
all-reversed q [] h = refl
all-reversed q (x ∷ xs) h =
    let parts = both (q x) (list_all q xs) h in
    ap (list_all q) (reverse-cons x xs) ∙ list_all-append q (reverse xs) (x ∷ []) ∙ (λ i. all-reversed q xs parts.1 i && (parts.0 i && true))

-- members in byte order, seen as the parts of what was made of them
regrouped : {A E : Type 0} (key : A → List ℕ) (part : A → E) (xs : List A) (ms : List (Member E)) → shown_by key part xs ≡ members_of ms
    → shown_by (λ m. m.key) (λ m. m.value) (placed (bytes_cmp (λ m. m.key)) (reverse ms)) ≡ shown_by key part (placed (bytes_cmp key) (reverse xs))
regrouped {A} {E} key part xs ms same =
    sym (shown-placed (λ (m : Member E). m.key) (λ m. m.value) (reverse ms))
    ∙ ap (placed (bytes_cmp (λ p. p.0))) (map-reversed (λ (m : Member E). (m.key, m.value)) ms ∙ ap reverse (sym same) ∙ sym (map-reversed (λ x. (key x, part x)) xs))
    ∙ shown-placed key part (reverse xs)

-- ---- what is read of one map

module _ {E : Type 0} (gives : E → Data → Type 0) (reads : Data → Option E) (is : (x : E) (d : Data) → gives x d → reads d ≡ Some x) where
  object-read : (o : Object (Member E)) (d : Data) → GivesMembers gives o d → keyed reads d ≡ Some (shown_by (λ m. m.key) (λ m. m.value) (placed (bytes_cmp (λ m. m.key)) (reverse o.members)))
  object-read o d h =
      rw (h.1)
      (members-read (λ m. m.key) (λ m. m.value) (λ m. gives m.value) reads (λ m e g. is m.value e g) _ h.0 (in-turn (λ m. m.key) (λ m. gives m.value) (reverse o.members) h.0 h.2))

  pub map-read : {A : Type 0} (key : A → List ℕ) (part : A → E) (xs : List A) (found : Option (Object (Member E))) (o : Object (Member E)) → found ≡ Some o → shown_by key part xs ≡ members_of o.members
      → (k : ℕ) (field : CoverageField) (name : List ℕ) (ms : Members) → Has (GivesMembers gives) name ms found
      → member_as (keyed reads) k field name (object ms) ≡ Ok (shown_by key part (placed (bytes_cmp key) (reverse xs)))
  map-read key part xs found o there same k field name ms h =
      let has = subst (Has (GivesMembers gives) name ms) there h in
      rw (has.1) (rw (object-read o has.0 has.2) (ap Ok (regrouped key part xs o.members same)))

-- ---- a list of a file

module _ {A E C : Type 0} (key : A → List ℕ) (entry : A → E) (counts : A → C) (fits : A → Bool) (entries : Option (Object (Member E))) (counted : Option (Object (Member C))) (ys : List A)
    (l : AreListed key entry counts fits (cmp key) entries counted ys) where
  -- its elements in byte order of their keys
  abbrev pub in_bytes : List A
  in_bytes = placed (bytes_cmp key) (reverse l.xs)

  pub list-ordered : by_key key in_bytes ≡ ys
  list-ordered = ordered-placed_by (cmp key) (total key) l.xs ys l.ordered.rise l.ordered.same (bytes_cmp key) (exact key)

  pub list-fits : list_all fits in_bytes ≡ true
  list-fits = list_all-placed (bytes_cmp key) fits (reverse l.xs) (all-reversed fits l.xs l.joined.all_fit)

  pub list-kept : by_key key ys ≡ ys
  list-kept = kept-by_key key ys in_bytes (sym list-ordered)

  pub list-all : list_all fits ys ≡ true
  list-all = ap (list_all fits) (sym list-ordered) ∙ in_order-all _ fits in_bytes list-fits

  module _ (k : ℕ) (field : CoverageField) (name : List ℕ) (ms : Members) where
    pub entries-read : (reads : Data → Option E) → Has (GivesMembers (Is reads)) name ms entries → member_as (keyed reads) k field name (object ms) ≡ Ok (shown_by key entry in_bytes)
    entries-read reads h = map-read (Is reads) reads (λ x d g. g) key entry l.xs entries l.es l.entries_there l.joined.entries_are k field name ms h

    pub counts-read : (gives : C → Data → Type 0) (reads : Data → Option C) → ((x : C) (d : Data) → gives x d → reads d ≡ Some x) → Has (GivesMembers gives) name ms counted
        → member_as (keyed reads) k field name (object ms) ≡ Ok (shown_by key counts in_bytes)
    counts-read gives reads is h = map-read gives reads is key counts l.xs counted l.cs l.counts_there l.joined.counts_are k field name ms h

-- ---- a file

abbrev pub Statements : FoundFile → List Statement → Type 0
Statements found ys = AreListed (λ s. s.key) (λ s. s.loc) (λ s. s.count) (λ s. true) (cmp (λ s. s.key)) found.maps.statements found.counts.s ys

abbrev pub Functions : FoundFile → List Function → Type 0
Functions found ys = AreListed (λ f. f.key) function_entry (λ f. f.count) (λ f. true) (cmp (λ f. f.key)) found.maps.functions found.counts.f ys

abbrev pub Branches : FoundFile → List Branch → Type 0
Branches found ys = AreListed (λ b. b.key) branch_entry (λ b. b.counts) has_all_counts (cmp (λ b. b.key)) found.maps.branches found.counts.b ys

path-read : (k : ℕ) (path : List ℕ) (found : Option (List ℕ)) (ms : Members) → Has (Is as_str) (codes "path") ms found → found ≡ Some path → member_as (path_as path) k Path (codes "path") (object ms) ≡ Ok path
path-read k path found ms h is =
    let has = subst (Has (Is as_str) (codes "path") ms) is h in
    rw (has.1) (rw (has.2) (rw (text-same path)))

module _ (found : FoundFile) (path : List ℕ) (statements : List Statement) (functions : List Function) (branches : List Branch) (s : Statements found statements) (f : Functions found functions) (b : Branches found branches) where
  pub file-keyed : IsKeyed (record { path = path; statements = statements; functions = functions; branches = branches })
  file-keyed = record {
    statements = list-kept _ _ _ _ _ _ _ s;
    functions = list-kept _ _ _ _ _ _ _ f;
    branches = list-kept _ _ _ _ _ _ _ b;
    counts = list-all _ _ _ _ _ _ _ b;
  }

  pub file-read : found.path ≡ Some path → (ms : Members) → HoldsFile found ms → (k : ℕ) → file_of k path (object ms) ≡ Ok (record { path = path; statements = statements; functions = functions; branches = branches })
  file-read there ms h k =
      rw (path-read k path found.path ms h.0 there)
      (rw (entries-read _ _ _ _ _ _ _ s k StatementMap (codes "statementMap") ms loc_of h.1.0)
      (rw (entries-read _ _ _ _ _ _ _ f k FnMap (codes "fnMap") ms function_of h.1.1)
      (rw (entries-read _ _ _ _ _ _ _ b k BranchMap (codes "branchMap") ms branch_of h.1.2)
      (rw (counts-read _ _ _ _ _ _ _ s k S (codes "s") ms (Is whole) whole (λ x d g. g) h.2.0)
      (rw (counts-read _ _ _ _ _ _ _ f k F (codes "f") ms (Is whole) whole (λ x d g. g) h.2.1)
      (rw (counts-read _ _ _ _ _ _ _ b k B (codes "b") ms (GivesList (Is whole)) (listed whole) (list_is whole) h.2.2)
      (judged-is k path (in_bytes _ _ _ _ _ _ _ s) statements (in_bytes _ _ _ _ _ _ _ f) functions (in_bytes _ _ _ _ _ _ _ b) branches (list-ordered _ _ _ _ _ _ _ s) (list-ordered _ _ _ _ _ _ _ f) (list-ordered _ _ _ _ _ _ _ b)
      (list-fits _ _ _ _ _ _ _ b))))))))

-- ---- files

not-long : (m n : ℕ) → n ≤ m → nat_lt m n ≡ false
not-long m n h = grind (arith, nat_tests)

abbrev pub path_cmp : FileParts → FileParts → Ordering
path_cmp a b = text_cmp a.path b.path

pub files-read-back : (bytes : List ℕ) (xs files : List FileParts) → length bytes ≤ max_text → (d : Data) × (parsed bytes ≡ Some d) × GivesObject (λ f. f.path) SaysFile xs d → AreOrdered path_cmp xs files
    → coverage_reading bytes ≡ Ok files
unfolding coverage_reading files_of
files-read-back bytes xs files short read ordered =
    let object = read.2 in
    let placed_is = ordered-placed path_cmp (by_text_total (λ (f : FileParts). f.path)) xs files ordered.rise ordered.same in
    let turns = subst (λ l. AreInTurn (λ (f : FileParts). f.path) SaysFile l object.0) placed_is (in-turn (λ (f : FileParts). f.path) SaysFile (reverse xs) object.0 object.2) in
    rw (not-long max_text (length bytes) short) (rw (read.1) (rw (object.1) (files-read 0 files object.0 turns)))

paths-as-files : (files : List FileParts) → rising text_cmp (map (λ f. f.path) files) ≡ rising path_cmp files
paths-as-files [] = refl
paths-as-files (f ∷ []) = refl
paths-as-files (f ∷ g ∷ files) = ap (λ t. is_lt (text_cmp f.path g.path) && t) (paths-as-files (g ∷ files))

pub paths-rise : (files : List FileParts) → rising path_cmp files ≡ true → ArePathsInOrder files
paths-rise files rise =
    in_order-strict text_cmp text-total (map (λ f. f.path) files) (strict-rising text_cmp text-total (map (λ f. f.path) files) (paths-as-files files ∙ rise))
