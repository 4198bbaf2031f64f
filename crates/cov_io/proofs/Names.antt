-- Each name that a folder has is the name of a file.
use Rattle.std.proofs.Common.{◌≡◌, ◌≢◌, ℕ, ◌<◌, true, false, List, [], ◌∷◌, ◌++◌, length, refl, sym, ap, ◌∙◌, subst, inl, inr}
use Rattle.std.specs.Prelude.{Option, None, Some, cond, filter_map, slice_index_or, option_and_then, unwrap_or, eqb}
use Rattle.std.specs.List.{AllByRecursion, cons_option}
use Rattle.std.specs.Cmp.Lexicographic.{bytes_decides}
use Rattle.std.proofs.lemmas.Bool.{cases_Bool, eq-eqb, eqb-true}
use Rattle.std.proofs.lemmas.List.Elements.{All-from_recursion}
use Rattle.cov_text.specs.Listing.{same_text, text_cmp}
use Rattle.cov_text.proofs.Each.{All-inserted}
use Rattle.std.proofs.lemmas.List.{append_assoc}
use Rattle.cov_io.specs.Told.{Files, bytes_at, path_in, behind_front, has_slash, name_in, names_in}

-- there is a file at the path
abbrev pub HasFile : Files → List ℕ → Type 0
HasFile files path = bytes_at path files ≢ None

later : (file : List ℕ × List ℕ) (files : Files) (path : List ℕ) → HasFile files path → HasFile (file ∷ files) path
later file files path has =
    elim (same_text file.0 path) as (λ b. cond b (Some file.1) (bytes_at path files) ≢ None) [ true ↦ λ e. cc | false ↦ has ]

all_later : (file : List ℕ × List ℕ) (files rest : Files) → AllByRecursion (λ f. HasFile files f.0) rest → AllByRecursion (λ f. HasFile (file ∷ files) f.0) rest
all_later file files [] all = tt
all_later file files (f ∷ rest) all = (later file files f.0 all.0, all_later file files rest all.1)

all_there : (files : Files) → AllByRecursion (λ f. HasFile files f.0) files
all_there [] = tt
all_there (file ∷ files) = (
  (let same : same_text file.0 file.0 ≡ true = (bytes_decides file.0 file.0).1 refl in
      subst (λ b. cond b (Some file.1) (bytes_at file.0 files) ≢ None) (sym same) (λ e. cc)),
  all_later file files files (all_there files),
)

-- ---- what follows a front

pub behind_front-is : (front text rest : List ℕ) → text ≡ front ++ rest → behind_front front text ≡ Some rest
behind_front-is [] text rest e = ap Some e
behind_front-is (x ∷ front) text rest e =
    let here : eqb x x ≡ true = eq-eqb x x refl in
    ap (behind_front (x ∷ front)) e ∙ ap (λ b. cond b (behind_front front (front ++ rest)) None) here ∙ behind_front-is front (front ++ rest) rest refl

pub front-of : (front text rest : List ℕ) → behind_front front text ≡ Some rest → text ≡ front ++ rest
front-of [] text rest e = ap (λ o. unwrap_or o []) e
front-of (x ∷ front) [] rest e = cc
front-of (x ∷ front) (y ∷ text) rest e =
    elim (cases_Bool (eqb x y)) [
      | inl same ↦
          let head : x ≡ y = eqb-true x y same in
          let tail : text ≡ front ++ rest = front-of front text rest (sym (ap (λ b. cond b (behind_front front text) None) same) ∙ e) in
          λ i. sym head i ∷ tail i
      | inr other ↦ let gone : None ≡ Some rest = sym (ap (λ b. cond b (behind_front front text) None) other) ∙ e in cc
    ]

pub behind_front-None : (front text : List ℕ) → ((rest : List ℕ) → text ≢ front ++ rest) → behind_front front text ≡ None
behind_front-None front text lacks = by (behind_front front text) refl
  where
    by : (o : Option (List ℕ)) → behind_front front text ≡ o → o ≡ None
    by None e = refl
    by (Some rest) e = absurd (lacks rest (front-of front text rest e))

-- ---- each name is that of a file

module _ (folder : List ℕ) (files : Files) where
  abbrev IsOfFile : List ℕ → Type 0
  IsOfFile name = HasFile files (path_in folder name)

  one_named : (path : List ℕ) (tail : List (List ℕ)) → HasFile files path → AllByRecursion IsOfFile tail → AllByRecursion IsOfFile (cons_option (name_in folder path) tail)
  one_named path tail has others = by (behind_front (folder ++ 47 ∷ []) path) refl
    where
      by : (o : Option (List ℕ)) → behind_front (folder ++ 47 ∷ []) path ≡ o → AllByRecursion IsOfFile (cons_option (option_and_then (λ name. cond (has_slash name) None (Some name)) o) tail)
      by None e = others
      by (Some name) e =
          let whole : path ≡ path_in folder name = front-of (folder ++ 47 ∷ []) path name e ∙ append_assoc folder (47 ∷ []) name in
          elim (has_slash name) as (λ b. AllByRecursion IsOfFile (cons_option (cond b None (Some name)) tail)) [ true ↦ others | false ↦ (subst (HasFile files) whole has, others) ]

  all_named : (rest : Files) → AllByRecursion (λ f. HasFile files f.0) rest → AllByRecursion IsOfFile (filter_map (λ f. name_in folder f.0) rest)
  all_named [] all = tt
  all_named (f ∷ rest) all = one_named f.0 (filter_map (λ g. name_in folder g.0) rest) all.0 (all_named rest all.1)

pub names_in-HasFile : (folder : List ℕ) (files : Files) → AllByRecursion (λ name. HasFile files (path_in folder name)) (names_in folder files)
names_in-HasFile folder files = All-inserted (λ name. HasFile files (path_in folder name)) text_cmp (filter_map (λ f. name_in folder f.0) files) [] tt (all_named folder files files (all_there files))

-- the same at a place
pub name-HasFile : (folder : List ℕ) (files : Files) (k : ℕ) (d : List ℕ) → k < length (names_in folder files) → HasFile files (path_in folder (slice_index_or (names_in folder files) k d))
name-HasFile folder files = All-from_recursion (λ name. HasFile files (path_in folder name)) (names_in folder files) (names_in-HasFile folder files)
