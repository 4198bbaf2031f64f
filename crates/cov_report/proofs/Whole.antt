-- The files of a report are those that were gathered, by their paths.
use Rattle.std.proofs.Common.{◌≡◌, ℕ, suc, Bool, true, false, List, [], ◌∷◌, ◌++◌, map, refl, sym, ap, ◌∙◌, subst}
use Rattle.std.specs.Prelude.{cond, Option, None, Some, option_map, unwrap_or, filter, slice_get, is_some, ◌||◌}
use Rattle.std.specs.List.{AllByRecursion, list_any}
use Rattle.std.specs.Map.{keys_of, lookup}
use Rattle.std.specs.BTreeMap.{BTreeMap, get, is_at, IsOrdered}
use Rattle.std.specs.BTreeSet.{BTreeSet}
use Rattle.std.specs.List.Sorted.{IsStrictlySortedBy}
use Rattle.std.proofs.lemmas.Map.Entries.{btree_map_get_place}
use Rattle.std.proofs.lemmas.Map.Lookups.{btree_set_from_contains}
use Rattle.std.proofs.lemmas.Map.Made.{is_some-lookup}
use Rattle.cov_text.specs.Listing.{first_of, same_text, text_cmp, in_order}
use Rattle.cov_io.specs.Told.{Files}
use Rattle.cov_model.specs.declared.snapshot.Snapshot.{Snapshot}
use Rattle.cov_model.specs.File.{scripts}
use Rattle.source_maps.specs.Entries.{Said}
use Rattle.cov_report.specs.declared.answer.Report.{Report}
use Rattle.cov_book.proofs.Ordered.{text_total, text_exact, in_order-sorted, any-in_order}
use Rattle.istanbul_json.specs.declared.file.FileParts.{FileParts}
use Rattle.istanbul_json.specs.Gives.{ArePathsInOrder}
use Rattle.istanbul_rules.specs.File.{file_coverage}
use Rattle.cov_report.specs.declared.gathering.Gathered.{Gathered}
use Rattle.cov_report.specs.SoFar.{SoFar}
use Rattle.cov_report.specs.Wanted.{Asked, asked}
use Rattle.cov_report.specs.Report.{Placed, outcomes, parts_in, skips_in, parts_at, first_text, file_at, files_by_path, report, report_of_asked}
use Rattle.cov_report.specs.Gathering.{Gathers, with_parts, so_far, coverage_at}
use Rattle.cov_report.proofs.Outcomes.{at-same, same-is, is-same, part_text, part_text-is}

-- ---- lists in order

-- rising lists of the same elements are one
rising-same : (xs ys : List (List ℕ)) → IsStrictlySortedBy text_cmp xs → IsStrictlySortedBy text_cmp ys
    → ((q : List ℕ) → list_any (is_at (text_cmp q)) xs ≡ list_any (is_at (text_cmp q)) ys) → xs ≡ ys
rising-same xs ys up also has =
    let s : BTreeSet (List ℕ) = record { keys = xs } in
    let t : BTreeSet (List ℕ) = record { keys = ys } in
    btree_set_from_contains text_total s t up also has text_exact

in_order-rising : (xs : List (List ℕ)) → IsStrictlySortedBy text_cmp xs → in_order text_cmp xs ≡ xs
in_order-rising xs up = rising-same (in_order text_cmp xs) xs (in_order-sorted text_cmp text_total xs) up (λ q. any-in_order text_cmp text_exact (is_at (text_cmp q)) xs)

-- ---- the paths of entries

paths-are : (entries : List (List ℕ × SoFar)) → map (λ (f : FileParts). f.path) (map coverage_at entries) ≡ keys_of entries
unfolding file_coverage
paths-are [] = refl
paths-are (e ∷ es) = ap (λ ks. e.0 ∷ ks) (paths-are es)

pub paths-in-order : (m : BTreeMap (List ℕ) SoFar) → IsOrdered text_cmp m → ArePathsInOrder (map coverage_at m.entries)
paths-in-order m up = ap (in_order text_cmp) (paths-are m.entries) ∙ in_order-rising (keys_of m.entries) up ∙ sym (paths-are m.entries)

-- ---- entries by their keys

all-found : {A : Type 0} (P : A → Type 0) (xs : List A) → ((i : ℕ) (x : A) → slice_get xs i ≡ Some x → P x) → AllByRecursion P xs
all-found P [] h = tt
all-found P (x ∷ xs) h = (h 0 x refl, all-found P xs (λ i. h (suc i)))

found-in : (m : BTreeMap (List ℕ) SoFar) → IsOrdered text_cmp m → AllByRecursion (λ e. get text_cmp m e.0 ≡ Some e.1) m.entries
found-in m up = all-found (λ e. get text_cmp m e.0 ≡ Some e.1) m.entries (λ i e is. btree_map_get_place text_total m i e.0 e.1 up is)

module _ (files : Files) (wanted : List Asked) where
  text-there : (path : List ℕ) → part_text files path (parts_in (outcomes files [] wanted)) ≡ first_text files path wanted
  text-there path = part_text-is files path [] wanted refl

  one : (path : List ℕ) (file : SoFar) → so_far files wanted path ≡ Some file → coverage_at (path, file) ≡ file_at (parts_in (outcomes files [] wanted)) path
  one path file e = by (first_text files path wanted) refl e
    where
      by : (t : Option (List ℕ)) → first_text files path wanted ≡ t → option_map (with_parts (parts_in (outcomes files [] wanted)) path) t ≡ Some file
          → coverage_at (path, file) ≡ file_at (parts_in (outcomes files [] wanted)) path
      by None is h = absurd cc
      by (Some text) is h =
          let same : file ≡ with_parts (parts_in (outcomes files [] wanted)) path text = cc in
          ap (λ (f : SoFar). file_coverage path f.text f.parts) same
          ∙ ap (λ o. file_coverage path (unwrap_or o []) (map (λ (p : Placed). p.part) (parts_at path (parts_in (outcomes files [] wanted))))) (sym (text-there path ∙ is))

  each : (entries : List (List ℕ × SoFar)) → AllByRecursion (λ e. so_far files wanted e.0 ≡ Some e.1) entries
      → map coverage_at entries ≡ map (file_at (parts_in (outcomes files [] wanted))) (keys_of entries)
  each [] all = refl
  each (e ∷ es) all =
      ap (λ f. f ∷ map coverage_at es) (one e.0 e.1 all.0) ∙ ap (λ fs. file_at (parts_in (outcomes files [] wanted)) e.0 ∷ fs) (each es all.1)

  -- ---- the paths

  same-flip : (a b : List ℕ) → is_at (text_cmp a) b ≡ same_text b a
  same-flip a b = at-same a b ∙ flip (same_text a b) refl (same_text b a) refl
    where
      flip : (x : Bool) → same_text a b ≡ x → (y : Bool) → same_text b a ≡ y → x ≡ y
      flip true p true q = refl
      flip true p false q = sym (is-same b a (sym (same-is a b p))) ∙ q
      flip false p true q = sym p ∙ is-same a b (sym (same-is b a q))
      flip false p false q = refl

  has-path : (q : List ℕ) (placed : List Placed) → is_some (part_text files q placed) ≡ list_any (is_at (text_cmp q)) (map (λ (p : Placed). p.path) placed)
  has-path q [] = refl
  has-path q (p ∷ rest) = by (same_text p.path q) refl (has-path q rest)
    where
      by : (b : Bool) → same_text p.path q ≡ b → is_some (part_text files q rest) ≡ list_any (is_at (text_cmp q)) (map (λ (x : Placed). x.path) rest)
          → is_some (part_text files q (p ∷ rest)) ≡ (is_at (text_cmp q) p.path || list_any (is_at (text_cmp q)) (map (λ (x : Placed). x.path) rest))
      by true e next = rw e (ap (λ b. b || list_any (is_at (text_cmp q)) (map (λ (x : Placed). x.path) rest)) (sym (same-flip q p.path ∙ e)))
      by false e next = rw e (next ∙ ap (λ b. b || list_any (is_at (text_cmp q)) (map (λ (x : Placed). x.path) rest)) (sym (same-flip q p.path ∙ e)))

  is_some-map : {A B : Type 0} (f : A → B) (o : Option A) → is_some (option_map f o) ≡ is_some o
  is_some-map f None = refl
  is_some-map f (Some x) = refl

  keys-are : (g : Gathered) → Gathers files wanted g → IsOrdered text_cmp g.files → keys_of g.files.entries ≡ in_order text_cmp (map (λ (p : Placed). p.path) (parts_in (outcomes files [] wanted)))
  keys-are g holds up =
      let paths : List (List ℕ) = map (λ (p : Placed). p.path) (parts_in (outcomes files [] wanted)) in
      rising-same (keys_of g.files.entries) (in_order text_cmp paths) up (in_order-sorted text_cmp text_total paths)
      (λ q.
      sym (is_some-lookup (is_at (text_cmp q)) g.files.entries) ∙ ap is_some (holds.at q)
      ∙ is_some-map (with_parts (parts_in (outcomes files [] wanted)) q) (first_text files q wanted)
      ∙ ap is_some (sym (text-there q)) ∙ has-path q (parts_in (outcomes files [] wanted))
      ∙ sym (any-in_order text_cmp text_exact (is_at (text_cmp q)) paths))

  moved : (g : Gathered) → Gathers files wanted g → (entries : List (List ℕ × SoFar)) → AllByRecursion (λ e. get text_cmp g.files e.0 ≡ Some e.1) entries → AllByRecursion (λ e. so_far files wanted e.0 ≡ Some e.1) entries
  moved g holds [] all = tt
  moved g holds (e ∷ es) all = (sym (holds.at e.0) ∙ all.0, moved g holds es all.1)

  pub files-are : (g : Gathered) → Gathers files wanted g → IsOrdered text_cmp g.files → map coverage_at g.files.entries ≡ files_by_path (parts_in (outcomes files [] wanted))
  files-are g holds up =
      each g.files.entries (moved g holds g.files.entries (found-in g.files up))
      ∙ ap (map (file_at (parts_in (outcomes files [] wanted)))) (keys-are g holds up)

-- ---- the report

pub Gathers-start : (files : Files) (g : Gathered) → g.files.entries ≡ [] → g.skips ≡ [] → Gathers files [] g
unfolding outcomes
Gathers-start files g empty none = record { at = λ path. ap (lookup (is_at (text_cmp path))) empty; skips = none }

pub report-is : (files : Files) (held : List Snapshot) (found : Snapshot) (entries : List Said) (g : Gathered) (list : List FileParts) → found ≡ scripts held
    → Gathers files (asked found entries) g → IsOrdered text_cmp g.files → list ≡ map coverage_at g.files.entries
    → ◌≡◌ {A = Report} (record { files = list; skips = g.skips }) (report held entries files)
unfolding report
report-is files held found entries g list is holds up made =
    let all : asked found entries ≡ asked (scripts held) entries = ap (λ s. asked s entries) is in
    ap (λ fs. record { files = fs; skips = g.skips }) (made ∙ files-are files (asked found entries) g holds up)
    ∙ ap (λ s. record { files = files_by_path (parts_in (outcomes files [] (asked found entries))); skips = s }) holds.skips
    ∙ ap (report_of_asked files) all
