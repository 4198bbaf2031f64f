-- Words of private functions: scripts and their functions as one list of sums by keys.
use Rattle.std.specs.Prelude.{◌≡◌, ℕ, ◌≤◌, Bool, true, false, if◌then◌else◌, List, [], ◌∷◌, map, flat_map, length, take, drop, Option, None, Some}
use Rattle.std.specs.List.{AllByRecursion}
use Rattle.std.specs.List.Sorted.{IsStrictlySortedBy}
use Rattle.std.specs.Ordering.{is_lt}
use Rattle.std.specs.Map.{keys_of, lookup}
use Rattle.std.specs.BTreeMap.{is_at}
use Rattle.cov_text.specs.Listing.{same_text, text_cmp}
use Rattle.cov_model.specs.declared.sums.Key.{Key}
use Rattle.cov_model.specs.Sums.{file_order, same_key}
use Rattle.cov_book.specs.declared.sums.Sums.{Sums}
use Rattle.cov_book.specs.declared.scripts.Function.{Function}
use Rattle.cov_book.specs.declared.scripts.Script.{Script}
use Rattle.cov_book.specs.Told.{named}
use Rattle.cov_model.specs.declared.report.ListForm.{ListForm}
use Rattle.cov_model.specs.declared.snapshot.Entry.{Entry}
use Rattle.cov_book.specs.Prepared.{told_report}
use Rattle.cov_book.specs.Least.{IsLeastSoFar}

-- the functions of a url, by their keys
abbrev pub own : List ℕ → Function → Key × Sums
own url f = (named url f.start f.end f.name, f.sums)

abbrev pub own_list : List ℕ → List Function → List (Key × Sums)
own_list url fs = map (own url) fs

-- functions by keys of no url
abbrev pub bare : List Function → List (Key × Sums)
bare fs = own_list [] fs

abbrev pub bare_key : Function → Key
bare_key f = named [] f.start f.end f.name

-- functions by start rising, end falling and name, each once
abbrev pub AreInOrder : List Function → Type 0
AreInOrder fs = IsStrictlySortedBy file_order (keys_of (bare fs))

abbrev pub listed : Script → List (Key × Sums)
listed s = own_list s.url s.functions

abbrev pub all_listed : List Script → List (Key × Sums)
all_listed scripts = flat_map listed scripts

-- a script as it is told
abbrev pub told_script : ListForm → Script → Entry
told_script form s = record { url = s.url; functions = map (λ f. told_report form (own s.url f)) s.functions }

abbrev pub urls_in : List Script → List (List ℕ)
urls_in scripts = map (λ s. s.url) scripts

-- scripts by urls, each once, and their functions in order
pub record AreSorted (scripts : List Script) : Type 0 where
  pub urls : IsStrictlySortedBy text_cmp (urls_in scripts)
  pub functions : AllByRecursion (λ s. AreInOrder s.functions) scripts

-- ---- searches

-- of the list those before a place pass the test, and those from it on fail it
pub record IsPlace {A : Type 0} (test : A → Bool) (xs : List A) (i : ℕ) : Type 0 where
  pub front : AllByRecursion (λ x. test x ≡ true) (take i xs)
  pub back : AllByRecursion (λ x. test x ≡ false) (drop i xs)
  pub within : i ≤ length xs

-- the script comes before a url, and the function before a key
abbrev pub is_front : List ℕ → Script → Bool
is_front url s = is_lt (text_cmp s.url url)

abbrev pub comes_first : Key → Function → Bool
comes_first key f = is_lt (file_order (bare_key f) key)

-- what stands at the place of a key
abbrev pub hit : Key → Option Function → Option Sums
hit k None = None
hit k (Some f) = if same_key k (bare_key f) then Some f.sums else None

-- the script there is that of a url
abbrev pub is_there : List ℕ → Option Script → Bool
is_there url None = false
is_there url (Some s) = same_text s.url url

-- the functions of a url
abbrev pub of_url : List ℕ → List Script → List Function
of_url url [] = []
of_url url (s ∷ scripts) = if same_text s.url url then s.functions else of_url url scripts

-- ---- sums so far

-- the sums that scripts hold
abbrev pub held_in : List Script → Key → Option Sums
held_in scripts key = lookup (is_at (file_order key)) (all_listed scripts)

-- what is held of a url's functions is what these have
abbrev pub Knows : List ℕ → List Function → (Key → Option Sums) → Type 0
Knows url own functions = (key : Key) → key.url ≡ url → functions key ≡ lookup (is_at (file_order key)) (own_list url own)

-- with the changed functions of a url, there are sums that an addition can go on with
abbrev pub CanGoOnIn : List ℕ → List Function → List Function → Option Key → Type 0
CanGoOnIn url own changed least = (all : List (Key × Sums)) × (functions : Key → Option Sums) × Knows url own functions × IsLeastSoFar all functions (own_list url changed) least
