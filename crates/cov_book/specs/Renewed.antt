-- Words of private functions: functions with new sums, and what an addition would change of scripts.
use Rattle.std.specs.Prelude.{◌≡◌, ℕ, zero, suc, ◌++◌, Bool, true, false, List, [], ◌∷◌, map, slice_get, is_some, Option, None, Some}
use Rattle.std.specs.List.{AllByRecursion}
use Rattle.std.specs.List.Sorted.{IsStrictlySortedBy}
use Rattle.std.specs.Ordering.{is_lt}
use Rattle.std.specs.Map.{lookup}
use Rattle.std.specs.BTreeMap.{insert_entry, is_at}
use Rattle.cov_text.specs.Listing.{same_text, text_cmp}
use Rattle.cov_model.specs.declared.sums.Key.{Key}
use Rattle.cov_model.specs.Sums.{file_order}
use Rattle.cov_book.specs.declared.sums.Sums.{Sums}
use Rattle.cov_book.specs.declared.scripts.Function.{Function}
use Rattle.cov_book.specs.declared.scripts.Script.{Script}
use Rattle.cov_book.specs.declared.changed.FunctionChanges.{FunctionChanges}
use Rattle.cov_book.specs.declared.changed.ScriptChange.{ScriptChange}
use Rattle.cov_book.specs.Listed.{AreInOrder, IsPlace, bare, comes_first, hit, of_url}

-- ---- functions with new sums

abbrev pub renewed_one : Function → Option Sums → Function
renewed_one f None = f
renewed_one f (Some sums) = record { start = f.start; end = f.end; name = f.name; sums = sums }

abbrev pub renewed : List Function → List (Option Sums) → List Function
renewed [] again = []
renewed (f ∷ fs) [] = f ∷ fs
renewed (f ∷ fs) (sums ∷ again) = renewed_one f sums ∷ renewed fs again

abbrev pub renewed_at : List Function → ℕ → Option Sums → List Function
renewed_at [] at sums = []
renewed_at (f ∷ fs) zero sums = renewed_one f sums ∷ fs
renewed_at (f ∷ fs) (suc at) sums = f ∷ renewed_at fs at sums

abbrev pub new_at : List (Option Sums) → ℕ → Option Sums
new_at [] at = None
new_at (sums ∷ again) zero = sums
new_at (sums ∷ again) (suc at) = new_at again at

-- the functions as they would be, those that aren't held behind those that are
abbrev pub made : List Function → FunctionChanges → List Function
made held changes = renewed held changes.again.items ++ changes.fresh.items

-- ---- scripts as they would be

abbrev pub changed_script : List Script → ScriptChange → Script
changed_script scripts change = record { url = change.url; functions = made (of_url change.url scripts) change.functions }

abbrev pub changed_scripts : List Script → List ScriptChange → List Script
changed_scripts scripts changes = map (changed_script scripts) changes

abbrev pub changed_urls : List ScriptChange → List (List ℕ)
changed_urls changes = map (λ change. change.url) changes

-- changes by urls, each once, and the functions that they put in in order
pub record AreChanged (changes : List ScriptChange) : Type 0 where
  pub urls : IsStrictlySortedBy text_cmp (changed_urls changes)
  pub fresh : AllByRecursion (λ change. AreInOrder change.functions.fresh.items) changes

-- ---- searches

abbrev pub change_before : List ℕ → ScriptChange → Bool
change_before url change = is_lt (text_cmp change.url url)

abbrev pub is_changed : List ℕ → Option ScriptChange → Bool
is_changed url None = false
is_changed url (Some change) = same_text change.url url

-- a key stands at this place among functions, or nowhere
abbrev pub IsFoundAt : Key → List Function → Option ℕ → Type 0
IsFoundAt key fs None = lookup (is_at (file_order key)) (bare fs) ≡ None
IsFoundAt key fs (Some at) = (is_some (hit key (slice_get fs at)) ≡ true) × IsPlace (comes_first key) fs at

-- the sums of a key were put at its place, or among those that aren't held
abbrev pub IsPut : Option ℕ → Key → Sums → FunctionChanges → FunctionChanges → Type 0
IsPut None key sums old new = (new.again.items ≡ old.again.items) × (bare new.fresh.items ≡ insert_entry file_order (bare old.fresh.items) key sums)
IsPut (Some at) key sums old new = ((fs : List Function) → renewed fs new.again.items ≡ renewed_at (renewed fs old.again.items) at (Some sums)) × (new.fresh.items ≡ old.fresh.items)
