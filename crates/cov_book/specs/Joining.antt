-- Words of private functions: two lists of functions that are walked together, from their ends.
use Rattle.std.specs.Prelude.{◌≡◌, ℕ, suc, ◌+◌, ◌-◌, ◌≤◌, ◌++◌, List, ◌∷◌, length, slice_get, Option, None, Some}
use Rattle.std.specs.declared.cmp.Ordering.{Ordering}
use Rattle.std.specs.declared.cmp.Ordering.TheVariants.{Less, Greater}
use Rattle.std.specs.Map.{lookup}
use Rattle.std.specs.Option.{option_or}
use Rattle.std.specs.BTreeMap.{is_at}
use Rattle.cov_model.specs.declared.sums.Key.{Key}
use Rattle.cov_model.specs.Sums.{file_order}
use Rattle.cov_book.specs.declared.sums.Sums.{Sums}
use Rattle.cov_book.specs.declared.scripts.Function.{Function}
use Rattle.cov_book.specs.Listed.{AreInOrder, bare_key, own_list}

abbrev pub last_of : List Function → Option Function
last_of fs = slice_get fs (length fs - 1)

-- how two lists end: one without an end comes before all
abbrev pub by_lasts : Option Function → Option Function → Ordering
by_lasts None other = Less
by_lasts (Some f) None = Greater
by_lasts (Some f) (Some g) = file_order (bare_key f) (bare_key g)

-- what is left of both lists stands in order before what was taken from them
pub record AreJoined (old new taken : List Function) : Type 0 where
  pub held : AreInOrder (old ++ taken)
  pub fresh : AreInOrder (new ++ taken)

-- the sums of a key in two lists, of which the first comes before the second
abbrev pub either : List ℕ → List Function → List Function → Key → Option Sums
either url new old key = option_or (lookup (is_at (file_order key)) (own_list url new)) (lookup (is_at (file_order key)) (own_list url old))

-- A function was taken from the ends of two lists, which then are these. With those taken before it tells the same sums.
pub record IsTaken (old new : List Function) (f : Function) (rest others : List Function) : Type 0 where
  pub fewer : suc (length rest + length others) ≤ length old + length new
  pub order : (taken : List Function) → AreJoined old new taken → AreJoined rest others (f ∷ taken)
  pub found : (taken : List Function) → AreJoined old new taken → (url : List ℕ) (key : Key) → either url (others ++ f ∷ taken) (rest ++ f ∷ taken) key ≡ either url (new ++ taken) (old ++ taken) key
