-- Words of private functions: the least key of which a sum passes the limit.
use Rattle.std.specs.Prelude.{◌≡◌, Bool, true, List, Option, None, Some}
use Rattle.std.specs.Ordering.{is_lt}
use Rattle.std.specs.Map.{lookup}
use Rattle.std.specs.BTreeMap.{is_at}
use Rattle.cov_model.specs.declared.sums.Key.{Key}
use Rattle.cov_model.specs.Sums.{file_order}
use Rattle.cov_book.specs.declared.sums.Sums.{Sums}
use Rattle.cov_book.specs.Prepared.{IsWithin, ArePrepared}

-- the key comes before that one, if there is one
abbrev pub comes_before : Key → Option Key → Bool
comes_before key None = true
comes_before key (Some least) = is_lt (file_order key least)

abbrev pub IfWithin : Option Sums → Type 0
IfWithin None = Unit {0}
IfWithin (Some sums) = IsWithin sums

-- a sum of the key, if there is one, passes the limit
abbrev pub IsPastAt : List (Key × Sums) → Option Key → Type 0
IsPastAt all None = Unit {0}
IsPastAt all (Some key) = IfWithin (lookup (is_at (file_order key)) all) → ⊥

-- of the keys with a sum past the limit this is the least, or there is none
pub record IsLeastPast (all : List (Key × Sums)) (least : Option Key) : Type 0 where
  pub below : (q : Key) → comes_before q least ≡ true → IfWithin (lookup (is_at (file_order q)) all)
  pub past : IsPastAt all least

-- with what was changed, the sums of the keys that come before the least are those of all
pub record IsLeastSoFar (all : List (Key × Sums)) (functions : Key → Option Sums) (changed : List (Key × Sums)) (least : Option Key) : Type 0 where
  pub known : List (Key × Sums)
  pub prepared : ArePrepared known functions changed
  pub same : (q : Key) → comes_before q least ≡ true → lookup (is_at (file_order q)) all ≡ lookup (is_at (file_order q)) known
  pub past : IsPastAt all least

-- there are sums of which this is so
abbrev pub CanGoOn : (Key → Option Sums) → List (Key × Sums) → Option Key → Type 0
CanGoOn functions changed least = (all : List (Key × Sums)) × IsLeastSoFar all functions changed least
