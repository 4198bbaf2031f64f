-- Words of private functions: room for what is put in place, and what it then is.
use Rattle.std.specs.Prelude.{◌≡◌, ℕ, ◌+◌, ◌≤◌, Bool, true, false, List, [], ◌∷◌, map, length}
use Rattle.std.specs.Ordering.{is_gt}
use Rattle.std.specs.Map.{lookup}
use Rattle.std.specs.Option.{option_or}
use Rattle.std.specs.BTreeMap.{is_at}
use Rattle.std.specs.BTreeSet.{insert_key}
use Rattle.std.specs.Vec.{vec_len, vec_capacity}
use Rattle.cov_text.specs.Listing.{same_text, text_cmp}
use Rattle.cov_model.specs.declared.sums.Key.{Key}
use Rattle.cov_model.specs.Sums.{file_order}
use Rattle.cov_book.specs.declared.scripts.Script.{Script}
use Rattle.cov_book.specs.declared.changed.ScriptChange.{ScriptChange}
use Rattle.cov_book.specs.declared.placing.Update.{Update}
use Rattle.cov_book.specs.Listed.{held_in, listed, of_url, urls_in, AreSorted}

abbrev pub IfNot : Type 0 → Type 0 → Type 0
IfNot p q = (p → ⊥) → q

abbrev pub changes_in : List Update → List ScriptChange
changes_in us = map (λ u. u.change) us

-- where functions are put in, there is room for them and for those that are held of their url
pub record HasRoom (scripts : List Script) (u : Update) : Type 0 where
  pub empty : u.room.items ≡ []
  pub len : vec_len u.room ≡ 0
  pub room : IfNot (u.change.functions.fresh.items ≡ []) (length (of_url u.change.url scripts) + length u.change.functions.fresh.items ≤ vec_capacity u.room)

-- the functions of a script came in the place of those of the same root and name, and other scripts stayed
pub record IsPutIn (s : Script) (old new : List Script) : Type 0 where
  pub order : AreSorted new
  pub held : (key : Key) → held_in new key ≡ option_or (lookup (is_at (file_order key)) (listed s)) (held_in old key)
  pub urls : urls_in new ≡ insert_key text_cmp (urls_in old) s.url
  pub others : (u : List ℕ) → same_text s.url u ≡ false → of_url u new ≡ of_url u old

-- the first of these scripts, if there is one, comes behind a url
abbrev pub begins_behind : List ℕ → List Script → Bool
begins_behind url [] = true
begins_behind url (s ∷ ss) = is_gt (text_cmp s.url url)
