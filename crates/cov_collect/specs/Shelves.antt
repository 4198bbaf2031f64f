-- What a shelf keeps at each moment that its lock is free.
use Rattle.std.specs.Prelude.{◌≡◌, ℕ, List, map, length, Option, None, is_some, unwrap_or, slice_get, filter_map, nat_eq}
use Rattle.std.specs.List.{list_any}
use Rattle.cov_model.specs.declared.snapshot.Snapshot.{Snapshot}
use Rattle.cov_model.specs.declared.sums.Answer.{Answer}
use Rattle.cov_model.specs.Outcome.{Reading, IsOutcome, IsOrder, outcome_list}
use Rattle.cov_model.specs.Reading.{reading}
use Rattle.cov_model.specs.Held.{Held}
use Rattle.cov_book.specs.Stands.{StandsFor}
use Rattle.cov_collect.specs.Shelved.{Shelved}

-- the readings of texts
abbrev pub readings_of : List (List ℕ) → List Reading
readings_of texts = map reading texts

-- the answer of a place, if it has one
abbrev pub answer_at : List (Option Answer) → ℕ → Option Answer
answer_at answers place = unwrap_or (slice_get answers place) None

-- the answers of the places of an order
abbrev pub answers_in : List (Option Answer) → List ℕ → List Answer
answers_in answers order = filter_map (answer_at answers) order

-- the answers that were given, in the order of their places
abbrev pub given_of : List (Option Answer) → List Answer
given_of answers = filter_map (λ answer. answer) answers

-- The order and the answers are an outcome over the base list, and the book stands for the base list with what was taken.
pub record Tells (base : List Snapshot) (texts : List (List ℕ)) (shelf : Shelved) : Type 0 where
  pub outcome : IsOutcome base (readings_of texts) shelf.order (answers_in shelf.answers shelf.order)
  pub book : StandsFor shelf.book (outcome_list base (readings_of texts) shelf.order)

-- Each text has a place. The order has each answered place once, and no other. Whatever list the base stands for, the shelf
-- tells an outcome over it.
pub record IsShelf (base : Held) (texts : List (List ℕ)) (shelf : Shelved) : Type 0 where
  pub places : length shelf.answers ≡ length texts
  pub order : IsOrder (length texts) shelf.order
  pub answered : (place : ℕ) → list_any (nat_eq place) shelf.order ≡ is_some (answer_at shelf.answers place)
  pub tells : (held : List Snapshot) → StandsFor base held → Tells held texts shelf
