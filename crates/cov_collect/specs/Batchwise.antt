-- What texts come to that are taken batch after batch.
use Rattle.std.specs.Prelude.{◌≡◌, ◌+◌, ◌-◌, ◌<◌, ◌||◌, ℕ, Bool, true, false, List, [], ◌∷◌, ◌++◌, nat_le, nat_eq}
use Rattle.std.specs.Prelude.{length, map, take, flat_map, filter_map, slice_get, sum_by, Ok, Err}
use Rattle.std.specs.List.{AllByRecursion, list_any}
use Rattle.cov_model.specs.declared.snapshot.Snapshot.{Snapshot}
use Rattle.cov_model.specs.declared.sums.Answer.{Answer}
use Rattle.cov_model.specs.Outcome.{Reading, IsOutcome, IsOrder, outcome_list, accepted_over, answers_over}
use Rattle.cov_model.specs.Sums.{fits}
use Rattle.cov_book.specs.Laws.{ComeToOne}
use Rattle.cov_book.specs.Stands.{StandsFor}
use Rattle.cov_collect.specs.declared.outcome.Collected.{Collected}
use Rattle.cov_collect.specs.Batches.{StaysRefused}
use Rattle.cov_collect.specs.Collecting.{Collecting}
use Rattle.cov_collect.specs.Shelves.{readings_of}

-- ---- batches

-- a batch is full at 256 texts, or where it holds 33,554,432 bytes or more
abbrev pub is_full : List (List ℕ) → Bool
is_full texts = nat_le 256 (length texts) || nat_le 33554432 (sum_by length texts)

-- a batch has a text, and isn't full without its last one
pub record IsBatchOf (texts : List (List ℕ)) : Type 0 where
  pub some : 0 < length texts
  pub ends : is_full (take (length texts - 1) texts) ≡ false

-- the batches one behind the other
abbrev pub joined : List (List (List ℕ)) → List (List ℕ)
joined batches = flat_map (λ batch. batch) batches

-- The texts are cut into batches: each ends as soon as it is full, and the last one at the latest where the texts end.
pub record IsCut (texts : List (List ℕ)) (batches : List (List (List ℕ))) : Type 0 where
  pub whole : joined batches ≡ texts
  pub each : AllByRecursion IsBatchOf batches
  pub full : AllByRecursion (λ batch. is_full batch ≡ true) (take (length batches - 1) batches)

-- ---- orders

-- every place below n, each once
pub record IsWholeOrder (n : ℕ) (order : List ℕ) : Type 0 where
  pub order_is : IsOrder n order
  pub every : (place : ℕ) → place < n → list_any (nat_eq place) order ≡ true

-- one order for each batch of so many texts, of all its places
abbrev pub AreWholeOrders : List ℕ → List (List ℕ) → Type 0
AreWholeOrders [] [] = Unit {0}
AreWholeOrders [] (order ∷ orders) = ⊥
AreWholeOrders (size ∷ sizes) [] = ⊥
AreWholeOrders (size ∷ sizes) (order ∷ orders) = IsWholeOrder size order × AreWholeOrders sizes orders

-- the orders one behind the other, with their places counted through all batches, from this place on
abbrev pub through : ℕ → List ℕ → List (List ℕ) → List ℕ
through n [] orders = []
through n (size ∷ sizes) [] = []
through n (size ∷ sizes) (order ∷ orders) = map (λ place. n + place) order ++ through (n + size) sizes orders

-- ---- outcomes

-- the snapshot that a reading is, if it is one
abbrev pub own : Reading → List Snapshot
own (Ok snapshot) = snapshot ∷ []
own (Err fault) = []

-- the snapshots among the readings
abbrev pub snapshots_in : List Reading → List Snapshot
snapshots_in [] = []
snapshots_in (reading ∷ readings) = own reading ++ snapshots_in readings

-- Where all snapshots fit together, the order is nothing: the answers are those of taking the readings as they stand, and what
-- was taken comes to one file with what is then taken.
abbrev pub FitsInAnyOrder : List Reading → List ℕ → List Answer → Type 0
FitsInAnyOrder readings order answers =
    fits (snapshots_in readings) ≡ true
    → (answers ≡ answers_over [] readings) × ComeToOne (outcome_list [] readings order) (accepted_over [] readings)

-- The order has every place once, and is the orders of batches of these sizes one behind the other. The answers, one a
-- reading, are those of the rule in this order. What was refused for the limit would pass it still with all that was taken.
pub record IsBatchwise (readings : List Reading) (sizes : List ℕ) (order : List ℕ) (answers : List Answer) : Type 0 where
  pub orders : List (List ℕ)
  pub each : AreWholeOrders sizes orders
  pub order_is : order ≡ through 0 sizes orders
  pub whole : IsWholeOrder (length readings) order
  pub answered : length answers ≡ length readings
  pub outcome : IsOutcome [] readings order (filter_map (slice_get answers) order)
  pub stays : StaysRefused (outcome_list [] readings order) readings answers
  pub fitting : FitsInAnyOrder readings order answers

-- These batches were taken one after the other: in some order, of whose list the book has the sums.
pub record HasTaken (batches : List (List (List ℕ))) (c : Collected) : Type 0 where
  pub order : List ℕ
  pub outcome : IsBatchwise (readings_of (joined batches)) (map length batches) order c.answers
  pub book : StandsFor c.book (outcome_list [] (readings_of (joined batches)) order)

-- All of these texts were taken.
pub record HasTakenAll (texts : List (List ℕ)) (c : Collected) : Type 0 where
  pub batches : List (List (List ℕ))
  pub cut : IsCut texts batches
  pub taken : HasTaken batches c

-- Of these texts the first ones were taken, in full batches, and the last ones wait, which are none yet.
pub record Collects (texts : List (List ℕ)) (c : Collecting) : Type 0 where
  pub batches : List (List (List ℕ))
  pub whole : joined batches ++ c.waiting ≡ texts
  pub each : AllByRecursion IsBatchOf batches
  pub full : AllByRecursion (λ batch. is_full batch ≡ true) batches
  pub taken : HasTaken batches (record { book = c.book; answers = c.answers })
  pub few : is_full c.waiting ≡ false
  pub fewer : is_full (take (length c.waiting - 1) c.waiting) ≡ false
