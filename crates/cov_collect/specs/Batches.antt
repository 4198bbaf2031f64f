-- What a batch comes to.
use Rattle.std.specs.Prelude.{◌≡◌, ◌<◌, ℕ, List, [], ◌∷◌, ◌++◌, length, true, false, nat_eq}
use Rattle.std.specs.Prelude.{Option, Some, Ok, is_some, slice_get, filter_map}
use Rattle.std.specs.List.{list_any}
use Rattle.cov_model.specs.declared.snapshot.Snapshot.{Snapshot}
use Rattle.cov_model.specs.declared.sums.Answer.{Answer}
use Rattle.cov_model.specs.declared.sums.Answer.TheVariants.{Past}
use Rattle.cov_model.specs.declared.sums.SumFault.{SumFault}
use Rattle.cov_model.specs.Sums.{fits}
use Rattle.cov_model.specs.Outcome.{Reading, IsOutcome, IsOrder, outcome_list}
use Rattle.cov_book.specs.Stands.{StandsFor}
use Rattle.cov_collect.specs.Shelves.{readings_of, answer_at}
use Rattle.cov_collect.specs.declared.outcome.Batch.{Batch}

-- A snapshot that is answered `Past` would still pass the limit with what is held in the end.
abbrev pub StaysRefused : List Snapshot → List Reading → List Answer → Type 0
StaysRefused held readings answers =
    (place : ℕ) (snapshot : Snapshot) (fault : SumFault)
    → slice_get readings place ≡ Some (Ok snapshot) → slice_get answers place ≡ Some (Past fault)
    → fits (held ++ snapshot ∷ []) ≡ false

-- Every place has one answer and stands in the order once. The order and the answers are an outcome over the base list,
-- and the book stands for the base list with what was taken.
pub record IsBatch (base : List Snapshot) (texts : List (List ℕ)) (batch : Batch) : Type 0 where
  pub answered : length batch.answers ≡ length texts
  pub order : IsOrder (length texts) batch.order
  pub every : (place : ℕ) → place < length texts → list_any (nat_eq place) batch.order ≡ true
  pub outcome : IsOutcome base (readings_of texts) batch.order (filter_map (slice_get batch.answers) batch.order)
  pub book : StandsFor batch.book (outcome_list base (readings_of texts) batch.order)
  pub stays : StaysRefused (outcome_list base (readings_of texts) batch.order) (readings_of texts) batch.answers

abbrev pub IsAnswered : List (Option Answer) → ℕ → Type 0
IsAnswered answers place = is_some (answer_at answers place) ≡ true

-- the places below n have an answer
abbrev pub AllAnswered : List (Option Answer) → ℕ → Type 0
AllAnswered answers n = (place : ℕ) → place < n → IsAnswered answers place

-- each place that has an answer keeps one
abbrev pub KeepsAnswered : List (Option Answer) → List (Option Answer) → Type 0
KeepsAnswered before later = (place : ℕ) → IsAnswered before place → IsAnswered later place
