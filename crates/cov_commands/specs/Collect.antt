-- What `collect` owes: its texts are taken by workers, batch after batch, in any order.
use Rattle.std.specs.Prelude.{◌≡◌, ℕ, true, List, [], map, take, length, Ok}
use Rattle.std.specs.List.{list_any}
use Rattle.cov_model.specs.declared.sums.Answer.{Answer}
use Rattle.cov_model.specs.declared.snapshot.Snapshot.{Snapshot}
use Rattle.cov_model.specs.File.{file}
use Rattle.cov_model.specs.Outcome.{outcome_list}
use Rattle.cov_model.specs.Sums.{fits}
use Rattle.cov_io.specs.Told.{Files, names_in}
use Rattle.cov_collect.specs.Batchwise.{IsBatchwise, IsCut, snapshots_in}
use Rattle.cov_words.specs.declared.command.Collect.{Collect}
use Rattle.cov_commands.specs.declared.ended.Ended.TheVariants.{Done}
use Rattle.cov_commands.specs.Due.{FolderIsMissing, merge_due, paths_of, readings, refused_or_done, text_at, text_paths}
use Rattle.cov_commands.specs.Lines.{answer_lines, is_refusal}
use Rattle.cov_commands.specs.Owed.{Owed, Duty}
use Rattle.cov_commands.specs.Stores.{StoreAt}
use Rattle.cov_commands.specs.Tool.{IsPlainEnd, Reader, Stays, reading_duty}

-- the texts among these names of a folder as they are read: the first 134,217,729 bytes of each
abbrev pub texts_of : List ℕ → Files → List (List ℕ) → List (List ℕ)
texts_of folder files names = map (λ path. take 134217729 (text_at files path)) (paths_of folder names)

abbrev pub texts_in : List ℕ → Files → List (List ℕ)
texts_in folder files = texts_of folder files (names_in folder files)

-- The texts were taken in some order, which has every place once: those of each batch before those of the next. The output
-- gets the one normal file of those that were taken in this order, and the error sink the lines of the refused ones, with
-- their answers in it, in the order of the texts.
pub record OwesCollect (folder : List ℕ) (files : Files) (owed : Owed) : Type 0 where
  pub batches : List (List (List ℕ))
  pub cut : IsCut (texts_in folder files) batches
  pub order : List ℕ
  pub answers : List Answer
  pub outcome : IsBatchwise (readings folder files) (map length batches) order answers
  pub out : owed.out ≡ file (outcome_list [] (readings folder files) order)
  pub err : owed.err ≡ answer_lines (text_paths folder files) answers
  pub ended : owed.ended ≡ refused_or_done (list_any is_refusal answers)
  -- Where the texts that are snapshots all fit together, the order is nothing, and it owes what `merge` owes.
  pub fitting : fits (snapshots_in (readings folder files)) ≡ true → owed ≡ merge_due folder files
  -- Where, besides, each text is a snapshot, it owes to be done.
  pub done : (snapshots : List Snapshot) → readings folder files ≡ map Ok snapshots → fits snapshots ≡ true → owed.ended ≡ Done

abbrev pub collect_reader : List ℕ → Reader
collect_reader folder = record {
  due = OwesCollect folder;
  ends = IsPlainEnd;
  absent = λ files folders. FolderIsMissing folders folder;
  counts = Stays;
}

abbrev pub collect_duty : {S : Type 0} → Collect → Duty (StoreAt S)
collect_duty collect = reading_duty (collect_reader collect.folder)
