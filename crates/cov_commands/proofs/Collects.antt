-- The texts of a folder, handed to workers.
use Rattle.std.proofs.Common.{◌≡◌, ℕ, true, false, List, [], ◌∷◌, ◌++◌, length, map, take, refl, sym, ap, ap₂, ◌∙◌, subst, inl, inr, append_assoc}
use Rattle.std.specs.Prelude.{◌⊎◌, Option, None, Some, Result, Ok, option_map, unwrap_or, string_bytes}
use Rattle.std.specs.List.{list_any}
use Rattle.std.proofs.lemmas.List.{append-nil, map-append}
use Rattle.cov_model.specs.declared.snapshot.Snapshot.{Snapshot}
use Rattle.cov_model.specs.declared.sums.Answer.{Answer}
use Rattle.cov_model.specs.File.{file}
use Rattle.cov_model.specs.Outcome.{Reading, answers, outcome_list}
use Rattle.cov_model.specs.Reading.{reading}
use Rattle.cov_model.specs.Sums.{fits}
use Rattle.cov_io.specs.Told.{Files, bytes_at, names_in, path_in}
use Rattle.cov_book.specs.Stands.{StandsFor}
use Rattle.cov_collect.specs.declared.outcome.Collected.{Collected}
use Rattle.cov_collect.specs.Batchwise.{Collects, HasTakenAll, IsBatchwise, joined, snapshots_in}
use Rattle.cov_collect.specs.Collecting.{Collecting}
use Rattle.cov_collect.specs.Shelves.{readings_of}
use Rattle.cov_collect.proofs.Fitting.{all-taken, own_answer}
use Rattle.cov_commands.specs.declared.collect.Gathered.{Gathered}
use Rattle.cov_commands.specs.declared.due.Due.{Due}
use Rattle.cov_commands.specs.declared.ended.Ended.{Ended}
use Rattle.cov_commands.specs.declared.ended.Ended.TheVariants.{Done}
use Rattle.cov_commands.specs.Collect.{OwesCollect, collect_reader, texts_in, texts_of}
use Rattle.cov_commands.specs.Due.{is_json, merge_due, paths_of, reading_at, readings, refused_or_done, text_at, text_paths}
use Rattle.cov_commands.specs.Gathering.{HasGathered}
use Rattle.cov_commands.specs.Lines.{answer_line, answer_lines, is_refusal}
use Rattle.cov_commands.specs.Owed.{Owed, Gives}
use Rattle.cov_commands.specs.Stores.{StoreAt}
use Rattle.cov_commands.specs.Tool.{reading_duty}
use Rattle.cov_commands.proofs.Taking.{paths-skip, paths-snoc, reading-cut}

-- ---- one more name

pub HasGathered-skip : (folder : List ℕ) (files : Files) (names : List (List ℕ)) (name : List ℕ) (g : Gathered) → is_json name ≡ false
    → HasGathered folder files names g → HasGathered folder files (names ++ name ∷ []) g
HasGathered-skip folder files names name g e h =
    let same = paths-skip folder names name e in
    record {
      texts = subst (λ ps. Collects (map (λ path. take 134217729 (text_at files path)) ps) g.texts) (sym same) h.texts;
      paths = h.paths ∙ sym same;
    }

-- the bytes that a read gave
pub text-found : (found : Option (List ℕ)) (bytes : List ℕ) → option_map (take 134217729) found ≡ Some bytes → bytes ≡ take 134217729 (unwrap_or found [])
text-found None bytes e = absurd cc
text-found (Some text) bytes e = sym (ap (λ o. unwrap_or o []) e)

pub HasGathered-snoc : (folder : List ℕ) (files : Files) (names : List (List ℕ)) (name bytes : List ℕ) (g now : Gathered) → is_json name ≡ true
    → bytes ≡ take 134217729 (text_at files (path_in folder name))
    → ((texts : List (List ℕ)) → Collects texts g.texts → Collects (texts ++ bytes ∷ []) now.texts)
    → map string_bytes now.paths.items ≡ map string_bytes g.paths.items ++ path_in folder name ∷ []
    → HasGathered folder files names g → HasGathered folder files (names ++ name ∷ []) now
HasGathered-snoc folder files names name bytes g now e is adds paths h =
    let read = λ (path : List ℕ). take 134217729 (text_at files path) in
    let more = paths-snoc folder names name e in
    let texts : texts_of folder files (names ++ name ∷ []) ≡ texts_of folder files names ++ bytes ∷ [] =
    ap (map read) more ∙ map-append read (paths_of folder names) (path_in folder name ∷ []) ∙ ap (λ bs. texts_of folder files names ++ bs ∷ []) (sym is) in
    record {
      texts = subst (λ ts. Collects ts now.texts) (sym texts) (adds (texts_of folder files names) h.texts);
      paths = paths ∙ ap (λ ps. ps ++ path_in folder name ∷ []) h.paths ∙ sym more;
    }

-- ---- all names

readings-cut : (files : Files) (paths : List (List ℕ)) → map reading (map (λ path. take 134217729 (text_at files path)) paths) ≡ map (reading_at files) paths
readings-cut files [] = refl
readings-cut files (path ∷ paths) =
    ap (λ (r : Reading). r ∷ map reading (map (λ p. take 134217729 (text_at files p)) paths)) (reading-cut (text_at files path))
    ∙ ap (λ (rs : List Reading). reading_at files path ∷ rs) (readings-cut files paths)

owed-is : (owed due : Owed) → owed.out ≡ due.out → owed.err ≡ due.err → owed.ended ≡ due.ended → owed ≡ due
owed-is owed due out err ended = λ i. record { out = out i; err = err i; ended = ended i }

snapshots-read : (snapshots : List Snapshot) → snapshots_in (map Ok snapshots) ≡ snapshots
snapshots-read [] = refl
snapshots-read (s ∷ ss) = ap (λ (xs : List Snapshot). s ∷ xs) (snapshots-read ss)

none-refused : (snapshots : List Snapshot) → list_any is_refusal (map own_answer (map Ok snapshots)) ≡ false
none-refused [] = refl
none-refused (s ∷ ss) = none-refused ss

-- where all texts are snapshots that fit together, none is refused
merge-done : (folder : List ℕ) (files : Files) (snapshots : List Snapshot) → readings folder files ≡ map Ok snapshots → fits snapshots ≡ true
    → (merge_due folder files).ended ≡ Done
merge-done folder files snapshots read all =
    ap (λ (rs : List Reading). refused_or_done (list_any is_refusal (answers rs))) read
    ∙ ap (λ (xs : List Answer). refused_or_done (list_any is_refusal xs)) (all-taken [] (map Ok snapshots) (ap fits (snapshots-read snapshots) ∙ all)).1
    ∙ ap refused_or_done (none-refused snapshots)

pub owes-collect : (folder : List ℕ) (files : Files) (all : Collected) (owed : Owed) → HasTakenAll (texts_in folder files) all
    → ((held : List Snapshot) → StandsFor all.book held → owed.out ≡ file held)
    → owed.err ≡ answer_lines (text_paths folder files) all.answers
    → owed.ended ≡ refused_or_done (list_any is_refusal all.answers) → OwesCollect folder files owed
owes-collect folder files all owed h out err ended =
    let same : readings_of (joined h.batches) ≡ readings folder files = ap readings_of h.cut.whole ∙ readings-cut files (text_paths folder files) in
    let outcome = subst (λ (rs : List Reading). IsBatchwise rs (map length h.batches) h.taken.order all.answers) same h.taken.outcome in
    let file_is = out _ h.taken.book ∙ ap (λ (rs : List Reading). file (outcome_list [] rs h.taken.order)) same in
    let fitting : fits (snapshots_in (readings folder files)) ≡ true → owed ≡ merge_due folder files = λ fit.
    let own = outcome.fitting fit in
    owed-is owed (merge_due folder files) (file_is ∙ own.1.file) (err ∙ ap (answer_lines (text_paths folder files)) own.0)
    (ended ∙ ap (λ (xs : List Answer). refused_or_done (list_any is_refusal xs)) own.0) in
    record {
      batches = h.batches;
      cut = h.cut;
      order = h.taken.order;
      answers = all.answers;
      outcome = outcome;
      out = file_is;
      err = err;
      ended = ended;
      fitting = fitting;
      done = λ snapshots read fit.
          ap (λ (o : Owed). o.ended) (fitting (ap (λ (rs : List Reading). fits (snapshots_in rs)) read ∙ ap fits (snapshots-read snapshots) ∙ fit))
          ∙ merge-done folder files snapshots read fit;
    }

-- what `collect` gives of a folder, under another name of it
pub gives-collect : {S : Type 0} (before now : StoreAt S) (result : Result Due Ended) (folder other : List ℕ) → folder ≡ other
    → Gives (reading_duty (collect_reader folder)) before now result → Gives (reading_duty (collect_reader other)) before now result
gives-collect before now result folder other is gives = subst (λ (f : List ℕ). Gives (reading_duty (collect_reader f)) before now result) is gives

-- ---- lines

pub lines-step : (written now : List ℕ) (paths rest : List (List ℕ)) (answers left : List Answer) (path : List ℕ) (answer : Answer) (whole : List ℕ)
    → paths ≡ path ∷ rest → answers ≡ answer ∷ left → now ≡ written ++ answer_line path answer → written ++ answer_lines paths answers ≡ whole
    → now ++ answer_lines rest left ≡ whole
lines-step written now paths rest answers left path answer whole first second is before =
    ap (λ xs. xs ++ answer_lines rest left) is ∙ append_assoc written (answer_line path answer) (answer_lines rest left)
    ∙ ap (λ xs. written ++ xs) (sym (ap₂ answer_lines first second)) ∙ before

lines-none : (paths : List (List ℕ)) (answers : List Answer) → (paths ≡ []) ⊎ (answers ≡ []) → answer_lines paths answers ≡ []
lines-none [] answers none = refl
lines-none (path ∷ paths) [] none = refl
lines-none (path ∷ paths) (answer ∷ answers) (inl e) = absurd cc
lines-none (path ∷ paths) (answer ∷ answers) (inr e) = absurd cc

pub lines-end : (written : List ℕ) (paths : List (List ℕ)) (answers : List Answer) (whole : List ℕ) → (paths ≡ []) ⊎ (answers ≡ [])
    → written ++ answer_lines paths answers ≡ whole → written ≡ whole
lines-end written paths answers whole none before =
    sym (append-nil written) ∙ ap (λ xs. written ++ xs) (sym (lines-none paths answers none)) ∙ before
