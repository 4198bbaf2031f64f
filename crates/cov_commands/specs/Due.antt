-- What each command owes: what goes to the output, what goes to the error sink, and how it ends.
use Rattle.std.specs.Prelude.{◌≡◌, ◌++◌, ◌||◌, ℕ, Bool, List, [], ◌∷◌, map, filter, length, nat_eq, nat_lt, if◌then◌else◌, Option, None, Some, unwrap_or, codes, IsFalse}
use Rattle.std.specs.List.{list_any, ends_with}
use Rattle.cov_text.specs.Listing.{max_text}
use Rattle.cov_model.specs.declared.snapshot.Snapshot.{Snapshot}
use Rattle.cov_model.specs.declared.report.ListForm.{ListForm}
use Rattle.cov_model.specs.File.{file}
use Rattle.cov_model.specs.Held.{held_of}
use Rattle.cov_model.specs.Reading.{reading}
use Rattle.cov_model.specs.Outcome.{Reading, accepted, answers}
use Rattle.cov_io.specs.Told.{Files, bytes_at, path_in, names_in, is_among, IsToldAnd}
use Rattle.cov_words.specs.declared.command.Form.{Form}
use Rattle.cov_words.specs.declared.command.Form.TheVariants as forms
use Rattle.source_maps.specs.Entries.{Said}
use Rattle.istanbul_json.specs.declared.file.FileParts.{FileParts}
use Rattle.istanbul_json.specs.Value.{files_text}
use Rattle.lcov_text.specs.Lcov.{lcov}
use Rattle.cov_table.specs.Shares.{summary, misses, check_text}
use Rattle.cov_table.specs.Table.{table}
use Rattle.cov_report.specs.declared.answer.Report.{Report}
use Rattle.cov_report.specs.Texts.{entries_of_taken, report_of_texts, skip_lines}
use Rattle.cov_commands.specs.declared.ended.Ended.{Ended}
use Rattle.cov_commands.specs.declared.ended.Ended.TheVariants.{Done, Different, Below, SomeRefused}
use Rattle.cov_commands.specs.Owed.{Owed}
use Rattle.cov_commands.specs.Lines.{answer_lines, is_refusal, refused}
use Rattle.cov_commands.specs.Deciding.{same_sums, snapshot_in}

-- ---- texts

abbrev pub is_json : List ℕ → Bool
is_json name = ends_with nat_eq name (codes ".json")

-- the paths of the texts among these names of a folder
unfoldable pub paths_of : List ℕ → List (List ℕ) → List (List ℕ)
paths_of folder names = map (path_in folder) (filter is_json names)

-- the text at a path
abbrev pub text_at : Files → List ℕ → List ℕ
text_at files path = unwrap_or (bytes_at path files) []

-- what the text at a path is read as
abbrev pub reading_at : Files → List ℕ → Reading
reading_at files path = reading (text_at files path)

abbrev pub readings_of : List ℕ → Files → List (List ℕ) → List Reading
readings_of folder files names = map (reading_at files) (paths_of folder names)

-- the paths of a folder's texts, in byte order of their names, and their readings
abbrev pub text_paths : List ℕ → Files → List (List ℕ)
text_paths folder files = paths_of folder (names_in folder files)

abbrev pub readings : List ℕ → Files → List Reading
readings folder files = readings_of folder files (names_in folder files)

-- ---- what is due

-- how a command ends that has come to its end, where a text was refused, or none
abbrev pub refused_or_done : Bool → Ended
refused_or_done refused = if refused then SomeRefused else Done

-- The one normal file of the accepted texts, and the lines of the refused ones in order.
abbrev pub merge_due : List ℕ → Files → Owed
merge_due folder files =
    let rs = readings folder files in
    record { out = file (accepted rs); err = answer_lines (text_paths folder files) (answers rs); ended = refused_or_done (list_any is_refusal (answers rs)) }

-- what is due where the sums of two folders agree, or don't, with these lines, and where a text was refused, or none
abbrev pub same_answer : Bool → List ℕ → Bool → Owed
same_answer agree lines refused =
    record {
      out = (if agree then codes "same\n" else codes "different\n");
      err = lines;
      ended = (if agree then refused_or_done refused else Different);
    }

-- Whether the accepted texts of both folders come to the same sums, and the lines of the refused ones, those of the first
-- folder before those of the second.
abbrev pub same_due : List ℕ → List ℕ → Files → Owed
same_due one other files =
    let rs = readings one files in
    let qs = readings other files in
    same_answer (same_sums (held_of (accepted rs)) (held_of (accepted qs)))
    (answer_lines (text_paths one files) (answers rs) ++ answer_lines (text_paths other files) (answers qs))
    (list_any is_refusal (answers rs) || list_any is_refusal (answers qs))

-- what is due for a file that is refused for this
abbrev pub refused_due : List ℕ → List ℕ → Owed
refused_due path why = record { out = []; err = refused path why; ended = SomeRefused }

-- what is due for a file that is accepted, with this on the output
abbrev pub accepted_due : List ℕ → Owed
accepted_due out = record { out = out; err = []; ended = Done }

-- what is due for the file of a snapshot, of which this is said, or for another file
abbrev pub judged_due : (Snapshot → List ℕ) → List ℕ → Option Snapshot → Owed
judged_due said path None = refused_due path (codes "not normal")
judged_due said path (Some snapshot) = accepted_due (said snapshot)

-- What is due for these bytes of the file at a path: they are too long, or a snapshot's file with lists of this form, or none.
abbrev pub file_answer : ListForm → (Snapshot → List ℕ) → List ℕ → List ℕ → Owed
file_answer form said path bytes =
    if nat_lt max_text (length bytes) then refused_due path (codes "too long")
    else judged_due said path (snapshot_in form bytes)

abbrev pub file_due : ListForm → (Snapshot → List ℕ) → List ℕ → Files → Owed
file_due form said path files = file_answer form said path (unwrap_or (bytes_at path files) [])

-- what `normal` says of the snapshot of a normal file
abbrev pub normal_word : Snapshot → List ℕ
normal_word snapshot = codes "normal\n"

-- what `upgrade` makes of the snapshot of a flat file
abbrev pub normal_file : Snapshot → List ℕ
normal_file snapshot = file (snapshot ∷ [])

-- the two lists come to other sums: another url, function, flag, root sum or sum at an offset
abbrev pub DifferInSums : List Snapshot → List Snapshot → Type 0
DifferInSums one other = held_of one ≡ held_of other → ⊥

-- their merged files are not equal bytes
abbrev pub DifferInBytes : List Snapshot → List Snapshot → Type 0
DifferInBytes one other = file one ≡ file other → ⊥

-- ---- reports

-- the map entries of the accepted texts at these paths, text by text
abbrev pub entries_at : Files → List (List ℕ) → List Said
entries_at files paths = entries_of_taken (map (text_at files) paths) (answers (map (reading_at files) paths))

-- The report of a folder's texts over all files.
unfoldable pub report_in : List ℕ → Files → Report
report_in folder files = report_of_texts (map (text_at files) (text_paths folder files)) files

-- the text of files in a form
abbrev pub text_in : Form → List FileParts → List ℕ
text_in forms.Json files = files_text files
text_in forms.Lcov files = lcov files
text_in forms.Text files = table files

-- the lines of the refused texts, and then those of what the report leaves out
abbrev pub report_lines : List ℕ → Files → List ℕ
report_lines folder files = answer_lines (text_paths folder files) (answers (readings folder files)) ++ skip_lines (report_in folder files).skips

-- a text was refused
abbrev pub has_refusal : List ℕ → Files → Bool
has_refusal folder files = list_any is_refusal (answers (readings folder files))

-- what is due for a report in a form, with these lines, and where a text was refused, or none
abbrev pub report_answer : Form → List FileParts → List ℕ → Bool → Owed
report_answer form reported lines refused = record { out = text_in form reported; err = lines; ended = refused_or_done refused }

abbrev pub report_due : Form → List ℕ → Files → Owed
report_due form folder files = report_answer form (report_in folder files).files (report_lines folder files) (has_refusal folder files)

-- What is due for a report that is checked against thresholds of lines, branches and functions: a line for each share that is
-- below its own. A share that is below stands before a refused text.
abbrev pub check_answer : ℕ → ℕ → ℕ → List FileParts → List ℕ → Bool → Owed
check_answer lines branches functions reported written refused =
    record {
      out = check_text (summary reported) lines branches functions;
      err = written;
      ended = (if misses (summary reported) lines branches functions then Below else refused_or_done refused);
    }

abbrev pub check_due : ℕ → ℕ → ℕ → List ℕ → Files → Owed
check_due lines branches functions folder files =
    check_answer lines branches functions (report_in folder files).files (report_lines folder files) (has_refusal folder files)

-- ---- what is absent

-- the store tells its folders, and this is none of them
abbrev pub FolderIsMissing : Option (List (List ℕ)) → List ℕ → Type 0
FolderIsMissing told folder = IsToldAnd told (λ folders. IsFalse (is_among folder folders))

-- the store tells its files, and none is at this path
abbrev pub FileIsMissing : Option Files → List ℕ → Type 0
FileIsMissing told path = IsToldAnd told (λ files. bytes_at path files ≡ None)
