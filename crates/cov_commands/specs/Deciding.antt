-- Tests of what is defined as a fact.
use Rattle.std.specs.Prelude.{ℕ, Bool, true, false, ◌&&◌, ◌==◌, List, [], ◌∷◌, Ok, Err, Option, None, Some, if◌then◌else◌}
use Rattle.std.specs.Cmp.Lexicographic.{pointwise}
use Rattle.cov_text.specs.Listing.{same_text}
use Rattle.cov_model.specs.declared.report.ListForm.{ListForm}
use Rattle.cov_model.specs.declared.snapshot.Snapshot.{Snapshot}
use Rattle.cov_model.specs.File.{file_in}
use Rattle.cov_model.specs.Held.{Held, FunctionSums}
use Rattle.cov_model.specs.Outcome.{Reading}
use Rattle.cov_model.specs.Reading.{reading}
use Rattle.cov_model.specs.Sums.{fits, same_key}

-- ---- the same sums

abbrev pub same_flag : Bool → Bool → Bool
same_flag true b = b
same_flag false true = false
same_flag false false = true

-- the same function, flag, root and total at each offset
abbrev pub same_function : FunctionSums → FunctionSums → Bool
same_function f g = same_key f.key g.key && (same_flag f.block g.block && ((f.root == g.root) && same_text f.counts g.counts))

-- the same urls, and of each function the same sums
unfoldable pub same_sums : Held → Held → Bool
same_sums h k = pointwise same_text h.urls k.urls && pointwise same_function h.functions k.functions

-- ---- files

-- the snapshot that was read, where the bytes are its file with lists of this form
abbrev pub if_file_of : ListForm → Reading → List ℕ → Option Snapshot
if_file_of form (Ok snapshot) bytes = if fits (snapshot ∷ []) && same_text (file_in form (snapshot ∷ [])) bytes then Some snapshot else None
if_file_of form (Err fault) bytes = None

-- the snapshot whose file with lists of this form the bytes are
unfoldable pub snapshot_in : ListForm → List ℕ → Option Snapshot
snapshot_in form bytes = if_file_of form (reading bytes) bytes
