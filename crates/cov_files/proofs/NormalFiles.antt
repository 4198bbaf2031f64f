-- Why bytes are no file with lists of a form.
use Rattle.std.proofs.Common.{◌≡◌, ℕ, List, [], ◌∷◌, sym, ap, ◌∙◌}
use Rattle.std.specs.Prelude.{Some, is_none, Ok, Err}
use Rattle.std.proofs.lemmas.Bool.{false≢true}
use Rattle.cov_model.specs.declared.snapshot.Snapshot.{Snapshot}
use Rattle.cov_model.specs.declared.snapshot.TextFault.{TextFault}
use Rattle.cov_model.specs.declared.sums.SumFault.{SumFault}
use Rattle.cov_model.specs.Sums.{fits, sum_fault}
use Rattle.cov_model.specs.declared.report.ListForm.{ListForm}
use Rattle.cov_model.specs.File.{file_in}
use Rattle.cov_model.specs.Files.{IsFileIn}
use Rattle.cov_model.specs.Reading.{reading}
use Rattle.cov_model.proofs.Fits.{joins_where_it_fits}

-- they are read as nothing
pub none-read : (form : ListForm) (bytes : List ℕ) (fault : TextFault) → reading bytes ≡ Err fault → ¬ IsFileIn form bytes
none-read form bytes fault refused normal = let read = normal.1.read in cc

-- the snapshot that they are read as
read-is : (form : ListForm) (bytes : List ℕ) (s : Snapshot) → reading bytes ≡ Ok s → (normal : IsFileIn form bytes) → s ≡ normal.0
read-is form bytes s read normal = let also = normal.1.read in cc

-- a sum passes the limit
pub none-fits : (form : ListForm) (bytes : List ℕ) (s : Snapshot) (fault : SumFault) → reading bytes ≡ Ok s → sum_fault [] s ≡ Some fault → ¬ IsFileIn form bytes
none-fits form bytes s fault read past normal =
    false≢true (sym (ap is_none past) ∙ joins_where_it_fits [] s ∙ ap (λ t. fits (t ∷ [])) (read-is form bytes s read normal) ∙ normal.1.fit)

-- the sums are written as other bytes
pub none-same : (form : ListForm) (bytes text : List ℕ) (s : Snapshot) → reading bytes ≡ Ok s → text ≡ file_in form (s ∷ []) → (text ≡ bytes → ⊥) → ¬ IsFileIn form bytes
none-same form bytes text s read written other normal =
    other (written ∙ ap (λ t. file_in form (t ∷ [])) (read-is form bytes s read normal) ∙ normal.1.same)
