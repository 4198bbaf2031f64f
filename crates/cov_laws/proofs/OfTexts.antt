-- What is accepted of texts was read and fits, so its file tells its sums.
use Rattle.std.proofs.Common.{◌≡◌, ℕ, List, [], ◌∷◌, ◌++◌, map, refl}
use Rattle.std.specs.Prelude.{◌↔◌, Bool, true, Option, None, Some, Ok, Err, IsTrue}
use Rattle.cov_model.specs.declared.snapshot.Snapshot.{Snapshot}
use Rattle.cov_model.specs.declared.sums.SumFault.{SumFault}
use Rattle.cov_model.specs.Held.{held_of}
use Rattle.cov_model.specs.File.{file}
use Rattle.cov_model.specs.Sums.{fits, sum_fault}
use Rattle.cov_model.specs.Reading.{reading}
use Rattle.cov_model.specs.Outcome.{Reading, after, joined, accepted, accepted_over}
use Rattle.cov_model.proofs.Fits.{accepted_fits}
use Rattle.cov_laws.specs.Laws.{AreRead, IsRead, AcceptedAreRead, OneFileOfTexts}
use Rattle.cov_laws.proofs.OneFile.{one_file}
use Rattle.cov_laws.proofs.Offsets.{is_read}

with-one : (xs : List Snapshot) (s : Snapshot) → AreRead xs → IsRead s → AreRead (xs ++ s ∷ [])
with-one [] s h one = (one, tt)
with-one (x ∷ xs) s h one = (h.0, with-one xs s h.1 one)

joined-read : (held : List Snapshot) (s : Snapshot) (fault : Option SumFault) → AreRead held → IsRead s → AreRead (joined held s fault)
joined-read held s None h one = with-one held s h one
joined-read held s (Some fault) h one = h

after-read : (held : List Snapshot) (text : List ℕ) (r : Reading) → reading text ≡ r → AreRead held → AreRead (after held r)
after-read held text (Ok s) e h = joined-read held s (sum_fault held s) h (is_read text s e)
after-read held text (Err fault) e h = h

over-read : (texts : List (List ℕ)) (held : List Snapshot) → AreRead held → AreRead (accepted_over held (map reading texts))
unfolding accepted_over
over-read [] held h = h
over-read (text ∷ texts) held h = over-read texts (after held (reading text)) (after-read held text (reading text) refl h)

pub accepted_read : AcceptedAreRead
accepted_read texts = over-read texts [] tt

nothing-fits : fits [] ≡ true
unfolding fits
nothing-fits = refl

accepted-true : (texts : List (List ℕ)) → IsTrue (fits (accepted (map reading texts)))
accepted-true texts = accepted_fits [] (map reading texts) nothing-fits

pub one_file_of_texts : OneFileOfTexts
one_file_of_texts texts more =
    one_file (accepted (map reading texts)) (accepted (map reading more)) (accepted-true texts) (accepted-true more) (accepted_read texts) (accepted_read more)

-- a test of one's sums against another's is a test of their files
pub told-by-file : (told : Bool) (one other : List Snapshot) → IsTrue (fits one) → IsTrue (fits other) → AreRead one → AreRead other
    → IsTrue told ↔ (held_of one ≡ held_of other) → IsTrue told ↔ (file one ≡ file other)
told-by-file told one other fit also h k is =
    let law = one_file one other fit also h k in
    (λ t. law.1 (is.0 t), λ same. is.1 (law.0 same))
