-- What the commands answer.
use Rattle.std.proofs.Common.{◌≡◌, ℕ, ◌<◌, Bool, true, false, List, [], ◌++◌, length, take, refl, sym, ap, ap₂, ◌∙◌, subst, arith, inl, inr}
use Rattle.std.specs.Prelude.{Option, None, Some, Ok, Err, map, option_map, unwrap_or, cond, ◌||◌, ◌↔◌, IsTrue, nat_lt, codes}
use Rattle.std.specs.List.{list_any}
use Rattle.std.proofs.lemmas.Bool.{lt-ltb, le-ltb, cases_lt, false≢true}
use Rattle.std.proofs.lemmas.List.{take_all, length-take-le}
use Rattle.cov_text.specs.Listing.{max_text}
use Rattle.cov_model.specs.declared.snapshot.Snapshot.{Snapshot}
use Rattle.cov_model.specs.declared.snapshot.TextFault.TheVariants.{TooLong, Syntax}
use Rattle.cov_model.specs.declared.report.ListForm.{ListForm}
use Rattle.cov_model.specs.Files.{IsFileIn, IsFileOf}
use Rattle.cov_model.specs.Held.{Held, held_of}
use Rattle.cov_model.specs.Outcome.{Reading, accepted, answers}
use Rattle.json_shapes.specs.Shapes.{or_fault, parsed, ◌>>=◌}
use Rattle.cov_model.specs.Reading.{reading, shaped, snapshot_of}
use Rattle.cov_io.specs.Told.{Files, bytes_at, names_in}
use Rattle.cov_book.specs.declared.book.Book.{Book}
use Rattle.cov_commands.specs.Owed.{Owed}
use Rattle.cov_commands.specs.declared.ended.Ended.{Ended}
use Rattle.cov_commands.specs.declared.ended.Ended.TheVariants.{Done, Different}
use Rattle.cov_commands.specs.declared.gather.Merged.{Merged}
use Rattle.cov_commands.specs.Deciding.{same_sums, snapshot_in}
use Rattle.cov_commands.specs.Due.{readings, text_at, text_paths, refused_or_done, same_answer, same_due, accepted_due, refused_due, judged_due, file_answer, file_due, DifferInSums}
use Rattle.cov_laws.specs.Laws.{AreRead}
use Rattle.cov_laws.proofs.OfTexts.{accepted_read}
use Rattle.std.proofs.lemmas.Simd.{map-map}
use Rattle.cov_commands.specs.Gather.{HasTaken}
use Rattle.cov_commands.specs.Lines.{is_refusal}
use Rattle.cov_commands.proofs.Decided.{told-same, sums-Decides, file-is, is-file, none-file}

-- ---- `same`

-- what is accepted of a folder's texts was read
pub folder-read : (folder : List ℕ) (files : Files) → AreRead (accepted (readings folder files))
folder-read folder files =
    let paths = text_paths folder files in
    subst (λ (rs : List Reading). AreRead (accepted rs)) (map-map reading (text_at files) paths) (accepted_read (map (text_at files) paths))

-- what is said of two folders that were taken
pub same-is-due : (one other : List ℕ) (files : Files) (b c : Book) (m n : Merged) (agree : Bool) (owed : Owed)
    → HasTaken one files (names_in one files) b m → HasTaken other files (names_in other files) c n → IsTrue agree ↔ (b ≡ c)
    → owed ≡ same_answer agree (m.lines ++ n.lines) (m.refused || n.refused) → owed ≡ same_due one other files
same-is-due one other files b c m n agree owed h k told is =
    let rs = readings one files in
    let qs = readings other files in
    let agrees : agree ≡ same_sums (held_of (accepted rs)) (held_of (accepted qs)) = told-same agree b c told ∙ ap₂ same_sums h.book.sums k.book.sums in
    let lines = ap₂ (λ (xs ys : List ℕ). xs ++ ys) h.lines k.lines in
    let refused = ap₂ (λ (s t : Bool). s || t) h.refused k.refused in
    is ∙ ap (λ (t : Bool). same_answer t (m.lines ++ n.lines) (m.refused || n.refused)) agrees
    ∙ ap₂ (λ (xs : List ℕ) (t : Bool). same_answer (same_sums (held_of (accepted rs)) (held_of (accepted qs))) xs t) lines refused

-- ---- commands of one file

pub too-long : (form : ListForm) (said : Snapshot → List ℕ) (path bytes : List ℕ) → max_text < length bytes → file_answer form said path bytes ≡ refused_due path (codes "too long")
too-long form said path bytes longer = rw (lt-ltb max_text (length bytes) longer) refl

-- a file that is cut past its greatest size is answered as the whole
answer-cut : (form : ListForm) (said : Snapshot → List ℕ) (path bytes : List ℕ) → file_answer form said path (take 134217729 bytes) ≡ file_answer form said path bytes
answer-cut form said path bytes =
    elim (cases_lt max_text (length bytes)) [
      | inl longer ↦
          let cut : length (take 134217729 bytes) ≡ 134217729 = length-take-le 134217729 bytes (omega arith) in
          let still : max_text < length (take 134217729 bytes) = omega arith in
          too-long form said path (take 134217729 bytes) still ∙ sym (too-long form said path bytes longer)
      | inr short ↦ ap (file_answer form said path) (take_all 134217729 bytes (omega arith))
    ]

pub answer-found : (form : ListForm) (said : Snapshot → List ℕ) (path : List ℕ) (found : Option (List ℕ)) (bytes : List ℕ) → option_map (take 134217729) found ≡ Some bytes
    → file_answer form said path bytes ≡ file_answer form said path (unwrap_or found [])
answer-found form said path None bytes e = absurd cc
answer-found form said path (Some text) bytes e = ap (file_answer form said path) (sym (ap (λ o. unwrap_or o []) e)) ∙ answer-cut form said path text

pub found-there : (found : Option (List ℕ)) (bytes : List ℕ) → option_map (take 134217729) found ≡ Some bytes → found ≡ None → ⊥
found-there None bytes e none = absurd cc
found-there (Some text) bytes e none = absurd cc

-- ---- what the ends say

pub no-same-end : (refused : Bool) → refused_or_done refused ≡ Different → ⊥
no-same-end true e = absurd cc
no-same-end false e = absurd cc

-- `same` says that the sums differ exactly where they do
pub differs : (one other : List ℕ) (files : Files) (ended : Ended) → ended ≡ (same_due one other files).ended
    → (ended ≡ Different) ↔ DifferInSums (accepted (readings one files)) (accepted (readings other files))
differs one other files ended is = by (same_sums h k) refl
  where
    h : Held
    h = held_of (accepted (readings one files))

    k : Held
    k = held_of (accepted (readings other files))

    refused : Bool
    refused = list_any is_refusal (answers (readings one files)) || list_any is_refusal (answers (readings other files))

    by : (b : Bool) → same_sums h k ≡ b → (ended ≡ Different) ↔ (h ≡ k → ⊥)
    by true e = (
      λ different. absurd (no-same-end refused (sym (is ∙ ap (λ (b : Bool). (same_answer b [] refused).ended) e) ∙ different)),
      λ differ. absurd (differ ((sums-Decides h k).0 e)),
    )
    by false e = (
      λ different. λ same. false≢true (sym e ∙ (sums-Decides h k).1 same),
      λ differ. is ∙ ap (λ (b : Bool). (same_answer b [] refused).ended) e,
    )

short-read : (bytes : List ℕ) (s : Snapshot) → reading bytes ≡ Ok s → nat_lt max_text (length bytes) ≡ false
unfolding reading
short-read bytes s read = by (nat_lt max_text (length bytes)) refl
  where
    rest : Reading
    rest = or_fault Syntax (parsed bytes) >>= λ d. shaped (snapshot_of d)

    by : (b : Bool) → nat_lt max_text (length bytes) ≡ b → nat_lt max_text (length bytes) ≡ false
    by true e = absurd (let long : Err TooLong ≡ Ok s = sym (ap (λ (t : Bool). cond t (Err TooLong) rest) e) ∙ read in cc)
    by false e = e

-- a command of one file says that it is done exactly where the bytes are a file with these lists
pub tells-file : (form : ListForm) (said : Snapshot → List ℕ) (path : List ℕ) (files : Files) (ended : Ended) → ended ≡ (file_due form said path files).ended
    → (ended ≡ Done) ↔ IsFileIn form (unwrap_or (bytes_at path files) [])
tells-file form said path files ended is = (
  λ done. there (nat_lt max_text (length bytes)) (snapshot_in form bytes) refl (sym is ∙ done),
  λ file. is ∙ ap₂ end_of (short-read bytes file.0 file.1.read) (is-file form bytes file.0 file.1),
)
  where
    bytes : List ℕ
    bytes = unwrap_or (bytes_at path files) []

    end_of : Bool → Option Snapshot → Ended
    end_of long judged = (cond long (refused_due path (codes "too long")) (judged_due said path judged)).ended

    there : (long : Bool) (judged : Option Snapshot) → snapshot_in form bytes ≡ judged → end_of long judged ≡ Done → IsFileIn form bytes
    there true judged e done = absurd cc
    there false (Some s) e done = (s, file-is form bytes s e)
    there false None e done = absurd cc

-- what is due for such a file
pub file-due : (form : ListForm) (said : Snapshot → List ℕ) (path bytes : List ℕ) (s : Snapshot) → IsFileOf form s bytes → file_answer form said path bytes ≡ accepted_due (said s)
file-due form said path bytes s is = rw (short-read bytes s is.read, is-file form bytes s is) refl

-- and for another one
pub none-due : (form : ListForm) (said : Snapshot → List ℕ) (path bytes : List ℕ) → (max_text < length bytes → ⊥) → (IsFileIn form bytes → ⊥)
    → file_answer form said path bytes ≡ refused_due path (codes "not normal")
none-due form said path bytes short none =
    let not_long : nat_lt max_text (length bytes) ≡ false = elim (cases_lt max_text (length bytes)) [ inl longer ↦ absurd (short longer) | inr le ↦ le-ltb max_text (length bytes) le ] in
    rw (not_long, none-file form bytes none) refl
