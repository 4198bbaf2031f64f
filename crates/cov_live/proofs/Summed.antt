-- Snapshots that are added to a book one after the other.
use Rattle.std.proofs.Common.{◌≡◌, ℕ, ◌<◌, ◌≤◌, ◌+◌, Bool, true, false, List, [], ◌∷◌, ◌++◌, length, drop, map, refl, sym, ap, ◌∙◌, subst, append_assoc, append-nil}
use Rattle.std.specs.Prelude.{◌||◌, Ok, get_or}
use Rattle.std.specs.List.{enumerate_from, flat_map, list_any}
use Rattle.std.proofs.Math.Bool.{or-false}
use Rattle.std.proofs.lemmas.List.{drop_all, drop_more}
use Rattle.cov_model.specs.declared.snapshot.Snapshot.{Snapshot}
use Rattle.cov_model.specs.Outcome.{Reading, accepted_over, answers_over, after, answer_to}
use Rattle.cov_model.specs.File.{file}
use Rattle.cov_book.specs.declared.book.Book.{Book}
use Rattle.cov_book.specs.Stands.{StandsFor}
use Rattle.cov_commands.specs.Due.{refused_or_done}
use Rattle.cov_commands.specs.Lines.{answer_line, answer_lines, is_refusal}
use Rattle.cov_commands.specs.Owed.{Owed}
use Rattle.cov_live.specs.declared.attach.Refusals.{Refusals}
use Rattle.cov_live.specs.Adding.{Sums, LeftOf, sums_of}
use Rattle.cov_live.specs.Attaching.{attach_due, paths_from, session_paths, take_path, take_paths, take_readings}

or-step : (x y z : Bool) → ((x || y) || z) ≡ (x || (y || z))
or-step true y z = refl
or-step false y z = refl

-- one more reading
pub left-after : (all : Sums) (path : List ℕ) (paths : List (List ℕ)) (reading : Reading) (readings : List Reading) (b c : Book) (r s : Refusals)
    → ((held : List Snapshot) → StandsFor b held → StandsFor c (after held reading))
    → ((held : List Snapshot) → StandsFor b held → s.lines ≡ r.lines ++ answer_line path (answer_to held reading))
    → ((held : List Snapshot) → StandsFor b held → s.some ≡ (r.some || is_refusal (answer_to held reading)))
    → LeftOf all (path ∷ paths) (reading ∷ readings) b r → LeftOf all paths readings c s
unfolding accepted_over answers_over
left-after all path paths reading readings b c r s book lines refused left =
    let held = left.held in
    let rest = answers_over (after held reading) readings in
    record {
      held = after held reading;
      stands = book held left.stands;
      book = left.book;
      lines =
          ap (λ ls. ls ++ answer_lines paths rest) (lines held left.stands)
          ∙ append_assoc r.lines (answer_line path (answer_to held reading)) (answer_lines paths rest)
          ∙ left.lines;
      refused =
          ap (λ t. t || list_any is_refusal rest) (refused held left.stands)
          ∙ or-step r.some (is_refusal (answer_to held reading)) (list_any is_refusal rest)
          ∙ left.refused;
    }

-- the list from a place on
from-here : {A : Type 0} (xs : List A) (i : ℕ) (x : A) → i < length xs → x ≡ get_or xs i x → drop i xs ≡ x ∷ drop (i + 1) xs
from-here xs i x below is = drop_more xs i x below ∙ ap (λ y. y ∷ drop (i + 1) xs) (sym is)

-- ---- the takes of a session

-- what is left from this take on
abbrev pub FromTake : Sums → ℕ → ℕ → List Snapshot → List (List ℕ) → List Reading → Book → Refusals → Type 0
FromTake all number take snapshots paths readings b r =
    LeftOf all (paths_from number take (drop take snapshots) ++ paths) (map Ok (drop take snapshots) ++ readings) b r

pub next-take : (all : Sums) (number take : ℕ) (snapshots : List Snapshot) (snapshot : Snapshot) (paths : List (List ℕ)) (readings : List Reading) (b c : Book) (r s : Refusals)
    → take < length snapshots → snapshot ≡ get_or snapshots take snapshot
    → ((held : List Snapshot) → StandsFor b held → StandsFor c (after held (Ok snapshot)))
    → ((held : List Snapshot) → StandsFor b held → s.lines ≡ r.lines ++ answer_line (take_path number take) (answer_to held (Ok snapshot)))
    → ((held : List Snapshot) → StandsFor b held → s.some ≡ (r.some || is_refusal (answer_to held (Ok snapshot))))
    → FromTake all number take snapshots paths readings b r → FromTake all number (take + 1) snapshots paths readings c s
next-take all number take snapshots snapshot paths readings b c r s below is book lines refused left =
    let rest = drop (take + 1) snapshots in
    left-after all (take_path number take) (paths_from number (take + 1) rest ++ paths) (Ok snapshot) (map Ok rest ++ readings) b c r s book lines refused
    (subst (λ (xs : List Snapshot). LeftOf all (paths_from number take xs ++ paths) (map Ok xs ++ readings) b r) (from-here snapshots take snapshot below is) left)

pub no-take : (all : Sums) (number take : ℕ) (snapshots : List Snapshot) (paths : List (List ℕ)) (readings : List Reading) (b : Book) (r : Refusals)
    → length snapshots ≤ take → FromTake all number take snapshots paths readings b r → LeftOf all paths readings b r
no-take all number take snapshots paths readings b r end left =
    subst (λ (xs : List Snapshot). LeftOf all (paths_from number take xs ++ paths) (map Ok xs ++ readings) b r) (drop_all take snapshots end) left

-- ---- the sessions

-- what is left from this session on
abbrev pub FromSession : Sums → ℕ → List (List Snapshot) → Book → Refusals → Type 0
FromSession all number taken b r = LeftOf all (flat_map session_paths (enumerate_from number (drop number taken))) (take_readings (drop number taken)) b r

owed-is : (owed due : Owed) → owed.out ≡ due.out → owed.err ≡ due.err → owed.ended ≡ due.ended → owed ≡ due
owed-is owed due out err ended = λ i. record { out = out i; err = err i; ended = ended i }

pub no-session : (number : ℕ) (taken : List (List Snapshot)) (b : Book) (r : Refusals) (owed : Owed) → length taken ≤ number
    → FromSession (sums_of (take_paths taken) (take_readings taken)) number taken b r
    → ((held : List Snapshot) → StandsFor b held → owed.out ≡ file held) → owed.err ≡ r.lines → owed.ended ≡ refused_or_done r.some
    → owed ≡ attach_due taken
unfolding accepted_over answers_over
no-session number taken b r owed end left out err ended =
    let all = sums_of (take_paths taken) (take_readings taken) in
    let none : LeftOf all [] [] b r =
    subst (λ (xs : List (List Snapshot)). LeftOf all (flat_map session_paths (enumerate_from number xs)) (take_readings xs) b r) (drop_all number taken end) left in
    owed-is owed (attach_due taken)
    (out none.held none.stands ∙ ap file none.book)
    (err ∙ sym (append-nil r.lines) ∙ none.lines)
    (ended ∙ ap refused_or_done (sym (or-false r.some) ∙ none.refused))
