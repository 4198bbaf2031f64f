-- One more text of a folder, for its tape.
use Rattle.std.proofs.Common.{◌≡◌, ℕ, zero, suc, ◌+◌, ◌<◌, true, false, List, [], ◌∷◌, ◌++◌, length, take, map, refl, sym, ap, ◌∙◌, subst, arith}
use Rattle.std.specs.Prelude.{Option, None, Some, ◌||◌, Ok}
use Rattle.std.specs.List.{list_any}
use Rattle.std.proofs.Math.Bool.{or-false}
use Rattle.std.proofs.lemmas.List.{map-append, length-append}
use Rattle.std.proofs.lemmas.List.Folds.{list_any-append}
use Rattle.cov_model.specs.declared.snapshot.Snapshot.{Snapshot}
use Rattle.cov_model.specs.declared.sums.Answer.{Answer}
use Rattle.cov_model.specs.declared.sums.Answer.TheVariants.{Taken, Bad, Past}
use Rattle.cov_model.specs.declared.sums.SumFault.{SumFault}
use Rattle.cov_model.specs.declared.snapshot.TextFault.{TextFault}
use Rattle.cov_model.specs.Outcome.{Reading, accepted, accepted_over, answers, answers_over, after, answer_to, joined, taken_or_past}
use Rattle.cov_model.specs.Sums.{sum_fault}
use Rattle.cov_io.specs.Told.{Files, path_in}
use Rattle.cov_commands.specs.Lines.{answer_line, answer_lines, is_refusal}
use Rattle.cov_commands.specs.Due.{is_json, paths_of, reading_at}
use Rattle.cov_commands.proofs.Taking.{accepted-snoc, answers-snoc, length-answers, length-map, lines-snoc, paths-skip, paths-snoc}
use Rattle.cov_replay.specs.declared.tape.Tape.{Tape}
use Rattle.cov_replay.specs.Taping.{HasTaped, first_paths, first_readings, most_texts}

-- ---- the first so many

take-none : {A : Type 0} (n : ℕ) (xs : List A) → xs ≡ [] → take n xs ≡ []
take-none zero xs e = refl
take-none (suc n) [] e = refl
take-none (suc n) (x ∷ xs) e = absurd cc

take-room : {A : Type 0} (n : ℕ) (xs : List A) (x : A) → length (take n xs) < n → take n (xs ++ x ∷ []) ≡ take n xs ++ x ∷ []
take-room zero xs x lt = absurd (omega (arith, lt))
take-room (suc n) [] x lt = ap (λ ys. x ∷ ys) (take-none n [] refl)
take-room (suc n) (y ∷ xs) x lt = let less : suc (length (take n xs)) < suc n = lt in ap (λ ys. y ∷ ys) (take-room n xs x (omega (arith, less)))

take-full : {A : Type 0} (n : ℕ) (xs : List A) (x : A) → length (take n xs) ≡ n → take n (xs ++ x ∷ []) ≡ take n xs
take-full zero xs x e = refl
take-full (suc n) [] x e = let none : 0 ≡ suc n = e in absurd (omega (arith, none))
take-full (suc n) (y ∷ xs) x e = let same : suc (length (take n xs)) ≡ suc n = e in ap (λ ys. y ∷ ys) (take-full n xs x (omega (arith, same)))

-- ---- a name that is passed over

taped-as : (folder : List ℕ) (files : Files) (names more : List (List ℕ)) (t : Tape) → first_paths folder more ≡ first_paths folder names
    → HasTaped folder files names t → HasTaped folder files more t
taped-as folder files names more t same h = record {
  snapshots = h.snapshots ∙ ap (λ ps. accepted (map (reading_at files) ps)) (sym same);
  lines = h.lines ∙ ap (λ ps. answer_lines ps (answers (map (reading_at files) ps))) (sym same);
  refused = h.refused ∙ ap (λ ps. list_any is_refusal (answers (map (reading_at files) ps))) (sym same);
  texts = h.texts ∙ ap length (sym same);
}

pub taped-skip : (folder : List ℕ) (files : Files) (names : List (List ℕ)) (name : List ℕ) (t : Tape) → is_json name ≡ false
    → HasTaped folder files names t → HasTaped folder files (names ++ name ∷ []) t
taped-skip folder files names name t e h = taped-as folder files names (names ++ name ∷ []) t (ap (take most_texts) (paths-skip folder names name e)) h

pub taped-full : (folder : List ℕ) (files : Files) (names : List (List ℕ)) (name : List ℕ) (t : Tape) → is_json name ≡ true → t.texts ≡ most_texts
    → HasTaped folder files names t → HasTaped folder files (names ++ name ∷ []) t
taped-full folder files names name t e full h =
    taped-as folder files names (names ++ name ∷ []) t
    (ap (take most_texts) (paths-snoc folder names name e) ∙ take-full most_texts (paths_of folder names) (path_in folder name) (sym h.texts ∙ full)) h

-- ---- a name whose text is read

pub taped-more : (folder : List ℕ) (files : Files) (names : List (List ℕ)) (name : List ℕ) (t u : Tape) (r : Reading)
    → is_json name ≡ true → t.texts < most_texts → r ≡ reading_at files (path_in folder name)
    → u.snapshots.items ≡ after t.snapshots.items r
    → u.lines ≡ t.lines ++ answer_line (path_in folder name) (answer_to t.snapshots.items r)
    → u.refused ≡ (t.refused || is_refusal (answer_to t.snapshots.items r))
    → u.texts ≡ t.texts + 1
    → HasTaped folder files names t → HasTaped folder files (names ++ name ∷ []) u
taped-more folder files names name t u r e few is snapshots lines refused texts h =
    let p = path_in folder name in
    let ps = first_paths folder names in
    let rs = first_readings folder files names in
    let more_paths : first_paths folder (names ++ name ∷ []) ≡ ps ++ p ∷ [] =
    ap (take most_texts) (paths-snoc folder names name e) ∙ take-room most_texts (paths_of folder names) p (subst (λ n. n < most_texts) h.texts few) in
    let more : first_readings folder files (names ++ name ∷ []) ≡ rs ++ r ∷ [] =
    ap (map (reading_at files)) more_paths ∙ map-append (reading_at files) ps (p ∷ []) ∙ ap (λ (x : Reading). rs ++ x ∷ []) (sym is) in
    let answer = answer_to (accepted rs) r in
    let again : answers (rs ++ r ∷ []) ≡ answers rs ++ answer ∷ [] = answers-snoc [] rs r in
    let long : length (answers rs) ≡ length ps = length-answers [] rs ∙ length-map (reading_at files) ps in
    record {
      snapshots = snapshots ∙ ap (λ held. after held r) h.snapshots ∙ sym (accepted-snoc [] rs r) ∙ ap accepted (sym more);
      lines =
          lines ∙ (λ i. h.lines i ++ answer_line p (answer_to (h.snapshots i) r))
          ∙ sym (lines-snoc ps (answers rs) p answer long)
          ∙ (λ i. answer_lines (sym more_paths i) (sym again i))
          ∙ ap (λ xs. answer_lines (first_paths folder (names ++ name ∷ [])) (answers xs)) (sym more);
      refused =
          refused ∙ (λ i. h.refused i || is_refusal (answer_to (h.snapshots i) r))
          ∙ ap (λ b. list_any is_refusal (answers rs) || b) (sym (or-false (is_refusal answer)))
          ∙ sym (list_any-append is_refusal (answers rs) (answer ∷ []))
          ∙ ap (list_any is_refusal) (sym again)
          ∙ ap (λ xs. list_any is_refusal (answers xs)) (sym more);
      texts = texts ∙ ap (λ n. n + 1) h.texts ∙ sym (length-append ps (p ∷ [])) ∙ ap length (sym more_paths);
    }

-- ---- what is held after an answer

joined-taken : (held : List Snapshot) (s : Snapshot) (o : Option SumFault) → Taken ≡ taken_or_past o → joined held s o ≡ held ++ s ∷ []
joined-taken held s None e = refl
joined-taken held s (Some fault) e = absurd cc

joined-past : (held : List Snapshot) (s : Snapshot) (fault : SumFault) (o : Option SumFault) → Past fault ≡ taken_or_past o → joined held s o ≡ held
joined-past held s fault None e = absurd cc
joined-past held s fault (Some other) e = refl

joined-bad : (held : List Snapshot) (s : Snapshot) (fault : TextFault) (o : Option SumFault) → Bad fault ≡ taken_or_past o → joined held s o ≡ held
joined-bad held s fault None e = absurd cc
joined-bad held s fault (Some other) e = absurd cc

pub after-taken : (held : List Snapshot) (s : Snapshot) (r : Reading) (answer : Answer) → r ≡ Ok s → answer ≡ Taken → answer ≡ answer_to held (Ok s)
    → held ++ s ∷ [] ≡ after held r
after-taken held s r answer read is e = sym (joined-taken held s (sum_fault held s) (sym is ∙ e)) ∙ ap (after held) (sym read)

pub after-past : (held : List Snapshot) (s : Snapshot) (r : Reading) (answer : Answer) (fault : SumFault) → r ≡ Ok s → answer ≡ Past fault → answer ≡ answer_to held (Ok s)
    → held ≡ after held r
after-past held s r answer fault read is e = sym (joined-past held s fault (sum_fault held s) (sym is ∙ e)) ∙ ap (after held) (sym read)

pub after-bad : (held : List Snapshot) (s : Snapshot) (r : Reading) (answer : Answer) (fault : TextFault) → r ≡ Ok s → answer ≡ Bad fault → answer ≡ answer_to held (Ok s)
    → held ≡ after held r
after-bad held s r answer fault read is e = sym (joined-bad held s fault (sum_fault held s) (sym is ∙ e)) ∙ ap (after held) (sym read)

-- ---- the tape before the first name

pub taped-none : (folder : List ℕ) (files : Files) (t : Tape) → t.snapshots.items ≡ [] → t.lines ≡ [] → t.refused ≡ false → t.texts ≡ 0
    → HasTaped folder files [] t
unfolding paths_of accepted_over answers_over
taped-none folder files t snapshots lines refused texts = record { snapshots = snapshots; lines = lines; refused = refused; texts = texts }
