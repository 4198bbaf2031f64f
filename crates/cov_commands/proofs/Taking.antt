-- One more text of a folder.
use Rattle.std.proofs.Common.{◌≡◌, ℕ, ◌<◌, true, false, List, [], ◌∷◌, ◌++◌, length, take, map, refl, sym, ap, ◌∙◌, subst, arith, inl, inr}
use Rattle.std.specs.Prelude.{Option, None, Some, option_map, unwrap_or, filter, cond, ◌||◌, Err, nat_lt}
use Rattle.std.specs.List.{list_any}
use Rattle.std.proofs.Math.Bool.{or-false}
use Rattle.std.proofs.lemmas.Bool.{lt-ltb, cases_lt}
use Rattle.std.proofs.lemmas.List.{append-nil, map-append, take_all, length-take-le, append_assoc}
use Rattle.std.proofs.lemmas.List.Elements.{filter-append}
use Rattle.std.proofs.lemmas.List.Folds.{list_any-append}
use Rattle.cov_model.specs.declared.snapshot.Snapshot.{Snapshot}
use Rattle.cov_model.specs.declared.sums.Answer.{Answer}
use Rattle.cov_model.specs.declared.snapshot.TextFault.TheVariants.{TooLong, Syntax}
use Rattle.cov_text.specs.Listing.{max_text}
use Rattle.json_shapes.specs.Shapes.{or_fault, parsed, ◌>>=◌}
use Rattle.cov_model.specs.Reading.{reading, shaped, snapshot_of}
use Rattle.cov_model.specs.Outcome.{Reading, accepted, accepted_over, answers, answers_over, after, answer_to}
use Rattle.cov_io.specs.Told.{Files, path_in}
use Rattle.cov_book.specs.declared.book.Book.{Book}
use Rattle.cov_book.specs.Stands.{StandsFor}
use Rattle.cov_commands.specs.Lines.{answer_line, answer_lines, is_refusal}
use Rattle.cov_commands.specs.Due.{is_json, paths_of, readings_of, reading_at}
use Rattle.cov_commands.specs.declared.gather.Merged.{Merged}
use Rattle.cov_commands.specs.Gather.{HasTaken}

-- ---- one more reading

pub accepted-snoc : (held : List Snapshot) (rs : List Reading) (r : Reading) → accepted_over held (rs ++ r ∷ []) ≡ after (accepted_over held rs) r
unfolding accepted_over
accepted-snoc held [] r = refl
accepted-snoc held (x ∷ rs) r = accepted-snoc (after held x) rs r

pub answers-snoc : (held : List Snapshot) (rs : List Reading) (r : Reading) → answers_over held (rs ++ r ∷ []) ≡ answers_over held rs ++ answer_to (accepted_over held rs) r ∷ []
unfolding accepted_over answers_over
answers-snoc held [] r = refl
answers-snoc held (x ∷ rs) r = ap (λ rest. answer_to held x ∷ rest) (answers-snoc (after held x) rs r)

pub length-answers : (held : List Snapshot) (rs : List Reading) → length (answers_over held rs) ≡ length rs
unfolding answers_over
length-answers held [] = refl
length-answers held (x ∷ rs) = let ih = length-answers (after held x) rs in omega arith

pub length-map : {X Y : Type 0} (f : X → Y) (xs : List X) → length (map f xs) ≡ length xs
length-map f [] = refl
length-map f (x ∷ xs) = let ih = length-map f xs in omega arith

pub lines-snoc : (ps : List (List ℕ)) (xs : List Answer) (p : List ℕ) (a : Answer) → length xs ≡ length ps → answer_lines (ps ++ p ∷ []) (xs ++ a ∷ []) ≡ answer_lines ps xs ++ answer_line p a
lines-snoc [] [] p a e = append-nil (answer_line p a)
lines-snoc [] (x ∷ xs) p a e = absurd (omega arith)
lines-snoc (q ∷ ps) [] p a e = absurd (omega arith)
lines-snoc (q ∷ ps) (x ∷ xs) p a e =
    let shorter : length xs ≡ length ps = omega arith in
    ap (λ rest. answer_line q x ++ rest) (lines-snoc ps xs p a shorter) ∙ sym (append_assoc (answer_line q x) (answer_lines ps xs) (answer_line p a))

-- ---- one more name

pub paths-skip : (folder : List ℕ) (names : List (List ℕ)) (name : List ℕ) → is_json name ≡ false → paths_of folder (names ++ name ∷ []) ≡ paths_of folder names
unfolding paths_of
paths-skip folder names name e =
    ap (map (path_in folder)) (filter-append is_json names (name ∷ []) ∙ ap (λ b. filter is_json names ++ cond b (name ∷ []) []) e ∙ append-nil (filter is_json names))

pub paths-snoc : (folder : List ℕ) (names : List (List ℕ)) (name : List ℕ) → is_json name ≡ true → paths_of folder (names ++ name ∷ []) ≡ paths_of folder names ++ path_in folder name ∷ []
unfolding paths_of
paths-snoc folder names name e =
    ap (map (path_in folder)) (filter-append is_json names (name ∷ []) ∙ ap (λ b. filter is_json names ++ cond b (name ∷ []) []) e)
    ∙ map-append (path_in folder) (filter is_json names) (name ∷ [])

readings-snoc : (folder : List ℕ) (files : Files) (names : List (List ℕ)) (name : List ℕ) → is_json name ≡ true
    → readings_of folder files (names ++ name ∷ []) ≡ readings_of folder files names ++ reading_at files (path_in folder name) ∷ []
readings-snoc folder files names name e = ap (map (reading_at files)) (paths-snoc folder names name e) ∙ map-append (reading_at files) (paths_of folder names) (path_in folder name ∷ [])

-- ---- what has been taken

pub HasTaken-skip : (folder : List ℕ) (files : Files) (names : List (List ℕ)) (name : List ℕ) (b : Book) (m : Merged)
    → is_json name ≡ false → HasTaken folder files names b m → HasTaken folder files (names ++ name ∷ []) b m
HasTaken-skip folder files names name b m e h =
    let same = paths-skip folder names name e in
    record {
      book = subst (λ ps. StandsFor b (accepted (map (reading_at files) ps))) (sym same) h.book;
      lines = subst (λ ps. m.lines ≡ answer_lines ps (answers (map (reading_at files) ps))) (sym same) h.lines;
      refused = subst (λ ps. m.refused ≡ list_any is_refusal (answers (map (reading_at files) ps))) (sym same) h.refused;
    }

pub HasTaken-snoc : (folder : List ℕ) (files : Files) (names : List (List ℕ)) (name : List ℕ) (b c : Book) (m n : Merged) (r : Reading)
    → is_json name ≡ true → HasTaken folder files names b m → r ≡ reading_at files (path_in folder name)
    → ((held : List Snapshot) → StandsFor b held → StandsFor c (after held r))
    → ((held : List Snapshot) → StandsFor b held → n.lines ≡ m.lines ++ answer_line (path_in folder name) (answer_to held r))
    → ((held : List Snapshot) → StandsFor b held → n.refused ≡ (m.refused || is_refusal (answer_to held r)))
    → HasTaken folder files (names ++ name ∷ []) c n
HasTaken-snoc folder files names name b c m n r e h is book lines refused =
    let rs = readings_of folder files names in
    let ps = paths_of folder names in
    let more : readings_of folder files (names ++ name ∷ []) ≡ rs ++ r ∷ [] = readings-snoc folder files names name e ∙ ap (λ x. rs ++ x ∷ []) (sym is) in
    let held = accepted rs in
    let again : answers (rs ++ r ∷ []) ≡ answers rs ++ answer_to held r ∷ [] = answers-snoc [] rs r in
    let long : length (answers rs) ≡ length ps = length-answers [] rs ∙ length-map (reading_at files) ps in
    record {
      book = subst (StandsFor c) (sym (ap accepted more ∙ accepted-snoc [] rs r)) (book held h.book);
      lines =
          lines held h.book ∙ ap (λ l. l ++ answer_line (path_in folder name) (answer_to held r)) h.lines
          ∙ sym (lines-snoc ps (answers rs) (path_in folder name) (answer_to held r) long)
          ∙ ap (answer_lines (ps ++ path_in folder name ∷ [])) (sym again)
          ∙ ap (λ qs. answer_lines qs (answers (rs ++ r ∷ []))) (sym (paths-snoc folder names name e))
          ∙ ap (λ xs. answer_lines (paths_of folder (names ++ name ∷ [])) (answers xs)) (sym more);
      refused =
          refused held h.book ∙ ap (λ t. t || is_refusal (answer_to held r)) h.refused
          ∙ ap (λ t. list_any is_refusal (answers rs) || t) (sym (or-false (is_refusal (answer_to held r))))
          ∙ sym (list_any-append is_refusal (answers rs) (answer_to held r ∷ []))
          ∙ ap (list_any is_refusal) (sym again)
          ∙ ap (λ xs. list_any is_refusal (answers xs)) (sym more);
    }

-- ---- a text that is cut past its greatest size reads as the whole

pub reading-cut : (bytes : List ℕ) → reading (take 134217729 bytes) ≡ reading bytes
unfolding reading
reading-cut bytes =
    elim (cases_lt max_text (length bytes)) [
      | inl longer ↦
          let cut : length (take 134217729 bytes) ≡ 134217729 = length-take-le 134217729 bytes (omega arith) in
          let still : max_text < length (take 134217729 bytes) = omega arith in
          ap (λ t. cond t (Err TooLong) (or_fault Syntax (parsed (take 134217729 bytes)) >>= λ d. shaped (snapshot_of d))) (lt-ltb max_text (length (take 134217729 bytes)) still)
          ∙ sym (ap (λ t. cond t (Err TooLong) (or_fault Syntax (parsed bytes) >>= λ d. shaped (snapshot_of d))) (lt-ltb max_text (length bytes) longer))
      | inr short ↦ let same : take 134217729 bytes ≡ bytes = take_all 134217729 bytes (omega arith) in ap (λ bs. cond (nat_lt max_text (length bs)) (Err TooLong) (or_fault Syntax (parsed bs) >>= λ d. shaped (snapshot_of d))) same
    ]

pub reading-found : (found : Option (List ℕ)) (bytes : List ℕ) → option_map (take 134217729) found ≡ Some bytes → reading bytes ≡ reading (unwrap_or found [])
reading-found None bytes e = cc
reading-found (Some text) bytes e = ap reading (sym (ap (λ o. unwrap_or o []) e)) ∙ reading-cut text
