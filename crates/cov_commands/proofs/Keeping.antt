-- One more text's map entries.
use Rattle.std.proofs.Common.{◌≡◌, ℕ, ◌<◌, true, false, List, [], ◌∷◌, ◌++◌, length, take, map, refl, sym, ap, ap₂, ◌∙◌, subst, arith, inl, inr}
use Rattle.std.specs.Prelude.{Option, None, Some, Ok, Err, option_map, unwrap_or, cond, nat_lt}
use Rattle.std.proofs.lemmas.Bool.{lt-ltb, cases_lt}
use Rattle.std.proofs.lemmas.List.{append-nil, map-append, take_all, length-take-le, append_assoc}
use Rattle.cov_text.specs.Listing.{max_text}
use Rattle.cov_model.specs.declared.snapshot.Snapshot.{Snapshot}
use Rattle.cov_model.specs.declared.sums.Answer.{Answer}
use Rattle.cov_model.specs.declared.sums.Answer.TheVariants.{Taken, Bad, Past}
use Rattle.cov_model.specs.declared.snapshot.TextFault.TheVariants.{TooLong, Syntax}
use Rattle.json_shapes.specs.Shapes.{or_fault, parsed, ◌>>=◌}
use Rattle.cov_model.specs.Reading.{reading}
use Rattle.cov_model.specs.Outcome.{accepted, answers, answer_to}
use Rattle.cov_files.specs.Maps.{maps_reading}
use Rattle.source_maps.specs.Entries.{Said, entries_of}
use Rattle.cov_report.specs.declared.kept.FirstEntries.{FirstEntries}
use Rattle.cov_report.specs.First.{AreFirsts}
use Rattle.cov_report.specs.Texts.{entries_if_taken, entries_of_taken, entries_or_none}
use Rattle.cov_io.specs.Told.{Files, path_in}
use Rattle.cov_book.specs.declared.book.Book.{Book}
use Rattle.cov_book.specs.Stands.{StandsFor}
use Rattle.cov_commands.specs.Due.{is_json, paths_of, readings_of, reading_at, text_at, entries_at}
use Rattle.cov_commands.specs.declared.gather.Merged.{Merged}
use Rattle.cov_commands.specs.declared.gather.Maps.{Maps}
use Rattle.cov_commands.specs.declared.gather.Maps.TheVariants.{Kept, Left}
use Rattle.cov_commands.specs.Gather.{HasTaken, HasKept, kept_if}
use Rattle.cov_commands.proofs.Taking.{answers-snoc, length-answers, length-map, paths-skip, paths-snoc}

pub kept-none : (maps : Maps) → [] ≡ kept_if maps []
kept-none Kept = refl
kept-none Left = refl

pub kept-append : (maps : Maps) (xs ys : List Said) → kept_if maps (xs ++ ys) ≡ kept_if maps xs ++ kept_if maps ys
kept-append Kept xs ys = refl
kept-append Left xs ys = refl

-- nothing is kept of a refused text
pub none-kept : (maps : Maps) (kept : FirstEntries) (all : List Said) → AreFirsts all kept → AreFirsts (all ++ kept_if maps []) kept
none-kept maps kept all are = subst (λ (entries : List Said). AreFirsts entries kept) (sym (append-nil all) ∙ ap (λ more. all ++ more) (kept-none maps)) are

entries-snoc : (texts : List (List ℕ)) (xs : List Answer) (t : List ℕ) (a : Answer) → length xs ≡ length texts
    → entries_of_taken (texts ++ t ∷ []) (xs ++ a ∷ []) ≡ entries_of_taken texts xs ++ entries_if_taken t a
unfolding entries_of_taken
entries-snoc [] [] t a e = append-nil (entries_if_taken t a)
entries-snoc [] (x ∷ xs) t a e = absurd (omega arith)
entries-snoc (u ∷ texts) [] t a e = absurd (omega arith)
entries-snoc (u ∷ texts) (x ∷ xs) t a e =
    let shorter : length xs ≡ length texts = omega arith in
    ap (λ rest. entries_if_taken u x ++ rest) (entries-snoc texts xs t a shorter) ∙ sym (append_assoc (entries_if_taken u x) (entries_of_taken texts xs) (entries_if_taken t a))

entries-same : (bytes text : List ℕ) (a : Answer) → maps_reading bytes ≡ maps_reading text → entries_if_taken bytes a ≡ entries_if_taken text a
entries-same bytes text Taken e = ap entries_or_none e
entries-same bytes text (Bad fault) e = refl
entries-same bytes text (Past fault) e = refl

entries-more : (files : Files) (ps : List (List ℕ)) (p : List ℕ)
    → entries_at files (ps ++ p ∷ []) ≡ entries_at files ps ++ entries_if_taken (text_at files p) (answer_to (accepted (map (reading_at files) ps)) (reading_at files p))
entries-more files ps p =
    let rs = map (reading_at files) ps in
    let long : length (answers rs) ≡ length (map (text_at files) ps) = length-answers [] rs ∙ length-map (reading_at files) ps ∙ sym (length-map (text_at files) ps) in
    ap₂ (λ (texts : List (List ℕ)) (given : List Answer). entries_of_taken texts given) (map-append (text_at files) ps (p ∷ []))
    (ap answers (map-append (reading_at files) ps (p ∷ [])) ∙ answers-snoc [] rs (reading_at files p))
    ∙ entries-snoc (map (text_at files) ps) (answers rs) (text_at files p) (answer_to (accepted rs) (reading_at files p)) long

pub HasKept-skip : (maps : Maps) (folder : List ℕ) (files : Files) (names : List (List ℕ)) (name : List ℕ) (m : Merged)
    → is_json name ≡ false → HasKept maps folder files names m → HasKept maps folder files (names ++ name ∷ []) m
HasKept-skip maps folder files names name m e h = subst (λ ps. AreFirsts (kept_if maps (entries_at files ps)) m.entries) (sym (paths-skip folder names name e)) h

pub HasKept-snoc : (maps : Maps) (folder : List ℕ) (files : Files) (names : List (List ℕ)) (name : List ℕ) (b : Book) (m n : Merged) (bytes : List ℕ)
    → is_json name ≡ true → HasTaken folder files names b m → HasKept maps folder files names m
    → reading bytes ≡ reading_at files (path_in folder name) → maps_reading bytes ≡ maps_reading (text_at files (path_in folder name))
    → ((held : List Snapshot) (all : List Said) → StandsFor b held → AreFirsts all m.entries
    → AreFirsts (all ++ kept_if maps (entries_if_taken bytes (answer_to held (reading bytes)))) n.entries)
    → HasKept maps folder files (names ++ name ∷ []) n
HasKept-snoc maps folder files names name b m n bytes e taken h read said_same entries =
    let ps = paths_of folder names in
    let path = path_in folder name in
    let held = accepted (readings_of folder files names) in
    let more = entries-same bytes (text_at files path) (answer_to held (reading bytes)) said_same
    ∙ ap (λ r. entries_if_taken (text_at files path) (answer_to held r)) read in
    let all = kept_if maps (entries_at files ps) in
    subst (λ (said : List Said). AreFirsts said n.entries)
    (
    ap (λ (found : List Said). all ++ kept_if maps found) more
    ∙ sym (kept-append maps (entries_at files ps) (entries_if_taken (text_at files path) (answer_to held (reading_at files path))))
    ∙ ap (kept_if maps) (sym (entries-more files ps path))
    ∙ ap (λ qs. kept_if maps (entries_at files qs)) (sym (paths-snoc folder names name e))
    )
    (entries held all taken.book h)

-- ---- a text that is cut past its greatest size says of maps what the whole says

maps-cut : (bytes : List ℕ) → maps_reading (take 134217729 bytes) ≡ maps_reading bytes
unfolding maps_reading
maps-cut bytes =
    elim (cases_lt max_text (length bytes)) [
      | inl longer ↦
          let cut : length (take 134217729 bytes) ≡ 134217729 = length-take-le 134217729 bytes (omega arith) in
          let still : max_text < length (take 134217729 bytes) = omega arith in
          ap (λ t. cond t (Err TooLong) (or_fault Syntax (parsed (take 134217729 bytes)) >>= λ d. Ok (entries_of d))) (lt-ltb max_text (length (take 134217729 bytes)) still)
          ∙ sym (ap (λ t. cond t (Err TooLong) (or_fault Syntax (parsed bytes) >>= λ d. Ok (entries_of d))) (lt-ltb max_text (length bytes) longer))
      | inr short ↦ let same : take 134217729 bytes ≡ bytes = take_all 134217729 bytes (omega arith) in ap (λ bs. cond (nat_lt max_text (length bs)) (Err TooLong) (or_fault Syntax (parsed bs) >>= λ d. Ok (entries_of d))) same
    ]

pub maps-found : (found : Option (List ℕ)) (bytes : List ℕ) → option_map (take 134217729) found ≡ Some bytes → maps_reading bytes ≡ maps_reading (unwrap_or found [])
maps-found None bytes e = cc
maps-found (Some text) bytes e = ap maps_reading (sym (ap (λ o. unwrap_or o []) e)) ∙ maps-cut text
