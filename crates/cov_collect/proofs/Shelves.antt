-- A shelf with one answer more.
use Rattle.std.proofs.Common.{◌≡◌, ℕ, zero, suc, ◌<◌, Bool, true, false, List, [], ◌∷◌, ◌++◌, length, map, refl, sym, ap, ◌∙◌}
use Rattle.std.proofs.Common.{subst, arith, Some, None, nat_eq, slice_get, slice_set, replicate, get_or, Global}
use Rattle.std.specs.Prelude.{Option, Vec, is_some, unwrap_or, option_map, filter_map, vec_items, ◌||◌}
use Rattle.std.specs.List.{list_any, IsDistinct, cons_option}
use Rattle.std.proofs.lemmas.List.Folds.{list_any-append}
use Rattle.std.proofs.lemmas.List.Elements.{filter_map-append}
use Rattle.std.proofs.lemmas.List.{length-set, length-map, length-replicate}
use Rattle.std.proofs.lemmas.Option.{slice_get_within, slice_get-map, slice_get_read}
use Rattle.std.proofs.lemmas.Bool.Decides.{nat_tests}
use Rattle.std.proofs.lemmas.Bool.{or_parts}
use Rattle.std.proofs.Math.Bool.{or-true, or-false}
use Rattle.cov_model.specs.declared.snapshot.Snapshot.{Snapshot}
use Rattle.cov_model.specs.declared.sums.Answer.{Answer}
use Rattle.cov_model.specs.Outcome.{Reading, IsOrder, outcome_list, picked, after, answer_to, accepted_over, answers_over}
use Rattle.cov_model.specs.Reading.{reading}
use Rattle.cov_model.specs.Held.{Held}
use Rattle.cov_model.proofs.Chains.{accepted-more, answers-more}
use Rattle.cov_text.proofs.Each.{All-push}
use Rattle.cov_book.specs.Stands.{StandsFor}
use Rattle.cov_collect.specs.Shelves.{IsShelf, readings_of, answer_at, answers_in, given_of}
use Rattle.cov_collect.specs.Batches.{AllAnswered, IsBatch}
use Rattle.cov_collect.proofs.Stays.{stays-refused}

eq-swap : (a b : ℕ) → nat_eq a b ≡ false → nat_eq b a ≡ false
eq-swap a b e = grind (arith, nat_tests)

distinct-push : (xs : List ℕ) (y : ℕ) → IsDistinct nat_eq xs → list_any (nat_eq y) xs ≡ false → IsDistinct nat_eq (xs ++ y ∷ [])
unfolding IsDistinct
distinct-push [] y h none = (tt, tt)
distinct-push (x ∷ xs) y h none =
    let apart = or_parts (nat_eq y x) (list_any (nat_eq y) xs) none in
    (All-push (λ z. nat_eq x z ≡ false) xs y h.0 (eq-swap y x apart.0), distinct-push xs y h.1 apart.1)

-- the list at a place that was set, and at another
get-set-same : {A : Type 0} (xs : List (Option A)) (i : ℕ) (a : Option A) → i < length xs → unwrap_or (slice_get (slice_set xs i a) i) None ≡ a
get-set-same [] i a l = absurd (omega arith)
get-set-same (x ∷ xs) zero a l = refl
get-set-same (x ∷ xs) (suc i) a l = get-set-same xs i a (omega arith)

get-set-other : {A : Type 0} (xs : List A) (i j : ℕ) (a : A) → nat_eq i j ≡ false → slice_get (slice_set xs i a) j ≡ slice_get xs j
get-set-other [] i j a e = refl
get-set-other (x ∷ xs) zero zero a e = absurd cc
get-set-other (x ∷ xs) zero (suc j) a e = refl
get-set-other (x ∷ xs) (suc i) zero a e = refl
get-set-other (x ∷ xs) (suc i) (suc j) a e = get-set-other xs i j a (grind (arith, nat_tests))

-- the answers of the places in the order stay
others-stay : (answers : List (Option Answer)) (order : List ℕ) (p : ℕ) (a : Answer) → list_any (nat_eq p) order ≡ false
    → answers_in (slice_set answers p (Some a)) order ≡ answers_in answers order
others-stay answers [] p a none = refl
others-stay answers (q ∷ qs) p a none =
    let apart = or_parts (nat_eq p q) (list_any (nat_eq p) qs) none in
    ap (λ o. cons_option (unwrap_or o None) (answers_in (slice_set answers p (Some a)) qs)) (get-set-other answers p q (Some a) apart.0)
    ∙ ap (cons_option (answer_at answers q)) (others-stay answers qs p a apart.1)

answers-push : (answers : List (Option Answer)) (order : List ℕ) (p : ℕ) (a : Answer) → p < length answers → list_any (nat_eq p) order ≡ false
    → answers_in (slice_set answers p (Some a)) (order ++ p ∷ []) ≡ answers_in answers order ++ a ∷ []
answers-push answers order p a within none =
    let set = slice_set answers p (Some a) in
    filter_map-append (answer_at set) order (p ∷ [])
    ∙ ap (λ xs. xs ++ filter_map (answer_at set) (p ∷ [])) (others-stay answers order p a none)
    ∙ ap (λ o. answers_in answers order ++ cons_option o []) (get-set-same answers p (Some a) within)

picked-push : (readings : List Reading) (order : List ℕ) (p : ℕ) (r : Reading) → slice_get readings p ≡ Some r
    → picked readings (order ++ p ∷ []) ≡ picked readings order ++ r ∷ []
picked-push readings order p r is =
    filter_map-append (slice_get readings) order (p ∷ []) ∙ ap (λ o. picked readings order ++ cons_option o []) is

-- whether a place has an answer, after one more
answered-push : (answers : List (Option Answer)) (order : List ℕ) (p : ℕ) (a : Answer) → p < length answers
    → ((place : ℕ) → list_any (nat_eq place) order ≡ is_some (answer_at answers place))
    → (place : ℕ) → list_any (nat_eq place) (order ++ p ∷ []) ≡ is_some (answer_at (slice_set answers p (Some a)) place)
answered-push answers order p a within h place =
    list_any-append (nat_eq place) order (p ∷ []) ∙ ap (λ b. b || (nat_eq place p || false)) (h place) ∙ by (nat_eq place p) refl
  where
    by : (b : Bool) → nat_eq place p ≡ b → (is_some (answer_at answers place) || (b || false)) ≡ is_some (answer_at (slice_set answers p (Some a)) place)
    by true e =
        let same : place ≡ p = grind (arith, nat_tests) in
        or-true (is_some (answer_at answers place)) ∙ sym (ap (λ q. is_some (answer_at (slice_set answers p (Some a)) q)) same ∙ ap is_some (get-set-same answers p (Some a) within))
    by false e =
        or-false (is_some (answer_at answers place)) ∙ sym (ap (λ o. is_some (unwrap_or o None)) (get-set-other answers p place (Some a) (eq-swap place p e)))

-- One text more is answered by the rule.
pub IsShelf-push : (base : Held) (texts : List (List ℕ)) (answers : List (Option Answer)) (order now : List ℕ) (book next : Held)
    (p : ℕ) (read : Reading) (a : Answer)
    → IsShelf base texts (record { book = book; answers = answers; order = order })
    → slice_get (readings_of texts) p ≡ Some read
    → answer_at answers p ≡ None
    → now ≡ order ++ p ∷ []
    → ((held : List Snapshot) → StandsFor book held → a ≡ answer_to held read)
    → ((held : List Snapshot) → StandsFor book held → StandsFor next (after held read))
    → IsShelf base texts (record { book = next; answers = slice_set answers p (Some a); order = now })
IsShelf-push base texts answers order now book next p read a shelf is free then answer adds =
    let readings = readings_of texts in
    let below : p < length texts = omega (arith, slice_get_within readings p read is, length-map texts reading) in
    let within : p < length answers = omega (arith, below, shelf.places) in
    let none : list_any (nat_eq p) order ≡ false = shelf.answered p ∙ ap is_some free in
    subst (λ o. IsShelf base texts (record { book = next; answers = slice_set answers p (Some a); order = o })) (sym then) (record {
      places = length-set answers p (Some a) ∙ shelf.places;
      order = record { within = All-push (λ q. q < length texts) order p shelf.order.within below; distinct = distinct-push order p shelf.order.distinct none };
      answered = answered-push answers order p a within shelf.answered;
      tells = λ held stands.
          let told = shelf.tells held stands in
          let list = outcome_list held readings order in
          let more = picked-push readings order p read is in
          record {
            outcome =
                answers-push answers order p a within none
                ∙ ap (λ xs. xs ++ a ∷ []) told.outcome
                ∙ ap (λ x. answers_over held (picked readings order) ++ x ∷ []) (answer list told.book)
                ∙ sym (answers-more held (picked readings order) read)
                ∙ sym (ap (answers_over held) more);
            book = subst (StandsFor next) (sym (ap (accepted_over held) more ∙ accepted-more held (picked readings order) read)) (adds list told.book);
          };
    })

free-nowhere : (n place : ℕ) → false ≡ is_some (answer_at (replicate n None) place)
free-nowhere zero place = refl
free-nowhere (suc n) zero = refl
free-nowhere (suc n) (suc place) = free-nowhere n place

-- No text is answered.
pub IsShelf-new : (base book : Held) (texts : List (List ℕ)) (answers : List (Option Answer)) (order : List ℕ)
    → book ≡ base → answers ≡ replicate (length texts) None → order ≡ []
    → IsShelf base texts (record { book = book; answers = answers; order = order })
unfolding IsDistinct answers_over accepted_over
IsShelf-new base book texts answers order same none empty =
    subst (λ o. IsShelf base texts (record { book = book; answers = answers; order = o })) (sym empty)
    (subst (λ xs. IsShelf base texts (record { book = book; answers = xs; order = [] })) (sym none) (record {
      places = length-replicate (length texts) None;
      order = record { within = tt; distinct = tt };
      answered = free-nowhere (length texts);
      tells = λ held stands. record { outcome = refl; book = subst (λ b. StandsFor b held) (sym same) stands };
    }))

-- the reading of the text at a place
pub reading-at : (texts : List (Vec ℕ Global)) (named : List (List ℕ)) (place : ℕ) (text : Vec ℕ Global) (read : Reading)
    → map vec_items texts ≡ named → place < length texts → text ≡ get_or texts place text → read ≡ reading text.items
    → slice_get (readings_of named) place ≡ Some read
reading-at texts named place text read same below is reads =
    ap (λ ts. slice_get (readings_of ts) place) (sym same)
    ∙ slice_get-map reading (map vec_items texts) place
    ∙ ap (option_map reading) (slice_get-map vec_items texts place ∙ ap (option_map vec_items) (slice_get_read texts (length texts) place text refl below is))
    ∙ ap Some (sym reads)

-- Where each place has an answer, the answers given are those of the places.
given-length : (xs : List (Option Answer)) → AllAnswered xs (length xs) → length (given_of xs) ≡ length xs
given-length [] h = refl
given-length (Some a ∷ xs) h = ap suc (given-length xs (λ p below. h (suc p) (omega arith)))
given-length (None ∷ xs) h = absurd (cc (h 0 (omega arith)))

given-at : (xs : List (Option Answer)) → AllAnswered xs (length xs) → (p : ℕ) → slice_get (given_of xs) p ≡ answer_at xs p
given-at [] h p = refl
given-at (Some a ∷ xs) h zero = refl
given-at (Some a ∷ xs) h (suc p) = given-at xs (λ q below. h (suc q) (omega arith)) p
given-at (None ∷ xs) h p = absurd (cc (h 0 (omega arith)))

given-in : (xs : List (Option Answer)) → AllAnswered xs (length xs) → (order : List ℕ) → filter_map (slice_get (given_of xs)) order ≡ answers_in xs order
given-in xs h [] = refl
given-in xs h (p ∷ ps) = ap (λ o. cons_option o (filter_map (slice_get (given_of xs)) ps)) (given-at xs h p) ∙ ap (cons_option (answer_at xs p)) (given-in xs h ps)

pub IsBatch-from : (base : Held) (texts : List (List ℕ)) (book : Held) (answers : List (Option Answer)) (order : List ℕ) (all : List Answer) (places : List ℕ)
    → IsShelf base texts (record { book = book; answers = answers; order = order })
    → AllAnswered answers (length texts)
    → all ≡ given_of answers → places ≡ order
    → (held : List Snapshot) → StandsFor base held → IsBatch held texts (record { book = book; answers = all; order = places })
IsBatch-from base texts book answers order all places shelf done is same held stands =
    let told = shelf.tells held stands in
    let full : AllAnswered answers (length answers) = λ p below. done p (omega (arith, below, shelf.places)) in
    subst (λ xs. IsBatch held texts (record { book = book; answers = xs; order = places })) (sym is)
    (subst (λ xs. IsBatch held texts (record { book = book; answers = given_of answers; order = xs })) (sym same) (record {
      answered = given-length answers full ∙ shelf.places;
      order = shelf.order;
      every = λ place below. shelf.answered place ∙ done place below;
      outcome = given-in answers full order ∙ told.outcome;
      book = told.book;
      stays =
          let many = length-map texts reading in
          stays-refused held (readings_of texts) (given_of answers) order (given-length answers full ∙ shelf.places ∙ sym many)
          (subst (λ n. IsOrder n order) (sym many) shelf.order)
          (λ place below. shelf.answered place ∙ done place (omega (arith, below, many)))
          (given-in answers full order ∙ told.outcome);
    }))

-- one answer more was given, or none
pub given_of-push : (xs : List (Option Answer)) (o : Option Answer) → given_of (xs ++ o ∷ []) ≡ given_of xs ++ cons_option o []
given_of-push xs o = filter_map-append (λ a. a) xs (o ∷ [])
