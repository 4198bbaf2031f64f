-- One batch more.
use Rattle.std.proofs.Common.{◌≡◌, ℕ, zero, suc, ◌+◌, ◌-◌, ◌<◌, ◌≤◌, Bool, true, false, List, [], ◌∷◌, ◌++◌, length, map, take, refl, sym, ap, ◌∙◌, subst, arith}
use Rattle.std.proofs.Common.{inl, inr, append_assoc, nat_eq, slice_get}
use Rattle.std.specs.Prelude.{filter_map, sum_by, nat_le, ◌||◌, ◌^◌, min}
use Rattle.std.specs.List.{list_any, AllByRecursion, IsDistinct, cons_option}
use Rattle.std.proofs.lemmas.List.{append-nil, map-append, length-append, length-map}
use Rattle.std.proofs.lemmas.List.Concat.{flat_map-append, flat_map-cons}
use Rattle.std.proofs.lemmas.List.Elements.{filter_map-append}
use Rattle.std.proofs.lemmas.List.Folds.{list_any-append}
use Rattle.std.proofs.lemmas.Bool.{cases_lt, le-leb}
use Rattle.std.proofs.lemmas.List.Sums.{sum_by_push}
use Rattle.std.proofs.lemmas.Bool.Decides.{nat_tests}
use Rattle.std.proofs.Math.Bool.{or-true}
use Rattle.cov_model.specs.declared.snapshot.Snapshot.{Snapshot}
use Rattle.cov_model.specs.declared.sums.Answer.{Answer}
use Rattle.cov_model.specs.Outcome.{Reading, IsOrder, IsOutcome, outcome_list, accepted_over, answers_over}
use Rattle.cov_model.specs.Reading.{reading}
use Rattle.cov_model.specs.Held.{Held}
use Rattle.cov_text.proofs.Each.{All-append, All-take}
use Rattle.cov_model.proofs.Chains.{get-left, get-past, outcomes_chain}
use Rattle.cov_book.specs.Stands.{StandsFor}
use Rattle.cov_collect.specs.declared.outcome.Batch.{Batch}
use Rattle.cov_collect.specs.declared.outcome.Collected.{Collected}
use Rattle.cov_collect.specs.Batches.{IsBatch}
use Rattle.cov_collect.specs.Batchwise.{AreWholeOrders, Collects, HasTaken, HasTakenAll, IsBatchOf, IsBatchwise, IsWholeOrder, is_full, joined, through}
use Rattle.cov_collect.specs.Collecting.{Collecting}
use Rattle.cov_collect.specs.Shelves.{readings_of}
use Rattle.cov_collect.proofs.Fitting.{fitting}
use Rattle.cov_collect.proofs.Stays.{stays-refused}

-- ---- lists

take-front : {A : Type 0} (xs ys : List A) → take (length xs) (xs ++ ys) ≡ xs
take-front [] ys = refl
take-front (x ∷ xs) ys = ap (λ zs. x ∷ zs) (take-front xs ys)

-- all but the last
pub front : {A : Type 0} (xs : List A) (x : A) → take (length (xs ++ x ∷ []) - 1) (xs ++ x ∷ []) ≡ xs
front xs x =
    let less : length (xs ++ x ∷ []) - 1 ≡ length xs = omega (arith, length-append xs (x ∷ [])) in
    ap (λ n. take n (xs ++ x ∷ [])) less ∙ take-front xs (x ∷ [])

picked-left : {A : Type 0} (xs ys : List A) (order : List ℕ) → AllByRecursion (λ p. p < length xs) order
    → filter_map (slice_get (xs ++ ys)) order ≡ filter_map (slice_get xs) order
picked-left xs ys [] h = refl
picked-left xs ys (p ∷ ps) h =
    ap (λ o. cons_option o (filter_map (slice_get (xs ++ ys)) ps)) (get-left xs ys p h.0) ∙ ap (cons_option (slice_get xs p)) (picked-left xs ys ps h.1)

picked-right : {A : Type 0} (xs ys : List A) (n : ℕ) → n ≡ length xs → (more : List ℕ)
    → filter_map (slice_get (xs ++ ys)) (map (λ place. n + place) more) ≡ filter_map (slice_get ys) more
picked-right xs ys n is [] = refl
picked-right xs ys n is (p ∷ ps) =
    ap (λ o. cons_option o (filter_map (slice_get (xs ++ ys)) (map (λ place. n + place) ps))) (get-past xs ys p (n + p) (ap (λ m. m + p) is))
    ∙ ap (cons_option (slice_get ys p)) (picked-right xs ys n is ps)

-- the items of two lists, in an order of the first and one of the second behind it
picked-both : {A : Type 0} (xs ys : List A) (n : ℕ) → n ≡ length xs → (order more : List ℕ) → AllByRecursion (λ p. p < length xs) order
    → filter_map (slice_get (xs ++ ys)) (order ++ map (λ place. n + place) more) ≡ filter_map (slice_get xs) order ++ filter_map (slice_get ys) more
picked-both xs ys n is order more within =
    filter_map-append (slice_get (xs ++ ys)) order (map (λ place. n + place) more)
    ∙ ap (λ zs. zs ++ filter_map (slice_get (xs ++ ys)) (map (λ place. n + place) more)) (picked-left xs ys order within)
    ∙ ap (λ zs. filter_map (slice_get xs) order ++ zs) (picked-right xs ys n is more)

-- ---- orders

below-more : (n m : ℕ) (xs : List ℕ) → AllByRecursion (λ p. p < n) xs → AllByRecursion (λ p. p < n + m) xs
below-more n m [] h = tt
below-more n m (x ∷ xs) h = (omega (arith, h.0), below-more n m xs h.1)

below-shift : (n m : ℕ) (xs : List ℕ) → AllByRecursion (λ p. p < m) xs → AllByRecursion (λ p. p < n + m) (map (λ place. n + place) xs)
below-shift n m [] h = tt
below-shift n m (x ∷ xs) h = (omega (arith, h.0), below-shift n m xs h.1)

apart-shift : (n y : ℕ) (xs : List ℕ) → AllByRecursion (λ z. nat_eq y z ≡ false) xs → AllByRecursion (λ z. nat_eq (n + y) z ≡ false) (map (λ place. n + place) xs)
apart-shift n y [] h = tt
apart-shift n y (x ∷ xs) h = (let e = h.0 in grind (arith, nat_tests), apart-shift n y xs h.1)

distinct-shift : (n : ℕ) (xs : List ℕ) → IsDistinct nat_eq xs → IsDistinct nat_eq (map (λ place. n + place) xs)
unfolding IsDistinct
distinct-shift n [] h = tt
distinct-shift n (x ∷ xs) h = (apart-shift n x xs h.0, distinct-shift n xs h.1)

apart-past : (n y : ℕ) → y < n → (xs : List ℕ) → AllByRecursion (λ z. nat_eq y z ≡ false) (map (λ place. n + place) xs)
apart-past n y l [] = tt
apart-past n y l (x ∷ xs) = (grind (arith, nat_tests), apart-past n y l xs)

distinct-more : (n : ℕ) (xs ys : List ℕ) → AllByRecursion (λ p. p < n) xs → IsDistinct nat_eq xs → IsDistinct nat_eq ys
    → IsDistinct nat_eq (xs ++ map (λ place. n + place) ys)
unfolding IsDistinct
distinct-more n [] ys below h k = distinct-shift n ys k
distinct-more n (x ∷ xs) ys below h k =
    (All-append (λ z. nat_eq x z ≡ false) xs (map (λ place. n + place) ys) h.0 (apart-past n x below.0 ys), distinct-more n xs ys below.1 h.1 k)

eq-shift : (n p q : ℕ) → nat_eq (n + p) (n + q) ≡ nat_eq p q
eq-shift n p q = by (nat_eq p q) refl
  where
    by : (b : Bool) → nat_eq p q ≡ b → nat_eq (n + p) (n + q) ≡ b
    by true e = grind (arith, nat_tests)
    by false e = grind (arith, nat_tests)

any-shift : (n q : ℕ) (xs : List ℕ) → list_any (nat_eq (n + q)) (map (λ place. n + place) xs) ≡ list_any (nat_eq q) xs
any-shift n q [] = refl
any-shift n q (x ∷ xs) = ap (λ b. b || list_any (nat_eq (n + q)) (map (λ place. n + place) xs)) (eq-shift n q x) ∙ ap (λ b. nat_eq q x || b) (any-shift n q xs)

every-more : (n m : ℕ) (order more : List ℕ) → ((place : ℕ) → place < n → list_any (nat_eq place) order ≡ true)
    → ((place : ℕ) → place < m → list_any (nat_eq place) more ≡ true)
    → (place : ℕ) → place < n + m → list_any (nat_eq place) (order ++ map (λ p. n + p) more) ≡ true
every-more n m order more h k place below =
    list_any-append (nat_eq place) order (map (λ p. n + p) more) ∙ elim (cases_lt place n) [
      | inl less ↦ ap (λ b. b || list_any (nat_eq place) (map (λ p. n + p) more)) (h place less)
      | inr past ↦
          let q = place - n in
          let is : place ≡ n + q = omega arith in
          let in_more : list_any (nat_eq place) (map (λ p. n + p) more) ≡ true =
          ap (λ x. list_any (nat_eq x) (map (λ p. n + p) more)) is ∙ any-shift n q more ∙ k q (omega arith) in
          ap (λ b. list_any (nat_eq place) order || b) in_more ∙ or-true (list_any (nat_eq place) order)
    ]

whole-more : (n m : ℕ) (order more : List ℕ) → IsWholeOrder n order → IsWholeOrder m more → IsWholeOrder (n + m) (order ++ map (λ place. n + place) more)
whole-more n m order more h k = record {
  order_is = record {
    within = All-append (λ p. p < n + m) order (map (λ place. n + place) more) (below-more n m order h.order_is.within) (below-shift n m more k.order_is.within);
    distinct = distinct-more n order more h.order_is.within h.order_is.distinct k.order_is.distinct;
  };
  every = every-more n m order more h.every k.every;
}

-- ---- the orders of batches

total : List ℕ → ℕ
total [] = 0
total (size ∷ sizes) = size + total sizes

orders-more : (sizes : List ℕ) (orders : List (List ℕ)) (size : ℕ) (order : List ℕ) → AreWholeOrders sizes orders → IsWholeOrder size order
    → AreWholeOrders (sizes ++ size ∷ []) (orders ++ order ∷ [])
orders-more [] [] size order h k = (k, tt)
orders-more [] (o ∷ os) size order h k = absurd h
orders-more (s ∷ ss) [] size order h k = absurd h
orders-more (s ∷ ss) (o ∷ os) size order h k = (h.0, orders-more ss os size order h.1 k)

through-more : (n : ℕ) (sizes : List ℕ) (orders : List (List ℕ)) (size : ℕ) (order : List ℕ) → AreWholeOrders sizes orders → (m : ℕ) → m ≡ n + total sizes
    → through n (sizes ++ size ∷ []) (orders ++ order ∷ []) ≡ through n sizes orders ++ map (λ place. m + place) order
unfolding total
through-more n [] [] size order h m is = append-nil (map (λ place. n + place) order) ∙ ap (λ k. map (λ place. k + place) order) (omega (arith, is))
through-more n [] (o ∷ os) size order h m is = absurd h
through-more n (s ∷ ss) [] size order h m is = absurd h
through-more n (s ∷ ss) (o ∷ os) size order h m is =
    ap (λ xs. map (λ place. n + place) o ++ xs) (through-more (n + s) ss os size order h.1 m (omega (arith, is)))
    ∙ sym (append_assoc (map (λ place. n + place) o) (through (n + s) ss os) (map (λ place. m + place) order))

-- ---- outcomes

pub IsBatchwise-none : IsBatchwise [] [] [] []
unfolding IsDistinct answers_over
IsBatchwise-none = record {
  orders = [];
  each = tt;
  order_is = refl;
  whole = none;
  answered = refl;
  outcome = refl;
  stays = λ place snapshot fault read given. absurd cc;
  fitting = fitting [] [] [] none refl refl;
}
  where
    none : IsWholeOrder 0 []
    none = record { order_is = record { within = tt; distinct = tt }; every = λ place below. absurd (omega (arith, below)) }

-- a batch more is a batch more of one outcome
IsBatchwise-more : (readings : List Reading) (sizes : List ℕ) (order : List ℕ) (answers : List Answer) (texts : List (List ℕ)) (batch : Batch)
    → length readings ≡ total sizes → IsBatchwise readings sizes order answers → IsBatch (outcome_list [] readings order) texts batch
    → IsBatchwise (readings ++ readings_of texts) (sizes ++ length texts ∷ []) (order ++ map (λ place. length readings + place) batch.order) (answers ++ batch.answers)
IsBatchwise-more readings sizes order answers texts batch long h b =
    let second = readings_of texts in
    let n = length readings in
    let all = order ++ map (λ place. n + place) batch.order in
    let many : length second ≡ length texts = length-map texts reading in
    let own : IsWholeOrder (length texts) batch.order = record { order_is = b.order; every = b.every } in
    let size : length (readings ++ second) ≡ n + length texts = length-append readings second ∙ ap (λ m. n + m) many in
    let whole : IsWholeOrder (length (readings ++ second)) all = subst (λ m. IsWholeOrder m all) (sym size) (whole-more n (length texts) order batch.order h.whole own) in
    let answered : length (answers ++ batch.answers) ≡ length (readings ++ second) = omega (arith, length-append answers batch.answers, size, h.answered, b.answered) in
    let picked : filter_map (slice_get (answers ++ batch.answers)) all ≡ filter_map (slice_get answers) order ++ filter_map (slice_get batch.answers) batch.order =
    picked-both answers batch.answers n (sym h.answered) order batch.order (subst (λ m. AllByRecursion (λ p. p < m) order) (sym h.answered) h.whole.order_is.within) in
    let chain = outcomes_chain [] readings second order batch.order (filter_map (slice_get answers) order) (filter_map (slice_get batch.answers) batch.order)
    h.whole.order_is (subst (λ m. IsOrder m batch.order) (sym many) b.order) h.outcome b.outcome in
    let outcome : IsOutcome [] (readings ++ second) all (filter_map (slice_get (answers ++ batch.answers)) all) = picked ∙ chain.0 in
    record {
      orders = h.orders ++ batch.order ∷ [];
      each = orders-more sizes h.orders (length texts) batch.order h.each own;
      order_is = ap (λ xs. xs ++ map (λ place. n + place) batch.order) h.order_is ∙ sym (through-more 0 sizes h.orders (length texts) batch.order h.each n (omega (arith, long)));
      whole = whole;
      answered = answered;
      outcome = outcome;
      stays = stays-refused [] (readings ++ second) (answers ++ batch.answers) all answered whole.order_is whole.every outcome;
      fitting = fitting (readings ++ second) all (answers ++ batch.answers) whole answered outcome;
    }

-- ---- what was taken

abbrev Texts : Type 0
Texts = List (List ℕ)

pub joined-more : (batches : List Texts) (texts : Texts) → joined (batches ++ texts ∷ []) ≡ joined batches ++ texts
joined-more batches texts =
    flat_map-append (λ (batch : Texts). batch) batches (texts ∷ [])
    ∙ ap (λ xs. joined batches ++ xs) (flat_map-cons (λ (batch : Texts). batch) texts [] ∙ append-nil texts)

total-joined : (batches : List Texts) → length (readings_of (joined batches)) ≡ total (map length batches)
unfolding total
total-joined [] = refl
total-joined (texts ∷ batches) =
    length-map (joined (texts ∷ batches)) reading
    ∙ ap length (flat_map-cons (λ (batch : Texts). batch) texts batches) ∙ length-append texts (joined batches)
    ∙ ap (λ n. length texts + n) (sym (length-map (joined batches) reading) ∙ total-joined batches)

pub HasTaken-none : (book : Held) → StandsFor book [] → HasTaken [] (record { book = book; answers = [] })
unfolding accepted_over
HasTaken-none book stands = record { order = []; outcome = IsBatchwise-none; book = stands }

pub HasTaken-more : (batches : List Texts) (c : Collected) (texts : Texts) (batch : Batch) (answers : List Answer) → answers ≡ c.answers ++ batch.answers
    → ((held : List Snapshot) → StandsFor c.book held → IsBatch held texts batch)
    → HasTaken batches c → HasTaken (batches ++ texts ∷ []) (record { book = batch.book; answers = answers })
HasTaken-more batches c texts batch answers is taken h =
    let readings = readings_of (joined batches) in
    let b = taken (outcome_list [] readings h.order) h.book in
    let order = h.order ++ map (λ place. length readings + place) batch.order in
    let more : readings_of (joined (batches ++ texts ∷ [])) ≡ readings ++ readings_of texts = ap readings_of (joined-more batches texts) ∙ map-append reading (joined batches) texts in
    let sizes : map length (batches ++ texts ∷ []) ≡ map length batches ++ length texts ∷ [] = map-append length batches (texts ∷ []) in
    let chain = outcomes_chain [] readings (readings_of texts) h.order batch.order (filter_map (slice_get c.answers) h.order) (filter_map (slice_get batch.answers) batch.order)
    h.outcome.whole.order_is (subst (λ m. IsOrder m batch.order) (sym (length-map texts reading)) b.order) h.outcome.outcome b.outcome in
    subst (λ xs. HasTaken (batches ++ texts ∷ []) (record { book = batch.book; answers = xs })) (sym is) (record {
      order = order;
      outcome =
          subst (λ (rs : List Reading). IsBatchwise rs (map length (batches ++ texts ∷ [])) order (c.answers ++ batch.answers)) (sym more)
          (subst (λ ns. IsBatchwise (readings ++ readings_of texts) ns order (c.answers ++ batch.answers)) (sym sizes)
          (IsBatchwise-more readings (map length batches) h.order c.answers texts batch (total-joined batches) h.outcome b));
      book = subst (StandsFor batch.book) (sym (ap (λ (rs : List Reading). outcome_list [] rs order) more ∙ chain.1)) b.book;
    })

-- ---- what waits

collecting : Held → List Answer → Texts → Collecting
collecting book answers waiting = record { book = book; answers = answers; waiting = waiting }

pub Collects-none : (book : Held) (answers : List Answer) (waiting : Texts) → StandsFor book [] → answers ≡ [] → waiting ≡ []
    → Collects [] (record { book = book; answers = answers; waiting = waiting })
unfolding collecting
Collects-none book answers waiting stands none empty =
    subst (λ xs. Collects [] (collecting book xs waiting)) (sym none) (subst (λ xs. Collects [] (collecting book [] xs)) (sym empty) (record {
      batches = [];
      whole = refl;
      each = tt;
      full = tt;
      taken = HasTaken-none book stands;
      few = refl;
      fewer = refl;
    }))

-- what is counted tells whether a batch is full
capped : (m : ℕ) → nat_le 33554432 m ≡ nat_le 33554432 (min m (2 ^ 64 - 1))
capped m = elim (cases_lt m (2 ^ 64 - 1)) [
  | inl less ↦ let same : m ≡ min m (2 ^ 64 - 1) = omega arith in ap (nat_le 33554432) same
  | inr more ↦
      let low : 33554432 ≤ m = omega arith in
      let lower : 33554432 ≤ min m (2 ^ 64 - 1) = omega arith in
      le-leb 33554432 m low ∙ sym (le-leb 33554432 (min m (2 ^ 64 - 1)) lower)
]

pub fills : (waiting : Texts) (text : List ℕ) (all : Texts) (n old bytes : ℕ) → all ≡ waiting ++ text ∷ [] → n ≡ length all → old ≡ sum_by length waiting
    → bytes ≡ min (old + length text) (2 ^ 64 - 1) → is_full all ≡ (nat_le 256 n || nat_le 33554432 bytes)
fills waiting text all n old bytes is count was now =
    let sum : sum_by length all ≡ old + length text = ap (sum_by length) is ∙ sum_by_push length waiting text ∙ ap (λ m. m + length text) (sym was) in
    ap (λ m. nat_le 256 m || nat_le 33554432 (sum_by length all)) (sym count)
    ∙ ap (λ b. nat_le 256 n || b) (ap (nat_le 33554432) sum ∙ capped (old + length text) ∙ sym (ap (nat_le 33554432) now))

-- one text more fills the batch, which is taken
pub Collects-full : (texts waiting : Texts) (text : List ℕ) (book : Held) (answers : List Answer) (all : Texts) (now : Collected)
    → all ≡ waiting ++ text ∷ [] → is_full all ≡ true
    → ((batches : List Texts) → HasTaken batches (record { book = book; answers = answers }) → HasTaken (batches ++ all ∷ []) now)
    → (left : Texts) → left ≡ [] → Collects texts (record { book = book; answers = answers; waiting = waiting })
    → Collects (texts ++ text ∷ []) (record { book = now.book; answers = now.answers; waiting = left })
unfolding collecting
Collects-full texts waiting text book answers all now is full taken left none h = subst (λ xs. Collects (texts ++ text ∷ []) (collecting now.book now.answers xs)) (sym none) (record {
  batches = h.batches ++ all ∷ [];
  whole =
      append-nil (joined (h.batches ++ all ∷ [])) ∙ joined-more h.batches all ∙ ap (λ xs. joined h.batches ++ xs) is
      ∙ sym (append_assoc (joined h.batches) waiting (text ∷ [])) ∙ ap (λ xs. xs ++ text ∷ []) h.whole;
  each = All-append IsBatchOf h.batches (all ∷ []) h.each (subst IsBatchOf (sym is) (record { some = omega (arith, length-append waiting (text ∷ [])); ends = ap is_full (front waiting text) ∙ h.few }), tt);
  full = All-append (λ (batch : Texts). is_full batch ≡ true) h.batches (all ∷ []) h.full (full, tt);
  taken = taken h.batches h.taken;
  few = refl;
  fewer = refl;
})

-- ---- the end

pub HasTakenAll-full : (texts waiting : Texts) (book : Held) (answers : List Answer) → waiting ≡ []
    → Collects texts (record { book = book; answers = answers; waiting = waiting }) → HasTakenAll texts (record { book = book; answers = answers })
HasTakenAll-full texts waiting book answers none h = record {
  batches = h.batches;
  cut = record {
    whole = sym (append-nil (joined h.batches)) ∙ ap (λ xs. joined h.batches ++ xs) (sym none) ∙ h.whole;
    each = h.each;
    full = All-take (λ (batch : Texts). is_full batch ≡ true) (length h.batches - 1) h.batches h.full;
  };
  taken = h.taken;
}

pub above : (n : ℕ) → nat_eq n 0 ≡ false → 0 < n
above zero e = absurd cc
above (suc n) e = omega arith

pub HasTakenAll-last : (texts waiting all : Texts) (book : Held) (answers : List Answer) (now : Collected) → all ≡ waiting → 0 < length all
    → ((batches : List Texts) → HasTaken batches (record { book = book; answers = answers }) → HasTaken (batches ++ all ∷ []) now)
    → Collects texts (record { book = book; answers = answers; waiting = waiting }) → HasTakenAll texts now
HasTakenAll-last texts waiting all book answers now is some taken h = record {
  batches = h.batches ++ all ∷ [];
  cut = record {
    whole = joined-more h.batches all ∙ ap (λ xs. joined h.batches ++ xs) is ∙ h.whole;
    each = All-append IsBatchOf h.batches (all ∷ []) h.each (record { some = some; ends = ap (λ (ws : Texts). is_full (take (length ws - 1) ws)) is ∙ h.fewer }, tt);
    full = subst (λ (bs : List Texts). AllByRecursion (λ (batch : Texts). is_full batch ≡ true) bs) (sym (front h.batches all)) h.full;
  };
  taken = taken h.batches h.taken;
}
