-- Two lists of functions that are walked together, from their ends.
use Rattle.std.proofs.Common.{◌≡◌, ℕ, zero, suc, ◌+◌, ◌-◌, Bool, true, false, List, [], ◌∷◌, ◌++◌, refl, sym, ap, ◌∙◌, subst, arith, length, append_assoc}
use Rattle.std.specs.Prelude.{Option, None, Some, cond, slice_get, option_to_list, IfSome}
use Rattle.std.specs.Option.{option_or, MatchOption}
use Rattle.std.specs.List.{AllByRecursion}
use Rattle.std.specs.List.Sorted.{IsStrictlySortedBy}
use Rattle.std.specs.Map.{keys_of, lookup}
use Rattle.std.specs.BTreeMap.{is_at}
use Rattle.std.specs.Ordering.{is_eq, ordering_reverse}
use Rattle.std.specs.declared.cmp.Ordering.TheVariants.{Less, Equal, Greater}
use Rattle.cov_model.specs.declared.sums.Key.{Key}
use Rattle.cov_model.specs.Sums.{file_order}
use Rattle.cov_book.specs.declared.scripts.Function.{Function}
use Rattle.cov_book.specs.Listed.{AreInOrder, bare, bare_key, own, own_list}
use Rattle.cov_book.specs.Joining.{last_of, by_lasts, AreJoined, IsTaken, either}
use Rattle.cov_book.specs.Told.{named}
use Rattle.cov_book.proofs.Ordered.{file_total, file_exact, at-equal}
use Rattle.cov_book.proofs.Placed.{none-above, none-left, own-sorted}
use Rattle.cov_book.proofs.Searched.{order-own}

-- ---- look-ups in two lists, one behind the other

pub found-append : (test : Key → Bool) (url : List ℕ) (xs ys : List Function) → lookup test (own_list url (xs ++ ys)) ≡ option_or (lookup test (own_list url xs)) (lookup test (own_list url ys))
found-append test url [] ys = refl
found-append test url (x ∷ xs) ys =
    elim (test (own url x).0) as (λ b. cond b (Some x.sums) (lookup test (own_list url (xs ++ ys))) ≡ option_or (cond b (Some x.sums) (lookup test (own_list url xs))) (lookup test (own_list url ys))) [
      | true ↦ refl
      | false ↦ found-append test url xs ys
    ]

-- a function of another key isn't seen
skipped : (test : Key → Bool) (url : List ℕ) (xs : List Function) (f : Function) (ys : List Function) → test (own url f).0 ≡ false → lookup test (own_list url (xs ++ f ∷ ys)) ≡ lookup test (own_list url (xs ++ ys))
skipped test url xs f ys other =
    found-append test url xs (f ∷ ys)
    ∙ ap (λ b. option_or (lookup test (own_list url xs)) (cond b (Some f.sums) (lookup test (own_list url ys)))) other
    ∙ sym (found-append test url xs ys)

-- ---- order

all-in : (P : Key → Type 0) (xs : List Function) (f : Function) (ys : List Function) → AllByRecursion P (keys_of (bare (xs ++ f ∷ ys))) → P (bare_key f)
all-in P [] f ys h = h.0
all-in P (x ∷ xs) f ys h = all-in P xs f ys h.1

all-more : (P : Key → Type 0) (xs : List Function) (f : Function) (ys : List Function) → AllByRecursion P (keys_of (bare (xs ++ ys))) → P (bare_key f) → AllByRecursion P (keys_of (bare (xs ++ f ∷ ys)))
all-more P [] f ys h p = (p, h)
all-more P (x ∷ xs) f ys h p = (h.0, all-more P xs f ys h.1 p)

abbrev AreBelow : Function → List Function → Type 0
AreBelow f xs = AllByRecursion (λ x. file_order (bare_key x) (bare_key f) ≡ Less) xs

between : (xs : List Function) (f : Function) (ys : List Function) → AreInOrder (xs ++ ys) → AreInOrder (f ∷ ys) → AreBelow f xs → AreInOrder (xs ++ f ∷ ys)
unfolding IsStrictlySortedBy
between [] f ys s t h = t
between (x ∷ xs) f ys s t h = (all-more (λ k. file_order (bare_key x) k ≡ Less) xs f ys s.0 h.0, between xs f ys s.1 t h.1)

behind : (xs ys : List Function) → AreInOrder (xs ++ ys) → AreInOrder ys
unfolding IsStrictlySortedBy
behind [] ys s = s
behind (x ∷ xs) ys s = behind xs ys s.1

below-last : (xs ys : List Function) (k : ℕ) (g f : Function) → suc k ≡ length xs → slice_get xs k ≡ Some g → AreInOrder (xs ++ ys) → file_order (bare_key g) (bare_key f) ≡ Less → AreBelow f xs
unfolding IsStrictlySortedBy
below-last [] ys k g f e is s lt = tt
below-last (x ∷ []) ys zero g f e is s lt = let here : x ≡ g = cc in (ap (λ (y : Function). file_order (bare_key y) (bare_key f)) here ∙ lt, tt)
below-last (x ∷ []) ys (suc k) g f e is s lt = absurd (omega arith)
below-last (x ∷ y ∷ xs) ys zero g f e is s lt = absurd (omega arith)
below-last (x ∷ y ∷ xs) ys (suc k) g f e is s lt =
    let rest = below-last (y ∷ xs) ys k g f (omega arith) is s.1 lt in
    (file_total.trans (bare_key x) (bare_key y) (bare_key f) s.0.0 rest.0, rest)

-- ---- ends

some-at : (xs : List Function) (k : ℕ) → suc k ≡ length xs → (f : Function) × (slice_get xs k ≡ Some f)
some-at [] k e = absurd (omega arith)
some-at (x ∷ xs) zero e = (x, refl)
some-at (x ∷ xs) (suc k) e = some-at xs k (omega arith)

last-there : (x : Function) (xs : List Function) → last_of (x ∷ xs) ≡ None → ⊥
last-there x xs none =
    let some = some-at (x ∷ xs) (length (x ∷ xs) - 1) (omega arith) in
    let e : Some some.0 ≡ None = sym some.1 ∙ none in
    cc

at-end : {A : Type 0} (xs : List A) (f : A) (k : ℕ) → suc k ≡ length (xs ++ f ∷ []) → slice_get (xs ++ f ∷ []) k ≡ Some f
at-end [] f zero e = refl
at-end [] f (suc k) e = absurd (omega arith)
at-end (x ∷ []) f zero e = absurd (omega arith)
at-end (x ∷ y ∷ xs) f zero e = absurd (omega arith)
at-end (x ∷ xs) f (suc k) e = at-end xs f k (omega arith)

pub more-length : {A : Type 0} (xs : List A) (f : A) → length (xs ++ f ∷ []) ≡ suc (length xs)
more-length [] f = refl
more-length (x ∷ xs) f = ap suc (more-length xs f)

pub last-pushed : {A : Type 0} (xs : List A) (f : A) → slice_get (xs ++ f ∷ []) (length (xs ++ f ∷ []) - 1) ≡ Some f
last-pushed xs f = let more = more-length xs f in at-end xs f (length (xs ++ f ∷ []) - 1) (omega arith)

none-last : (xs : List Function) → last_of xs ≡ None → xs ≡ []
none-last [] e = refl
none-last (x ∷ xs) e = absurd (last-there x xs e)

-- those of a list that ends before a function are below it
all-below : (xs ys : List Function) (f : Function) → AreInOrder (xs ++ ys) → by_lasts (Some f) (last_of xs) ≡ Greater → AreBelow f xs
all-below [] ys f s gt = tt
all-below (x ∷ xs) ys f s gt = by (last_of (x ∷ xs)) refl gt
  where
    by : (o : Option Function) → last_of (x ∷ xs) ≡ o → by_lasts (Some f) o ≡ Greater → AreBelow f (x ∷ xs)
    by None is e = absurd (last-there x xs is)
    by (Some g) is e = below-last (x ∷ xs) ys (length (x ∷ xs) - 1) g f (omega arith) is s (file_total.antisymm (bare_key g) (bare_key f) ∙ ap ordering_reverse e)

under-last : (xs ys : List Function) (f : Function) → AreInOrder (xs ++ ys) → by_lasts (last_of xs) (Some f) ≡ Less → AreBelow f xs
under-last [] ys f s lt = tt
under-last (x ∷ xs) ys f s lt = by (last_of (x ∷ xs)) refl lt
  where
    by : (o : Option Function) → last_of (x ∷ xs) ≡ o → by_lasts o (Some f) ≡ Less → AreBelow f (x ∷ xs)
    by None is e = absurd (last-there x xs is)
    by (Some g) is e = below-last (x ∷ xs) ys (length (x ∷ xs) - 1) g f (omega arith) is s e

-- ---- the function of a key, in a list in order

own-below : (url : List ℕ) (x f : Function) (key : Key) → file_order (bare_key x) (bare_key f) ≡ Less → is_at (file_order key) (own url f).0 ≡ true → is_at (file_order key) (own url x).0 ≡ false
own-below url x f key lt here =
    let same : key ≡ (own url f).0 = file_exact key (own url f).0 (at-equal (file_order key (own url f).0) here) in
    ap (λ k. is_at (file_order k) (own url x).0) same
    ∙ ap is_eq (order-own url f.start f.end f.name x ∙ file_total.antisymm (bare_key f) (bare_key x) ∙ ap ordering_reverse lt)

only-one : (url : List ℕ) (xs : List Function) (f : Function) (ys : List Function) (key : Key) → AreInOrder (xs ++ f ∷ ys) → is_at (file_order key) (own url f).0 ≡ true
    → lookup (is_at (file_order key)) (own_list url (xs ++ f ∷ ys)) ≡ Some f.sums
unfolding IsStrictlySortedBy
only-one url [] f ys key s here = ap (λ b. cond b (Some f.sums) (lookup (is_at (file_order key)) (own_list url ys))) here
only-one url (x ∷ xs) f ys key s here =
    ap (λ b. cond b (Some x.sums) (lookup (is_at (file_order key)) (own_list url (xs ++ f ∷ ys)))) (own-below url x f key (all-in (λ k. file_order (bare_key x) k ≡ Less) xs f ys s.0) here)
    ∙ only-one url xs f ys key s.1 here

none-other : (url : List ℕ) (xs : List Function) (f : Function) (ys : List Function) (key : Key) → AreInOrder (xs ++ f ∷ ys) → is_at (file_order key) (own url f).0 ≡ true
    → lookup (is_at (file_order key)) (own_list url (xs ++ ys)) ≡ None
unfolding IsStrictlySortedBy
none-other url [] f ys key s here =
    let same : key ≡ (own url f).0 = file_exact key (own url f).0 (at-equal (file_order key (own url f).0) here) in
    ap (λ k. lookup (is_at (file_order k)) (own_list url ys)) same ∙ none-above (own url f).0 (own_list url ys) (own-sorted url f ys s.0)
none-other url (x ∷ xs) f ys key s here =
    ap (λ b. cond b (Some x.sums) (lookup (is_at (file_order key)) (own_list url (xs ++ ys)))) (own-below url x f key (all-in (λ k. file_order (bare_key x) k ≡ Less) xs f ys s.0) here)
    ∙ none-other url xs f ys key s.1 here

-- ---- the last of the first list

taken-old : (rest new : List Function) (f : Function) → by_lasts (Some f) (last_of new) ≡ Greater → IsTaken (rest ++ f ∷ []) new f rest new
taken-old rest new f gt =
    let more = more-length rest f in
    record { fewer = omega (arith, more); order = order; found = found }
  where
    order : (taken : List Function) → AreJoined (rest ++ f ∷ []) new taken → AreJoined rest new (f ∷ taken)
    order taken j =
        let held : AreInOrder (rest ++ f ∷ taken) = subst AreInOrder (append_assoc rest (f ∷ []) taken) j.held in
        record { held = held; fresh = between new f taken j.fresh (behind rest (f ∷ taken) held) (all-below new taken f j.fresh gt) }

    found : (taken : List Function) → AreJoined (rest ++ f ∷ []) new taken → (url : List ℕ) (key : Key) → either url (new ++ f ∷ taken) (rest ++ f ∷ taken) key ≡ either url (new ++ taken) ((rest ++ f ∷ []) ++ taken) key
    found taken j url key = by (is_at (file_order key) (own url f).0) refl ∙ sym (ap (λ fs. either url (new ++ taken) fs key) (append_assoc rest (f ∷ []) taken))
      where
        by : (b : Bool) → is_at (file_order key) (own url f).0 ≡ b → either url (new ++ f ∷ taken) (rest ++ f ∷ taken) key ≡ either url (new ++ taken) (rest ++ f ∷ taken) key
        by true here =
            let now = order taken j in
            ap (λ o. option_or o (lookup (is_at (file_order key)) (own_list url (rest ++ f ∷ taken)))) (only-one url new f taken key now.fresh here)
            ∙ sym (only-one url rest f taken key now.held here)
            ∙ sym (ap (λ o. option_or o (lookup (is_at (file_order key)) (own_list url (rest ++ f ∷ taken)))) (none-other url new f taken key now.fresh here))
        by false other = ap (λ o. option_or o (lookup (is_at (file_order key)) (own_list url (rest ++ f ∷ taken)))) (skipped (is_at (file_order key)) url new f taken other)

-- ---- the last of the second list

taken-new : (old others : List Function) (g : Function) → by_lasts (last_of old) (Some g) ≡ Less → IsTaken old (others ++ g ∷ []) g old others
taken-new old others g lt =
    let more = more-length others g in
    record { fewer = omega (arith, more); order = order; found = found }
  where
    order : (taken : List Function) → AreJoined old (others ++ g ∷ []) taken → AreJoined old others (g ∷ taken)
    order taken j =
        let fresh : AreInOrder (others ++ g ∷ taken) = subst AreInOrder (append_assoc others (g ∷ []) taken) j.fresh in
        record { held = between old g taken j.held (behind others (g ∷ taken) fresh) (under-last old taken g j.held lt); fresh = fresh }

    found : (taken : List Function) → AreJoined old (others ++ g ∷ []) taken → (url : List ℕ) (key : Key) → either url (others ++ g ∷ taken) (old ++ g ∷ taken) key ≡ either url ((others ++ g ∷ []) ++ taken) (old ++ taken) key
    found taken j url key = by (is_at (file_order key) (own url g).0) refl ∙ sym (ap (λ fs. either url fs (old ++ taken) key) (append_assoc others (g ∷ []) taken))
      where
        by : (b : Bool) → is_at (file_order key) (own url g).0 ≡ b → either url (others ++ g ∷ taken) (old ++ g ∷ taken) key ≡ either url (others ++ g ∷ taken) (old ++ taken) key
        by true here =
            let is = only-one url others g taken key (order taken j).fresh here in
            ap (λ o. option_or o (lookup (is_at (file_order key)) (own_list url (old ++ g ∷ taken)))) is
            ∙ sym (ap (λ o. option_or o (lookup (is_at (file_order key)) (own_list url (old ++ taken)))) is)
        by false other = ap (option_or (lookup (is_at (file_order key)) (own_list url (others ++ g ∷ taken)))) (skipped (is_at (file_order key)) url old g taken other)

-- ---- one function that ends both

same-keys : (xs : List Function) (f g : Function) (ys : List Function) → bare_key f ≡ bare_key g → keys_of (bare (xs ++ f ∷ ys)) ≡ keys_of (bare (xs ++ g ∷ ys))
same-keys [] f g ys e = ap (λ k. k ∷ keys_of (bare ys)) e
same-keys (x ∷ xs) f g ys e = ap (λ ks. bare_key x ∷ ks) (same-keys xs f g ys e)

taken-both : (rest others : List Function) (f g : Function) → file_order (bare_key f) (bare_key g) ≡ Equal → IsTaken (rest ++ f ∷ []) (others ++ g ∷ []) g rest others
taken-both rest others f g equal =
    let more = more-length others g in
    let most = more-length rest f in
    record { fewer = omega (arith, more, most); order = order; found = found }
  where
    same : bare_key f ≡ bare_key g
    same = file_exact (bare_key f) (bare_key g) equal

    order : (taken : List Function) → AreJoined (rest ++ f ∷ []) (others ++ g ∷ []) taken → AreJoined rest others (g ∷ taken)
    order taken j = record {
      held = subst (IsStrictlySortedBy file_order) (same-keys rest f g taken same) (subst AreInOrder (append_assoc rest (f ∷ []) taken) j.held);
      fresh = subst AreInOrder (append_assoc others (g ∷ []) taken) j.fresh;
    }

    found : (taken : List Function) → AreJoined (rest ++ f ∷ []) (others ++ g ∷ []) taken → (url : List ℕ) (key : Key)
        → either url (others ++ g ∷ taken) (rest ++ g ∷ taken) key ≡ either url ((others ++ g ∷ []) ++ taken) ((rest ++ f ∷ []) ++ taken) key
    found taken j url key =
        by (is_at (file_order key) (own url g).0) refl
        ∙ sym (λ i. either url (append_assoc others (g ∷ []) taken i) (append_assoc rest (f ∷ []) taken i) key)
      where
        by : (b : Bool) → is_at (file_order key) (own url g).0 ≡ b → either url (others ++ g ∷ taken) (rest ++ g ∷ taken) key ≡ either url (others ++ g ∷ taken) (rest ++ f ∷ taken) key
        by true here =
            let is = only-one url others g taken key (order taken j).fresh here in
            ap (λ o. option_or o (lookup (is_at (file_order key)) (own_list url (rest ++ g ∷ taken)))) is
            ∙ sym (ap (λ o. option_or o (lookup (is_at (file_order key)) (own_list url (rest ++ f ∷ taken)))) is)
        by false other =
            let there : is_at (file_order key) (own url f).0 ≡ false = ap (λ k. is_at (file_order key) (named url k.start k.end k.name)) same ∙ other in
            ap (option_or (lookup (is_at (file_order key)) (own_list url (others ++ g ∷ taken))))
            (skipped (is_at (file_order key)) url rest g taken other ∙ sym (skipped (is_at (file_order key)) url rest f taken there))

-- ---- what was popped

pub pop-old : (old new rest : List Function) (popped : Option Function) → old ≡ rest ++ option_to_list popped → by_lasts (last_of old) (last_of new) ≡ Greater → IfSome popped (λ f. IsTaken old new f rest new)
pop-old old new rest None is gt = tt
pop-old old new rest (Some f) is gt =
    subst (λ fs. IsTaken fs new f rest new) (sym is)
    (taken-old rest new f (ap (λ o. by_lasts o (last_of new)) (sym (ap last_of is ∙ last-pushed rest f)) ∙ gt))

pub pop-new : (old new others : List Function) (popped : Option Function) → new ≡ others ++ option_to_list popped → by_lasts (last_of old) (last_of new) ≡ Less → IfSome popped (λ g. IsTaken old new g old others)
pop-new old new others None is lt = tt
pop-new old new others (Some g) is lt =
    subst (λ fs. IsTaken old fs g old others) (sym is)
    (taken-new old others g (ap (λ o. by_lasts (last_of old) o) (sym (ap last_of is ∙ last-pushed others g)) ∙ lt))

pub pop-both : (old new rest others : List Function) (first second : Option Function) (n m : ℕ) → old ≡ rest ++ option_to_list first → new ≡ others ++ option_to_list second
    → n ≡ length old → MatchOption first ((n ≡ 0) × (m ≡ 0)) (λ x. m + 1 ≡ n) → by_lasts (last_of old) (last_of new) ≡ Equal → IfSome second (λ g. IsTaken old new g rest others)
pop-both old new rest others first None n m is are len case equal = tt
pop-both old new rest others None (Some g) n m is are len case equal =
    let none = none-left old (sym len ∙ case.0) in
    let e : Less ≡ Equal = sym (ap (λ fs. by_lasts (last_of fs) (last_of new)) none) ∙ equal in
    absurd cc
pop-both old new rest others (Some f) (Some g) n m is are len case equal =
    subst (λ fs. IsTaken fs new g rest others) (sym is) (subst (λ gs. IsTaken (rest ++ f ∷ []) gs g rest others) (sym are)
    (taken-both rest others f g ((λ i. by_lasts (sym (ap last_of is ∙ last-pushed rest f) i) (sym (ap last_of are ∙ last-pushed others g) i)) ∙ equal)))

-- ---- nothing is left

pub none-new : (old new : List Function) (popped : Option Function) (n m : ℕ) → n ≡ length new → MatchOption popped ((n ≡ 0) × (m ≡ 0)) (λ x. m + 1 ≡ n) → by_lasts (last_of old) (last_of new) ≡ Less → popped ≡ None
    → (old ≡ []) × (new ≡ [])
none-new old new None n m len case lt e =
    let none = none-left new (sym len ∙ case.0) in
    (by (last_of old) refl (sym (ap (λ fs. by_lasts (last_of old) (last_of fs)) none) ∙ lt), none)
  where
    by : (o : Option Function) → last_of old ≡ o → by_lasts o None ≡ Less → old ≡ []
    by None is f = none-last old is
    by (Some g) is f = absurd cc
none-new old new (Some f) n m len case lt e = absurd cc
