-- Scripts and their functions, as one list of sums.
use Rattle.std.proofs.Common.{◌≡◌, ℕ, zero, suc, ◌+◌, ◌<◌, ◌≤◌, length, arith, Bool, true, false, List, [], ◌∷◌, ◌++◌, take, drop, get_or, refl, sym, ap, ◌∙◌, subst}
use Rattle.std.specs.Prelude.{Option, None, Some, cond, slice_get, ◌&&◌, ◌==◌}
use Rattle.std.specs.Option.{option_or}
use Rattle.std.specs.List.{AllByRecursion, insert, slice_set}
use Rattle.std.specs.List.Sorted.{IsStrictlySortedBy, IsPartitionedBy}
use Rattle.std.specs.declared.cmp.Ordering.{Ordering}
use Rattle.std.specs.declared.cmp.Ordering.TheVariants.{Less, Equal, Greater}
use Rattle.std.specs.Ordering.{is_lt, match_ordering, ordering_reverse}
use Rattle.std.specs.BTreeSet.{insert_key}
use Rattle.std.specs.Map.{lookup}
use Rattle.std.specs.BTreeMap.{is_at}
use Rattle.std.proofs.lemmas.Cmp.{tied_itself}
use Rattle.std.proofs.lemmas.Slice.Eq.{bytes_eq-Decides}
use Rattle.cov_text.specs.Listing.{same_text, text_cmp}
use Rattle.cov_model.specs.declared.sums.Key.{Key}
use Rattle.cov_model.specs.Sums.{file_order}
use Rattle.cov_book.specs.declared.sums.Sums.{Sums}
use Rattle.cov_book.specs.declared.scripts.Function.{Function}
use Rattle.cov_book.specs.declared.scripts.Script.{Script}
use Rattle.cov_book.specs.declared.placing.Update.{Update}
use Rattle.cov_book.specs.Room.{HasRoom, IsPutIn, changes_in}
use Rattle.cov_book.specs.Renewed.{changed_urls}
use Rattle.std.specs.Vec.{vec_capacity}
use Rattle.cov_book.specs.Listed.{AreInOrder, AreSorted, IsPlace, Knows, own, own_list, listed, all_listed, urls_in, of_url, is_front, is_there, held_in}
use Rattle.cov_book.specs.Least.{IsLeastSoFar}
use Rattle.cov_book.specs.Prepared.{sums_now}
use Rattle.cov_book.proofs.Keyed.{is-at}
use Rattle.cov_book.proofs.Ordered.{text_total, text_exact, sorted-insert}
use Rattle.cov_book.proofs.Searched.{parted, is-less}

pub text-same : (a b : List ℕ) → same_text a b ≡ true → a ≡ b
text-same a b = (bytes_eq-Decides a b).0

pub same-text : (a b : List ℕ) → a ≡ b → same_text a b ≡ true
same-text a b = (bytes_eq-Decides a b).1

pub text-flip : (a b : List ℕ) → same_text a b ≡ same_text b a
text-flip a b = by (same_text a b) refl (same_text b a) refl
  where
    by : (x : Bool) → same_text a b ≡ x → (y : Bool) → same_text b a ≡ y → x ≡ y
    by true e true f = refl
    by true e false f = let there = same-text b a (sym (text-same a b e)) in sym there ∙ f
    by false e true f = let there = same-text a b (sym (text-same b a f)) in sym e ∙ there
    by false e false f = refl

-- a text below another isn't that one
pub less-differs : (a b : List ℕ) → text_cmp a b ≡ Less → same_text a b ≡ false
less-differs a b lt = by (same_text a b) refl
  where
    by : (x : Bool) → same_text a b ≡ x → x ≡ false
    by true e = let tie : text_cmp a b ≡ Equal = ap (text_cmp a) (sym (text-same a b e)) ∙ tied_itself text_total a in absurd cc
    by false e = refl

-- ---- the functions of a url

pub later-none : (url : List ℕ) (ss : List Script) → AllByRecursion (λ u. text_cmp url u ≡ Less) (urls_in ss) → of_url url ss ≡ []
later-none url [] h = refl
later-none url (s ∷ ss) h = ap (λ b. cond b s.functions (of_url url ss)) (text-flip s.url url ∙ less-differs url s.url h.0) ∙ later-none url ss h.1

pub above : (a b : List ℕ) (us : List (List ℕ)) → text_cmp a b ≡ Less → AllByRecursion (λ u. text_cmp b u ≡ Less) us → AllByRecursion (λ u. text_cmp a u ≡ Less) us
above a b [] lt h = tt
above a b (u ∷ us) lt h = (text_total.trans a b u lt h.0, above a b us lt h.1)

lt-of : (url u : List ℕ) → is_lt (text_cmp u url) ≡ false → same_text u url ≡ false → text_cmp url u ≡ Less
lt-of url u e other = by (text_cmp url u) refl
  where
    by : (o : Ordering) → text_cmp url u ≡ o → o ≡ Less
    by Less is = refl
    by Equal is = let there = same-text u url (sym (text_exact url u is)) in let never : true ≡ false = sym there ∙ other in absurd cc
    by Greater is = let here = text_total.antisymm u url ∙ ap ordering_reverse is in let never : true ≡ false = sym (ap is_lt here) ∙ e in absurd cc

-- what stands at the place of a url
abbrev pub hit_url : List ℕ → Option Script → List Function
hit_url url None = []
hit_url url (Some s) = cond (same_text s.url url) s.functions []

pub found-url : (url : List ℕ) (ss : List Script) (i : ℕ) → IsStrictlySortedBy text_cmp (urls_in ss) → AllByRecursion (λ s. is_front url s ≡ true) (take i ss) → AllByRecursion (λ s. is_front url s ≡ false) (drop i ss)
    → of_url url ss ≡ hit_url url (slice_get ss i)
unfolding IsStrictlySortedBy
found-url url [] zero s front back = refl
found-url url [] (suc i) s front back = refl
found-url url (x ∷ xs) zero s front back = by (same_text x.url url) refl
  where
    by : (b : Bool) → same_text x.url url ≡ b → cond b x.functions (of_url url xs) ≡ cond b x.functions []
    by true e = refl
    by false e = later-none url xs (above url x.url (urls_in xs) (lt-of url x.url back.0 e) s.0)
found-url url (x ∷ xs) (suc i) s front back =
    ap (λ b. cond b x.functions (of_url url xs)) (less-differs x.url url (is-less (text_cmp x.url url) front.0)) ∙ found-url url xs i s.1 front.1 back

pub url-parted : (url : List ℕ) (ss : List Script) → IsStrictlySortedBy text_cmp (urls_in ss) → IsPartitionedBy (is_front url) ss
url-parted url ss s = parted text_cmp text_total (λ (x : Script). x.url) url ss s

-- ---- what is held of a key

pub lookup-append : (p : Key → Bool) (xs ys : List (Key × Sums)) → lookup p (xs ++ ys) ≡ option_or (lookup p xs) (lookup p ys)
lookup-append p [] ys = refl
lookup-append p (x ∷ xs) ys =
    ap (cond (p x.0) (Some x.1)) (lookup-append p xs ys) ∙ elim (p x.0) as (λ b. cond b (Some x.1) (option_or (lookup p xs) (lookup p ys)) ≡ option_or (cond b (Some x.1) (lookup p xs)) (lookup p ys)) [
      | true ↦ refl
      | false ↦ refl
    ]

other-own : (url : List ℕ) (f : Function) (key : Key) → same_text key.url url ≡ false → is_at (file_order key) (own url f).0 ≡ false
other-own url f key other = is-at key (own url f).0 ∙ ap (λ b. b && (key.start == f.start && (key.end == f.end && same_text key.name f.name))) other

pub other-url : (url : List ℕ) (fs : List Function) (key : Key) → same_text key.url url ≡ false → lookup (is_at (file_order key)) (own_list url fs) ≡ None
other-url url [] key other = refl
other-url url (f ∷ fs) key other = ap (λ b. cond b (Some f.sums) (lookup (is_at (file_order key)) (own_list url fs))) (other-own url f key other) ∙ other-url url fs key other

pub later-held : (key : Key) (ss : List Script) → AllByRecursion (λ u. text_cmp key.url u ≡ Less) (urls_in ss) → held_in ss key ≡ None
later-held key [] h = refl
later-held key (s ∷ ss) h =
    lookup-append (is_at (file_order key)) (listed s) (all_listed ss)
    ∙ ap (λ o. option_or o (held_in ss key)) (other-url s.url s.functions key (less-differs key.url s.url h.0))
    ∙ later-held key ss h.1

pub none-or : (o : Option Sums) → option_or o None ≡ o
none-or None = refl
none-or (Some s) = refl

-- what is held of a key is what its url's functions have
pub held-url : (key : Key) (ss : List Script) → IsStrictlySortedBy text_cmp (urls_in ss) → held_in ss key ≡ lookup (is_at (file_order key)) (own_list key.url (of_url key.url ss))
unfolding IsStrictlySortedBy
held-url key [] s = refl
held-url key (x ∷ xs) s = lookup-append (is_at (file_order key)) (listed x) (all_listed xs) ∙ by (same_text x.url key.url) refl (held-url key xs s.1)
  where
    by : (b : Bool) → same_text x.url key.url ≡ b → held_in xs key ≡ lookup (is_at (file_order key)) (own_list key.url (of_url key.url xs))
        → option_or (lookup (is_at (file_order key)) (listed x)) (held_in xs key) ≡ lookup (is_at (file_order key)) (own_list key.url (cond b x.functions (of_url key.url xs)))
    by true e rest =
        let here : x.url ≡ key.url = text-same x.url key.url e in
        ap (option_or (lookup (is_at (file_order key)) (listed x))) (later-held key xs (subst (λ u. AllByRecursion (λ v. text_cmp u v ≡ Less) (urls_in xs)) here s.0))
        ∙ none-or (lookup (is_at (file_order key)) (listed x))
        ∙ ap (λ u. lookup (is_at (file_order key)) (own_list u x.functions)) here
    by false e rest = ap (λ o. option_or o (held_in xs key)) (other-url x.url x.functions key (text-flip key.url x.url ∙ e)) ∙ rest

pub in-order-url : (url : List ℕ) (ss : List Script) → AllByRecursion (λ (s : Script). AreInOrder s.functions) ss → AreInOrder (of_url url ss)
unfolding IsStrictlySortedBy
in-order-url url [] h = tt
in-order-url url (s ∷ ss) h = elim (same_text s.url url) as (λ b. AreInOrder (cond b s.functions (of_url url ss))) [
  | true ↦ h.0
  | false ↦ in-order-url url ss h.1
]

-- ---- a script put in, or in the place of another

above-less : (url : List ℕ) (x : Script) → is_front url x ≡ true → text_cmp url x.url ≡ Greater
above-less url x e = text_total.antisymm url x.url ∙ ap ordering_reverse (is-less (text_cmp x.url url) e)

pub urls-insert : (s : Script) (ss : List Script) (i : ℕ) → AllByRecursion (λ x. is_front s.url x ≡ true) (take i ss) → AllByRecursion (λ x. is_front s.url x ≡ false) (drop i ss)
    → is_there s.url (slice_get ss i) ≡ false → urls_in (insert ss i s) ≡ insert_key text_cmp (urls_in ss) s.url
urls-insert s [] zero front back none = refl
urls-insert s [] (suc i) front back none = refl
urls-insert s (x ∷ xs) zero front back none =
    sym (ap (λ o. match_ordering o (s.url ∷ urls_in (x ∷ xs)) (urls_in (x ∷ xs)) (x.url ∷ insert_key text_cmp (urls_in xs) s.url)) (lt-of s.url x.url back.0 none))
urls-insert s (x ∷ xs) (suc i) front back none =
    ap (λ us. x.url ∷ us) (urls-insert s xs i front.1 back none)
    ∙ sym (ap (λ o. match_ordering o (s.url ∷ urls_in (x ∷ xs)) (urls_in (x ∷ xs)) (x.url ∷ insert_key text_cmp (urls_in xs) s.url)) (above-less s.url x front.0))

-- a url that is there is put in by nothing
pub urls-there : (url : List ℕ) (ss : List Script) (i : ℕ) → AllByRecursion (λ x. is_front url x ≡ true) (take i ss) → is_there url (slice_get ss i) ≡ true → insert_key text_cmp (urls_in ss) url ≡ urls_in ss
urls-there url [] zero front here = absurd cc
urls-there url [] (suc i) front here = absurd cc
urls-there url (x ∷ xs) zero front here =
    let tie : text_cmp url x.url ≡ Equal = ap (text_cmp url) (text-same x.url url here) ∙ tied_itself text_total url in
    ap (λ o. match_ordering o (url ∷ urls_in (x ∷ xs)) (urls_in (x ∷ xs)) (x.url ∷ insert_key text_cmp (urls_in xs) url)) tie
urls-there url (x ∷ xs) (suc i) front here =
    ap (λ o. match_ordering o (url ∷ urls_in (x ∷ xs)) (urls_in (x ∷ xs)) (x.url ∷ insert_key text_cmp (urls_in xs) url)) (above-less url x front.0)
    ∙ ap (λ us. x.url ∷ us) (urls-there url xs i front.1 here)

-- of two urls that differ one at most is this
either : {A : Type 0} (a b : Bool) (f g h : A) → (a ≡ true → b ≡ false) → cond a f (cond b g h) ≡ cond b g (cond a f h)
either true true f g h apart = let no-both : true ≡ false = apart refl in absurd cc
either true false f g h apart = refl
either false b f g h apart = refl

differ : (a b u : List ℕ) → text_cmp a b ≡ Less → same_text a u ≡ true → same_text b u ≡ false
differ a b u lt here = ap (same_text b) (sym (text-same a u here)) ∙ text-flip b a ∙ less-differs a b lt

pub of-url-insert : (u : List ℕ) (s : Script) (ss : List Script) (i : ℕ) → AllByRecursion (λ x. is_front s.url x ≡ true) (take i ss)
    → of_url u (insert ss i s) ≡ cond (same_text s.url u) s.functions (of_url u ss)
of-url-insert u s [] zero front = refl
of-url-insert u s [] (suc i) front = refl
of-url-insert u s (x ∷ xs) zero front = refl
of-url-insert u s (x ∷ xs) (suc i) front =
    ap (cond (same_text x.url u) x.functions) (of-url-insert u s xs i front.1)
    ∙ either (same_text x.url u) (same_text s.url u) x.functions s.functions (of_url u xs) (differ x.url s.url u (is-less (text_cmp x.url s.url) front.0))

pub of-url-set : (u : List ℕ) (s : Script) (ss : List Script) (i : ℕ) → IsStrictlySortedBy text_cmp (urls_in ss) → is_there s.url (slice_get ss i) ≡ true
    → of_url u (slice_set ss i s) ≡ cond (same_text s.url u) s.functions (of_url u ss)
unfolding IsStrictlySortedBy
of-url-set u s [] zero sorts here = absurd cc
of-url-set u s [] (suc i) sorts here = absurd cc
of-url-set u s (x ∷ xs) zero sorts here = by (same_text s.url u) refl
  where
    by : (b : Bool) → same_text s.url u ≡ b → cond b s.functions (of_url u xs) ≡ cond b s.functions (cond (same_text x.url u) x.functions (of_url u xs))
    by true e = refl
    by false e = sym (ap (λ b. cond b x.functions (of_url u xs)) (ap (λ t. same_text t u) (text-same x.url s.url here) ∙ e))
of-url-set u s (x ∷ xs) (suc i) sorts here =
    ap (cond (same_text x.url u) x.functions) (of-url-set u s xs i sorts.1 here)
    ∙ either (same_text x.url u) (same_text s.url u) x.functions s.functions (of_url u xs) (differ x.url s.url u (below xs i here sorts.0))
  where
    below : (xs : List Script) (i : ℕ) → is_there s.url (slice_get xs i) ≡ true → AllByRecursion (λ v. text_cmp x.url v ≡ Less) (urls_in xs) → text_cmp x.url s.url ≡ Less
    below [] zero e h = absurd cc
    below [] (suc i) e h = absurd cc
    below (y ∷ ys) zero e h = sym (ap (text_cmp x.url) (text-same y.url s.url e)) ∙ h.0
    below (y ∷ ys) (suc i) e h = below ys i e h.1

pub urls-set : (s : Script) (ss : List Script) (i : ℕ) → is_there s.url (slice_get ss i) ≡ true → urls_in (slice_set ss i s) ≡ urls_in ss
urls-set s [] zero here = absurd cc
urls-set s [] (suc i) here = absurd cc
urls-set s (x ∷ xs) zero here = ap (λ u. u ∷ urls_in xs) (sym (text-same x.url s.url here))
urls-set s (x ∷ xs) (suc i) here = ap (λ us. x.url ∷ us) (urls-set s xs i here)

pub order-insert : (s : Script) (ss : List Script) (i : ℕ) → AllByRecursion (λ (x : Script). AreInOrder x.functions) ss → AreInOrder s.functions → AllByRecursion (λ (x : Script). AreInOrder x.functions) (insert ss i s)
order-insert s [] zero h new = (new, tt)
order-insert s [] (suc i) h new = (new, tt)
order-insert s (x ∷ xs) zero h new = (new, h)
order-insert s (x ∷ xs) (suc i) h new = (h.0, order-insert s xs i h.1 new)

pub order-set : (s : Script) (ss : List Script) (i : ℕ) → AllByRecursion (λ (x : Script). AreInOrder x.functions) ss → AreInOrder s.functions → AllByRecursion (λ (x : Script). AreInOrder x.functions) (slice_set ss i s)
order-set s [] i h new = tt
order-set s (x ∷ xs) zero h new = (new, h.1)
order-set s (x ∷ xs) (suc i) h new = (h.0, order-set s xs i h.1 new)

pub insert-sorted : (s : Script) (ss : List Script) (i : ℕ) → AreSorted ss → AllByRecursion (λ x. is_front s.url x ≡ true) (take i ss) → AllByRecursion (λ x. is_front s.url x ≡ false) (drop i ss)
    → is_there s.url (slice_get ss i) ≡ false → AreInOrder s.functions → AreSorted (insert ss i s)
insert-sorted s ss i sorted front back none order = record {
  urls = subst (IsStrictlySortedBy text_cmp) (sym (urls-insert s ss i front back none)) (sorted-insert text_cmp text_total (urls_in ss) s.url sorted.urls);
  functions = order-insert s ss i sorted.functions order;
}

pub set-sorted : (s : Script) (ss : List Script) (i : ℕ) → AreSorted ss → is_there s.url (slice_get ss i) ≡ true → AreInOrder s.functions → AreSorted (slice_set ss i s)
set-sorted s ss i sorted here order = record {
  urls = subst (IsStrictlySortedBy text_cmp) (sym (urls-set s ss i here)) sorted.urls;
  functions = order-set s ss i sorted.functions order;
}

-- what is set twice is what was set last
pub set-twice : {A : Type 0} (x y : A) (xs : List A) (i : ℕ) → slice_set (slice_set xs i x) i y ≡ slice_set xs i y
set-twice x y [] i = refl
set-twice x y (z ∷ zs) zero = refl
set-twice x y (z ∷ zs) (suc i) = ap (λ l. z ∷ l) (set-twice x y zs i)

pub set-there : {A : Type 0} (x y : A) (xs : List A) (i : ℕ) → slice_get xs i ≡ Some y → slice_get (slice_set xs i x) i ≡ Some x
set-there x y [] zero e = absurd cc
set-there x y [] (suc i) e = absurd cc
set-there x y (z ∷ zs) zero e = refl
set-there x y (z ∷ zs) (suc i) e = set-there x y zs i e

-- ---- sums so far, by one script

-- what is held of a key, and else what is so far, where that is no key of this url
abbrev pub apart : List ℕ → List Script → (Key → Option Sums) → Key → Option Sums
apart url ss held key = option_or (cond (same_text url key.url) None (held_in ss key)) (held key)

pub one-script : (url : List ℕ) (fs : List Function) (ss more : List Script) (held : Key → Option Sums) → IsStrictlySortedBy text_cmp (urls_in ss) → IsStrictlySortedBy text_cmp (urls_in more)
    → ((u : List ℕ) → of_url u more ≡ cond (same_text url u) fs (of_url u ss))
    → (key : Key) → sums_now (apart url ss held) (own_list url fs) key ≡ sums_now held (all_listed more) key
one-script url fs ss more held sorts later are key = by (same_text url key.url) refl
  where
    now : held_in more key ≡ lookup (is_at (file_order key)) (own_list key.url (cond (same_text url key.url) fs (of_url key.url ss)))
    now = held-url key more later ∙ ap (λ gs. lookup (is_at (file_order key)) (own_list key.url gs)) (are key.url)

    by : (b : Bool) → same_text url key.url ≡ b
        → option_or (lookup (is_at (file_order key)) (own_list url fs)) (option_or (cond (same_text url key.url) None (held_in ss key)) (held key)) ≡ option_or (held_in more key) (held key)
    by true e =
        (λ i. option_or (lookup (is_at (file_order key)) (own_list (text-same url key.url e i) fs)) (option_or (cond (e i) None (held_in ss key)) (held key)))
        ∙ ap (λ o. option_or o (held key)) (ap (λ b. lookup (is_at (file_order key)) (own_list key.url (cond b fs (of_url key.url ss)))) (sym e) ∙ sym now)
    by false e =
        (λ i. option_or (other-url url fs key (text-flip key.url url ∙ e) i) (option_or (cond (e i) None (held_in ss key)) (held key)))
        ∙ ap (λ o. option_or o (held key)) (held-url key ss sorts ∙ ap (λ b. lookup (is_at (file_order key)) (own_list key.url (cond b fs (of_url key.url ss)))) (sym e) ∙ sym now)

pub apart-knows : (url : List ℕ) (ss scripts : List Script) → IsStrictlySortedBy text_cmp (urls_in scripts) → Knows url (of_url url scripts) (apart url ss (held_in scripts))
apart-knows url ss scripts sorts key is =
    ap (λ b. option_or (cond b None (held_in ss key)) (held_in scripts key)) (same-text url key.url (sym is))
    ∙ held-url key scripts sorts
    ∙ ap (λ u. lookup (is_at (file_order key)) (own_list u (of_url u scripts))) is

pub so-far-same : (all : List (Key × Sums)) (a b : Key → Option Sums) (xs ys : List (Key × Sums)) (least : Option Key) → ((key : Key) → sums_now a xs key ≡ sums_now b ys key)
    → IsLeastSoFar all a xs least → IsLeastSoFar all b ys least
so-far-same all a b xs ys least same so_far = record {
  known = so_far.known;
  prepared = record { kept = so_far.prepared.kept; now = λ key. so_far.prepared.now key ∙ same key };
  same = so_far.same;
  past = so_far.past;
}

-- ---- the script at a place

pub there-within : (url : List ℕ) (ss : List Script) (i : ℕ) → is_there url (slice_get ss i) ≡ true → i < length ss
there-within url [] zero e = absurd cc
there-within url [] (suc i) e = absurd cc
there-within url (x ∷ xs) zero e = omega arith
there-within url (x ∷ xs) (suc i) e = let lt = there-within url xs i e in omega (arith, lt)

pub there-is : (url : List ℕ) (ss : List Script) (i : ℕ) → IsStrictlySortedBy text_cmp (urls_in ss) → AllByRecursion (λ x. is_front url x ≡ true) (take i ss)
    → is_there url (slice_get ss i) ≡ true → slice_get ss i ≡ Some (record { url = url; functions = of_url url ss })
unfolding IsStrictlySortedBy
there-is url [] zero sorts front e = absurd cc
there-is url [] (suc i) sorts front e = absurd cc
there-is url (x ∷ xs) zero sorts front e = (λ i. Some (record { url = text-same x.url url e i; functions = cond (sym e i) x.functions (of_url url xs) }))
there-is url (x ∷ xs) (suc i) sorts front e =
    there-is url xs i sorts.1 front.1 e
    ∙ ap (λ b. Some (record { url = url; functions = cond b x.functions (of_url url xs) })) (sym (less-differs x.url url (is-less (text_cmp x.url url) front.0)))

pub none-there : (url : List ℕ) (ss : List Script) (i : ℕ) → IsStrictlySortedBy text_cmp (urls_in ss) → AllByRecursion (λ x. is_front url x ≡ true) (take i ss) → AllByRecursion (λ x. is_front url x ≡ false) (drop i ss)
    → is_there url (slice_get ss i) ≡ false → of_url url ss ≡ []
none-there url ss i sorts front back e = found-url url ss i sorts front back ∙ by (slice_get ss i) e
  where
    by : (o : Option Script) → is_there url o ≡ false → hit_url url o ≡ []
    by None e = refl
    by (Some s) e = ap (λ b. cond b s.functions []) e

pub insert-there : {A : Type 0} (x : A) (xs : List A) (i : ℕ) → i ≤ length xs → slice_get (insert xs i x) i ≡ Some x
insert-there x [] zero le = refl
insert-there x [] (suc i) le = absurd (omega arith)
insert-there x (y ∷ ys) zero le = refl
insert-there x (y ∷ ys) (suc i) le = insert-there x ys i (omega (arith, le))

pub empty-in-order : AreInOrder []
unfolding IsStrictlySortedBy
empty-in-order = tt

-- ---- a script taken out, changed and put back

pub there-here : (url : List ℕ) (fs : List Function) (o : Option Script) → o ≡ Some (record { url = url; functions = fs }) → is_there url o ≡ true
there-here url fs None e = absurd cc
there-here url fs (Some s) e = let is : s ≡ record { url = url; functions = fs } = cc in ap (λ (x : Script). same_text x.url url) is ∙ same-text url url refl

pub taken-one : {A : Type 0} (x y : A) (xs : List A) (i : ℕ) → slice_get xs i ≡ Some y → x ≡ get_or xs i x → x ≡ y
taken-one x y [] zero e is = absurd cc
taken-one x y [] (suc i) e is = absurd cc
taken-one x y (z ∷ zs) zero e is = let here : z ≡ y = cc in is ∙ here
taken-one x y (z ∷ zs) (suc i) e is = taken-one x y zs i e is

-- the functions of a url are those that it had
pub own-more : (url u : List ℕ) (ss : List Script) → of_url u ss ≡ cond (same_text url u) (of_url url ss) (of_url u ss)
own-more url u ss = by (same_text url u) refl
  where
    by : (b : Bool) → same_text url u ≡ b → of_url u ss ≡ cond b (of_url url ss) (of_url u ss)
    by true e = ap (λ v. of_url v ss) (sym (text-same url u e))
    by false e = refl

pub record ChangedOne (url : List ℕ) (fs : List Function) (old mid new : List Script) : Type 0 where
  pub sorted : AreSorted new
  pub urls : urls_in new ≡ urls_in mid
  pub are : (u : List ℕ) → of_url u new ≡ cond (same_text url u) fs (of_url u old)

pub changed-one : (url : List ℕ) (fs : List Function) (old mid new : List Script) (at : ℕ) → AreSorted mid → slice_get mid at ≡ Some (record { url = url; functions = of_url url old })
    → ((u : List ℕ) → of_url u mid ≡ of_url u old) → new ≡ slice_set mid at (record { url = url; functions = fs }) → AreInOrder fs → ChangedOne url fs old mid new
changed-one url fs old mid new at sorted script same now order =
    let t : Script = record { url = url; functions = fs } in
    let here : is_there url (slice_get mid at) ≡ true = there-here url (of_url url old) (slice_get mid at) script in
    record {
      sorted = subst AreSorted (sym now) (set-sorted t mid at sorted here order);
      urls = ap urls_in now ∙ urls-set t mid at here;
      are = λ u. ap (of_url u) now ∙ of-url-set u t mid at sorted.urls here ∙ ap (cond (same_text url u) fs) (same u);
    }

-- the functions of a url were taken out, and these put back
pub changed-in : (url : List ℕ) (fs : List Function) (old mid taken new : List Script) (at : ℕ) → AreSorted mid → slice_get mid at ≡ Some (record { url = url; functions = of_url url old })
    → ((u : List ℕ) → of_url u mid ≡ of_url u old) → ((s : Script) → slice_get mid at ≡ Some s → taken ≡ slice_set mid at (record { url = s.url; functions = [] }))
    → ((s : Script) → slice_get taken at ≡ Some s → new ≡ slice_set taken at (record { url = s.url; functions = fs })) → AreInOrder fs → ChangedOne url fs old mid new
changed-in url fs old mid taken new at sorted script same left set order =
    let s : Script = record { url = url; functions = of_url url old } in
    let t : Script = record { url = url; functions = [] } in
    let more : Script = record { url = url; functions = fs } in
    let is = left s script in
    let there = ap (λ xs. slice_get xs at) is ∙ set-there t s mid at script in
    changed-one url fs old mid new at sorted script same (set t there ∙ ap (λ xs. slice_set xs at more) is ∙ set-twice t more mid at) order

module _ (all : List (Key × Sums)) (url : List ℕ) (old scripts : List Script) (sorts : IsStrictlySortedBy text_cmp (urls_in old)) where
  pub enter : (fs : List Function) (least : Option Key) → fs ≡ of_url url old → IsLeastSoFar all (held_in scripts) (all_listed old) least → IsLeastSoFar all (apart url old (held_in scripts)) (own_list url fs) least
  enter fs least is so_far =
      so-far-same all (held_in scripts) (apart url old (held_in scripts)) (all_listed old) (own_list url fs) least
      (λ key. sym (one-script url fs old old (held_in scripts) sorts sorts (λ u. own-more url u old ∙ ap (λ gs. cond (same_text url u) gs (of_url u old)) (sym is)) key)) so_far

  pub leave : (fs : List Function) (new : List Script) (least : Option Key) → IsStrictlySortedBy text_cmp (urls_in new) → ((u : List ℕ) → of_url u new ≡ cond (same_text url u) fs (of_url u old))
      → IsLeastSoFar all (apart url old (held_in scripts)) (own_list url fs) least → IsLeastSoFar all (held_in scripts) (all_listed new) least
  leave fs new least later are so_far =
      so-far-same all (apart url old (held_in scripts)) (held_in scripts) (own_list url fs) (all_listed new) least (one-script url fs old new (held_in scripts) sorts later are) so_far

-- a script put in its place
pub put-one : (s : Script) (gs : List Function) (ss more : List Script) → IsStrictlySortedBy text_cmp (urls_in ss) → IsStrictlySortedBy text_cmp (urls_in more)
    → ((u : List ℕ) → of_url u more ≡ cond (same_text s.url u) gs (of_url u ss))
    → ((key : Key) → lookup (is_at (file_order key)) (own_list s.url gs) ≡ option_or (lookup (is_at (file_order key)) (listed s)) (lookup (is_at (file_order key)) (own_list s.url (of_url s.url ss))))
    → (key : Key) → held_in more key ≡ option_or (lookup (is_at (file_order key)) (listed s)) (held_in ss key)
put-one s gs ss more sorts later are found key =
    held-url key more later ∙ ap (λ fs. lookup (is_at (file_order key)) (own_list key.url fs)) (are key.url) ∙ by (same_text s.url key.url) refl ∙ ap (option_or (lookup (is_at (file_order key)) (listed s))) (sym (held-url key ss sorts))
  where
    by : (b : Bool) → same_text s.url key.url ≡ b
        → lookup (is_at (file_order key)) (own_list key.url (cond b gs (of_url key.url ss)))
        ≡ option_or (lookup (is_at (file_order key)) (listed s)) (lookup (is_at (file_order key)) (own_list key.url (of_url key.url ss)))
    by true e =
        let here = text-same s.url key.url e in
        ap (λ u. lookup (is_at (file_order key)) (own_list u gs)) (sym here) ∙ found key
        ∙ ap (λ u. option_or (lookup (is_at (file_order key)) (listed s)) (lookup (is_at (file_order key)) (own_list u (of_url u ss)))) here
    by false e = sym (ap (λ o. option_or o (lookup (is_at (file_order key)) (own_list key.url (of_url key.url ss)))) (other-url s.url s.functions key (text-flip key.url s.url ∙ e)))

pub put-apart : (url : List ℕ) (gs : List Function) (ss more : List Script) → ((u : List ℕ) → of_url u more ≡ cond (same_text url u) gs (of_url u ss)) → (u : List ℕ) → same_text url u ≡ false → of_url u more ≡ of_url u ss
put-apart url gs ss more are u other = are u ∙ ap (λ b. cond b gs (of_url u ss)) other

pub or-none : (o p : Option Sums) → p ≡ None → o ≡ option_or o p
or-none o p e = sym (ap (option_or o) e ∙ none-or o)

-- ---- a script put in, where its url is held and where it isn't

pub put-held : (s : Script) (gs : List Function) (ss more : List Script) (at : ℕ) → AreSorted ss → IsPlace (is_front s.url) ss at → is_there s.url (slice_get ss at) ≡ true
    → ChangedOne s.url gs ss ss more
    → ((key : Key) → lookup (is_at (file_order key)) (own_list s.url gs) ≡ option_or (lookup (is_at (file_order key)) (listed s)) (lookup (is_at (file_order key)) (own_list s.url (of_url s.url ss))))
    → IsPutIn s ss more
put-held s gs ss more at sorted place here one found = record {
  order = one.sorted;
  held = put-one s gs ss more sorted.urls one.sorted.urls one.are found;
  urls = one.urls ∙ sym (urls-there s.url ss at place.front here);
  others = put-apart s.url gs ss more one.are;
}

pub put-fresh : (s : Script) (ss more : List Script) (at : ℕ) → AreSorted ss → IsPlace (is_front s.url) ss at → is_there s.url (slice_get ss at) ≡ false
    → more ≡ insert ss at s → AreInOrder s.functions → IsPutIn s ss more
put-fresh s ss more at sorted place none now order =
    let are : (u : List ℕ) → of_url u more ≡ cond (same_text s.url u) s.functions (of_url u ss) = λ u. ap (of_url u) now ∙ of-url-insert u s ss at place.front in
    let next : AreSorted more = subst AreSorted (sym now) (insert-sorted s ss at sorted place.front place.back none order) in
    record {
      order = next;
      held = put-one s s.functions ss more sorted.urls next.urls are
          (λ key. or-none (lookup (is_at (file_order key)) (listed s)) (lookup (is_at (file_order key)) (own_list s.url (of_url s.url ss)))
          (ap (λ fs. lookup (is_at (file_order key)) (own_list s.url fs)) (none-there s.url ss at sorted.urls place.front place.back none)));
      urls = ap urls_in now ∙ urls-insert s ss at place.front place.back none;
      others = put-apart s.url s.functions ss more are;
    }

-- ---- scripts put in their places one after the other

three : (a b c : Option Sums) (t : Bool) → (t ≡ true → b ≡ None) → (t ≡ false → a ≡ None) → option_or b (option_or a c) ≡ option_or (option_or a b) c
three a b c true late early = ap (λ o. option_or o (option_or a c)) (late refl) ∙ ap (λ o. option_or o c) (sym (none-or a) ∙ ap (option_or a) (sym (late refl)))
three a b c false late early = ap (λ o. option_or b (option_or o c)) (early refl) ∙ sym (ap (λ o. option_or (option_or o b) c) (early refl))

pub held-next : (s : Script) (rest ss more : List Script) → IsStrictlySortedBy text_cmp (urls_in (s ∷ rest)) → ((key : Key) → held_in more key ≡ option_or (lookup (is_at (file_order key)) (listed s)) (held_in ss key))
    → (key : Key) → option_or (held_in rest key) (held_in more key) ≡ option_or (held_in (s ∷ rest) key) (held_in ss key)
unfolding IsStrictlySortedBy
held-next s rest ss more sorted put key =
    let a = lookup (is_at (file_order key)) (listed s) in
    ap (option_or (held_in rest key)) (put key)
    ∙ three a (held_in rest key) (held_in ss key) (same_text key.url s.url)
    (λ e. later-held key rest (subst (λ u. AllByRecursion (λ v. text_cmp u v ≡ Less) (urls_in rest)) (sym (text-same key.url s.url e)) sorted.0))
    (λ e. other-url s.url s.functions key e)
    ∙ ap (λ o. option_or o (held_in ss key)) (sym (lookup-append (is_at (file_order key)) (listed s) (all_listed rest)))

room-each : (url : List ℕ) (us : List Update) (ss more : List Script) → AllByRecursion (λ u. text_cmp url u ≡ Less) (changed_urls (changes_in us)) → ((u : List ℕ) → same_text url u ≡ false → of_url u more ≡ of_url u ss)
    → AllByRecursion (HasRoom ss) us → AllByRecursion (HasRoom more) us
room-each url [] ss more lt same h = tt
room-each url (u ∷ us) ss more lt same h = (
  record {
    empty = h.0.empty;
    len = h.0.len;
    room = λ some. subst (λ fs. length fs + length u.change.functions.fresh.items ≤ vec_capacity u.room) (sym (same u.change.url (less-differs url u.change.url lt.0))) (h.0.room some);
  },
  room-each url us ss more lt.1 same h.1,
)

pub room-next : (u : Update) (rest : List Update) (ss more : List Script) → IsStrictlySortedBy text_cmp (changed_urls (changes_in (u ∷ rest))) → ((v : List ℕ) → same_text u.change.url v ≡ false → of_url v more ≡ of_url v ss)
    → AllByRecursion (HasRoom ss) (u ∷ rest) → AllByRecursion (HasRoom more) rest
unfolding IsStrictlySortedBy
room-next u rest ss more sorted same h = room-each u.change.url rest ss more sorted.0 same h.1
