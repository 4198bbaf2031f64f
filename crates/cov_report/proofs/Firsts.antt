-- The first element that passes a test, by its place, and the first entry of a url.
use Rattle.std.proofs.Common.{◌≡◌, ◌<◌, ℕ, zero, suc, Bool, true, false, List, [], ◌∷◌, ◌++◌, length, take, get_or, map, refl, sym, ap, ◌∙◌, arith, add-one}
use Rattle.std.specs.Prelude.{cond, ◌+◌, Option, None, Some, option_map, option_and_then, slice_get, find, is_some}
use Rattle.std.specs.List.{position_from}
use Rattle.std.proofs.Common.{Bor}
use Rattle.std.specs.Slice.{IsItemAt}
use Rattle.std.proofs.lemmas.Bool.{ltb-true, ltb-false}
use Rattle.std.proofs.lemmas.Option.{slice_get_past, slice_get_read}
use Rattle.cov_text.specs.Listing.{same_text}
use Rattle.source_maps.specs.declared.entries.MapEntry.{MapEntry}
use Rattle.source_maps.specs.Entries.{Said, said}
use Rattle.std.specs.BTreeMap.{BTreeMap, get, is_at}
use Rattle.std.proofs.lemmas.List.{take_more, length-take-le}
use Rattle.cov_text.specs.Listing.{text_cmp}
use Rattle.cov_report.specs.Wanted.{entry_for}
use Rattle.std.specs.Map.{lookup}
use Rattle.cov_report.specs.First.{ArePlaces, lent_cmp}
use Rattle.cov_report.proofs.Outcomes.{at-same, same-is}

module _ {A : Type 0} (t : A → Bool) where
  -- the places of more elements are moved
  shifted : (i : ℕ) (xs : List A) → position_from t (i + 1) xs ≡ option_map (λ k. k + 1) (position_from t i xs)
  shifted i [] = refl
  shifted i (x ∷ xs) = by (t x) (shifted (i + 1) xs)
    where
      by : (b : Bool) → position_from t (i + 1 + 1) xs ≡ option_map (λ k. k + 1) (position_from t (i + 1) xs) → cond b (Some (i + 1)) (position_from t (i + 1 + 1) xs) ≡ option_map (λ k. k + 1) (cond b (Some i) (position_from t (i + 1) xs))
      by true next = refl
      by false next = next

  pub found-at : (xs : List A) → option_and_then (slice_get xs) (position_from t 0 xs) ≡ find t xs
  found-at [] = refl
  found-at (x ∷ xs) = by (t x) (found-at xs)
    where
      next : (o : Option ℕ) → option_and_then (slice_get (x ∷ xs)) (option_map (λ k. k + 1) o) ≡ option_and_then (slice_get xs) o
      next None = refl
      next (Some k) = ap (slice_get (x ∷ xs)) (add-one k)

      by : (b : Bool) → option_and_then (slice_get xs) (position_from t 0 xs) ≡ find t xs → option_and_then (slice_get (x ∷ xs)) (cond b (Some 0) (position_from t (0 + 1) xs)) ≡ cond b (Some x) (find t xs)
      by true rest = refl
      by false rest = ap (option_and_then (slice_get (x ∷ xs))) (shifted 0 xs) ∙ next (position_from t 0 xs) ∙ rest

  -- one more element at the end
  abbrev pub or_here : Option ℕ → Bool → ℕ → Option ℕ
  or_here None b k = cond b (Some k) None
  or_here (Some i) b k = Some i

  pub position-more : (i : ℕ) (xs : List A) (x : A) → position_from t i (xs ++ x ∷ []) ≡ or_here (position_from t i xs) (t x) (i + length xs)
  position-more i [] x = ap (λ n. cond (t x) (Some n) None) (omega arith)
  position-more i (y ∷ xs) x = by (t y) (position-more (i + 1) xs x)
    where
      by : (b : Bool) → position_from t (i + 1) (xs ++ x ∷ []) ≡ or_here (position_from t (i + 1) xs) (t x) (i + 1 + length xs) → cond b (Some i) (position_from t (i + 1) (xs ++ x ∷ [])) ≡ or_here (cond b (Some i) (position_from t (i + 1) xs)) (t x) (i + suc (length xs))
      by true next = refl
      by false next = next ∙ ap (or_here (position_from t (i + 1) xs) (t x)) (omega arith)

pub find-map : {A B : Type 0} (f : A → B) (t : B → Bool) (xs : List A) → find t (map f xs) ≡ option_map f (find (λ x. t (f x)) xs)
find-map f t [] = refl
find-map {A = A} {B = B} f t (x ∷ xs) = by (t (f x)) (find-map f t xs)
  where
    by : (b : Bool) → find t (map f xs) ≡ option_map f (find (λ y. t (f y)) xs) → cond b (Some (f x)) (find t (map f xs)) ≡ option_map f (cond b (Some x) (find (λ y. t (f y)) xs))
    by true next = refl
    by false next = next

-- ---- the entry of a url

pub item-at : {X : Type 0} (xs : List X) (k : ℕ) (r : Option (Bor X)) → IsItemAt xs k r → option_map (λ (x : Bor X). x.now) r ≡ slice_get xs k
item-at xs k None is = sym (slice_get_past xs k (ltb-false k (length xs) (sym is.0)))
item-at xs k (Some x) is = sym (slice_get_read xs (length xs) k x.now refl (ltb-true k (length xs) (sym is.0)) is.1)

copied : (o : Option (Bor MapEntry)) → option_map (λ (e : Bor MapEntry). said e.now) o ≡ option_map said (option_map (λ (e : Bor MapEntry). e.now) o)
copied None = refl
copied (Some e) = refl

pub entry-found : (entries : List MapEntry) (url : List ℕ) (place : Option ℕ) (found : Option (Bor MapEntry)) → place ≡ position_from (λ (e : MapEntry). same_text e.url url) 0 entries
    → option_map (λ (e : Bor MapEntry). e.now) found ≡ option_and_then (slice_get entries) place
    → option_map (λ (e : Bor MapEntry). said e.now) found ≡ entry_for (map said entries) url
entry-found entries url place found at is =
    copied found
    ∙ ap (option_map said) (is ∙ ap (option_and_then (slice_get entries)) at ∙ found-at (λ (e : MapEntry). same_text e.url url) entries)
    ∙ sym (find-map said (λ (e : Said). same_text e.url url) entries)

-- ---- one more entry

module _ (entries : List MapEntry) (k : ℕ) (e : MapEntry) (below : k < length entries) (is : e ≡ get_or entries k e) where
  abbrev test : List ℕ → MapEntry → Bool
  test url x = same_text x.url url

  more : (url : List ℕ)
      → position_from (test url) 0 (take (k + 1) entries) ≡ or_here (test url) (position_from (test url) 0 (take k entries)) (same_text e.url url) k
  more url =
      let all : take (k + 1) entries ≡ take k entries ++ e ∷ [] = take_more entries k e below ∙ ap (λ x. take k entries ++ x ∷ []) (sym is) in
      let long : 0 + length (take k entries) ≡ k = omega (arith, length-take-le k entries (omega arith)) in
      ap (position_from (test url) 0) all ∙ position-more (test url) 0 (take k entries) e
      ∙ ap (or_here (test url) (position_from (test url) 0 (take k entries)) (same_text e.url url)) long

  -- a look-up reads the text alone
  moved : (m : BTreeMap (Bor (List ℕ)) ℕ) (a b : Bor (List ℕ)) → a.now ≡ b.now → get lent_cmp m a ≡ get lent_cmp m b
  moved m a b same = ap (λ n. lookup (is_at (λ (x : Bor (List ℕ)). text_cmp n x.now)) m.entries) same

  -- its url is new
  pub put-first : (old new : BTreeMap (Bor (List ℕ)) ℕ) (key : Bor (List ℕ)) → key.now ≡ e.url → get lent_cmp old key ≡ None → ArePlaces (take k entries) old
      → ((url : Bor (List ℕ)) → get lent_cmp new url ≡ cond (is_at (lent_cmp key) url) (Some k) (get lent_cmp old url)) → ArePlaces (take (k + 1) entries) new
  put-first old new key named none so_far put url =
      put url ∙ ap (λ b. cond b (Some k) (get lent_cmp old url)) (at-same key.now url.now ∙ ap (λ n. same_text n url.now) named) ∙ by (same_text e.url url.now) refl
      ∙ ap (λ o. or_here (test url.now) o (same_text e.url url.now) k) (so_far url) ∙ sym (more url.now)
    where
      apart : (o : Option ℕ) → o ≡ or_here (test url.now) o false k
      apart None = refl
      apart (Some i) = refl

      by : (b : Bool) → same_text e.url url.now ≡ b → cond b (Some k) (get lent_cmp old url) ≡ or_here (test url.now) (get lent_cmp old url) b k
      by true h = ap (λ o. or_here (test url.now) o true k) (sym none ∙ moved old key url (named ∙ same-is e.url url.now h))
      by false h = apart (get lent_cmp old url)

  -- its url has an earlier entry
  pub kept-first : (old new : BTreeMap (Bor (List ℕ)) ℕ) (key : Bor (List ℕ)) → key.now ≡ e.url → is_some (get lent_cmp old key) ≡ true → ArePlaces (take k entries) old → new ≡ old
      → ArePlaces (take (k + 1) entries) new
  kept-first old new key named there so_far same url =
      ap (λ (m : BTreeMap (Bor (List ℕ)) ℕ). get lent_cmp m url) same ∙ by (same_text e.url url.now) refl (get lent_cmp old url) refl
      ∙ ap (λ o. or_here (test url.now) o (same_text e.url url.now) k) (so_far url) ∙ sym (more url.now)
    where
      by : (b : Bool) → same_text e.url url.now ≡ b → (o : Option ℕ) → get lent_cmp old url ≡ o → get lent_cmp old url ≡ or_here (test url.now) (get lent_cmp old url) b k
      by b h (Some i) there-is = there-is ∙ sym (ap (λ o. or_here (test url.now) o b k) there-is)
      by false h None none = none ∙ sym (ap (λ o. or_here (test url.now) o false k) none)
      by true h None none =
          absurd
          (let gone : get lent_cmp old key ≡ None = moved old key url (named ∙ same-is e.url url.now h) ∙ none in let no : is_some (get lent_cmp old key) ≡ false = ap is_some gone in cc)
