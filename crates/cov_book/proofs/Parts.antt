-- Lists of snapshots with the same urls and the same reports come to one, in whatever order and whatever scripts they stand.
use Rattle.std.proofs.Common.{◌≡◌, ℕ, ◌+◌, Bool, true, false, List, [], ◌∷◌, ◌++◌, map, refl, sym, ap, ◌∙◌, arith}
use Rattle.std.specs.Prelude.{cond, nat_lt, ◌||◌, flat_map, sum_by}
use Rattle.std.specs.List.{list_any}
use Rattle.std.specs.List.Sorted.{IsPermutation}
use Rattle.std.proofs.lemmas.List.Folds.{list_any-append}
use Rattle.std.proofs.lemmas.List.Sorted.{sum_by-IsPermutation}
use Rattle.std.proofs.lemmas.List.Sums.{sum_by-append, sum_by-cons}
use Rattle.cov_model.specs.declared.report.FunctionReport.{FunctionReport}
use Rattle.cov_model.specs.declared.snapshot.Entry.{Entry}
use Rattle.cov_model.specs.declared.snapshot.Snapshot.{Snapshot}
use Rattle.cov_model.specs.declared.sums.Key.{Key}
use Rattle.cov_text.specs.Listing.{same_text}
use Rattle.cov_model.specs.Nesting.{inner_count}
use Rattle.cov_model.specs.Sums.{urls, keys, is_of, reports, root, total, flag, root_count}
use Rattle.cov_book.specs.Laws.{AnyOrder, JoinsInOne, JoinsOverTwo, script}
use Rattle.cov_book.proofs.Agreeing.{Agree, come-to-one}
use Rattle.cov_book.proofs.Finding.{weigh, weigh-reports}
use Rattle.cov_book.proofs.Having.{has-is, cons-count, any-count}
use Rattle.cov_book.proofs.Ordered.{urls-same, keys-same}

-- The urls are the same, and each sum over the reports with their urls.
record SameParts (one other : List Snapshot) : Type 0 where
  urls : (url : List ℕ) → list_any (same_text url) (urls one) ≡ list_any (same_text url) (urls other)
  weights : (w : List ℕ → FunctionReport → ℕ) → weigh w one ≡ weigh w other

sums-same : (one other : List Snapshot) → SameParts one other → (w : FunctionReport → ℕ) (key : Key) → sum_by w (reports one key) ≡ sum_by w (reports other key)
sums-same one other same w key = weigh-reports w key one ∙ same.weights (λ url f. cond (is_of key url f) (w f) 0) ∙ sym (weigh-reports w key other)

parts-agree : (one other : List Snapshot) → SameParts one other → Agree one other
unfolding flag root total
parts-agree one other same =
    let has : (held : List Snapshot) (key : Key) → _ = λ held key. has-is held key ∙ cons-count (reports held key) in
    record {
      urls = urls-same (urls one) (urls other) same.urls;
      keys = keys-same (keys one) (keys other) (λ key. has one key ∙ ap (nat_lt 0) (sums-same one other same (λ f. 1) key) ∙ sym (has other key));
      flags = λ key.
          any-count (λ (f : FunctionReport). f.block) (reports one key)
          ∙ ap (nat_lt 0) (sums-same one other same (λ f. cond f.block 1 0) key)
          ∙ sym (any-count (λ (f : FunctionReport). f.block) (reports other key));
      roots = λ key. sums-same one other same root_count key;
      totals = λ key o low high. sums-same one other same (λ f. inner_count f.ranges o) key;
    }

-- ---- urls by snapshots and scripts

any-map : {A B : Type 0} (p : B → Bool) (g : A → B) (xs : List A) → list_any p (map g xs) ≡ list_any (λ x. p (g x)) xs
any-map p g [] = refl
any-map p g (x ∷ xs) = ap (λ b. p (g x) || b) (any-map p g xs)

any-flat : {A B : Type 0} (p : B → Bool) (g : A → List B) (q : A → Bool) → ((x : A) → list_any p (g x) ≡ q x) → (xs : List A) → list_any p (flat_map g xs) ≡ list_any q xs
any-flat p g q h [] = refl
any-flat p g q h (x ∷ xs) = list_any-append p (g x) (flat_map g xs) ∙ ap (λ b. b || list_any p (flat_map g xs)) (h x) ∙ ap (λ b. q x || b) (any-flat p g q h xs)

abbrev has_url : List ℕ → List Entry → Bool
has_url url entries = list_any (λ (entry : Entry). same_text url entry.url) entries

any-urls : (held : List Snapshot) (url : List ℕ) → list_any (same_text url) (urls held) ≡ list_any (has_url url) held
any-urls held url =
    any-flat (same_text url) (λ (snapshot : Snapshot). map (λ (entry : Entry). entry.url) snapshot) (has_url url) (λ snapshot. any-map (same_text url) (λ (entry : Entry). entry.url) snapshot) held

-- ---- in any order

permuted : (one other : List Snapshot) → IsPermutation one other → SameParts one other
permuted one other moved = record {
  urls = λ url.
      any-urls one url ∙ any-count (has_url url) one
      ∙ ap (nat_lt 0) (sym (sum_by-IsPermutation (λ (snapshot : Snapshot). cond (has_url url snapshot) 1 0) one other moved))
      ∙ sym (any-count (has_url url) other) ∙ sym (any-urls other url);
  weights = λ w. sym (sum_by-IsPermutation (λ (snapshot : Snapshot). sum_by (λ (entry : Entry). sum_by (w entry.url) entry.functions) snapshot) one other moved);
}

pub any_order : AnyOrder
any_order one other moved = come-to-one one other (parts-agree one other (permuted one other moved))

-- ---- scripts of one url

abbrev in_entry : (List ℕ → FunctionReport → ℕ) → Entry → ℕ
in_entry w entry = sum_by (w entry.url) entry.functions

abbrev in_entries : (List ℕ → FunctionReport → ℕ) → List Entry → ℕ
in_entries w entries = sum_by (in_entry w) entries

around : {A : Type 0} (f : A → ℕ) (xs : List A) (x : A) (ys : List A) → sum_by f (xs ++ x ∷ ys) ≡ sum_by f xs + (f x + sum_by f ys)
around f xs x ys = sum_by-append f xs (x ∷ ys) ∙ ap (λ n. sum_by f xs + n) (sum_by-cons f x ys)

any-around : {A : Type 0} (p : A → Bool) (xs : List A) (x : A) (ys : List A) → list_any p (xs ++ x ∷ ys) ≡ (list_any p xs || (p x || list_any p ys))
any-around p xs x ys = list_any-append p xs (x ∷ ys)

twice : (a t b c : Bool) → (a || (t || (b || (t || c)))) ≡ (a || (t || (b || c)))
twice a true b c = refl
twice true false b c = refl
twice false false b c = refl

parts-in-one : (before after : List Snapshot) (front middle back : List Entry) (url : List ℕ) (some more : List FunctionReport)
    → SameParts (before ++ (front ++ script url some ∷ (middle ++ script url more ∷ back)) ∷ after) (before ++ (front ++ script url (some ++ more) ∷ (middle ++ back)) ∷ after)
parts-in-one before after front middle back url some more =
    let split = front ++ script url some ∷ (middle ++ script url more ∷ back) in
    let whole = front ++ script url (some ++ more) ∷ (middle ++ back) in
    record {
      urls = λ u.
          let test : Entry → Bool = λ (entry : Entry). same_text u entry.url in
          let here : has_url u split ≡ has_url u whole =
          any-around test front (script url some) (middle ++ script url more ∷ back)
          ∙ ap (λ b. has_url u front || (same_text u url || b)) (any-around test middle (script url more) back)
          ∙ twice (has_url u front) (same_text u url) (has_url u middle) (has_url u back)
          ∙ ap (λ b. has_url u front || (same_text u url || b)) (sym (list_any-append test middle back))
          ∙ sym (any-around test front (script url (some ++ more)) (middle ++ back)) in
          any-urls (before ++ split ∷ after) u ∙ any-around (has_url u) before split after
          ∙ ap (λ b. list_any (has_url u) before || (b || list_any (has_url u) after)) here
          ∙ sym (any-around (has_url u) before whole after) ∙ sym (any-urls (before ++ whole ∷ after) u);
      weights = λ w.
          let here : in_entries w split ≡ in_entries w whole =
          omega (
            arith,
            around (in_entry w) front (script url some) (middle ++ script url more ∷ back),
            around (in_entry w) middle (script url more) back,
            around (in_entry w) front (script url (some ++ more)) (middle ++ back),
            sum_by-append (in_entry w) middle back,
            sum_by-append (w url) some more,
          ) in
          around (in_entries w) before split after ∙ ap (λ n. weigh w before + (n + weigh w after)) here ∙ sym (around (in_entries w) before whole after);
    }

pub joins_in_one : JoinsInOne
joins_in_one before after front middle back url some more = come-to-one _ _ (parts-agree _ _ (parts-in-one before after front middle back url some more))

over-two : (l a t b m c d n : Bool) → (l || ((a || (t || b)) || (m || ((c || (t || d)) || n)))) ≡ (l || ((a || (t || b)) || (m || ((c || d) || n))))
over-two l a false b m c d n = refl
over-two l true true b m c d n = refl
over-two l false true b m c d n = refl

parts-over-two : (before between after : List Snapshot) (front back left right : List Entry) (url : List ℕ) (some more : List FunctionReport)
    → SameParts (before ++ (front ++ script url some ∷ back) ∷ (between ++ (left ++ script url more ∷ right) ∷ after))
    (before ++ (front ++ script url (some ++ more) ∷ back) ∷ (between ++ (left ++ right) ∷ after))
parts-over-two before between after front back left right url some more =
    let first = front ++ script url some ∷ back in
    let second = left ++ script url more ∷ right in
    let one = front ++ script url (some ++ more) ∷ back in
    let rest = left ++ right in
    record {
      urls = λ u.
          let test : Entry → Bool = λ (entry : Entry). same_text u entry.url in
          let has : (xs ys : List Entry) → list_any (has_url u) (before ++ xs ∷ (between ++ ys ∷ after)) ≡ (list_any (has_url u) before || (has_url u xs || (list_any (has_url u) between || (has_url u ys || list_any (has_url u) after)))) =
          λ xs ys. any-around (has_url u) before xs (between ++ ys ∷ after) ∙ ap (λ b. list_any (has_url u) before || (has_url u xs || b)) (any-around (has_url u) between ys after) in
          let both : Bool → Bool → Bool = λ x y. list_any (has_url u) before || (x || (list_any (has_url u) between || (y || list_any (has_url u) after))) in
          any-urls (before ++ first ∷ (between ++ second ∷ after)) u ∙ has first second
          ∙ ap (λ x. both x (has_url u second)) (any-around test front (script url some) back)
          ∙ ap (both (has_url u front || (same_text u url || has_url u back))) (any-around test left (script url more) right)
          ∙ over-two (list_any (has_url u) before) (has_url u front) (same_text u url) (has_url u back) (list_any (has_url u) between) (has_url u left) (has_url u right) (list_any (has_url u) after)
          ∙ ap (both (has_url u front || (same_text u url || has_url u back))) (sym (list_any-append test left right))
          ∙ ap (λ x. both x (has_url u rest)) (sym (any-around test front (script url (some ++ more)) back))
          ∙ sym (has one rest) ∙ sym (any-urls (before ++ one ∷ (between ++ rest ∷ after)) u);
      weights = λ w.
          omega (
            arith,
            around (in_entries w) before first (between ++ second ∷ after),
            around (in_entries w) between second after,
            around (in_entries w) before one (between ++ rest ∷ after),
            around (in_entries w) between rest after,
            around (in_entry w) front (script url some) back,
            around (in_entry w) left (script url more) right,
            around (in_entry w) front (script url (some ++ more)) back,
            sum_by-append (in_entry w) left right,
            sum_by-append (w url) some more,
          );
    }

pub joins_over_two : JoinsOverTwo
joins_over_two before between after front back left right url some more =
    come-to-one _ _ (parts-agree _ _ (parts-over-two before between after front back left right url some more))
