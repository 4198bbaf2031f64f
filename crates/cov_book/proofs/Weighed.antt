-- Lists of scripts with the same urls and reports.
use Rattle.std.proofs.Common.{◌≡◌, ℕ, ◌+◌, Bool, true, false, List, [], ◌∷◌, ◌++◌, refl, sym, ap, ◌∙◌, subst, arith}
use Rattle.std.specs.Prelude.{◌||◌, sum_by}
use Rattle.std.specs.List.{list_any, All, AllByRecursion}
use Rattle.std.proofs.lemmas.List.{append_assoc}
use Rattle.std.proofs.lemmas.List.Elements.{All-nil, All-cons, All-head, All-tail}
use Rattle.std.specs.List.Sorted.{IsPermutation}
use Rattle.std.proofs.lemmas.List.Sorted.{sum_by-IsPermutation, list_any-IsPermutation, All-permutation, IsPermutation-map}
use Rattle.std.proofs.lemmas.List.Sums.{sum_by-append, sum_by-cons}
use Rattle.cov_model.specs.declared.report.FunctionReport.{FunctionReport}
use Rattle.cov_model.specs.declared.snapshot.Entry.{Entry}
use Rattle.cov_model.specs.declared.snapshot.Snapshot.{Snapshot}
use Rattle.cov_model.specs.declared.sums.Key.{Key}
use Rattle.cov_text.specs.Listing.{in_order, same_text, text_cmp}
use Rattle.cov_model.specs.Nesting.{AreNested, AreReportsNested}
use Rattle.cov_book.specs.declared.sums.Sums.{Sums}
use Rattle.cov_book.specs.declared.cutting.Part.{Part}
use Rattle.cov_book.specs.Entries.{entries_of}
use Rattle.cov_book.specs.Prepared.{with_entries}
use Rattle.cov_book.specs.Urls.{urls_of}
use Rattle.cov_book.specs.Weights.{AreAlike, entries_in, entry_of, weighed}
use Rattle.cov_book.proofs.Keyed.{alike-sums, entries-more, sum-one}
use Rattle.cov_book.proofs.Ordered.{urls-same}

pub alike-itself : (xs ys : List Entry) → xs ≡ ys → AreAlike xs ys
alike-itself xs ys same = subst (AreAlike xs) same (record { urls = λ p. refl; weights = λ w. refl; nested = λ h. h })

pub alike-then : (xs ys zs : List Entry) → AreAlike xs ys → AreAlike ys zs → AreAlike xs zs
alike-then xs ys zs one other = record {
  urls = λ p. one.urls p ∙ other.urls p;
  weights = λ w. one.weights w ∙ other.weights w;
  nested = λ h. other.nested (one.nested h);
}

-- ---- in any order

each-cons : {A : Type 0} (P : A → Type 0) (xs : List A) → AllByRecursion P xs → All P xs
each-cons P [] h = All-nil P
each-cons P (x ∷ xs) h = All-cons P x xs h.0 (each-cons P xs h.1)

cons-each : {A : Type 0} (P : A → Type 0) (xs : List A) → All P xs → AllByRecursion P xs
cons-each P [] h = tt
cons-each P (x ∷ xs) h = (All-head P x xs h, cons-each P xs (All-tail P x xs h))

abbrev Nests : Entry → Type 0
Nests e = AreReportsNested e.functions

pub alike-moved : (xs ys : List Entry) → IsPermutation xs ys → AreAlike xs ys
alike-moved xs ys moved = record {
  urls = λ p. list_any-IsPermutation p (urls_of xs) (urls_of ys) (IsPermutation-map (λ (e : Entry). e.url) xs ys moved);
  weights = λ w. sym (sum_by-IsPermutation (λ (e : Entry). sum_by (w e.url) e.functions) xs ys moved);
  nested = λ h. cons-each Nests ys (All-permutation Nests xs ys moved (each-cons Nests xs h));
}

pub alike-sorted : (xs ys : List Part) → IsPermutation xs ys → AreAlike (entries_in xs) (entries_in ys)
alike-sorted xs ys moved = alike-moved (entries_in xs) (entries_in ys) (IsPermutation-map entry_of xs ys moved)

pub parts-push : (ps : List Part) (p : Part) → entries_in (ps ++ p ∷ []) ≡ entries_in ps ++ entry_of p ∷ []
parts-push [] p = refl
parts-push (x ∷ xs) p = ap (λ es. entry_of x ∷ es) (parts-push xs p)

-- ---- with more scripts behind them

any-append : (p : List ℕ → Bool) (xs ys : List Entry) → list_any p (urls_of (xs ++ ys)) ≡ (list_any p (urls_of xs) || list_any p (urls_of ys))
any-append p [] ys = refl
any-append p (x ∷ xs) ys = ap (λ b. p x.url || b) (any-append p xs ys) ∙ assoc (p x.url) (list_any p (urls_of xs)) (list_any p (urls_of ys))
  where
    assoc : (a b c : Bool) → (a || (b || c)) ≡ ((a || b) || c)
    assoc true b c = refl
    assoc false b c = refl

weighed-append : (w : List ℕ → FunctionReport → ℕ) (xs ys : List Entry) → weighed w (xs ++ ys) ≡ weighed w xs + weighed w ys
weighed-append w xs ys = sum_by-append (λ (e : Entry). sum_by (w e.url) e.functions) xs ys

nested-both : (xs ys : List Entry) → AreNested xs → AreNested ys → AreNested (xs ++ ys)
nested-both [] ys h k = k
nested-both (x ∷ xs) ys h k = (h.0, nested-both xs ys h.1 k)

nested-parts : (xs ys : List Entry) → AreNested (xs ++ ys) → AreNested xs × AreNested ys
nested-parts [] ys h = (tt, h)
nested-parts (x ∷ xs) ys h = let rest = nested-parts xs ys h.1 in ((h.0, rest.0), rest.1)

alike-more : (xs ys rest : List Entry) → AreAlike xs ys → AreAlike (xs ++ rest) (ys ++ rest)
alike-more xs ys rest same = record {
  urls = λ p. any-append p xs rest ∙ ap (λ b. b || list_any p (urls_of rest)) (same.urls p) ∙ sym (any-append p ys rest);
  weights = λ w. weighed-append w xs rest ∙ ap (λ n. n + weighed w rest) (same.weights w) ∙ sym (weighed-append w ys rest);
  nested = λ h. let parts = nested-parts xs rest h in nested-both ys rest (same.nested parts.0) parts.1;
}

-- the first of what is left is taken
pub alike-next : (xs next rest left all : List Entry) (e : Entry) → left ≡ e ∷ rest → AreAlike all (xs ++ left) → AreAlike (xs ++ e ∷ []) next → AreAlike all (next ++ rest)
alike-next xs next rest left all e is so_far step =
    alike-then all (xs ++ left) (next ++ rest) so_far
    (alike-then (xs ++ left) ((xs ++ e ∷ []) ++ rest) (next ++ rest)
    (alike-itself (xs ++ left) ((xs ++ e ∷ []) ++ rest) (ap (λ ls. xs ++ ls) is ∙ sym (append_assoc xs (e ∷ []) rest)))
    (alike-more (xs ++ e ∷ []) next rest step))

-- ---- a script cut in two

abbrev pub script : List ℕ → List FunctionReport → Entry
script url fs = record { url = url; functions = fs }

pub alike-cut : (xs : List Entry) (url : List ℕ) (f : FunctionReport) (fs : List FunctionReport)
    → AreAlike (xs ++ script url (f ∷ fs) ∷ []) ((xs ++ script url (f ∷ []) ∷ []) ++ script url fs ∷ [])
alike-cut xs url f fs =
    let one : List Entry = xs ++ script url (f ∷ []) ∷ [] in
    record {
      urls = λ p.
          any-append p xs (script url (f ∷ fs) ∷ [])
          ∙ again (list_any p (urls_of xs)) (p url)
          ∙ ap (λ b. b || (p url || false)) (sym (any-append p xs (script url (f ∷ []) ∷ [])))
          ∙ sym (any-append p one (script url fs ∷ []));
      weights = λ w.
          let whole = weighed-append w xs (script url (f ∷ fs) ∷ []) in
          let first = weighed-append w xs (script url (f ∷ []) ∷ []) in
          let both = weighed-append w one (script url fs ∷ []) in
          let a = alone w (f ∷ fs) in
          let b = alone w (f ∷ []) in
          let c = alone w fs in
          let more = sum_by-cons (w url) f fs in
          let single = sum_by-cons (w url) f [] in
          omega (arith, whole, first, both, a, b, c, more, single);
      nested = λ h.
          let parts = nested-parts xs (script url (f ∷ fs) ∷ []) h in
          nested-both one (script url fs ∷ []) (nested-both xs (script url (f ∷ []) ∷ []) parts.0 ((parts.1.0.0, tt), tt)) (parts.1.0.1, tt);
    }
  where
    again : (a b : Bool) → (a || (b || false)) ≡ ((a || (b || false)) || (b || false))
    again true b = refl
    again false true = refl
    again false false = refl

    alone : (w : List ℕ → FunctionReport → ℕ) (gs : List FunctionReport) → weighed w (script url gs ∷ []) ≡ sum_by (w url) gs
    alone w gs = sum-one (λ (e : Entry). sum_by (w e.url) e.functions) (script url gs)

-- ---- what they come to

pub alike-urls : (xs ys : List Entry) → AreAlike xs ys → in_order text_cmp (urls_of ys) ≡ in_order text_cmp (urls_of xs)
alike-urls xs ys same = urls-same (urls_of ys) (urls_of xs) (λ url. sym (same.urls (same_text url)))

pub alike-entries : (known : List (Key × Sums)) (held : List Snapshot) (xs ys : List Entry) → known ≡ entries_of held → AreAlike xs ys → with_entries known ys ≡ with_entries known xs
alike-entries known held xs ys are same =
    ap (λ es. with_entries es ys) are ∙ entries-more held ys
    ∙ alike-sums held ys xs (λ w. sym (same.weights w))
    ∙ sym (ap (λ es. with_entries es xs) are ∙ entries-more held xs)
