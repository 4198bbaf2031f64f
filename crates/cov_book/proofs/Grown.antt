-- A book with one snapshot more.
use Rattle.std.proofs.Common.{◌≡◌, ℕ, List, [], ◌∷◌, ◌++◌, map, refl, sym, ap, ◌∙◌, subst, true}
use Rattle.std.specs.List.Sorted.{IsStrictlySortedBy}
use Rattle.std.specs.Map.{keys_of}
use Rattle.std.proofs.lemmas.List.{append-nil}
use Rattle.cov_model.specs.declared.snapshot.Snapshot.{Snapshot}
use Rattle.cov_model.specs.declared.sums.Key.{Key}
use Rattle.cov_text.specs.Listing.{inserted, text_cmp}
use Rattle.cov_model.specs.Nesting.{AreNested}
use Rattle.cov_model.specs.Sums.{fits, urls, keys, urls_in_order, keys_in_order, file_order}
use Rattle.cov_model.specs.Held.{Held, StandsFor}
use Rattle.cov_book.specs.declared.sums.Sums.{Sums}
use Rattle.cov_book.specs.Entries.{IsBook, key_sums, entries_of}
use Rattle.cov_book.specs.Prepared.{AreKept, AreWithin, with_entries}
use Rattle.cov_book.specs.Urls.{with_urls, urls_of}
use Rattle.cov_book.proofs.Agreeing.{urls-append}
use Rattle.cov_book.proofs.Aligned.{aligned-entries}
use Rattle.cov_book.proofs.Keyed.{entries-more}
use Rattle.cov_book.proofs.Nested.{All-push}
use Rattle.cov_book.proofs.Ordered.{text_total, file_total, in_order-sorted}
use Rattle.cov_book.proofs.Passing.{fits-within, within-fits}
use Rattle.cov_book.proofs.Seen.{view, seen-list, stands-agree, agree-entries}

keys-are : (held : List Snapshot) (ks : List Key) → keys_of (map (key_sums held) ks) ≡ ks
keys-are held [] = refl
keys-are held (k ∷ ks) = ap (λ rest. k ∷ rest) (keys-are held ks)

pub kept-list : (held : List Snapshot) → fits held ≡ true → AreKept (entries_of held)
unfolding entries_of
kept-list held fit = record {
  sorted = subst (IsStrictlySortedBy file_order) (sym (keys-are held (keys_in_order held))) (in_order-sorted file_order file_total (keys held));
  aligned = aligned-entries held;
  within = fits-within held fit;
}

pub kept : (us : List (List ℕ)) (entries : List (Key × Sums)) → IsBook us entries → AreKept entries
kept us entries b = subst AreKept (sym b.entries_are) (kept-list b.held b.fit)

pub urls-sorted : (us : List (List ℕ)) (entries : List (Key × Sums)) → IsBook us entries → IsStrictlySortedBy text_cmp us
urls-sorted us entries b = subst (IsStrictlySortedBy text_cmp) (sym b.urls_are) (in_order-sorted text_cmp text_total (urls b.held))

-- the urls and the entries are those of each list that the book stands for
pub entries-held : (us : List (List ℕ)) (entries : List (Key × Sums)) (now : Held) → (b : IsBook us entries) → view us entries ≡ now
    → (held : List Snapshot) → StandsFor now held → entries ≡ entries_of held
entries-held us entries now b is held stands = b.entries_are ∙ agree-entries b.held held (stands-agree us entries now b is held stands)

pub urls-held : (us : List (List ℕ)) (entries : List (Key × Sums)) (now : Held) → (b : IsBook us entries) → view us entries ≡ now
    → (held : List Snapshot) → StandsFor now held → us ≡ urls_in_order held
urls-held us entries now b is held stands = b.urls_are ∙ (stands-agree us entries now b is held stands).urls

-- ---- with a snapshot

entries-with : (entries more : List (Key × Sums)) (held : List Snapshot) (s : Snapshot) → entries ≡ entries_of held → more ≡ with_entries entries s → more ≡ entries_of (held ++ s ∷ [])
entries-with entries more held s are is = is ∙ ap (λ es. with_entries es s) are ∙ entries-more held s

urls-with : (us others : List (List ℕ)) (held : List Snapshot) (s : Snapshot) → us ≡ urls_in_order held → others ≡ with_urls us s → others ≡ urls_in_order (held ++ s ∷ [])
urls-with us others held s are is =
    is ∙ ap (λ known. with_urls known s) are
    ∙ ap (inserted text_cmp (urls_in_order held)) (sym (append-nil (urls_of s)))
    ∙ sym (urls-append held (s ∷ []))

pub grown : (us others : List (List ℕ)) (entries more : List (Key × Sums)) (s : Snapshot) → IsBook us entries → AreNested s
    → others ≡ with_urls us s → more ≡ with_entries entries s → AreWithin more → IsBook others more
grown us others entries more s b nest urls_is entries_is within =
    let both = b.held ++ s ∷ [] in
    let are = entries-with entries more b.held s b.entries_are entries_is in
    record {
      held = both;
      fit = within-fits both (subst AreWithin are within);
      nested = All-push AreNested b.held s b.nested nest;
      urls_are = urls-with us others b.held s b.urls_are urls_is;
      entries_are = are;
    }

pub grown-stands : (us others : List (List ℕ)) (entries more : List (Key × Sums)) (now : Held) (s : Snapshot) → (b : IsBook us entries) → view us entries ≡ now
    → others ≡ with_urls us s → more ≡ with_entries entries s → AreWithin more
    → (held : List Snapshot) → StandsFor now held → StandsFor (view others more) (held ++ s ∷ [])
grown-stands us others entries more now s b is urls_is entries_is within held stands =
    let both = held ++ s ∷ [] in
    let all = entries-with entries more held s (entries-held us entries now b is held stands) entries_is in
    let names = urls-with us others held s (urls-held us entries now b is held stands) urls_is in
    record {
      fit = within-fits both (subst AreWithin all within);
      sums = (λ i. view (names i) (all i)) ∙ seen-list both;
    }
