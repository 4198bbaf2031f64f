-- A book is seen as the sums of the list that it has.
use Rattle.std.proofs.Common.{◌≡◌, ℕ, zero, suc, ◌+◌, ◌-◌, ◌<◌, ◌≤◌, List, [], ◌∷◌, map, refl, sym, ap, ◌∙◌, arith}
use Rattle.cov_model.specs.declared.snapshot.Snapshot.{Snapshot}
use Rattle.cov_model.specs.declared.sums.Key.{Key}
use Rattle.cov_text.specs.Listing.{counted}
use Rattle.cov_model.specs.Normal.{maximal_runs}
use Rattle.cov_model.specs.Sums.{root, total, flag, urls_in_order, keys_in_order}
use Rattle.cov_model.specs.Held.{Held, sums_of, held_of, StandsFor}
use Rattle.cov_steps.specs.Runs.{count_in}
use Rattle.cov_steps.proofs.Maximal.{maximal_runs-same, count_in-maximal}
use Rattle.cov_book.specs.declared.sums.Sums.{Sums}
use Rattle.cov_book.specs.Entries.{IsBook, sums_at, key_sums, entries_of, spread}
use Rattle.cov_book.proofs.Agreeing.{Agree, held-agree, map-each}

each-count : (f g : ℕ → ℕ) (n s : ℕ) → ((o : ℕ) → s ≤ o → o < s + n → f o ≡ g o) → map f (counted s n) ≡ map g (counted s n)
each-count f g zero s h = refl
each-count f g (suc n) s h =
    ap (λ c. c ∷ map f (counted (suc s) n)) (h s (omega arith) (omega arith)) ∙ ap (λ cs. g s ∷ cs) (each-count f g n (suc s) (λ o low high. h o (omega arith) (omega arith)))

spread-is : (held : List Snapshot) (key : Key) → spread (key_sums held key) ≡ sums_of held key
spread-is held key =
    let counts =
    each-count (count_in (maximal_runs key.start key.end (total held key))) (total held key) (key.end - key.start) key.start
    (λ o low high. count_in-maximal key.start key.end o (total held key) low (omega arith)) in
    (λ i. record { key = key; block = flag held key; root = root held key; counts = counts i })

spread-all : (held : List Snapshot) (ks : List Key) → map spread (map (key_sums held) ks) ≡ map (sums_of held) ks
spread-all held [] = refl
spread-all held (k ∷ ks) = (λ i. spread-is held k i ∷ spread-all held ks i)

abbrev pub view : List (List ℕ) → List (Key × Sums) → Held
view urls entries = record { urls = urls; functions = map spread entries }

pub seen-list : (held : List Snapshot) → view (urls_in_order held) (entries_of held) ≡ held_of held
unfolding entries_of held_of
seen-list held = (λ i. record { urls = urls_in_order held; functions = spread-all held (keys_in_order held) i })

pub seen : (urls : List (List ℕ)) (entries : List (Key × Sums)) → (b : IsBook urls entries) → view urls entries ≡ held_of b.held
seen urls entries b = (λ i. view (b.urls_are i) (b.entries_are i)) ∙ seen-list b.held

-- a book that is seen so stands for lists with the sums of its own
pub stands-agree : (urls : List (List ℕ)) (entries : List (Key × Sums)) (now : Held) → (b : IsBook urls entries) → view urls entries ≡ now
    → (held : List Snapshot) → StandsFor now held → Agree b.held held
stands-agree urls entries now b is held stands = held-agree b.held held (sym (seen urls entries b) ∙ is ∙ stands.sums)

pub agree-sums : (one other : List Snapshot) → Agree one other → (key : Key) → sums_at one key ≡ sums_at other key
agree-sums one other same key =
    let runs = maximal_runs-same key.start key.end (total one key) (total other key) (same.totals key) in
    (λ i. record { block = same.flags key i; root = same.roots key i; runs = record { start = key.start; end = key.end; runs = runs i } })

key-sums-same : (one other : List Snapshot) → Agree one other → (key : Key) → key_sums one key ≡ key_sums other key
key-sums-same one other same key = (λ i. (key, agree-sums one other same key i))

pub agree-entries : (one other : List Snapshot) → Agree one other → entries_of one ≡ entries_of other
unfolding entries_of
agree-entries one other same = map-each (key_sums one) (key_sums other) (key-sums-same one other same) (keys_in_order one) ∙ ap (map (key_sums other)) same.keys

-- two books that are seen as one have the same urls and entries
pub seen-once : (urls others : List (List ℕ)) (entries more : List (Key × Sums)) → IsBook urls entries → IsBook others more
    → view urls entries ≡ view others more → (urls ≡ others) × (entries ≡ more)
seen-once urls others entries more a b e =
    let same : Agree a.held b.held = held-agree a.held b.held (sym (seen urls entries a) ∙ e ∙ seen others more b) in
    (ap (λ (h : Held). h.urls) e, a.entries_are ∙ agree-entries a.held b.held same ∙ sym b.entries_are)
