-- The numbers in the scripts of a list that fits are below 2^64.
use Rattle.std.proofs.Common.{◌≡◌, ℕ, zero, suc, ◌+◌, ◌-◌, ◌<◌, ◌≤◌, ◌^◌, true, List, [], ◌∷◌, map, sym, subst, arith, inl, inr}
use Rattle.std.specs.Prelude.{option_map, nat_le, filter, filter_map, flat_map}
use Rattle.std.specs.List.{AllByRecursion, list_all, cons_option}
use Rattle.std.proofs.lemmas.Bool.{cases_lt, leb-true, and_parts}
use Rattle.cov_model.specs.declared.report.Range.{Range}
use Rattle.cov_model.specs.declared.report.FunctionReport.{FunctionReport}
use Rattle.cov_model.specs.declared.snapshot.Entry.{Entry}
use Rattle.cov_model.specs.declared.snapshot.Snapshot.{Snapshot}
use Rattle.cov_model.specs.declared.sums.Key.{Key}
use Rattle.cov_model.specs.declared.sums.At.TheVariants.{Offset}
use Rattle.cov_text.specs.Listing.{first_of, counted, offsets, same_text}
use Rattle.cov_text.specs.Listing.{limit}
use Rattle.cov_text.proofs.Each.{All-filter, All-map, All-append, All-flat_map, All-every, All-inserted}
use Rattle.cov_model.specs.Sums.{fits, sum_at, root, total, keys, keys_in_order, urls_in_order, file_order, key_of}
use Rattle.cov_model.specs.Nested.{nest, nested}
use Rattle.cov_model.specs.File.{merged_report, merged_entry, scripts, scripts_in}
use Rattle.cov_model.proofs.Grows.{fits-each}
use Rattle.cov_normal.specs.Nests.{Nests}
use Rattle.cov_normal.specs.Nests.Nests.{plain, child}
use Rattle.cov_normal.proofs.Nests.{nests}
use Rattle.cov_laws.specs.Laws.{HasOffsets}
use Rattle.cov_laws.proofs.Written.{IsSmall, AreSmall, HasSmall, HasAllSmall}

-- ---- the ranges of a nested list

small-nests : (f : ℕ → ℕ) (s e c : ℕ) (xs : List Range) → Nests f s e c xs → e < 2 ^ 64 → ((o : ℕ) → s ≤ o → o < e → f o < 2 ^ 64) → AreSmall xs
small-nests f s e c xs (plain _ _ _ _ all is) k each = subst AreSmall (sym is) tt
small-nests f s e c xs (child _ _ _ a b p inside behind _ h i j is) k each =
    let from = h.from in
    let low = h.low in
    let high = h.high in
    let to = h.to in
    subst AreSmall (sym is) (
      record { start = omega arith; end = omega arith; count = each a from (omega arith) },
      All-append IsSmall inside behind (small-nests f a (suc p) (f a) inside i (omega arith) (λ o lo hi. each o (omega arith) (omega arith)))
          (small-nests f (suc p) e c behind j k (λ o lo hi. each o (omega arith) hi)),
    )

small-nested : (start end count : ℕ) (f : ℕ → ℕ) → start < 2 ^ 64 → end < 2 ^ 64 → count < 2 ^ 64 → ((o : ℕ) → start ≤ o → o < end → f o < 2 ^ 64)
    → AreSmall (nested start end count f)
unfolding nested
small-nested start end count f h k c each = (record { start = h; end = k; count = c }, small-nests f start end count (nest start end count f) (nests f start end count) k each)

-- ---- sums

below : (n : ℕ) → nat_le n limit ≡ true → n < 2 ^ 64
below n e = let h = leb-true n limit e in omega arith

each-total : (held : List Snapshot) (key : Key) (n s : ℕ) → list_all (λ at. nat_le (sum_at held key at) limit) (map Offset (counted s n)) ≡ true → (o : ℕ) → s ≤ o → o < s + n → total held key o < 2 ^ 64
each-total held key zero s e o low high = absurd (omega arith)
each-total held key (suc n) s e o low high =
    let p = and_parts (nat_le (total held key s) limit) (list_all (λ at. nat_le (sum_at held key at) limit) (map Offset (counted (suc s) n))) e in
    elim (cases_lt s o) [
      | inl past ↦ each-total held key n (suc s) p.1 o (omega arith) (omega arith)
      | inr first ↦ let here : s ≡ o = omega arith in subst (λ at. total held key at < 2 ^ 64) here (below (total held key s) p.0)
    ]

-- a key's root is among the offsets
abbrev IsInRange : Key → Type 0
IsInRange key = (key.start < 2 ^ 32) × (key.end < 2 ^ 32)

small-report : (held : List Snapshot) → fits held ≡ true → (key : Key) → IsInRange key → HasSmall (merged_report held key)
small-report held fit key within =
    let p = and_parts (nat_le (root held key) limit) (list_all (λ at. nat_le (sum_at held key at) limit) (map Offset (offsets key.start key.end))) (fits-each held fit key) in
    small-nested key.start key.end (root held key) (total held key) (omega arith) (omega arith) (below (root held key) p.0)
    (λ o low high. each-total held key (key.end - key.start) key.start p.1 o low (omega arith))

-- ---- the keys of snapshots

abbrev IsRangeInRange : Range → Type 0
IsRangeInRange r = (r.start < 2 ^ 32) × (r.end < 2 ^ 32)

abbrev IsReportInRange : FunctionReport → Type 0
IsReportInRange f = AllByRecursion IsRangeInRange f.ranges

key-of-report : (url : List ℕ) (f : FunctionReport) (ranges : List Range) (rest : List Key) → AllByRecursion IsRangeInRange ranges → AllByRecursion IsInRange rest
    → AllByRecursion IsInRange (cons_option (option_map (λ root. record { url = url; start = root.start; end = root.end; name = f.name }) (first_of ranges)) rest)
key-of-report url f [] rest h k = k
key-of-report url f (r ∷ rs) rest h k = (h.0, k)

keys-of-script : (url : List ℕ) (fs : List FunctionReport) → AllByRecursion IsReportInRange fs → AllByRecursion IsInRange (filter_map (key_of url) fs)
keys-of-script url [] h = tt
keys-of-script url (f ∷ fs) h = key-of-report url f f.ranges (filter_map (key_of url) fs) h.0 (keys-of-script url fs h.1)

abbrev IsEntryInRange : Entry → Type 0
IsEntryInRange e = AllByRecursion IsReportInRange e.functions

keys-in-range : (held : List Snapshot) → HasOffsets held → AllByRecursion IsInRange (keys_in_order held)
keys-in-range held h =
    All-inserted IsInRange file_order (keys held) [] tt
    (All-flat_map (λ (s : Snapshot). AllByRecursion IsEntryInRange s) IsInRange (λ (s : Snapshot). flat_map (λ (e : Entry). filter_map (key_of e.url) e.functions) s)
    (λ s each. All-flat_map IsEntryInRange IsInRange (λ (e : Entry). filter_map (key_of e.url) e.functions) (λ e fs. keys-of-script e.url e.functions fs) s each)
    held h)

pub small-scripts : (held : List Snapshot) → fits held ≡ true → HasOffsets held → AllByRecursion HasAllSmall (scripts held)
unfolding scripts_in
small-scripts held fit h =
    All-map (λ (url : List ℕ). Unit {0}) HasAllSmall (merged_entry held)
    (λ url t.
    All-map IsInRange HasSmall (merged_report held) (small-report held fit) (filter (λ (key : Key). same_text key.url url) (keys_in_order held))
    (All-filter IsInRange (λ (key : Key). same_text key.url url) (keys_in_order held) (keys-in-range held h)))
    (urls_in_order held) (All-every (λ (url : List ℕ). Unit {0}) (λ url. tt) (urls_in_order held))
