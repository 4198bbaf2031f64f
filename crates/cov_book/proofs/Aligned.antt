-- The runs of each function go over the root of its key.
use Rattle.std.proofs.Common.{◌≡◌, ℕ, zero, suc, ◌+◌, ◌≤◌, length, true, false, List, [], ◌∷◌, map, refl, sym, ap, ◌∙◌, subst, arith, drop}
use Rattle.std.specs.Prelude.{Option, None, Some, option_map, cond}
use Rattle.std.specs.List.{slice_get}
use Rattle.std.specs.declared.cmp.Ordering.{Ordering}
use Rattle.std.specs.declared.cmp.Ordering.TheVariants.{Less, Equal, Greater}
use Rattle.std.specs.Ordering.{match_ordering, is_eq}
use Rattle.std.specs.Map.{lookup}
use Rattle.std.specs.BTreeMap.{insert_entry, is_at}
use Rattle.cov_model.specs.declared.report.Range.{Range}
use Rattle.cov_model.specs.declared.report.FunctionReport.{FunctionReport}
use Rattle.cov_model.specs.declared.snapshot.Snapshot.{Snapshot}
use Rattle.cov_model.specs.declared.sums.Key.{Key}
use Rattle.cov_text.specs.Listing.{first_of}
use Rattle.cov_model.specs.Nesting.{has_offset}
use Rattle.cov_model.specs.Sums.{key_of, file_order, keys_in_order}
use Rattle.cov_steps.specs.Runs.{count_in, counted}
use Rattle.cov_book.specs.declared.sums.Sums.{Sums}
use Rattle.cov_book.specs.Entries.{key_sums, entries_of}
use Rattle.cov_book.specs.Prepared.{IsAligned, AreAligned, report_sums, summed}
use Rattle.cov_book.proofs.Ordered.{file_exact}

aligned-insert : (known : List (Key × Sums)) (k : Key) (v : Sums) → AreAligned known → IsAligned (k, v) → AreAligned (insert_entry file_order known k v)
aligned-insert [] k v h new = (new, tt)
aligned-insert (e ∷ es) k v h new = by (file_order k e.0) refl (aligned-insert es k v h.1 new)
  where
    by : (o : Ordering) → file_order k e.0 ≡ o → AreAligned (insert_entry file_order es k v) → AreAligned (match_ordering o ((k, v) ∷ e ∷ es) ((e.0, v) ∷ es) (e ∷ insert_entry file_order es k v))
    by Less is rest = (new, h)
    by Equal is rest = (subst (λ x. IsAligned (x, v)) (file_exact k e.0 is) new, h.1)
    by Greater is rest = (h.0, rest)

-- what is found for a key goes over its root
abbrev pub IfAligned : Key → Option Sums → Type 0
IfAligned k None = Unit {0}
IfAligned k (Some v) = IsAligned (k, v)

pub aligned-lookup : (known : List (Key × Sums)) (k : Key) → AreAligned known → IfAligned k (lookup (is_at (file_order k)) known)
aligned-lookup [] k h = tt
aligned-lookup (e ∷ es) k h = by (file_order k e.0) refl (aligned-lookup es k h.1)
  where
    by : (o : Ordering) → file_order k e.0 ≡ o → IfAligned k (lookup (is_at (file_order k)) es) → IfAligned k (cond (is_eq o) (Some e.1) (lookup (is_at (file_order k)) es))
    by Less is rest = rest
    by Equal is rest = subst (λ x. IsAligned (x, e.1)) (sym (file_exact k e.0 is)) h.0
    by Greater is rest = rest

pub aligned-report : (url : List ℕ) (f : FunctionReport) (k : Key) → key_of url f ≡ Some k → IsAligned (k, report_sums f)
aligned-report url f k e = by f.ranges e
  where
    by : (rs : List Range) → option_map (λ (r : Range). record { url = url; start = r.start; end = r.end; name = f.name }) (first_of rs) ≡ Some k
        → ((counted rs).start ≡ k.start) × ((counted rs).end ≡ k.end)
    by [] e = absurd cc
    by (r ∷ rest) e =
        let key : Key = record { url = url; start = r.start; end = r.end; name = f.name } in
        let is : key ≡ k = cc in
        (ap (λ (x : Key). x.start) is, ap (λ (x : Key). x.end) is)

aligned-summed : (k : Key) (o : Option Sums) (added : Sums) → IfAligned k o → IsAligned (k, added) → IsAligned (k, summed o added)
aligned-summed k None added h new = new
aligned-summed k (Some v) added h new = h

pub aligned-with : (known : List (Key × Sums)) (k : Key) (added : Sums) → AreAligned known → IsAligned (k, added)
    → AreAligned (insert_entry file_order known k (summed (lookup (is_at (file_order k)) known) added))
aligned-with known k added h new =
    aligned-insert known k (summed (lookup (is_at (file_order k)) known) added) h (aligned-summed k (lookup (is_at (file_order k)) known) added (aligned-lookup known k h) new)

pub aligned-entries : (held : List Snapshot) → AreAligned (entries_of held)
unfolding entries_of
aligned-entries held = each (keys_in_order held)
  where
    each : (ks : List Key) → AreAligned (map (key_sums held) ks)
    each [] = tt
    each (k ∷ ks) = ((refl, refl), each ks)

-- ---- the count of runs, one by one

count-next : (rs : List Range) (i : ℕ) (run : Range) (o : ℕ) → slice_get rs i ≡ Some run → count_in (drop i rs) o ≡ cond (has_offset o run) run.count (count_in (drop (suc i) rs) o)
count-next [] i run o e = absurd cc
count-next (r ∷ rs) zero run o e = let is : r ≡ run = cc in ap (λ (x : Range). cond (has_offset o x) x.count (count_in rs o)) is
count-next (r ∷ rs) (suc i) run o e = count-next rs i run o e

pub count-here : (rs : List Range) (i : ℕ) (run : Range) (o : ℕ) → slice_get rs i ≡ Some run → has_offset o run ≡ true → count_in (drop i rs) o ≡ run.count
count-here rs i run o e is = count-next rs i run o e ∙ ap (λ b. cond b run.count (count_in (drop (suc i) rs) o)) is

pub count-later : (rs : List Range) (i : ℕ) (run : Range) (o : ℕ) → slice_get rs i ≡ Some run → has_offset o run ≡ false → count_in (drop i rs) o ≡ count_in (drop (i + 1) rs) o
count-later rs i run o e is =
    let next : suc i ≡ i + 1 = omega arith in
    count-next rs i run o e ∙ ap (λ b. cond b run.count (count_in (drop (suc i) rs) o)) is ∙ ap (λ n. count_in (drop n rs) o) next

pub count-end : (rs : List Range) (i : ℕ) (o : ℕ) → length rs ≤ i → count_in (drop i rs) o ≡ 0
count-end [] zero o le = refl
count-end [] (suc i) o le = refl
count-end (r ∷ rs) zero o le = absurd (omega arith)
count-end (r ∷ rs) (suc i) o le = count-end rs i o (omega arith)
