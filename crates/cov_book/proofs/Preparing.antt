-- Sums that are prepared, with one report more.
use Rattle.std.proofs.Common.{◌≡◌, ℕ, Bool, true, false, List, [], ◌∷◌, refl, sym, ap, ◌∙◌, subst}
use Rattle.std.specs.Prelude.{Option, None, Some, cond}
use Rattle.std.specs.Option.{option_or}
use Rattle.std.specs.declared.cmp.Ordering.{Ordering}
use Rattle.std.specs.declared.cmp.Ordering.TheVariants.{Less, Equal, Greater}
use Rattle.std.specs.Ordering.{match_ordering, is_eq}
use Rattle.std.specs.List.Sorted.{IsStrictlySortedBy}
use Rattle.std.specs.Map.{lookup, keys_of}
use Rattle.std.specs.BTreeSet.{insert_key}
use Rattle.std.specs.BTreeMap.{insert_entry, is_at}
use Rattle.std.proofs.lemmas.Cmp.{tied_itself}
use Rattle.cov_model.specs.declared.report.FunctionReport.{FunctionReport}
use Rattle.cov_model.specs.declared.sums.Key.{Key}
use Rattle.cov_model.specs.Sums.{key_of, file_order, same_key}
use Rattle.cov_book.specs.declared.sums.Sums.{Sums}
use Rattle.cov_book.specs.Prepared.{report_sums, summed, with_key, with_report, IsAligned, IsWithin, ArePrepared, sums_now}
use Rattle.cov_book.proofs.Aligned.{aligned-with, aligned-report}
use Rattle.cov_book.proofs.Keyed.{is-at}
use Rattle.cov_book.proofs.Ordered.{file_total, file_exact, sorted-insert, same-is, is-same}
use Rattle.cov_book.proofs.Within.{within-insert}

-- ---- an entry that was put in

keys-put : (known : List (Key × Sums)) (k : Key) (v : Sums) → keys_of (insert_entry file_order known k v) ≡ insert_key file_order (keys_of known) k
keys-put [] k v = refl
keys-put (e ∷ es) k v =
    let rest = keys-put es k v in
    elim (file_order k e.0) as (λ o. keys_of (match_ordering o ((k, v) ∷ e ∷ es) ((e.0, v) ∷ es) (e ∷ insert_entry file_order es k v)) ≡ match_ordering o (k ∷ e.0 ∷ keys_of es) (e.0 ∷ keys_of es) (e.0 ∷ insert_key file_order (keys_of es) k)) [
      | Less ↦ refl
      | Equal ↦ refl
      | Greater ↦ ap (λ ks. e.0 ∷ ks) rest
    ]

pub sorted-put : (known : List (Key × Sums)) (k : Key) (v : Sums) → IsStrictlySortedBy file_order (keys_of known) → IsStrictlySortedBy file_order (keys_of (insert_entry file_order known k v))
sorted-put known k v h = subst (IsStrictlySortedBy file_order) (sym (keys-put known k v)) (sorted-insert file_order file_total (keys_of known) k h)

found-there : (known : List (Key × Sums)) (k : Key) (v : Sums) → lookup (is_at (file_order k)) (insert_entry file_order known k v) ≡ Some v
found-there [] k v = ap (λ o. cond (is_eq o) (Some v) None) (tied_itself file_total k)
found-there (e ∷ es) k v = by (file_order k e.0) refl (found-there es k v)
  where
    by : (o : Ordering) → file_order k e.0 ≡ o → lookup (is_at (file_order k)) (insert_entry file_order es k v) ≡ Some v
        → lookup (is_at (file_order k)) (match_ordering o ((k, v) ∷ e ∷ es) ((e.0, v) ∷ es) (e ∷ insert_entry file_order es k v)) ≡ Some v
    by Less is rest = ap (λ o. cond (is_eq o) (Some v) (lookup (is_at (file_order k)) (e ∷ es))) (tied_itself file_total k)
    by Equal is rest = ap (λ o. cond (is_eq o) (Some v) (lookup (is_at (file_order k)) es)) is
    by Greater is rest = ap (λ o. cond (is_eq o) (Some e.1) (lookup (is_at (file_order k)) (insert_entry file_order es k v))) is ∙ rest

found-elsewhere : (known : List (Key × Sums)) (k : Key) (v : Sums) (q : Key) → is_at (file_order q) k ≡ false → lookup (is_at (file_order q)) (insert_entry file_order known k v) ≡ lookup (is_at (file_order q)) known
found-elsewhere [] k v q other = ap (λ b. cond b (Some v) None) other
found-elsewhere (e ∷ es) k v q other = by (file_order k e.0) refl (found-elsewhere es k v q other)
  where
    by : (o : Ordering) → file_order k e.0 ≡ o → lookup (is_at (file_order q)) (insert_entry file_order es k v) ≡ lookup (is_at (file_order q)) es
        → lookup (is_at (file_order q)) (match_ordering o ((k, v) ∷ e ∷ es) ((e.0, v) ∷ es) (e ∷ insert_entry file_order es k v)) ≡ lookup (is_at (file_order q)) (e ∷ es)
    by Less is rest = ap (λ b. cond b (Some v) (lookup (is_at (file_order q)) (e ∷ es))) other
    by Equal is rest =
        let here : is_at (file_order q) e.0 ≡ false = ap (λ x. is_at (file_order q) x) (sym (file_exact k e.0 is)) ∙ other in
        ap (λ b. cond b (Some v) (lookup (is_at (file_order q)) es)) here ∙ sym (ap (λ b. cond b (Some e.1) (lookup (is_at (file_order q)) es)) here)
    by Greater is rest = ap (cond (is_at (file_order q) e.0) (Some e.1)) rest

pub at-flip : (k q : Key) → is_at (file_order k) q ≡ is_at (file_order q) k
at-flip k q = is-at k q ∙ by (same_key k q) refl (same_key q k) refl ∙ sym (is-at q k)
  where
    by : (a : Bool) → same_key k q ≡ a → (b : Bool) → same_key q k ≡ b → a ≡ b
    by true e true f = refl
    by true e false f = let here = is-same q k (sym (same-is k q e)) in absurd cc
    by false e true f = let here = is-same k q (sym (same-is q k f)) in absurd cc
    by false e false f = refl

-- what is found after one key took a value
pub found-put : (known : List (Key × Sums)) (k : Key) (v : Sums) (q : Key) → lookup (is_at (file_order q)) (insert_entry file_order known k v) ≡ cond (is_at (file_order k) q) (Some v) (lookup (is_at (file_order q)) known)
found-put known k v q = by (is_at (file_order k) q) refl
  where
    by : (b : Bool) → is_at (file_order k) q ≡ b → lookup (is_at (file_order q)) (insert_entry file_order known k v) ≡ cond b (Some v) (lookup (is_at (file_order q)) known)
    by true e =
        let here : k ≡ q = same-is k q (sym (is-at k q) ∙ e) in
        ap (λ x. lookup (is_at (file_order x)) (insert_entry file_order known k v)) (sym here) ∙ found-there known k v
    by false e = found-elsewhere known k v q (sym (at-flip k q) ∙ e)

-- ---- one report more

now-put : (b : Bool) (v : Sums) (o old : Option Sums) → cond b (Some v) (option_or o old) ≡ option_or (cond b (Some v) o) old
now-put true v o old = refl
now-put false v o old = refl

pub prepared-put : (known : List (Key × Sums)) (functions : Key → Option Sums) (changed next : List (Key × Sums)) (k : Key) (added v : Sums)
    → ArePrepared known functions changed → IsAligned (k, added) → IsWithin v → v ≡ summed (sums_now functions changed k) added
    → ((q : Key) → lookup (is_at (file_order q)) next ≡ cond (is_at (file_order k) q) (Some v) (lookup (is_at (file_order q)) changed))
    → ArePrepared (insert_entry file_order known k (summed (lookup (is_at (file_order k)) known) added)) functions next
prepared-put known functions changed next k added v before aligned within is put =
    let old = lookup (is_at (file_order k)) known in
    let value : v ≡ summed old added = is ∙ ap (λ o. summed o added) (sym (before.now k)) in
    record {
      kept = record {
        sorted = sorted-put known k (summed old added) before.kept.sorted;
        aligned = aligned-with known k added before.kept.aligned aligned;
        within = within-insert known k (summed old added) before.kept.within (subst IsWithin value within);
      };
      now = λ q.
          found-put known k (summed old added) q
          ∙ ap (λ x. cond (is_at (file_order k) q) (Some x) (lookup (is_at (file_order q)) known)) (sym value)
          ∙ ap (cond (is_at (file_order k) q) (Some v)) (before.now q)
          ∙ now-put (is_at (file_order k) q) v (lookup (is_at (file_order q)) changed) (functions q)
          ∙ ap (λ o. option_or o (functions q)) (sym (put q));
    }

pub prepared-report : (known : List (Key × Sums)) (functions : Key → Option Sums) (changed next : List (Key × Sums)) (url : List ℕ) (f : FunctionReport) (k : Key) (v : Sums)
    → ArePrepared known functions changed → key_of url f ≡ Some k → IsWithin v → v ≡ summed (sums_now functions changed k) (report_sums f)
    → ((q : Key) → lookup (is_at (file_order q)) next ≡ cond (is_at (file_order k) q) (Some v) (lookup (is_at (file_order q)) changed))
    → ArePrepared (with_report known url f) functions next
prepared-report known functions changed next url f k v before named within is put =
    subst (λ o. ArePrepared (with_key known f o) functions next) (sym named)
    (prepared-put known functions changed next k (report_sums f) v before (aligned-report url f k named) within is put)
