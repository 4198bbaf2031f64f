-- The numbers of a book's urls and functions are those of the list of snapshots.
use Rattle.std.proofs.Common.{◌≡◌, ℕ, ◌+◌, true, List, [], ◌∷◌, map, length, refl, sym, ap, ◌∙◌, arith}
use Rattle.std.specs.Prelude.{min, ◌||◌, sum_by}
use Rattle.std.specs.List.{AllByRecursion, list_any}
use Rattle.std.proofs.lemmas.List.{length-map}
use Rattle.std.proofs.lemmas.List.Sums.{sum_by-cons}
use Rattle.cov_model.specs.declared.snapshot.Snapshot.{Snapshot}
use Rattle.cov_model.specs.declared.sums.Key.{Key}
use Rattle.cov_model.specs.declared.report.ListForm.{ListForm}
use Rattle.cov_model.specs.declared.report.ListForm.TheVariants.{Nested}
use Rattle.cov_model.specs.Forms.{list_in}
use Rattle.cov_model.specs.Normal.{maximal_runs}
use Rattle.cov_steps.specs.Runs.{count_in}
use Rattle.cov_steps.proofs.Maximal.{count_in-maximal}
use Rattle.cov_normal.proofs.Forms.{counts_determine_it}
use Rattle.cov_model.specs.Sums.{root, total, urls_in_order, keys_in_order, same_key}
use Rattle.cov_book.specs.Entries.{key_sums, entries_of}
use Rattle.cov_book.specs.Prepared.{told_ranges}
use Rattle.cov_book.specs.Numbers.{range_count, kept, numbers_of, numbers_told, ranges_told, root_told}
use Rattle.cov_book.proofs.Ordered.{is-same}
use Rattle.cov_book.proofs.Shards.{or-right}

pub each-there : (P : Key → Type 0) (ks : List Key) → ((k : Key) → list_any (same_key k) ks ≡ true → P k) → AllByRecursion P ks
each-there P [] h = tt
each-there P (k ∷ ks) h =
    (h k (ap (λ b. b || list_any (same_key k) ks) (is-same k k refl)), each-there P ks (λ j e. h j (or-right (same_key j k) (list_any (same_key j) ks) e)))

-- ---- numbers that stop at the greatest one

pub more-told : (old new x m rest all : ℕ) → new ≡ min (old + min x m) m → min (old + (x + rest)) m ≡ all → min (new + rest) m ≡ all
more-told old new x m rest all is so_far = omega (arith, is, so_far)

-- ---- the numbers of a list of snapshots

-- what is told of a function is the list of its sums
pub ranges-told : (form : ListForm) (held : List Snapshot) (key : Key) → told_ranges form (key_sums held key) ≡ list_in form key.start key.end (root held key) (total held key)
ranges-told form held key =
    counts_determine_it form key.start key.end (root held key) (count_in (maximal_runs key.start key.end (total held key))) (total held key)
    (λ o low high. count_in-maximal key.start key.end o (total held key) low high)

sum-made : {A B : Type 0} (f : B → ℕ) (g : A → ℕ) (h : A → B) → ((x : A) → f (h x) ≡ g x) → (xs : List A) → sum_by f (map h xs) ≡ sum_by g xs
sum-made f g h same [] = refl
sum-made f g h same (x ∷ xs) = sum_by-cons f (h x) (map h xs) ∙ (λ i. same x i + sum-made f g h same xs i) ∙ sym (sum_by-cons g x xs)

pub numbers-are : (held : List Snapshot) → numbers_told (urls_in_order held) (entries_of held) ≡ numbers_of held
unfolding numbers_of entries_of
numbers-are held =
    let keys = keys_in_order held in
    (λ i. kept (length (urls_in_order held)) (length-map keys (key_sums held) i)
    (sum-made ranges_told (range_count held) (key_sums held) (λ k. ap length (ranges-told Nested held k)) keys i) (sum-made root_told (root held) (key_sums held) (λ k. refl) keys i))
