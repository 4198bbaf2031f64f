-- What is taken in count by count is the share of all counts.
use Rattle.std.proofs.Common.{◌≡◌, ℕ, ◌+◌, ◌<◌, ◌≤◌, Bool, true, false, cond, List, [], ◌∷◌, ◌++◌, length, drop, get_or, refl, sym, ap, ◌∙◌, subst, arith}
use Rattle.std.specs.Prelude.{min, nat_lt, filter}
use Rattle.std.proofs.lemmas.List.{drop_more, drop_all}
use Rattle.cov_text.specs.Listing.{limit}
use Rattle.istanbul_json.specs.declared.file.Branch.{Branch}
use Rattle.lcov_text.specs.declared.counts.Share.{Share}
use Rattle.lcov_text.specs.Counts.{share_of, counts_of_branches}
use Rattle.lcov_text.specs.Counting.{nothing, with_count, with_counts}

-- ---- numbers that stop at the greatest one

abbrev told : ℕ → ℕ → Share
told hit all = record { hit = min hit limit; all = min all limit }

told_same : (a b c d : ℕ) → a ≡ c → b ≡ d → told a b ≡ told c d
told_same a b c d p q = λ i. told (p i) (q i)

stops : (a m : ℕ) → min (min a m + 1) m ≡ min (a + 1) m
stops a m = omega arith

abbrev step : Bool → ℕ → ℕ → Share
step b hit all = record { hit = cond b (min (min hit limit + 1) limit) (min hit limit); all = min (min all limit + 1) limit }

one_count : (b : Bool) (hit all : ℕ) → step b hit all ≡ told (cond b (hit + 1) hit) (all + 1)
one_count true hit all = let p = stops hit limit in let q = stops all limit in (λ i. record { hit = p i; all = q i })
one_count false hit all = let q = stops all limit in (λ i. record { hit = min hit limit; all = q i })

one_more : (b : Bool) (hit c : ℕ) (rest : List ℕ) → cond b (hit + 1) hit + length rest ≡ hit + length (cond b (c ∷ rest) rest)
one_more true hit c rest = omega arith
one_more false hit c rest = refl

taken : (counts : List ℕ) (hit all : ℕ) → with_counts (told hit all) counts ≡ told (hit + length (filter (nat_lt 0) counts)) (all + length counts)
taken [] hit all = told_same hit all (hit + 0) (all + 0) (omega arith) (omega arith)
taken (c ∷ cs) hit all =
    ap (λ s. with_counts s cs) (one_count (nat_lt 0 c) hit all)
    ∙ taken cs (cond (nat_lt 0 c) (hit + 1) hit) (all + 1)
    ∙ told_same (cond (nat_lt 0 c) (hit + 1) hit + length (filter (nat_lt 0) cs)) (all + 1 + length cs) (hit + length (filter (nat_lt 0) (c ∷ cs))) (all + length (c ∷ cs))
    (one_more (nat_lt 0 c) hit c (filter (nat_lt 0) cs)) (omega arith)

pub share_taken : (counts : List ℕ) → with_counts nothing counts ≡ share_of counts
share_taken counts =
    taken counts 0 0
    ∙ told_same (0 + length (filter (nat_lt 0) counts)) (0 + length counts) (length (filter (nat_lt 0) counts)) (length counts) (omega arith) (omega arith)

counts_append : (s : Share) (xs ys : List ℕ) → with_counts s (xs ++ ys) ≡ with_counts (with_counts s xs) ys
counts_append s [] ys = refl
counts_append s (x ∷ xs) ys = counts_append (with_count s x) xs ys

-- ---- no more are run than there are

kept_within : (b : Bool) (n m : ℕ) (c : ℕ) (rest : List ℕ) → length rest ≤ n → length (cond b (c ∷ rest) rest) ≤ n + 1
kept_within true n m c rest h = omega arith
kept_within false n m c rest h = omega arith

filter_within : (counts : List ℕ) → length (filter (nat_lt 0) counts) ≤ length counts
filter_within [] = omega arith
filter_within (c ∷ cs) = let h = kept_within (nat_lt 0 c) (length cs) 0 c (filter (nat_lt 0) cs) (filter_within cs) in omega arith

pub share_within : (counts : List ℕ) → (share_of counts).hit ≤ (share_of counts).all
share_within counts = let h = filter_within counts in omega arith

-- so it is of a loop that has taken in all
pub ended_within : {A : Type 0} (f : List A → List ℕ) → f [] ≡ [] → (s : Share) (xs : List A) (k : ℕ) → length xs ≤ k → with_counts s (f (drop k xs)) ≡ share_of (f xs) → s.hit ≤ s.all
ended_within f nil s xs k h e =
    let done : s ≡ share_of (f xs) = ap (with_counts s) (sym nil ∙ ap f (sym (drop_all k xs h))) ∙ e in
    let P : Share → Type 0 = λ x. x.hit ≤ x.all in
    subst P (sym done) (share_within (f xs))

pub branch_more : (s t : Share) (bs : List Branch) (k : ℕ) (b : Branch) → k < length bs → b ≡ get_or bs k b → t ≡ with_counts s b.counts → with_counts s (counts_of_branches (drop k bs)) ≡ with_counts t (counts_of_branches (drop (k + 1) bs))
branch_more s t bs k b h is e =
    ap (λ rest. with_counts s (counts_of_branches rest)) (drop_more bs k b h ∙ ap (λ x. x ∷ drop (k + 1) bs) (sym is))
    ∙ counts_append s b.counts (counts_of_branches (drop (k + 1) bs))
    ∙ ap (λ x. with_counts x (counts_of_branches (drop (k + 1) bs))) (sym e)
