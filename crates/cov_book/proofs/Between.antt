-- Between two bounds no count changes.
use Rattle.std.proofs.Common.{◌≡◌, ℕ, zero, suc, ◌+◌, ◌-◌, ◌<◌, ◌≤◌, Bool, false, map, sym, ap, ◌∙◌, arith}
use Rattle.std.specs.Prelude.{None, find}
use Rattle.cov_model.specs.declared.sums.At.{At}
use Rattle.cov_model.specs.declared.sums.At.TheVariants.{Offset}
use Rattle.cov_text.specs.Listing.{counted, offsets}
use Rattle.cov_book.proofs.Finding.{find-more}

-- points that fail a test are passed over
skip : (p : At → Bool) (end n from : ℕ) → from + n ≤ end → ((x : ℕ) → from ≤ x → x < from + n → p (Offset x) ≡ false)
    → find p (map Offset (offsets from end)) ≡ find p (map Offset (offsets (from + n) end))
skip p end zero from high none = let same : from ≡ from + 0 = omega arith in ap (λ o. find p (map Offset (offsets o end))) same
skip p end (suc n) from high none =
    let next : (from + 1) + n ≡ from + suc n = omega arith in
    find-more p from end (omega (arith, high)) (sym (none from (omega arith) (omega arith)))
    ∙ skip p end n (from + 1) (omega (arith, high)) (λ x low more. none x (omega (arith, low)) (omega (arith, more)))
    ∙ ap (λ o. find p (map Offset (offsets o end))) next

pub skip-to : (p : At → Bool) (from next end : ℕ) → from ≤ next → next ≤ end → ((x : ℕ) → from ≤ x → x < next → p (Offset x) ≡ false)
    → find p (map Offset (offsets from end)) ≡ find p (map Offset (offsets next end))
skip-to p from next end low high none =
    let is : from + (next - from) ≡ next = omega (arith, low) in
    skip p end (next - from) from (omega (arith, low, high)) (λ x more less. none x more (omega (arith, less, low)))
    ∙ ap (λ o. find p (map Offset (offsets o end))) is

pub none-left : (p : At → Bool) (from end : ℕ) → end ≤ from → find p (map Offset (offsets from end)) ≡ None
none-left p from end le = let empty : end - from ≡ 0 = omega (arith, le) in ap (λ n. find p (map Offset (counted from n))) empty
