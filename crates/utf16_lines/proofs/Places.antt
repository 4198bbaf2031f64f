-- The last line that begins by an offset.
use Rattle.std.proofs.Common.{◌≡◌, ℕ, zero, suc, ◌+◌, ◌<◌, Bool, true, false, cond, List, [], ◌∷◌, refl, ap, ◌∙◌, arith}
use Rattle.std.specs.Prelude.{None, Some, slice_get, filter}
use Rattle.std.proofs.lemmas.Option.{same_Some}
use Rattle.cov_text.specs.Listing.{last_of}
use Rattle.utf16_lines.specs.declared.Span.{Span}
use Rattle.utf16_lines.specs.Lines.{numbered, begins_by, line_at}

abbrev begun : ℕ → ℕ × Span → Bool
begun o at = begins_by o at.1

-- one more before the last changes nothing
last_behind : {A : Type 0} (t : Bool) (x : A) (xs : List A) (y : A) → last_of xs ≡ Some y → last_of (cond t (x ∷ xs) xs) ≡ Some y
last_behind false x xs y e = e
last_behind true x [] y e = cc
last_behind true x (z ∷ zs) y e = e

none_begun : (o k : ℕ) (spans : List Span) → ((j : ℕ) (t : Span) → slice_get spans j ≡ Some t → begins_by o t ≡ false) → filter (begun o) (numbered k spans) ≡ []
none_begun o k [] none = refl
none_begun o k (s ∷ spans) none =
    ap (λ t. cond t ((k, s) ∷ filter (begun o) (numbered (suc k) spans)) (filter (begun o) (numbered (suc k) spans))) (none zero s refl)
    ∙ none_begun o (suc k) spans (λ j t e. none (suc j) t e)

-- the last that begins by the offset is one behind which none does
last_begun : (o k : ℕ) (spans : List Span) (n : ℕ) (s : Span) → slice_get spans n ≡ Some s → begins_by o s ≡ true
    → ((j : ℕ) (t : Span) → slice_get spans j ≡ Some t → n < j → begins_by o t ≡ false)
    → last_of (filter (begun o) (numbered k spans)) ≡ Some (k + n, s)
last_begun o k [] n s at here later = cc
last_begun o k (t ∷ spans) zero s at here later =
    let same : t ≡ s = same_Some t s at in
    let number : k ≡ k + 0 = omega arith in
    let rest = none_begun o (suc k) spans (λ j u e. later (suc j) u e (omega arith)) in
    let front : begins_by o t ≡ true = ap (begins_by o) same ∙ here in
    ap (λ b. last_of (cond b ((k, t) ∷ filter (begun o) (numbered (suc k) spans)) (filter (begun o) (numbered (suc k) spans)))) front
    ∙ ap (λ (l : List (ℕ × Span)). last_of ((k, t) ∷ l)) rest ∙ (λ i. Some (number i, same i))
last_begun o k (t ∷ spans) (suc n) s at here later =
    let number : suc k + n ≡ k + suc n = omega arith in
    let rest = last_begun o (suc k) spans n s at here (λ j u e lt. later (suc j) u e (omega arith)) in
    last_behind (begins_by o t) (k, t) (filter (begun o) (numbered (suc k) spans)) (k + suc n, s) (rest ∙ (λ i. Some (number i, s)))

pub line_at-last : (o : ℕ) (spans : List Span) (n : ℕ) (s : Span) → slice_get spans n ≡ Some s → begins_by o s ≡ true
    → ((j : ℕ) (t : Span) → slice_get spans j ≡ Some t → n < j → begins_by o t ≡ false) → line_at spans o ≡ Some (n, s)
line_at-last o spans n s at here later =
    let number : 0 + n ≡ n = omega arith in
    last_begun o 0 spans n s at here later ∙ (λ i. Some (number i, s))

pub line_at-none : (o : ℕ) (spans : List Span) → ((j : ℕ) (t : Span) → slice_get spans j ≡ Some t → begins_by o t ≡ false) → line_at spans o ≡ None
line_at-none o spans none = ap last_of (none_begun o 0 spans none)

last_some : {A : Type 0} (x : A) (xs : List A) → (y : A) × (last_of (x ∷ xs) ≡ Some y)
last_some x [] = (x, refl)
last_some x (z ∷ zs) = last_some z zs

-- where the first line begins by the offset, some line is the last that does
pub line_at-some : (o : ℕ) (spans : List Span) (s : Span) → begins_by o s ≡ true → (found : ℕ × Span) × (line_at (s ∷ spans) o ≡ Some found)
line_at-some o spans s here =
    let first : ℕ × Span = (0, s) in
    let others = filter (begun o) (numbered 1 spans) in
    let last = last_some first others in
    (last.0, ap (λ b. last_of (cond b (first ∷ others) others)) here ∙ last.1)
