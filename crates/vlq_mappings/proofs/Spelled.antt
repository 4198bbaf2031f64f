-- The shortest spelling of a whole number, group by group.
use Rattle.std.proofs.Common.{◌≡◌, ℕ, zero, suc, ◌+◌, ◌/◌, ◌%◌, ◌<◌, ◌≤◌, ◌^◌, List, [], ◌∷◌, ◌++◌, refl, sym, ap, ◌∙◌, arith, append_assoc}
use Rattle.std.proofs.lemmas.Bool.{lt-ltb, le-ltb}
use Rattle.std.proofs.Math.Nat.{pow-suc}
use Rattle.vlq_mappings.specs.Written.{glyph, spelled_in}

-- what is left of a spelling: so many digits serve, and they complete the text
pub record Left (text : List ℕ) (whole : ℕ) (all : List ℕ) : Type 0 where
  pub digits : ℕ
  pub some : 0 < digits
  pub few : whole < 32 ^ digits
  pub same : text ++ spelled_in digits whole ≡ all

pub positive : (k w : ℕ) → w < 32 ^ k → 1 ≤ w → 0 < k
positive zero w lt some = absurd (omega arith)
positive (suc k) w lt some = omega arith

more : (text : List ℕ) (whole : ℕ) (all : List ℕ) (digits : ℕ) → whole < 32 ^ digits → text ++ spelled_in digits whole ≡ all → 32 ≤ whole → Left (text ++ glyph (32 + whole % 32) ∷ []) (whole / 32) all
unfolding spelled_in
more text whole all zero few same big = absurd (omega arith)
more text whole all (suc digits) few same big =
    let e = pow-suc 32 digits in
    let step : spelled_in (suc digits) whole ≡ glyph (32 + whole % 32) ∷ spelled_in digits (whole / 32) = rw (le-ltb whole 32 big) refl in
    let few' : whole / 32 < 32 ^ digits = omega arith in
    record {
      digits = digits;
      some = positive digits (whole / 32) few' (omega arith);
      few = few';
      same = append_assoc text (glyph (32 + whole % 32) ∷ []) (spelled_in digits (whole / 32)) ∙ ap (λ t. text ++ t) (sym step) ∙ same;
    }

-- one group more
pub group_more : (text : List ℕ) (whole : ℕ) (all : List ℕ) → Left text whole all → 32 ≤ whole → Left (text ++ glyph (32 + whole % 32) ∷ []) (whole / 32) all
group_more text whole all left big = more text whole all left.digits left.few left.same big

final : (text : List ℕ) (whole : ℕ) (all : List ℕ) (digits : ℕ) → 0 < digits → text ++ spelled_in digits whole ≡ all → whole < 32 → text ++ glyph whole ∷ [] ≡ all
unfolding spelled_in
final text whole all zero some same small = absurd (omega arith)
final text whole all (suc digits) some same small =
    let step : spelled_in (suc digits) whole ≡ glyph whole ∷ [] = rw (lt-ltb whole 32 small) refl in
    ap (λ t. text ++ t) (sym step) ∙ same

-- the last group
pub group_last : (text : List ℕ) (whole : ℕ) (all : List ℕ) → Left text whole all → whole < 32 → text ++ glyph whole ∷ [] ≡ all
group_last text whole all left small = final text whole all left.digits left.some left.same small
