-- What is added up of a value's groups of five bits, capped where no value may reach.
use Rattle.std.proofs.Common.{◌≡◌, ℕ, ◌+◌, ◌*◌, ◌<◌, ◌≤◌, ◌^◌, min, inl, inr, arith}
use Rattle.std.proofs.lemmas.Bool.{cases_lt}
use Rattle.std.proofs.Math.Nat.{mul-le-mul_left, mul-le-mul_right}

abbrev pub cap : ℕ
cap = 2 ^ 32

abbrev pub heavy : ℕ
heavy = 2 ^ 35

pub min_lt : (a b : ℕ) → a ≤ b → min a b ≡ a
min_lt a b h = omega arith

pub min_ge : (a b : ℕ) → b ≤ a → min a b ≡ b
min_ge a b h = omega arith

-- a weight that is kept as it is
carried_light : (below weight low w : ℕ) → 1 ≤ weight → w < cap
    → min (below + weight * min (low + 32 * w) cap) cap ≡ min (min (below + low * weight) cap + weight * 32 * w) cap
carried_light below weight low w pos near =
    let h1 : 1 * w ≤ weight * w = mul-le-mul_right w pos in
    let h2 : 1 * low ≤ weight * low = mul-le-mul_right low pos in
    elim (cases_lt (low + 32 * w) cap) [
      | inl small ↦ rw (min_lt (low + 32 * w) cap (omega arith)) (omega arith)
      | inr big ↦ rw (min_ge (low + 32 * w) cap big) (omega arith)
    ]

-- a weight that is too heavy for any digit but 0
carried_heavy : (below weight low w : ℕ) → low < 32 → heavy < weight * 32 → w < cap
    → min (below + weight * min (low + 32 * w) cap) cap ≡ min (min (below + low * weight) cap + heavy * w) cap
carried_heavy below weight low w least much near =
    elim (cases_lt 0 w) [
      | inl some ↦
          let h1 : weight * 1 ≤ weight * w = mul-le-mul_left weight some in
          elim (cases_lt (low + 32 * w) cap) [
            | inl small ↦ rw (min_lt (low + 32 * w) cap (omega arith)) (omega arith)
            | inr big ↦ rw (min_ge (low + 32 * w) cap big) (omega arith)
          ]
      | inr none ↦
          let e : w ≡ 0 = omega arith in
          rw (e, min_lt (low + 32 * 0) cap (omega arith)) (omega arith)
    ]

-- a rest that is capped
carried_capped : (below weight low w light : ℕ) → 1 ≤ weight → 1 ≤ light → cap ≤ w
    → min (below + weight * min (low + 32 * w) cap) cap ≡ min (min (below + low * weight) cap + light * cap) cap
carried_capped below weight low w light pos some far =
    rw (min_ge (low + 32 * w) cap (omega arith)) (omega arith)

-- one group more: what is below, its low bits at their weight, and the rest at 32 times the weight
pub carried : (below weight low w : ℕ) → low < 32 → 1 ≤ weight
    → min (below + weight * min (low + 32 * w) cap) cap ≡ min (min (below + low * weight) cap + min (weight * 32) heavy * min w cap) cap
carried below weight low w least pos =
    elim (cases_lt w cap) [
      | inl near ↦
          elim (cases_lt heavy (weight * 32)) [
            | inl much ↦ rw (min_lt w cap (omega arith), min_ge (weight * 32) heavy (omega arith)) (carried_heavy below weight low w least much near)
            | inr light ↦ rw (min_lt w cap (omega arith), min_lt (weight * 32) heavy light) (carried_light below weight low w pos near)
          ]
      | inr far ↦ rw (min_ge w cap far) (carried_capped below weight low w (min (weight * 32) heavy) pos (omega arith) far)
    ]

-- the last group
pub carried_last : (below weight d : ℕ) → d < 32 → min (below + weight * min d cap) cap ≡ min (below + d * weight) cap
carried_last below weight d least = rw (min_lt d cap (omega arith)) (omega arith)

pub first_weight : (w : ℕ) → min (0 + 1 * min w cap) cap ≡ min w cap
first_weight w = omega arith
