-- A value that is kept as 2^32 leads where the value leads: nowhere.
use Rattle.std.proofs.Common.{◌≡◌, ℕ, ◌/◌, ◌≤◌, min, List, [], ◌∷◌, map, refl, sym, ap, ◌∙◌, inl, inr, arith}
use Rattle.std.specs.Prelude.{None, Some, Result, Ok, Err}
use Rattle.std.proofs.lemmas.Bool.{cases_lt, lt-ltb}
use Rattle.vlq_mappings.specs.declared.VlqCause.TheVariants.{Range}
use Rattle.vlq_mappings.specs.declared.VlqFault.{VlqFault}
use Rattle.vlq_mappings.specs.declared.values.Value.{Value}
use Rattle.vlq_mappings.specs.declared.last.Last.{Last}
use Rattle.vlq_mappings.specs.Faults.{◌>>=◌, fault, goes_on}
use Rattle.vlq_mappings.specs.Kept.{most}
use Rattle.vlq_mappings.specs.Digits.{value, values}
use Rattle.vlq_mappings.specs.Mappings.{moved, segment_of, segment_at}
use Rattle.vlq_mappings.specs.Pieces.{nearest, near_values}
use Rattle.vlq_mappings.proofs.Numbers.{cap, min_lt, min_ge}

far : (last : ℕ) (v : Value) → cap ≤ v.whole → moved last v ≡ fault v.place Range
far last v le = rw (lt-ltb most (v.whole / 2) (omega arith)) refl

pub moved-near : (last : ℕ) (v : Value) → moved last (nearest v) ≡ moved last v
moved-near last v =
    elim (cases_lt v.whole cap) [
      | inl lt ↦ let e : min v.whole cap ≡ v.whole = min_lt v.whole cap (omega arith) in ap (λ n. moved last (value v.place n)) e
      | inr le ↦ let e : min v.whole cap ≡ cap = min_ge v.whole cap le in ap (λ n. moved last (value v.place n)) e ∙ sym (far last v le)
    ]

segment-near : (place : ℕ) (last : Last) (vs : List Value) → segment_of place last (map nearest vs) ≡ segment_of place last vs
segment-near place last [] = refl
segment-near place last (c ∷ []) = λ i. moved-near last.column c i >>= λ column. Ok (record { column = column; origin = None }, record last { column = column })
segment-near place last (c ∷ s ∷ []) = refl
segment-near place last (c ∷ s ∷ l ∷ []) = refl
segment-near place last (c ∷ s ∷ l ∷ o ∷ []) =
    λ i. moved-near last.column c i >>= λ column. moved-near last.source s i >>= λ source. moved-near last.line l i >>= λ line. moved-near last.original o i >>= λ original.
    Ok (
      record { column = column; origin = Some (record { source = source; line = line; column = original; name = None }) },
      record last { column = column; source = source; line = line; original = original },
    )
segment-near place last (c ∷ s ∷ l ∷ o ∷ n ∷ []) =
    λ i. moved-near last.column c i >>= λ column. moved-near last.source s i >>= λ source. moved-near last.line l i >>= λ line. moved-near last.original o i >>= λ original.
    moved-near last.name n i >>= λ name.
    Ok (
      record { column = column; origin = Some (record { source = source; line = line; column = original; name = Some name }) },
      record { column = column; source = source; line = line; original = original; name = name },
    )
segment-near place last (c ∷ s ∷ l ∷ o ∷ n ∷ x ∷ vs) = refl

near_any : (place : ℕ) (last : Last) (r : Result (List Value) VlqFault)
    → goes_on (r >>= λ vs. Ok (map nearest vs)) (segment_of place last) ≡ (r >>= segment_of place last)
near_any place last (Ok vs) = segment-near place last vs
near_any place last (Err e) = refl

pub near_segment : (place : ℕ) (last : Last) (bytes : List ℕ) → goes_on (near_values place bytes) (segment_of place last) ≡ segment_at place last bytes
near_segment place last bytes = near_any place last (values place bytes)
