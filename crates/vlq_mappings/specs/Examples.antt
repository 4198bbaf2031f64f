-- Worked examples of mappings.
use Rattle.std.specs.Prelude.{◌≡◌, ℕ, [], ◌∷◌, Option, None, Some, Ok, Err, codes}
use Rattle.vlq_mappings.specs.declared.Segment.{Segment}
use Rattle.vlq_mappings.specs.declared.VlqCause.TheVariants.{Digit, Cut, Fields, Range}
use Rattle.vlq_mappings.specs.declared.VlqFault.TheVariants.{At}
use Rattle.vlq_mappings.specs.Mappings.{mappings}
use Rattle.vlq_mappings.specs.Written.{written}

abbrev pub segment : ℕ → ℕ → ℕ → ℕ → Option ℕ → Segment
segment column source line original name = record { column = column; origin = Some (record { source = source; line = line; column = original; name = name }) }

-- segments with names, each fault, a long spelling, and the empty text
abbrev pub ReadsAndFaults : Type 0
ReadsAndFaults =
    (mappings (codes "MAAMA,IACJC,YAAaC") ≡ Ok ((segment 6 0 0 6 (Some 0) ∷ segment 10 0 1 2 (Some 1) ∷ segment 22 0 1 15 (Some 2) ∷ []) ∷ []))
    × (mappings (codes "AA") ≡ Err (At 0 Fields))
    × (mappings (codes "A!") ≡ Err (At 1 Digit))
    × (mappings (codes "g") ≡ Err (At 1 Cut))
    × (mappings (codes "AAAA,AAAD") ≡ Err (At 8 Range))
    × (mappings (codes "gAAAA") ≡ Ok ((segment 0 0 0 0 None ∷ []) ∷ []))
    × (mappings [] ≡ Ok ([] ∷ []))

-- written back: the same text, and the shortest spelling
abbrev pub WritesShortest : Type 0
WritesShortest =
    (written ((segment 6 0 0 6 (Some 0) ∷ segment 10 0 1 2 (Some 1) ∷ segment 22 0 1 15 (Some 2) ∷ []) ∷ []) ≡ codes "MAAMA,IACJC,YAAaC")
    × (written ((segment 0 0 0 0 None ∷ []) ∷ []) ≡ codes "AAAA")

-- empty lines, an empty segment, and a negative first value
abbrev pub EmptyPieces : Type 0
EmptyPieces =
    (mappings (codes ";;AAAA") ≡ Ok ([] ∷ [] ∷ (segment 0 0 0 0 None ∷ []) ∷ []))
    × (mappings (codes "AAAA,,CAAC") ≡ Ok ((segment 0 0 0 0 None ∷ segment 1 0 0 1 None ∷ []) ∷ []))
    × (written ((segment 0 0 0 0 None ∷ segment 1 0 0 1 None ∷ []) ∷ []) ≡ codes "AAAA,CAAC")
    × (mappings (codes "D") ≡ Err (At 0 Range))
