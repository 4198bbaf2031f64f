-- Words on what readers answer.
use Rattle.std.specs.Prelude.{◌++◌, List, Option, option_map, Result, Ok, Err, ⊤}
use Rattle.source_maps.specs.declared.fault.MapFault.{MapFault}
use Rattle.source_maps.specs.declared.map.MapSegment.{MapSegment}
use Rattle.source_maps.specs.declared.map.MapParts.{MapParts}
use Rattle.json_shapes.specs.Shapes.{◌>>=◌}
use Rattle.source_maps.specs.Maps.{joined}

-- an answer, seen by view
abbrev pub seen : {X Y E : Type 0} → (X → Y) → Result X E → Result Y E
seen view (Ok x) = Ok (view x)
seen view (Err e) = Err e

-- whether a step passes, and else its fault
abbrev pub passes : {X E : Type 0} → Result X E → Result ⊤ E
passes (Ok x) = Ok tt
passes (Err e) = Err e

-- what was read of a list, behind what came before
abbrev pub behind_all : {A : Type 0} → List A → Option (List A) → Option (List A)
behind_all front read = option_map (λ xs. front ++ xs) read

-- the map of the sections left, behind that of those ahead
abbrev pub behind_map : MapParts → Result MapParts MapFault → Result MapParts MapFault
behind_map front read = read >>= λ rest. Ok (joined front rest)

-- the segments left, behind those ahead
abbrev pub behind_near : List MapSegment → Result (List MapSegment) MapFault → Result (List MapSegment) MapFault
behind_near front read = read >>= λ rest. Ok (front ++ rest)
