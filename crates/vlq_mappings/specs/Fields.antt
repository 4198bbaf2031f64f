-- The values of a segment by what they are for.
use Rattle.std.specs.Prelude.{ℕ, List, [], ◌∷◌, Option, None, Some, Result, Ok}
use Rattle.vlq_mappings.specs.declared.values.Value.{Value}
use Rattle.vlq_mappings.specs.declared.segments.Fields.{Fields}
use Rattle.vlq_mappings.specs.declared.segments.OriginFields.{OriginFields}
use Rattle.vlq_mappings.specs.declared.VlqFault.{VlqFault}
use Rattle.vlq_mappings.specs.Faults.{◌>>=◌}
use Rattle.vlq_mappings.specs.Mappings.{moved}

abbrev pub name_values : Option Value → List Value
name_values None = []
name_values (Some n) = n ∷ []

abbrev pub origin_values : Option OriginFields → List Value
origin_values None = []
origin_values (Some o) = o.source ∷ o.line ∷ o.column ∷ name_values o.name

abbrev pub field_values : Fields → List Value
field_values f = f.column ∷ origin_values f.origin

-- the name that a value leads to, if there is one, and the last name behind it
abbrev pub moved_name : ℕ → Option Value → Result (Option ℕ × ℕ) VlqFault
moved_name last None = Ok (None, last)
moved_name last (Some v) = moved last v >>= λ n. Ok (Some n, n)
