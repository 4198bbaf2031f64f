-- The number of `serde_json` that a parsed number is.
use Rattle.serde_json.specs.Data.{Num, unsigned, negative, float}
use Rattle.json_walk.specs.declared.number.Parsed.{Parsed}
use Rattle.json_walk.specs.declared.number.Parsed.TheVariants.{Unsigned, Negative, Float}

abbrev pub num_of : Parsed → Num
num_of (Unsigned n) = unsigned n
num_of (Negative z) = negative z
num_of (Float x) = float x
