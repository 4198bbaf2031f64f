-- What the parser of a text answers.
use Rattle.std.specs.Prelude.{◌≡◌, ◌<◌, ◌≤◌, ℕ, List, length, None, Some, Result, Ok, Err}
use Rattle.serde_json.specs.Data.{Data}
use Rattle.cov_text.specs.Listing.{max_text}
use Rattle.json_shapes.specs.Shapes.{parsed}
use Rattle.json_shapes.specs.declared.text.ParseFault.{ParseFault}
use Rattle.json_shapes.specs.declared.text.ParseFault.TheVariants.{TooLong, Syntax, NoMemory}

-- why a text has no value: it is too long, or no JSON text, or memory ran out
abbrev pub FailsValue : ParseFault → List ℕ → Type 0
FailsValue TooLong bytes = max_text < length bytes
FailsValue Syntax bytes = (length bytes ≤ max_text) × (parsed bytes ≡ None)
FailsValue NoMemory bytes = Unit {0}

-- the value that a text is, or why it has none
abbrev pub GivesValue : {V : Type 0} → (V → Data) → Result V ParseFault → List ℕ → Type 0
GivesValue view (Ok value) bytes = (length bytes ≤ max_text) × (parsed bytes ≡ Some (view value))
GivesValue view (Err fault) bytes = FailsValue fault bytes
