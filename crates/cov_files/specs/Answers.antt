-- What the readers of a text answer.
use Rattle.std.specs.Prelude.{◌≡◌, ◌<◌, ◌≤◌, ℕ, List, length, map, None, Some, Result, Ok, Err}
use Rattle.serde_json.specs.Data.{Data}
use Rattle.cov_text.specs.Listing.{max_text}
use Rattle.cov_model.specs.Gives.{TextFails}
use Rattle.json_shapes.specs.Shapes.{parsed}
use Rattle.cov_model.specs.declared.snapshot.TextFault.{TextFault}
use Rattle.cov_model.specs.declared.snapshot.TextFault.TheVariants.{TooLong, Syntax, Shape, NoMemory}
use Rattle.source_maps.specs.declared.entries.MapEntry.{MapEntry}
use Rattle.source_maps.specs.Entries.{Said, said}

-- the value that a text is, or that it is too long, or `Syntax` where it is none, or want of memory
abbrev pub FailsValue : TextFault → List ℕ → Type 0
FailsValue TooLong bytes = max_text < length bytes
FailsValue Syntax bytes = (length bytes ≤ max_text) × (parsed bytes ≡ None)
FailsValue NoMemory bytes = Unit {0}
FailsValue (Shape fault) bytes = ⊥

abbrev pub GivesValue : {V : Type 0} → (V → Data) → Result V TextFault → List ℕ → Type 0
GivesValue view (Ok value) bytes = (length bytes ≤ max_text) × (parsed bytes ≡ Some (view value))
GivesValue view (Err fault) bytes = FailsValue fault bytes

-- what entries say, or the fault, unless memory ran out
abbrev pub GivesEntries : Result (List MapEntry) TextFault → Result (List Said) TextFault → Type 0
GivesEntries (Ok entries) given = given ≡ Ok (map said entries)
GivesEntries (Err fault) given = TextFails fault given
