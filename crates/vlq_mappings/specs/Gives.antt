-- What a reader answers, beside what the definition gives: the same, unless memory ran out.
use Rattle.std.specs.Prelude.{◌≡◌, List, Result, Ok, Err}
use Rattle.vlq_mappings.specs.declared.Segment.{Segment}
use Rattle.vlq_mappings.specs.declared.VlqFault.{VlqFault}
use Rattle.vlq_mappings.specs.declared.VlqFault.TheVariants.{At, NoMemory}

abbrev pub Fails : {A : Type 0} → VlqFault → Result A VlqFault → Type 0
Fails NoMemory given = Unit {0}
Fails (At place cause) given = given ≡ Err (At place cause)

abbrev pub Gives : {A B : Type 0} → (A → B) → Result A VlqFault → Result B VlqFault → Type 0
Gives view (Ok x) given = given ≡ Ok (view x)
Gives view (Err fault) given = Fails fault given

abbrev pub GivesMappings : Result (List (List Segment)) VlqFault → Result (List (List Segment)) VlqFault → Type 0
GivesMappings (Ok lines) given = given ≡ Ok lines
GivesMappings (Err fault) given = Fails fault given
