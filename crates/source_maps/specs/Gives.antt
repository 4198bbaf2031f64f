-- What a reader answers, beside what the definition gives: the same, unless memory ran out.
use Rattle.std.specs.Prelude.{◌≡◌, Result, Ok, Err}
use Rattle.source_maps.specs.declared.map.MapParts.{MapParts}
use Rattle.source_maps.specs.declared.fault.MapFault.{MapFault}
use Rattle.source_maps.specs.declared.fault.MapFault.TheVariants.{Shape, Section, Mappings, Index, Order, Far, NoMemory}

abbrev pub MapFails : {A : Type 0} → MapFault → Result A MapFault → Type 0
MapFails NoMemory given = Unit {0}
MapFails (Shape name) given = given ≡ Err (Shape name)
MapFails (Section k name) given = given ≡ Err (Section k name)
MapFails (Mappings section place cause) given = given ≡ Err (Mappings section place cause)
MapFails (Index segment) given = given ≡ Err (Index segment)
MapFails (Order k) given = given ≡ Err (Order k)
MapFails (Far k) given = given ≡ Err (Far k)

abbrev pub Gives : {A : Type 0} → Result A MapFault → Result A MapFault → Type 0
Gives (Ok x) given = given ≡ Ok x
Gives (Err fault) given = MapFails fault given

abbrev pub GivesMap : Result MapParts MapFault → Result MapParts MapFault → Type 0
GivesMap (Ok m) given = given ≡ Ok m
GivesMap (Err fault) given = MapFails fault given
