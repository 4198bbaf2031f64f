-- What the reader answers, beside what the definition gives: the same, unless memory ran out.
use Rattle.std.specs.Prelude.{◌≡◌, List, map, Result, Ok, Err}
use Rattle.cov_text.specs.Listing.{text_cmp, in_order}
use Rattle.istanbul_json.specs.declared.file.FileParts.{FileParts}
use Rattle.istanbul_json.specs.declared.file.CoverageFault.{CoverageFault}
use Rattle.istanbul_json.specs.declared.file.CoverageFault.TheVariants.{TooLong, Syntax, Missing, Wrong, Keys, NoMemory}

abbrev pub CoverageFails : {A : Type 0} → CoverageFault → Result A CoverageFault → Type 0
CoverageFails NoMemory given = Unit {0}
CoverageFails TooLong given = given ≡ Err TooLong
CoverageFails Syntax given = given ≡ Err Syntax
CoverageFails (Missing file field) given = given ≡ Err (Missing file field)
CoverageFails (Wrong file field) given = given ≡ Err (Wrong file field)
CoverageFails (Keys file field) given = given ≡ Err (Keys file field)

abbrev pub GivesCoverage : {A : Type 0} → Result A CoverageFault → Result A CoverageFault → Type 0
GivesCoverage (Ok x) given = given ≡ Ok x
GivesCoverage (Err fault) given = CoverageFails fault given

-- the paths rise in byte order, so each is there once
abbrev pub ArePathsInOrder : List FileParts → Type 0
ArePathsInOrder files = in_order text_cmp (map (λ f. f.path) files) ≡ map (λ f. f.path) files
