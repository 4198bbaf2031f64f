-- Words on what readers answer.
use Rattle.std.specs.Prelude.{◌++◌, ℕ, List, map, Option, option_map, Result, Ok, Err, Vec}
use Rattle.std.specs.Borrow.{Bor}
use Rattle.std.specs.declared.alloc.Global.{Global}
use Rattle.std.specs.List.Sorted.{IsStrictlySortedBy}
use Rattle.cov_text.specs.Listing.{text_cmp}
use Rattle.json_shapes.specs.Shapes.{◌>>=◌}
use Rattle.istanbul_json.specs.declared.file.FileParts.{FileParts}
use Rattle.istanbul_json.specs.declared.file.CoverageFault.{CoverageFault}

-- an answer, seen by view
abbrev pub seen : {X Y E : Type 0} → (X → Y) → Result X E → Result Y E
seen view (Ok x) = Ok (view x)
seen view (Err e) = Err e

-- what was read of a list, behind what came before
abbrev pub behind : {A : Type 0} → List A → Option (List A) → Option (List A)
behind front read = option_map (λ xs. front ++ xs) read

-- members, their keys seen as texts
abbrev pub texted : {A : Type 0} → List (Bor (List ℕ) × A) → List (List ℕ × A)
texted members = map (λ p. (p.0.now, p.1)) members

abbrev pub pairs : {A : Type 0} → Vec (Bor (List ℕ) × A) Global → List (List ℕ × A)
pairs members = texted members.items

-- the keys rise in byte order
abbrev pub AreRising : {A : Type 0} → List (List ℕ × A) → Type 0
AreRising xs = IsStrictlySortedBy text_cmp (map (λ x. x.0) xs)

-- the files that were read, behind those before them
abbrev pub behind_files : List FileParts → Result (List FileParts) CoverageFault → Result (List FileParts) CoverageFault
behind_files front read = read >>= λ files. Ok (front ++ files)
