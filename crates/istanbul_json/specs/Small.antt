-- Lines and columns below 2^32, as those of every value of the types are.
use Rattle.std.specs.Prelude.{◌<◌, ◌^◌, ℕ, Option, None, Some, ⊤}
use Rattle.std.specs.List.{AllByRecursion}
use Rattle.istanbul_json.specs.declared.file.Mark.{Mark}
use Rattle.istanbul_json.specs.declared.file.Loc.{Loc}
use Rattle.istanbul_json.specs.declared.file.Statement.{Statement}
use Rattle.istanbul_json.specs.declared.file.Function.{Function}
use Rattle.istanbul_json.specs.declared.file.Branch.{Branch}
use Rattle.istanbul_json.specs.declared.file.FileParts.{FileParts}
use Rattle.istanbul_json.specs.Kept.{IsKeyed}

abbrev pub IsSmall : Option ℕ → Type 0
IsSmall None = ⊤
IsSmall (Some n) = n < 2 ^ 32

abbrev pub IsSmallMark : Mark → Type 0
IsSmallMark m = IsSmall m.line × IsSmall m.column

abbrev pub IsSmallLoc : Loc → Type 0
IsSmallLoc l = IsSmallMark l.start × IsSmallMark l.end

abbrev pub IsSmallStatement : Statement → Type 0
IsSmallStatement s = IsSmallLoc s.loc

abbrev pub IsSmallFunction : Function → Type 0
IsSmallFunction f = IsSmallLoc f.decl × IsSmallLoc f.loc × IsSmall f.line

abbrev pub IsSmallBranch : Branch → Type 0
IsSmallBranch b = IsSmallLoc b.loc × AllByRecursion IsSmallLoc b.locations × IsSmall b.line

-- a file that can be read back
pub record IsReadable (f : FileParts) : Type 0 where
  pub keyed : IsKeyed f
  pub statements : AllByRecursion IsSmallStatement f.statements
  pub functions : AllByRecursion IsSmallFunction f.functions
  pub branches : AllByRecursion IsSmallBranch f.branches
