-- The texts of members, and those of the parts of a coverage file that are put whole.
use Rattle.std.specs.Prelude.{ℕ, List, ◌++◌, Option, codes}
use Rattle.json.specs.Print.{quoted}
use Rattle.serde_json.specs.Data.{Data}
use Rattle.serde_json.specs.Written.{compact_text}
use Rattle.istanbul_json.specs.Value.{number_or_null}
use Rattle.istanbul_json.specs.declared.file.Mark.{Mark}
use Rattle.istanbul_json.specs.declared.file.Loc.{Loc}
use Rattle.istanbul_json.specs.declared.file.Function.{Function}
use Rattle.istanbul_json.specs.declared.file.Branch.{Branch}

-- a key with its colon, and a member
abbrev pub key_text : List ℕ → List ℕ
key_text key = quoted key ++ codes ":"

abbrev pub member_text : List ℕ → Data → List ℕ
member_text key d = key_text key ++ compact_text d

abbrev pub number_text : Option ℕ → List ℕ
number_text n = compact_text (number_or_null n)

abbrev pub mark_text : Mark → List ℕ
mark_text m = codes "{\"column\":" ++ number_text m.column ++ (codes ",\"line\":" ++ number_text m.line ++ codes "}")

abbrev pub loc_text : Loc → List ℕ
loc_text l = codes "{\"end\":" ++ mark_text l.end ++ (codes ",\"start\":" ++ mark_text l.start ++ codes "}")

abbrev pub behind_loc : List ℕ → List ℕ
behind_loc name = codes ",\"name\":" ++ quoted name ++ codes "}"

abbrev pub function_text : Function → List ℕ
function_text f = codes "{\"decl\":" ++ loc_text f.decl ++ (codes ",\"line\":" ++ number_text f.line ++ (codes ",\"loc\":" ++ loc_text f.loc ++ behind_loc f.name))

abbrev pub before_locations : Branch → List ℕ
before_locations b = codes "{\"line\":" ++ number_text b.line ++ (codes ",\"loc\":" ++ loc_text b.loc ++ codes ",\"locations\":[")

abbrev pub behind_locations : Branch → List ℕ
behind_locations b = codes ",\"type\":" ++ quoted b.kind ++ codes "}"

abbrev pub path_text : List ℕ → List ℕ
path_text path = codes ",\"path\":" ++ quoted path
