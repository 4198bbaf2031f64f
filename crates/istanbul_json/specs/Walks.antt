-- What the parts of a coverage file are read of, straight from the tokens of a text.
use Rattle.std.specs.Prelude.{◌≡◌, ℕ, List, [], ◌∷◌, length, map, Bool, true, ◌&&◌, Option, Some, Ok, codes}
use Rattle.std.specs.List.{list_all}
use Rattle.std.specs.List.Sorted.{IsStableBy}
use Rattle.std.specs.Ordering.{is_lt}
use Rattle.std.specs.declared.cmp.Ordering.{Ordering}
use Rattle.std.specs.Cmp.{IsTotalOrder}
use Rattle.std.proofs.lemmas.Cmp.{then_total, on_total, nat_cmp_total, nat_list_cmp_total}
use Rattle.cov_text.specs.Listing.{text_cmp}
use Rattle.serde_json.specs.Data.{Data, Members}
use Rattle.serde_json.specs.Find.{as_str, get_member}
use Rattle.json_shapes.specs.Shapes.{whole, offset_of}
use Rattle.json_shapes.specs.Members.{if_given}
use Rattle.json_walk.specs.Shape.{Is, GivesList, GivesObject, Has}
use Rattle.json_walk.specs.declared.keyed.Member.{Member}
use Rattle.json_walk.specs.declared.keyed.Object.{Object}
use Rattle.istanbul_json.specs.declared.file.Mark.{Mark}
use Rattle.istanbul_json.specs.declared.file.FileParts.{FileParts}
use Rattle.istanbul_json.specs.declared.file.Function.{Function}
use Rattle.istanbul_json.specs.declared.file.Branch.{Branch}
use Rattle.istanbul_json.specs.declared.entry.FunctionEntry.{FunctionEntry}
use Rattle.istanbul_json.specs.declared.entry.BranchEntry.{BranchEntry}
use Rattle.istanbul_json.specs.Kept.{key_cmp}
use Rattle.istanbul_json.specs.declared.marks.FoundLoc.{FoundLoc}
use Rattle.istanbul_json.specs.declared.entries.FoundFunction.{FoundFunction}
use Rattle.istanbul_json.specs.declared.entries.FoundBranch.{FoundBranch}
use Rattle.istanbul_json.specs.declared.found.FoundMaps.{FoundMaps}
use Rattle.istanbul_json.specs.declared.found.FoundCounts.{FoundCounts}
use Rattle.istanbul_json.specs.declared.found.FoundFile.{FoundFile}
use Rattle.istanbul_json.specs.Members.{mark_of, loc_of, function_of, branch_of}
use Rattle.istanbul_json.specs.Coverage.{file_of}

-- ---- what was found of an object is what its members have

-- the member at this key, which may be absent or null, is read as x
abbrev pub Given : List ℕ → Members → Option ℕ → Type 0
Given key ms x = if_given offset_of (get_member key ms) ≡ Some x

abbrev pub HoldsMark : Mark → Members → Type 0
HoldsMark m ms = Given (codes "line") ms m.line × Given (codes "column") ms m.column

abbrev pub HoldsLoc : FoundLoc → Members → Type 0
HoldsLoc found ms =
    Has (Is mark_of) (codes "start") ms found.start × Has (Is mark_of) (codes "end") ms found.end

abbrev pub HoldsFunction : FoundFunction → Members → Type 0
HoldsFunction found ms =
    Has (Is as_str) (codes "name") ms found.name
    × Has (Is loc_of) (codes "decl") ms found.decl
    × Has (Is loc_of) (codes "loc") ms found.loc
    × Given (codes "line") ms found.line

abbrev pub HoldsBranch : FoundBranch → Members → Type 0
HoldsBranch found ms =
    Has (Is as_str) (codes "type") ms found.kind
    × Has (Is loc_of) (codes "loc") ms found.loc
    × Has (GivesList (Is loc_of)) (codes "locations") ms found.locations
    × Given (codes "line") ms found.line

-- an object with any keys, whose members are read one by one
abbrev pub GivesMembers : {A : Type 0} → (A → Data → Type 0) → Object (Member A) → Data → Type 0
GivesMembers gives x d = GivesObject (λ m. m.key) (λ m. gives m.value) x.members d

abbrev pub HoldsMaps : FoundMaps → Members → Type 0
HoldsMaps found ms =
    Has (GivesMembers (Is loc_of)) (codes "statementMap") ms found.statements
    × Has (GivesMembers (Is function_of)) (codes "fnMap") ms found.functions
    × Has (GivesMembers (Is branch_of)) (codes "branchMap") ms found.branches

abbrev pub HoldsCounts : FoundCounts → Members → Type 0
HoldsCounts found ms =
    Has (GivesMembers (Is whole)) (codes "s") ms found.s
    × Has (GivesMembers (Is whole)) (codes "f") ms found.f
    × Has (GivesMembers (GivesList (Is whole))) (codes "b") ms found.b

abbrev pub HoldsFile : FoundFile → Members → Type 0
HoldsFile found ms =
    Has (Is as_str) (codes "path") ms found.path
    × HoldsMaps found.maps ms
    × HoldsCounts found.counts ms

-- the file, wherever it stands
abbrev pub SaysFile : FileParts → Data → Type 0
SaysFile f d = (k : ℕ) → file_of k f.path d ≡ Ok f

-- ---- lists

abbrev pub function_entry : Function → FunctionEntry
function_entry f = record { name = f.name; decl = f.decl; loc = f.loc; line = f.line }

abbrev pub branch_entry : Branch → BranchEntry
branch_entry b = record { kind = b.kind; loc = b.loc; locations = b.locations; line = b.line }

pub by_key_total : {A : Type 0} (key : A → List ℕ) → IsTotalOrder (λ x y. key_cmp (key x) (key y))
by_key_total key = on_total key (then_total (on_total length nat_cmp_total) nat_list_cmp_total)

pub by_text_total : {A : Type 0} (key : A → List ℕ) → IsTotalOrder (λ x y. text_cmp (key x) (key y))
by_text_total key = on_total key nat_list_cmp_total

-- each is less than the next
abbrev pub rising : {A : Type 0} → (A → A → Ordering) → List A → Bool
rising cmp [] = true
rising cmp (x ∷ []) = true
rising cmp (x ∷ y ∷ ys) = is_lt (cmp x y) && rising cmp (y ∷ ys)

abbrev pub members_of : {E : Type 0} → List (Member E) → List (List ℕ × E)
members_of ms = map (λ m. (m.key, m.value)) ms

-- each element with its key, as one of its parts shows it
abbrev pub shown_by : {A E : Type 0} → (A → List ℕ) → (A → E) → List A → List (List ℕ × E)
shown_by key part xs = map (λ x. (key x, part x)) xs

-- xs are made of the entries and the counts, one by one, and each is whole
pub record AreJoined {A E C : Type 0} (key : A → List ℕ) (entry : A → E) (counts : A → C) (fits : A → Bool) (entries : List (Member E)) (counted : List (Member C)) (xs : List A) : Type 0 where
  pub entries_are : shown_by key entry xs ≡ members_of entries
  pub counts_are : shown_by key counts xs ≡ members_of counted
  pub all_fit : list_all fits xs ≡ true

-- ys are the elements of xs in strict order
pub record AreOrdered {A : Type 0} (cmp : A → A → Ordering) (xs ys : List A) : Type 0 where
  pub rise : rising cmp ys ≡ true
  pub same : IsStableBy (λ x y. is_lt (cmp x y)) xs ys

-- ys are made of the entries and the counts that were found, in strict order
pub record AreListed {A E C : Type 0} (key : A → List ℕ) (entry : A → E) (counts : A → C) (fits : A → Bool) (cmp : A → A → Ordering) (entries : Option (Object (Member E))) (counted : Option (Object (Member C))) (ys : List A) : Type 0 where
  pub es : Object (Member E)
  pub cs : Object (Member C)
  pub xs : List A
  pub entries_there : entries ≡ Some es
  pub counts_there : counted ≡ Some cs
  pub joined : AreJoined key entry counts fits es.members cs.members xs
  pub ordered : AreOrdered cmp xs ys
