-- What was found in the tokens of a text is what the reading of its data says.
use Rattle.std.proofs.Common.{◌≡◌, ℕ, zero, suc, Bool, true, false, true≢false, List, [], ◌∷◌, length, map, reverse, Option, Some, None, refl, sym, ap, ◌∙◌, subst}
use Rattle.std.specs.Prelude.{Ok, bytes_eq, codes, option_map, option_and_then}
use Rattle.std.specs.Ordering.{match_ordering}
use Rattle.std.specs.declared.cmp.Ordering.TheVariants.{Less, Equal, Greater}
use Rattle.std.specs.BTreeSet.{replace_key}
use Rattle.cov_text.specs.Listing.{text_cmp}
use Rattle.serde_json.specs.Data.{Data, Items, no_items, item, Members, no_members, member, object, put}
use Rattle.serde_json.specs.Find.{get_member, as_object, as_array, as_str}
use Rattle.json_shapes.specs.Shapes.{whole, offset_of}
use Rattle.json_shapes.specs.Members.{or_null, if_given, each_of, listed, each_member, keyed}
use Rattle.json_walk.specs.Shape.{Is, Has, AreGiven, GivesList, ArePutIn}
use Rattle.json_walk.specs.declared.keyed.Member.{Member}
use Rattle.json_walk.specs.declared.keyed.Object.{Object}
use Rattle.json_walk.proofs.Lists.{same_text, is_here, is_as_before, is_beside, has_elsewhere}
use Rattle.istanbul_json.specs.declared.file.Mark.{Mark}
use Rattle.istanbul_json.specs.declared.file.Loc.{Loc}
use Rattle.istanbul_json.specs.declared.entry.FunctionEntry.{FunctionEntry}
use Rattle.istanbul_json.specs.declared.entry.BranchEntry.{BranchEntry}
use Rattle.istanbul_json.specs.declared.marks.FoundLoc.{FoundLoc}
use Rattle.istanbul_json.specs.declared.entries.FoundFunction.{FoundFunction}
use Rattle.istanbul_json.specs.declared.entries.FoundBranch.{FoundBranch}
use Rattle.istanbul_json.specs.declared.found.FoundMaps.{FoundMaps}
use Rattle.istanbul_json.specs.declared.found.FoundCounts.{FoundCounts}
use Rattle.istanbul_json.specs.Members.{mark_of, loc_of, function_of, branch_of, member_by}
use Rattle.istanbul_json.specs.Walks.{Given, GivesMembers, HoldsMark, HoldsLoc, HoldsFunction, HoldsBranch, HoldsMaps, HoldsCounts}

-- ---- a member that may be absent or null

module _ (key : List ℕ) (d : Data) (ms : Members) where
  pub given_here : (wanted : List ℕ) (x : Option ℕ) → bytes_eq key wanted ≡ true → or_null offset_of d ≡ Some x → Given wanted (put key d ms) x
  given_here wanted x is read = ap (if_given offset_of) (is_here key d ms wanted is) ∙ read

  pub given_elsewhere : (wanted : List ℕ) (x : Option ℕ) → bytes_eq key wanted ≡ false → Given wanted ms x → Given wanted (put key d ms) x
  given_elsewhere wanted x other h = ap (if_given offset_of) (is_as_before key d ms wanted other) ∙ h

  pub given_beside : (this wanted : List ℕ) (x : Option ℕ) → bytes_eq key this ≡ true → bytes_eq this wanted ≡ false → Given wanted ms x → Given wanted (put key d ms) x
  given_beside this wanted x is other h = ap (if_given offset_of) (is_beside key d ms this wanted is other) ∙ h

-- ---- marks and locations

pub mark_is : (ms : Members) (m : Mark) → HoldsMark m ms → mark_of (object ms) ≡ Some m
mark_is ms m h = rw (h.0) (rw (h.1))

member_is : {A : Type 0} (reads : Data → Option A) (key : List ℕ) (ms : Members) (x : A) → Has (Is reads) key ms (Some x) → member_by reads key (object ms) ≡ Some x
member_is reads key ms x h = ap (option_and_then reads) h.1 ∙ h.2

pub loc_is : (ms : Members) (found : FoundLoc) (l : Loc) → HoldsLoc found ms → (found.start ≡ Some l.start) × (found.end ≡ Some l.end) → loc_of (object ms) ≡ Some l
loc_is ms found l h is =
    rw (member_is mark_of (codes "start") ms l.start (subst (Has (Is mark_of) (codes "start") ms) is.0 h.0))
    (rw (member_is mark_of (codes "end") ms l.end (subst (Has (Is mark_of) (codes "end") ms) is.1 h.1)))

-- what each item gives, the list gives
each_is : {A : Type 0} (reads : Data → Option A) (xs : List A) (ds : Items) → AreGiven (Is reads) xs ds → each_of reads ds ≡ Some xs
each_is reads [] no_items h = refl
each_is reads [] (item d ds) h = absurd h
each_is reads (x ∷ xs) no_items h = absurd h
each_is reads (x ∷ xs) (item d ds) h = rw (h.0) (rw (each_is reads xs ds h.1))

pub list_is : {A : Type 0} (reads : Data → Option A) (xs : List A) (d : Data) → GivesList (Is reads) xs d → listed reads d ≡ Some xs
list_is reads xs d h = rw (h.1) (each_is reads xs h.0 h.2)

-- ---- functions and branches

pub function_is : (ms : Members) (found : FoundFunction) (f : FunctionEntry) → HoldsFunction found ms
    → (found.name ≡ Some f.name) × (found.decl ≡ Some f.decl) × (found.loc ≡ Some f.loc) × (found.line ≡ f.line) → function_of (object ms) ≡ Some f
function_is ms found f h is =
    rw (member_is as_str (codes "name") ms f.name (subst (Has (Is as_str) (codes "name") ms) is.0 h.0))
    (rw (member_is loc_of (codes "decl") ms f.decl (subst (Has (Is loc_of) (codes "decl") ms) is.1 h.1))
    (rw (member_is loc_of (codes "loc") ms f.loc (subst (Has (Is loc_of) (codes "loc") ms) is.2 h.2))
    (rw (subst (Given (codes "line") ms) is.3 h.3))))

pub branch_is : (ms : Members) (found : FoundBranch) (b : BranchEntry) → HoldsBranch found ms
    → (found.kind ≡ Some b.kind) × (found.loc ≡ Some b.loc) × (found.locations ≡ Some b.locations) × (found.line ≡ b.line) → branch_of (object ms) ≡ Some b
branch_is ms found b h is =
    let locations = subst (Has (GivesList (Is loc_of)) (codes "locations") ms) is.2 h.2 in
    rw (member_is as_str (codes "type") ms b.kind (subst (Has (Is as_str) (codes "type") ms) is.0 h.0))
    (rw (member_is loc_of (codes "loc") ms b.loc (subst (Has (Is loc_of) (codes "loc") ms) is.1 h.1))
    (rw (member_is (listed loc_of) (codes "locations") ms b.locations (locations.0, locations.1, list_is loc_of b.locations locations.0 locations.2))
    (rw (subst (Given (codes "line") ms) is.3 h.3))))

-- ---- the maps and the counts of a file, beside a member of another name

pub long_name : (key wanted : List ℕ) → length key ≡ 1 → (length wanted ≡ 1 → ⊥) → bytes_eq key wanted ≡ false
long_name key wanted short long = elim (bytes_eq key wanted) as (λ t. bytes_eq key wanted ≡ t → t ≡ false) [
  | true ↦ λ e. absurd (long (sym (ap length (same_text key wanted e)) ∙ short))
  | false ↦ λ e. refl
] refl

pub short_name : (key wanted : List ℕ) → (length key ≡ 1 → ⊥) → length wanted ≡ 1 → bytes_eq key wanted ≡ false
short_name key wanted long short = elim (bytes_eq key wanted) as (λ t. bytes_eq key wanted ≡ t → t ≡ false) [
  | true ↦ λ e. absurd (long (ap length (same_text key wanted e) ∙ short))
  | false ↦ λ e. refl
] refl

module _ (key : List ℕ) (d : Data) (ms : Members) where
  pub maps_elsewhere : (found : FoundMaps) → bytes_eq key (codes "statementMap") ≡ false → bytes_eq key (codes "fnMap") ≡ false → bytes_eq key (codes "branchMap") ≡ false → HoldsMaps found ms
      → HoldsMaps found (put key d ms)
  maps_elsewhere found a b c h = (
    has_elsewhere key d ms (GivesMembers (Is loc_of)) (codes "statementMap") found.statements a h.0,
    has_elsewhere key d ms (GivesMembers (Is function_of)) (codes "fnMap") found.functions b h.1,
    has_elsewhere key d ms (GivesMembers (Is branch_of)) (codes "branchMap") found.branches c h.2,
  )

  pub counts_elsewhere : (found : FoundCounts) → bytes_eq key (codes "s") ≡ false → bytes_eq key (codes "f") ≡ false → bytes_eq key (codes "b") ≡ false → HoldsCounts found ms → HoldsCounts found (put key d ms)
  counts_elsewhere found a b c h = (
    has_elsewhere key d ms (GivesMembers (Is whole)) (codes "s") found.s a h.0,
    has_elsewhere key d ms (GivesMembers (Is whole)) (codes "f") found.f b h.1,
    has_elsewhere key d ms (GivesMembers (GivesList (Is whole))) (codes "b") found.b c h.2,
  )

pub other_name : (key this wanted : List ℕ) → bytes_eq key this ≡ true → bytes_eq this wanted ≡ false → bytes_eq key wanted ≡ false
other_name key this wanted is other = ap (λ k. bytes_eq k wanted) (same_text key this is) ∙ other
