-- A reader's way through a list and through an object, and the brackets around them.
use Rattle.std.proofs.Common.{◌≡◌, ℕ, ◌-◌, ◌<◌, ◌≤◌, Bool, List, ◌∷◌, length, Some, None, option_map, refl, ap, ◌∙◌, arith}
use Rattle.json.specs.Token.{Token}
use Rattle.json.specs.Json.{value, items, members, parse_map, after_end_array, read_key}
use Rattle.json.proofs.Grammar.{value_is, value-begin_array, value-begin_object, read_key-shorter}
use Rattle.serde_json.specs.Data.{Data, Num, null, boolean, number, string, array, object, Items, no_items, item, Members, no_members, put}
use Rattle.serde_json.specs.Read.{number_of, of_json, of_items, of_members, converted}
use Rattle.json_walk.specs.Reads.{Begins, BeginsItems, BeginsMembers}
use Rattle.json_walk.proofs.Reading.{converted-array, converted-object, from_all, after_one_more, item_read, items_over, member_read, members_over}

-- ---- items

-- Of the tokens all, some items are gone and rest is left.
pub record ItemsGone (depth : ℕ) (all rest : List Token) : Type 0 where
  pub turns : ℕ
  pub enough : length rest ≤ turns
  pub made : Items → Items
  pub goes_on : converted of_items (items (value depth) (length all) all) ≡ parse_map made (converted of_items (items (value depth) turns rest))
  pub no_longer : length rest ≤ length all

module _ (depth : ℕ) (all : List Token) where
  abbrev pub items_start : ItemsGone depth all all
  items_start = record { turns = length all; enough = omega arith; made = λ ds. ds; goes_on = from_all _; no_longer = omega arith }

  abbrev pub items_turn : (old new : List Token) (d : Data) → ItemsGone depth all old → after_end_array old ≡ None → Begins depth old d new → length new < length old → ItemsGone depth all new
  items_turn old new d gone going read less = record {
    turns = gone.turns - 1;
    enough = omega (arith, gone.enough, less);
    made = λ ds. gone.made (item d ds);
    goes_on = gone.goes_on ∙ ap (parse_map gone.made) (item_read (value depth) gone.turns old new d (omega (arith, gone.enough, less)) going read) ∙ after_one_more gone.made d _;
    no_longer = omega (arith, gone.no_longer, less);
  }

  pub items_done : (old new : List Token) (gone : ItemsGone depth all old) → after_end_array old ≡ Some new → BeginsItems depth all (gone.made no_items) new
  items_done old new gone over = gone.goes_on ∙ ap (parse_map gone.made) (items_over (value depth) gone.turns old new gone.enough over)

-- ---- members

-- Of the tokens all, members that make up told are gone and rest is left.
pub record MembersGone (depth : ℕ) (all rest : List Token) : Type 0 where
  pub turns : ℕ
  pub enough : length rest ≤ turns
  pub told : Members
  pub goes_on : converted (λ ms. of_members ms no_members) (members (value depth) (length all) all) ≡ converted (λ ms. of_members ms told) (members (value depth) turns rest)
  pub no_longer : length rest ≤ length all

module _ (depth : ℕ) (all : List Token) where
  abbrev pub members_start : MembersGone depth all all
  members_start = record { turns = length all; enough = omega arith; told = no_members; goes_on = refl; no_longer = omega arith }

  abbrev pub members_turn : (old named new : List Token) (key : List ℕ) (d : Data) → MembersGone depth all old → read_key old ≡ Some (Some key, named) → Begins depth named d new → length new < length named → MembersGone depth all new
  members_turn old named new key d gone is read less =
      let before = read_key-shorter old (Some key) named is in record {
        turns = gone.turns - 1;
        enough = omega (arith, gone.enough, less, before);
        told = put key d gone.told;
        goes_on = gone.goes_on ∙ member_read (value depth) gone.told gone.turns key old named new d (omega (arith, gone.enough, before)) is read;
        no_longer = omega (arith, gone.no_longer, less, before);
      }

  pub members_done : (old new : List Token) (gone : MembersGone depth all old) → read_key old ≡ Some (None, new) → BeginsMembers depth all gone.told new
  members_done old new gone over = gone.goes_on ∙ members_over (value depth) gone.told gone.turns old new gone.enough over

-- ---- brackets

pub array_begins : (depth : ℕ) (old inside new : List Token) (ds : Items) → old ≡ Token.begin_array ∷ inside → 0 < depth → BeginsItems (depth - 1) inside ds new → Begins depth old (array ds) new
array_begins depth old inside new ds is deep read =
    ap (converted of_json) (ap (value depth) is ∙ value-begin_array depth inside deep) ∙ converted-array (items (value (depth - 1)) (length inside) inside) ∙ ap (parse_map array) read

pub object_begins : (depth : ℕ) (old inside new : List Token) (ms : Members) → old ≡ Token.begin_object ∷ inside → 0 < depth → BeginsMembers (depth - 1) inside ms new → Begins depth old (object ms) new
object_begins depth old inside new ms is deep read =
    ap (converted of_json) (ap (value depth) is ∙ value-begin_object depth inside deep) ∙ converted-object (members (value (depth - 1)) (length inside) inside) ∙ ap (parse_map object) read

-- ---- values with no parts

pub string_begins : (depth : ℕ) (old new : List Token) (s : List ℕ) → old ≡ Token.string s ∷ new → Begins depth old (string s) new
string_begins depth old new s is = ap (converted of_json) (ap (value depth) is ∙ value_is depth _)

pub boolean_begins : (depth : ℕ) (old new : List Token) (b : Bool) → old ≡ Token.boolean b ∷ new → Begins depth old (boolean b) new
boolean_begins depth old new b is = ap (converted of_json) (ap (value depth) is ∙ value_is depth _)

pub null_begins : (depth : ℕ) (old new : List Token) → old ≡ Token.null ∷ new → Begins depth old null new
null_begins depth old new is = ap (converted of_json) (ap (value depth) is ∙ value_is depth _)

pub number_begins : (depth : ℕ) (old new : List Token) (s : List ℕ) (n : Num) → old ≡ Token.number s ∷ new → number_of s ≡ Some n → Begins depth old (number n) new
number_begins depth old new s n is judged =
    ap (converted of_json) (ap (value depth) is ∙ value_is depth _) ∙ ap (λ m. option_map (λ d. (d, new)) (option_map number m)) judged
