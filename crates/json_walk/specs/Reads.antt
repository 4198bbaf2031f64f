-- What stands first in the tokens of a text, in the data of `serde_json`, and which tokens are left.
use Rattle.std.specs.Prelude.{◌≡◌, ℕ, List, length, Option, Some}
use Rattle.json.specs.Token.{Token}
use Rattle.json.specs.Json.{value, items, members}
use Rattle.serde_json.specs.Data.{Data, Items, Members, no_members}
use Rattle.serde_json.specs.Read.{of_json, of_items, of_members, converted}

-- the value d, nested no deeper than depth
abbrev pub Begins : ℕ → List Token → Data → List Token → Type 0
Begins depth old d new = converted of_json (value depth old) ≡ Some (d, new)

-- the items ds, and the bracket that closes their list
abbrev pub BeginsItems : ℕ → List Token → Items → List Token → Type 0
BeginsItems depth old ds new =
    converted of_items (items (value depth) (length old) old) ≡ Some (ds, new)

-- members, and the brace that closes their object, which is then that of ms
abbrev pub BeginsMembers : ℕ → List Token → Members → List Token → Type 0
BeginsMembers depth old ms new =
    converted (λ m. of_members m no_members) (members (value depth) (length old) old)
    ≡ Some (ms, new)

-- ---- some value

abbrev pub Passes : ℕ → List Token → List Token → Type 0
Passes depth old new = (d : Data) × Begins depth old d new

abbrev pub PassesItems : ℕ → List Token → List Token → Type 0
PassesItems depth old new = (ds : Items) × BeginsItems depth old ds new

abbrev pub PassesMembers : ℕ → List Token → List Token → Type 0
PassesMembers depth old new = (ms : Members) × BeginsMembers depth old ms new

-- a value with no parts, which this kind of reading gives as x
abbrev pub BeginsAs : {A : Type 0} → (Data → Option A) → List Token → A → List Token → Type 0
BeginsAs kind old x new =
    (d : Data) × ((depth : ℕ) → Begins depth old d new) × (kind d ≡ Some x)
