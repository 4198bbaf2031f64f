-- What the grammar reads of tokens, taken as data, a turn of a loop at a time.
use Rattle.std.proofs.Common.{◌≡◌, true, ℕ, ◌-◌, ◌<◌, ◌≤◌, List, [], length, Option, Some, None, option_map, option_and_then, refl, ap, ◌∙◌}
use Rattle.std.specs.Prelude.{IfSome, OnSome}
use Rattle.json.specs.Token.{Token}
use Rattle.json.specs.Json as json
use Rattle.json.specs.Json.{Json, Parse, parse_map, after_end_array, read_key, items, members, if_last}
use Rattle.json.proofs.Grammar.{items_end, items_more, members_end, members_more}
use Rattle.serde_json.specs.Data.{Data, array, object, Items, no_items, item, Members, no_members, put}
use Rattle.serde_json.specs.Read.{read, of_json, of_items, of_members, converted}
use Rattle.std.specs.Str.{is_utf8}
use Rattle.json_shapes.specs.Shapes.{parsed}

-- ---- clauses of calls

pub if_some_weaker : {A : Type 0} {P Q : A → Type 0} (o : Option A) → ((x : A) → P x → Q x) → IfSome o P → IfSome o Q
if_some_weaker None f h = tt
if_some_weaker (Some x) f h = f x h

pub on_some_weaker : {A : Type 0} {P Q : Type 0} (o : Option A) → (P → Q) → OnSome o P → OnSome o Q
on_some_weaker None f h = tt
on_some_weaker (Some x) f h = f h

-- ---- what a reading that succeeded was made of

abbrev first_of : {B : Type 0} → Option (B × List Token) → Option B
first_of None = None
first_of (Some p) = Some p.0

abbrev rest_or : {B : Type 0} → List Token → Option (B × List Token) → List Token
rest_or ts None = ts
rest_or ts (Some p) = p.1

kept_beside : {B : Type 0} (o : Option B) (ts : List Token) (b : B) (rest : List Token) → option_map {U = B × List Token} (λ y. (y, ts)) o ≡ Some (b, rest) → (o ≡ Some b) × (ts ≡ rest)
kept_beside None ts b rest e = absurd (cc)
kept_beside (Some y) ts b rest e = (ap first_of e, ap (rest_or ts) e)

pub made_of : {A B : Type 0} (f : A → Option B) (o : Option (A × List Token)) (b : B) (rest : List Token) → converted f o ≡ Some (b, rest)
    → (a : A) × (o ≡ Some (a, rest)) × (f a ≡ Some b)
made_of f None b rest e = absurd (cc)
made_of f (Some (a, ts)) b rest e = let both = kept_beside (f a) ts b rest e in (a, ap (λ r. Some (a, r)) both.1, both.0)

-- ---- from the parts of a text to the whole

pub whole_read : (o : Option (Json × List Token)) (d : Data) → converted of_json o ≡ Some (d, []) → option_and_then of_json (option_and_then (λ p. if_last p.0 p.1) o) ≡ Some d
whole_read o d e = let made = made_of of_json o d [] e in rw (made.1) (made.2)

pub parsed_is : (bytes : List ℕ) (d : Data) → is_utf8 bytes ≡ true → read bytes ≡ Some d → parsed bytes ≡ Some d
parsed_is bytes d utf8 there = rw (utf8) (there)

-- ---- opening brackets

under_bracket : {A B : Type 0} (f : A → Option B) (before : A → Json) (after : B → Data) → ((a : A) → of_json (before a) ≡ option_map after (f a))
    → (o : Option (A × List Token)) → converted of_json (parse_map before o) ≡ parse_map after (converted f o)
under_bracket {B = B} f before after same None = refl
under_bracket {B = B} f before after same (Some (a, ts)) = ap (option_map (λ d. (d, ts))) (same a) ∙ both (f a)
  where
    both : (o : Option B) → option_map {U = Data × List Token} (λ d. (d, ts)) (option_map after o) ≡ parse_map after (option_map {U = B × List Token} (λ b. (b, ts)) o)
    both None = refl
    both (Some b) = refl

pub converted-array : (o : Option (json.Items × List Token)) → converted of_json (parse_map json.array o) ≡ parse_map array (converted of_items o)
converted-array o = under_bracket of_items json.array array (λ a. refl) o

pub converted-object : (o : Option (json.Members × List Token)) → converted of_json (parse_map json.object o) ≡ parse_map object (converted (λ ms. of_members ms no_members) o)
converted-object o = under_bracket (λ ms. of_members ms no_members) json.object object (λ a. refl) o

-- ---- items

pub from_all : {A : Type 0} (o : Option (A × List Token)) → o ≡ parse_map (λ x. x) o
from_all None = refl
from_all (Some p) = refl

pub after_one_more : (made : Items → Items) (d : Data) (o : Option (Items × List Token)) → parse_map made (parse_map (item d) o) ≡ parse_map (λ ds. made (item d ds)) o
after_one_more made d None = refl
after_one_more made d (Some p) = refl

item_ahead : (j : Json) (d : Data) (o : Option (json.Items × List Token)) → of_json j ≡ Some d → converted of_items (parse_map (json.item j) o) ≡ parse_map (item d) (converted of_items o)
item_ahead j d None is = refl
item_ahead j d (Some (js, ts)) is = ap (λ x. option_map (λ b. (b, ts)) (option_and_then (λ e. option_map (item e) (of_items js)) x)) is ∙ ahead (of_items js)
  where
    ahead : (o : Option Items) → option_map (λ b. (b, ts)) (option_map (item d) o) ≡ parse_map (item d) (option_map (λ b. (b, ts)) o)
    ahead None = refl
    ahead (Some ds) = refl

member_ahead : (k : List ℕ) (j : Json) (d : Data) (found : Members) (o : Option (json.Members × List Token)) → of_json j ≡ Some d
    → converted (λ ms. of_members ms found) (parse_map (json.member k j) o) ≡ converted (λ ms. of_members ms (put k d found)) o
member_ahead k j d found None is = refl
member_ahead k j d found (Some (ms, ts)) is = ap (λ x. option_map (λ b. (b, ts)) (option_and_then (λ e. of_members ms (put k e found)) x)) is

module _ (p : Parse Json) where
  pub item_read : (n : ℕ) (ts rest : List Token) (d : Data) → 0 < n → after_end_array ts ≡ None → converted of_json (p ts) ≡ Some (d, rest)
      → converted of_items (items p n ts) ≡ parse_map (item d) (converted of_items (items p (n - 1) rest))
  item_read n ts rest d some going read =
      let made = made_of of_json (p ts) d rest read in
      ap (converted of_items) (items_more p n ts rest made.0 some going made.1) ∙ item_ahead made.0 d (items p (n - 1) rest) made.2

  pub items_over : (n : ℕ) (ts rest : List Token) → length ts ≤ n → after_end_array ts ≡ Some rest → converted of_items (items p n ts) ≡ Some (no_items, rest)
  items_over n ts rest enough over = ap (converted of_items) (items_end p n ts rest enough over)

  pub member_read : (found : Members) (n : ℕ) (k : List ℕ) (ts s rest : List Token) (d : Data) → 0 < n → read_key ts ≡ Some (Some k, s) → converted of_json (p s) ≡ Some (d, rest)
      → converted (λ ms. of_members ms found) (members p n ts) ≡ converted (λ ms. of_members ms (put k d found)) (members p (n - 1) rest)
  member_read found n k ts s rest d some named read =
      let made = made_of of_json (p s) d rest read in
      ap (converted (λ ms. of_members ms found)) (members_more p n k ts s rest made.0 some named made.1) ∙ member_ahead k made.0 d found (members p (n - 1) rest) made.2

  pub members_over : (found : Members) (n : ℕ) (ts rest : List Token) → length ts ≤ n → read_key ts ≡ Some (None, rest) → converted (λ ms. of_members ms found) (members p n ts) ≡ Some (found, rest)
  members_over found n ts rest enough over = ap (converted (λ ms. of_members ms found)) (members_end p n ts rest enough over)
