-- JSON texts and values, in the words that the readers and the writers of all formats share.
use Rattle.std.specs.Prelude.{ℕ, ◌^◌, List, [], ◌∷◌, nat_lt, if◌then◌else◌, Option, None, Some, option_and_then, Result, Ok, Err}
use Rattle.std.specs.Str.{is_utf8}
use Rattle.serde_json.specs.Data.{Data, Items, no_items, item}
use Rattle.serde_json.specs.Read.{read}
use Rattle.serde_json.specs.Find.{as_number, as_u64}

-- A step that fails ends the reading.
infixl 10 ◌>>=◌
abbrev pub ◌>>=◌ : {A B E : Type 0} → Result A E → (A → Result B E) → Result B E
(Ok x) >>= f = f x
(Err e) >>= f = Err e

-- what is there, or else the fault
abbrev pub or_fault : {A E : Type 0} → E → Option A → Result A E
or_fault e None = Err e
or_fault e (Some x) = Ok x

-- the JSON value of a text
abbrev pub parsed : List ℕ → Option Data
parsed bytes = if is_utf8 bytes then read bytes else None

-- a whole number of at most 64 bits, written without a fraction or an exponent
abbrev pub whole : Data → Option ℕ
whole d = option_and_then as_u64 (as_number d)

-- a whole number of at most 32 bits
abbrev pub offset_of : Data → Option ℕ
offset_of d = option_and_then (λ n. if nat_lt n (2 ^ 32) then Some n else None) (whole d)

-- a list, each item by what shows it
abbrev pub array_of : {A : Type 0} → (A → Data) → List A → Items
array_of data_of [] = no_items
array_of data_of (x ∷ xs) = item (data_of x) (array_of data_of xs)
