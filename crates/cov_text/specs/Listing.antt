-- Words on lists that the other files share.
use Rattle.std.specs.Prelude.{Bool, ℕ, zero, suc, ◌-◌, ◌^◌, ◌||◌, ◌==◌, nat_eq, nat_lt, if◌then◌else◌, List, [], ◌∷◌, map, Option, None, Some, bytes_eq}
use Rattle.std.specs.List.{starts_with}
use Rattle.std.specs.declared.cmp.Ordering.{Ordering}
use Rattle.std.specs.Ordering.{nat_cmp}
use Rattle.std.specs.BTreeSet.{insert_key}
use Rattle.std.specs.Cmp.Lexicographic.{slice_cmp}

-- the first element, and the last
abbrev pub first_of : {A : Type 0} → List A → Option A
first_of [] = None
first_of (x ∷ xs) = Some x

abbrev pub last_of : {A : Type 0} → List A → Option A
last_of [] = None
last_of (x ∷ []) = Some x
last_of (x ∷ y ∷ ys) = last_of (y ∷ ys)

-- the last of these, or else x
abbrev pub last_or : {A : Type 0} → A → List A → A
last_or x [] = x
last_or x (y ∷ ys) = last_or y ys

-- n numbers from start on
abbrev pub counted : ℕ → ℕ → List ℕ
counted start zero = []
counted start (suc n) = start ∷ counted (suc start) n

-- the offsets from start up to but without end
abbrev pub offsets : ℕ → ℕ → List ℕ
offsets start end = counted start (end - start)

-- two texts are one
abbrev pub same_text : List ℕ → List ℕ → Bool
same_text a b = bytes_eq a b

-- the text begins with this front
abbrev pub begins_with : List ℕ → List ℕ → Bool
begins_with front text = starts_with nat_eq text front

-- how a text stands in a line: a control character is written as `?`
abbrev pub cleaned : List ℕ → List ℕ
cleaned bytes = map (λ b. if nat_lt b 32 || (b == 127) then 63 else b) bytes

-- byte order
abbrev pub text_cmp : List ℕ → List ℕ → Ordering
text_cmp = slice_cmp nat_cmp

-- the keys, with each of xs at its place unless it is there, as a `BTreeSet` inserts them
abbrev pub inserted : {A : Type 0} → (A → A → Ordering) → List A → List A → List A
inserted cmp keys [] = keys
inserted cmp keys (x ∷ xs) = inserted cmp (insert_key cmp keys x) xs

-- the elements, rising, each once
abbrev pub in_order : {A : Type 0} → (A → A → Ordering) → List A → List A
in_order cmp xs = inserted cmp [] xs

-- the greatest size of a text that is read, in bytes
abbrev pub max_text : ℕ
max_text = 134217728

-- the greatest count and the greatest sum
abbrev pub limit : ℕ
limit = 2 ^ 64 - 1
