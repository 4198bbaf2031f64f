-- The order of keys, and what holds of each file's coverage.
use Rattle.std.specs.Prelude.{◌≡◌, ℕ, List, length, ◌==◌, IsTrue}
use Rattle.std.specs.List.{list_all}
use Rattle.std.specs.declared.cmp.Ordering.{Ordering}
use Rattle.std.specs.Ordering.{nat_cmp, ordering_then}
use Rattle.cov_text.specs.Listing.{text_cmp, in_order}
use Rattle.istanbul_json.specs.declared.file.FileParts.{FileParts}

-- shorter keys first, and equally long ones in byte order
abbrev pub key_cmp : List ℕ → List ℕ → Ordering
key_cmp a b = ordering_then (nat_cmp (length a) (length b)) (text_cmp a b)

-- the elements in the order of their keys, each key once
abbrev pub by_key : {A : Type 0} → (A → List ℕ) → List A → List A
by_key key xs = in_order (λ x y. key_cmp (key x) (key y)) xs

-- the keys rise, and each branch has as many counts as locations
pub record IsKeyed (f : FileParts) : Type 0 where
  pub statements : by_key (λ s. s.key) f.statements ≡ f.statements
  pub functions : by_key (λ g. g.key) f.functions ≡ f.functions
  pub branches : by_key (λ b. b.key) f.branches ≡ f.branches
  pub counts : IsTrue (list_all (λ b. length b.counts == length b.locations) f.branches)
