-- Lists, element by element, and as JSON.
use Rattle.std.proofs.Common.{◌≡◌, ℕ, suc, ◌+◌, ◌<◌, ◌≤◌, nat_lt, length, get_or, drop, add-one, rules, Bool, true, false, List, [], ◌∷◌, ◌++◌, codes, refl, sym, ap, ◌∙◌}
use Rattle.std.proofs.Math.Seq.{drop-cons}
use Rattle.std.proofs.lemmas.List.{append_assoc, drop_all}
use Rattle.json_shapes.specs.Shapes.{array_of}
use Rattle.serde_json.specs.Data.{Data, item}
use Rattle.serde_json.specs.Written.{comma_if, compact_text, items_text}
use Rattle.json_pieces.specs.Joined.{joined, listed}

-- ---- one more, and the end

later : (k : ℕ) → nat_lt 0 (k + 1) ≡ true
later k = search rules

module _ {A : Type 0} (text_at : ℕ → A → List ℕ) where
  pub one-more : (xs : List A) (k : ℕ) (x : A) → k < length xs → x ≡ get_or xs k x
      → joined text_at (nat_lt 0 k) k (drop k xs) ≡ comma_if (nat_lt 0 k) ++ (text_at k x ++ joined text_at (nat_lt 0 (k + 1)) (k + 1) (drop (k + 1) xs))
  one-more xs k x below is =
      ap (joined text_at (nat_lt 0 k) k) (drop-cons xs k x below ∙ ap (λ y. y ∷ drop (suc k) xs) (sym is))
      ∙ ap (λ n. comma_if (nat_lt 0 k) ++ (text_at k x ++ joined text_at true n (drop n xs))) (sym (add-one k))
      ∙ ap (λ b. comma_if (nat_lt 0 k) ++ (text_at k x ++ joined text_at b (k + 1) (drop (k + 1) xs))) (sym (later k))

  pub none-more : (xs : List A) (k : ℕ) → length xs ≤ k → joined text_at (nat_lt 0 k) k (drop k xs) ≡ []
  none-more xs k past = ap (joined text_at (nat_lt 0 k) k) (drop_all k xs past)

-- ---- a list as JSON

-- the texts of the elements, with the closing bracket
pub listed-text : {A : Type 0} (shown : ℕ → A → Data) (later : Bool) (k : ℕ) (xs : List A)
    → joined (λ k x. compact_text (shown k x)) later k xs ++ codes "]" ≡ items_text later (listed shown k xs)
listed-text shown later k [] = refl
listed-text shown later k (x ∷ xs) =
    let rest = joined (λ k x. compact_text (shown k x)) true (suc k) xs in
    append_assoc (comma_if later) (compact_text (shown k x) ++ rest) (codes "]")
    ∙ ap (λ t. comma_if later ++ t) (append_assoc (compact_text (shown k x)) rest (codes "]") ∙ ap (λ t. compact_text (shown k x) ++ t) (listed-text shown true (suc k) xs))

array-listed : {A : Type 0} (shown : A → Data) (k : ℕ) (xs : List A) → listed (λ _ x. shown x) k xs ≡ array_of shown xs
array-listed shown k [] = refl
array-listed shown k (x ∷ xs) = ap (item (shown x)) (array-listed shown (suc k) xs)

pub array-text : {A : Type 0} (shown : A → Data) (xs : List A) → joined (λ _ x. compact_text (shown x)) false 0 xs ++ codes "]" ≡ items_text false (array_of shown xs)
array-text shown xs = listed-text (λ _ x. shown x) false 0 xs ∙ ap (items_text false) (array-listed shown 0 xs)
