-- Values that were made of the items of a list, in order.
use Rattle.std.proofs.Common.{◌≡◌, false, true≢false, List, [], ◌∷◌, ◌++◌, sym, ap, ◌∙◌, append_assoc, append-nil}
use Rattle.std.specs.Prelude.{Result, Ok, Err, is_ok, is_err, if◌then◌else◌}
use Rattle.serde_json.specs.Data.{Items, no_items, item}
use Rattle.serde_json.specs.View.{view, items_view}
use Rattle.serde_json.specs.declared.value.Value.{Value}

-- What is left goes behind what was made, as the items that are left go behind those that are gone.
abbrev pub GoesBehind : List Value → (Items → Items) → Type 0
GoesBehind found made = (vs : List Value) → items_view (found ++ vs) ≡ made (items_view vs)

pub none_made : (found : List Value) → found ≡ [] → GoesBehind found (λ ds. ds)
none_made found e vs = ap (λ xs. items_view (xs ++ vs)) e

pub one_more_made : (found new : List Value) (made : Items → Items) (v : Value) → new ≡ found ++ v ∷ [] → GoesBehind found made → GoesBehind new (λ ds. made (item (view v) ds))
one_more_made found new made v e behind vs = ap (λ xs. items_view (xs ++ vs)) e ∙ ap items_view (append_assoc found (v ∷ []) vs) ∙ behind (v ∷ vs)

pub all_made : (found : List Value) (made : Items → Items) → GoesBehind found made → made no_items ≡ items_view found
all_made found made behind = sym (behind []) ∙ ap items_view (append-nil found)

-- what a push that succeeded left
pub pushed_is : {A T E : Type 0} (r : Result T E) (now pushed old : A) → false ≡ is_err r → now ≡ (if is_ok r then pushed else old) → now ≡ pushed
pushed_is (Ok x) now pushed old e h = h
pushed_is (Err x) now pushed old e h = absurd (true≢false (sym e))
