-- What a chain of steps says once it has given a value.
use Rattle.std.proofs.Common.{◌≡◌, ◌⊎◌, inl, inr, refl, ap}
use Rattle.std.specs.Prelude.{Result, Ok, Err}
use Rattle.vlq_mappings.specs.declared.VlqFault.{VlqFault}
use Rattle.vlq_mappings.specs.Faults.{◌>>=◌}

pub record Bound {A B : Type 0} (r : Result A VlqFault) (f : A → Result B VlqFault) (y : B) : Type 0 where
  pub value : A
  pub first : r ≡ Ok value
  pub then : f value ≡ Ok y

pub bound : {A B : Type 0} (r : Result A VlqFault) (f : A → Result B VlqFault) (y : B) → (r >>= f) ≡ Ok y → Bound r f y
bound (Ok x) f y e = record { value = x; first = refl; then = e }
bound (Err d) f y e = cc

pub ok_same : {A : Type 0} (x y : A) → ◌≡◌ {A = Result A VlqFault} (Ok x) (Ok y) → x ≡ y
ok_same x y e = cc

pub bind_ok : {A B : Type 0} (r : Result A VlqFault) (f : A → Result B VlqFault) (x : A) → r ≡ Ok x → (r >>= f) ≡ f x
bind_ok r f x e = ap (λ t. t >>= f) e

-- a fault behind a first step that gave a value
pub record Went {A B : Type 0} (r : Result A VlqFault) (f : A → Result B VlqFault) (e : VlqFault) : Type 0 where
  pub value : A
  pub first : r ≡ Ok value
  pub then : f value ≡ Err e

pub bind_err : {A B : Type 0} (r : Result A VlqFault) (f : A → Result B VlqFault) (e : VlqFault) → (r >>= f) ≡ Err e → (r ≡ Err e) ⊎ Went r f e
bind_err (Ok x) f e h = inr (record { value = x; first = refl; then = h })
bind_err (Err d) f e h = inl (cc)
