-- What words ask, by what clap finds in them.
use Rattle.std.proofs.Common.{◌≡◌, true, List, [], ◌∷◌, refl, sym, ap, ◌∙◌, subst, inl, inr}
use Rattle.std.specs.Prelude.{Option, None, ◌⊎◌}
use Rattle.clap.specs.Words.{App, IsAmong, Kinds, Row, Text, is_simple, is_simple_and_free, matches_of}
use Rattle.clap.specs.Faults.{fault_of, is_free_app}
use Rattle.clap.specs.Simple.{built}
use Rattle.clap.proofs.WalkLemmas.{both}
use Rattle.clap.specs.declared.error.kind.ErrorKind.{ErrorKind}
use Rattle.clap.specs.declared.error.kind.ErrorKind.TheVariants.{OutOfMemory}
use Rattle.cov_words.specs.Asked.{Finds, FindsNone, asked, unless_fault}

-- no step of the parse fails
pub asked-found : {C : Type 0} (app : App) (words : List Text) (rows : List Row) → Finds app words rows
    → (read : List Row → Option C) → asked app read words ≡ read rows
unfolding asked
asked-found app words rows finds read =
    ap (λ (kinds : Kinds). unless_fault kinds (read (matches_of app words))) finds.0 ∙ ap read (sym finds.1)

-- a step of the parse fails
pub asked-none : {C : Type 0} (app : App) (words : List Text) → FindsNone app words → (read : List Row → Option C) → asked app read words ≡ None
unfolding asked
asked-none {C} app words some read = by (fault_of app words) some
  where
    by : (kinds : Kinds) → (kinds ≡ [] → ⊥) → unless_fault kinds (read (matches_of app words)) ≡ None
    by [] some = absurd (some refl)
    by (kind ∷ kinds) some = refl

-- the parse fails, and not for want of memory
pub refused : (app : App) (words : List Text) (kind : ErrorKind) → (kind ≡ OutOfMemory → ⊥) → (kind ≡ OutOfMemory) ⊎ IsAmong kind (fault_of app words)
    → FindsNone app words
refused app words kind other (inl memory) = absurd (other memory)
refused app words kind other (inr among) = λ none. subst (λ (kinds : Kinds). IsAmong kind kinds) none among

pub simple-of : (app : App) → is_simple_and_free app ≡ true → is_simple app ≡ true
simple-of app e = (both (is_simple app) (is_free_app (built app)) e).0
