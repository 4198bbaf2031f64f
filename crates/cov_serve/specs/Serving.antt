-- A session from its beginning to its end.
use Rattle.std.specs.Prelude.{◌≡◌, ℕ, true, List, [], Result, Ok, Err, Option, None, Some}
use Rattle.cov_io.specs.declared.link.LinkFault.{LinkFault}
use Rattle.cov_io.specs.declared.link.LinkFault.TheVariants.{Failed}
use Rattle.cov_io.specs.Causes.{Rose}
use Rattle.cov_io.specs.Links.{LinkState}
use Rattle.cov_io.specs.Told.{WhereTold}
use Rattle.cov_model.specs.declared.snapshot.Snapshot.{Snapshot}
use Rattle.cov_session.specs.declared.session.Take.{Take}
use Rattle.cov_serve.specs.Seats.{Seated, Gains}
use Rattle.cov_serve.specs.Answering.{Went}

-- A session went until its link was closed, which didn't fail, and had these takes.
pub record Runs (tape : List Snapshot) (pace : ℕ) (before now : LinkState) (failed fails : ℕ) (seat left : Seated) (takes : List Take) : Type 0 where
  pub went : Went tape pace seat.session before now takes
  pub all : WhereTold now.coming (λ texts. texts ≡ [])
  pub closed : now.closed ≡ true
  pub sound : fails ≡ failed
  pub gains : Gains seat left takes

-- A session came to its end: by its link's, or by a fault, `Failed` only where the link failed.
abbrev pub Ends : List Snapshot → ℕ → LinkState → LinkState → ℕ → ℕ → Seated → Seated → Option (Result (List Take) LinkFault) → Type 0
Ends tape pace before now failed fails seat left None = ⊥
Ends tape pace before now failed fails seat left (Some (Ok takes)) = Runs tape pace before now failed fails seat left takes
Ends tape pace before now failed fails seat left (Some (Err fault)) = fault ≡ Failed → Rose failed fails
