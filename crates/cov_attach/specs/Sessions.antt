-- What sessions do to their links, and what they answer.
use Rattle.std.specs.Prelude.{◌≡◌, ℕ, ◌≤◌, Bool, true, List, ◌++◌, length, take, drop, Option, Some, option_map, Result, Ok, Err}
use Rattle.cov_model.specs.declared.snapshot.Snapshot.{Snapshot}
use Rattle.cov_io.specs.Told.{WhereTold}
use Rattle.cov_io.specs.Links.{LinkState}
use Rattle.cov_session.specs.Script.{run_heard, run_sent}
use Rattle.cov_attach.specs.declared.fault.AttachFault.{AttachFault}
use Rattle.cov_attach.specs.declared.fault.AttachFault.TheVariants.{Failed, Closed, Peer, NoMemory}
use Rattle.cov_attach.specs.Runs.{run_end}

-- A call answers the end of a run, unless the link failed or memory ran out.
abbrev pub FaultOf : {A : Type 0} → AttachFault → Result A AttachFault → Type 0
FaultOf Failed end = Unit {0}
FaultOf NoMemory end = Unit {0}
FaultOf Closed end = end ≡ Err Closed
FaultOf (Peer message why) end = end ≡ Err (Peer message why)

abbrev pub Answers : {A : Type 0} → Result A AttachFault → Result A AttachFault → Type 0
Answers (Ok taken) end = end ≡ Ok taken
Answers (Err fault) end = FaultOf fault end

-- How much was done of what a run does: all, or less where the link failed or memory ran out.
abbrev pub PartOf : {A : Type 0} → Result A AttachFault → ℕ → ℕ → Type 0
PartOf (Ok taken) done all = done ≡ all
PartOf (Err Failed) done all = done ≤ all
PartOf (Err NoMemory) done all = done ≤ all
PartOf (Err Closed) done all = done ≡ all
PartOf (Err (Peer message why)) done all = done ≡ all

-- the texts received are taken out of those to come
abbrev pub TakesOut : {A : Type 0} → Result A AttachFault → ℕ → List (List ℕ) → Option (List (List ℕ)) → Type 0
TakesOut result all texts now = (done : ℕ) × PartOf result done all × (now ≡ Some (drop done texts))

-- a told list with more at its end
abbrev pub ahead_of : {A : Type 0} → List A → Option (List A) → Option (List A)
ahead_of more told = option_map (λ xs. xs ++ more) told

-- the texts sent join those that were sent
abbrev pub PutsIn : {A : Type 0} → Result A AttachFault → List (List ℕ) → Option (List (List ℕ)) → Option (List (List ℕ)) → Type 0
PutsIn result all before now = (done : ℕ) × PartOf result done (length all) × (now ≡ ahead_of (take done all) before)

abbrev pub closed_by : {A : Type 0} → Bool → Result A AttachFault → Bool
closed_by before (Ok taken) = before
closed_by before (Err Failed) = before
closed_by before (Err NoMemory) = before
closed_by before (Err Closed) = true
closed_by before (Err (Peer message why)) = before

-- A session over a link. Where the link tells its texts, it is the run on the texts to come.
pub record IsSession (takes : ℕ) (before now : LinkState) (result : Result (List Snapshot) AttachFault) : Type 0 where
  pub answer : WhereTold before.coming (λ texts. Answers result (run_end takes texts))
  pub received : WhereTold before.coming (λ texts. TakesOut result (length (run_heard takes texts)) texts now.coming)
  pub sent : WhereTold before.coming (λ texts. PutsIn result (run_sent takes texts) before.sent now.sent)
  pub closed : now.closed ≡ closed_by before.closed result
