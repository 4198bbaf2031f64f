-- What is told of links that are made and handed back together.
use Rattle.std.specs.Prelude.{◌≡◌, ◌≤◌, ◌+◌, ◌⊎◌, ℕ, Bool, not, ◌==◌, List, [], ◌∷◌, ◌++◌, map, length, take, Option, option_map, All}
use Rattle.cov_io.specs.Causes.{Rose}
use Rattle.cov_io.specs.Links.{LinkState, NetState, IsNew, counted_if}
use Rattle.cov_io.specs.declared.link.LinkFault.{LinkFault}
use Rattle.cov_io.specs.declared.link.LinkFault.TheVariants.{Failed}

-- a told list with more items at its end, and at its head
abbrev pub ending_with_all : {A : Type 0} → List A → Option (List A) → Option (List A)
ending_with_all more told = option_map (λ xs. xs ++ more) told

abbrev pub beginning_with_all : {A : Type 0} → List A → Option (List A) → Option (List A)
beginning_with_all front told = option_map (λ xs. front ++ xs) told

-- A net at a moment: what it tells, and its count of faults.
pub record NetAt (L : Type 0) : Type 0 where
  pub state : NetState L
  pub faults : ℕ

abbrev pub net_at : {L : Type 0} → NetState L → ℕ → NetAt L
net_at state faults = record { state = state; faults = faults }

-- what the links of a net tell
pub record Telling (L : Type 0) : Type 0 where
  pub state : L → LinkState
  pub faults : L → ℕ

abbrev pub telling : {L : Type 0} → (L → LinkState) → (L → ℕ) → Telling L
telling state faults = record { state = state; faults = faults }

-- ---- handing back

-- these items are some of those, in their order
abbrev pub AreSomeOf : {A : Type 0} → List A → List A → Type 0
AreSomeOf some [] = some ≡ []
AreSomeOf some (x ∷ xs) = AreSomeOf some xs ⊎ ((rest : _) × (some ≡ x ∷ rest) × AreSomeOf rest xs)

-- a count that each of these cases raises
abbrev pub counted_all : List Bool → ℕ → ℕ
counted_all [] count = count
counted_all (case ∷ cases) count = counted_all cases (counted_if case count)

abbrev pub is_closed : {L : Type 0} → Telling L → L → Bool
is_closed tells link = (tells.state link).closed

abbrev pub has_failed : {L : Type 0} → Telling L → L → Bool
has_failed tells link = not (tells.faults link == 0)

-- All of the links were counted. Those for which there was memory stand, in order, in the list of the links handed back.
pub record Returned {L : Type 0} (tells : Telling L) (links : List L) (before now : NetAt L) : Type 0 where
  pub kept : List L
  pub some : AreSomeOf kept links
  pub back : now.state.back ≡ ending_with_all kept before.state.back
  pub closed : now.state.closed ≡ counted_all (map (is_closed tells) links) before.state.closed
  pub faults : now.faults ≡ counted_all (map (has_failed tells) links) before.faults
  pub coming : now.state.coming ≡ before.state.coming
  pub dialled : now.state.dialled ≡ before.state.dialled
  pub port : now.state.port ≡ before.state.port

-- ---- making

-- These links were made, in order, and are new. These places were dialled for them.
pub record Made {L : Type 0} (tells : Telling L) (places : List (List ℕ)) (before now : NetAt L) (links : List L) : Type 0 where
  pub fresh : All (λ link. IsNew (tells.state link) (tells.faults link)) links
  pub coming : before.state.coming ≡ beginning_with_all links now.state.coming
  pub dialled : now.state.dialled ≡ ending_with_all places before.state.dialled
  pub back : now.state.back ≡ before.state.back
  pub port : now.state.port ≡ before.state.port
  pub closed : now.state.closed ≡ before.state.closed
  pub faults : now.faults ≡ before.faults

-- One of so many links, for which these places were to be dialled, wasn't made. After a failure all links that were made before it
-- were handed back, in order, and its place was the last that was dialled. Without memory some of them may have been dropped.
pub record Unmade {L : Type 0} (count : ℕ) (places : List (List ℕ)) (before now : NetAt L) (fault : LinkFault) : Type 0 where
  pub made : List L
  pub few : length made ≤ count
  pub coming : before.state.coming ≡ beginning_with_all made now.state.coming
  pub tried : ℕ
  pub tries : tried ≤ length made + 1
  pub dialled : now.state.dialled ≡ ending_with_all (take tried places) before.state.dialled
  pub kept : List L
  pub some : AreSomeOf kept made
  pub back : now.state.back ≡ ending_with_all kept before.state.back
  pub port : now.state.port ≡ before.state.port
  pub closed : now.state.closed ≡ before.state.closed
  pub later : before.faults ≤ now.faults
  pub next : fault ≡ Failed → tried ≡ length made + 1
  pub whole : fault ≡ Failed → kept ≡ made
  pub rose : fault ≡ Failed → Rose before.faults now.faults
