-- The last line of a command.
use Rattle.std.proofs.Common.{◌≡◌, [], refl}
use Rattle.cov_commands.specs.declared.ended.Ended.{Ended}
use Rattle.cov_commands.specs.declared.ended.Ended.TheVariants.{Done, Different, Below, Usage, SomeRefused, ReadFault, WriteFault, SpawnFault, LinkFault, PeerFault, Child, NoMemory}
use Rattle.cov_commands.specs.Ends.{IsFinished, fixed_line, last_line, made_line}

pub finished-line : (ended : Ended) → IsFinished ended → last_line ended ≡ []
finished-line Done h = refl
finished-line Different h = refl
finished-line Below h = refl
finished-line Usage h = absurd h
finished-line SomeRefused h = refl
finished-line ReadFault h = absurd h
finished-line WriteFault h = absurd h
finished-line SpawnFault h = absurd h
finished-line LinkFault h = absurd h
finished-line (PeerFault session message) h = absurd h
finished-line (Child status) h = refl
finished-line NoMemory h = absurd h

-- a fixed line that isn't empty is the last line
pub fixed-is : (ended : Ended) → (fixed_line ended ≡ [] → ⊥) → fixed_line ended ≡ last_line ended
fixed-is Done some = refl
fixed-is Different some = refl
fixed-is Below some = refl
fixed-is Usage some = refl
fixed-is SomeRefused some = refl
fixed-is ReadFault some = refl
fixed-is WriteFault some = refl
fixed-is SpawnFault some = refl
fixed-is LinkFault some = refl
fixed-is (PeerFault session message) some = absurd (some refl)
fixed-is (Child status) some = refl
fixed-is NoMemory some = refl

-- and where it is empty, the other one is
pub made-is : (ended : Ended) → fixed_line ended ≡ [] → made_line ended ≡ last_line ended
made-is Done none = refl
made-is Different none = refl
made-is Below none = refl
made-is Usage none = absurd cc
made-is SomeRefused none = refl
made-is ReadFault none = absurd cc
made-is WriteFault none = absurd cc
made-is SpawnFault none = absurd cc
made-is LinkFault none = absurd cc
made-is (PeerFault session message) none = refl
made-is (Child status) none = refl
made-is NoMemory none = absurd cc
