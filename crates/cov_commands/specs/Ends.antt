-- How a command ends, and what it then leaves.
use Rattle.std.specs.Prelude.{◌≡◌, ◌++◌, ◌∷◌, ℕ, List, [], codes, decimal}
use Rattle.cov_io.specs.Causes.{Rose}
use Rattle.cov_io.specs.declared.store.StoreFault.{StoreFault}
use Rattle.cov_io.specs.declared.store.StoreFault.TheVariants as store
use Rattle.cov_io.specs.declared.store.StoreFault.TheVariants.{Failed, Absent}
use Rattle.cov_commands.specs.declared.ended.Ended.{Ended}
use Rattle.cov_commands.specs.declared.ended.Ended.TheVariants.{Done, Different, Below, Usage, SomeRefused, ReadFault, WriteFault, SpawnFault, LinkFault, PeerFault, Child, NoMemory}

-- it came to its end
abbrev pub IsFinished : Ended → Type 0
IsFinished Done = Unit {0}
IsFinished Different = Unit {0}
IsFinished Below = Unit {0}
IsFinished Usage = ⊥
IsFinished SomeRefused = Unit {0}
IsFinished ReadFault = ⊥
IsFinished WriteFault = ⊥
IsFinished SpawnFault = ⊥
IsFinished LinkFault = ⊥
IsFinished (PeerFault session message) = ⊥
IsFinished (Child status) = Unit {0}
IsFinished NoMemory = ⊥

-- it came to its end, or there was no memory for it
abbrev pub IsFinishedOrShort : Ended → Type 0
IsFinishedOrShort Done = Unit {0}
IsFinishedOrShort Different = Unit {0}
IsFinishedOrShort Below = Unit {0}
IsFinishedOrShort Usage = ⊥
IsFinishedOrShort SomeRefused = Unit {0}
IsFinishedOrShort ReadFault = ⊥
IsFinishedOrShort WriteFault = ⊥
IsFinishedOrShort SpawnFault = ⊥
IsFinishedOrShort LinkFault = ⊥
IsFinishedOrShort (PeerFault session message) = ⊥
IsFinishedOrShort (Child status) = Unit {0}
IsFinishedOrShort NoMemory = Unit {0}

-- the line of a peer's fault
abbrev pub peer_line : ℕ → ℕ → List ℕ
peer_line session message = codes "fault: peer, session " ++ (decimal session ++ (codes " message " ++ (decimal message ++ 10 ∷ [])))

-- the last line on the error sink of a command that didn't
abbrev pub last_line : Ended → List ℕ
last_line Done = []
last_line Different = []
last_line Below = []
last_line Usage = codes "usage: merge same normal report check make collect serve attach run upgrade\n"
last_line SomeRefused = []
last_line ReadFault = codes "fault: read\n"
last_line WriteFault = codes "fault: write\n"
last_line SpawnFault = codes "fault: child\n"
last_line LinkFault = codes "fault: link\n"
last_line (PeerFault session message) = peer_line session message
last_line (Child status) = []
last_line NoMemory = codes "fault: memory\n"

-- this line where it is a fixed text, which needs no memory
abbrev pub fixed_line : Ended → List ℕ
fixed_line Done = last_line Done
fixed_line Different = last_line Different
fixed_line Below = last_line Below
fixed_line Usage = last_line Usage
fixed_line SomeRefused = last_line SomeRefused
fixed_line ReadFault = last_line ReadFault
fixed_line WriteFault = last_line WriteFault
fixed_line SpawnFault = last_line SpawnFault
fixed_line LinkFault = last_line LinkFault
fixed_line (PeerFault session message) = []
fixed_line (Child status) = last_line (Child status)
fixed_line NoMemory = last_line NoMemory

-- this line where it isn't
abbrev pub made_line : Ended → List ℕ
made_line Done = []
made_line Different = []
made_line Below = []
made_line Usage = []
made_line SomeRefused = []
made_line ReadFault = []
made_line WriteFault = []
made_line SpawnFault = []
made_line LinkFault = []
made_line (PeerFault session message) = last_line (PeerFault session message)
made_line (Child status) = []
made_line NoMemory = []

-- how a fault of the store ends a command
abbrev pub IsEndedBy : StoreFault → Ended → Type 0
IsEndedBy Failed ended = ended ≡ ReadFault
IsEndedBy Absent ended = ended ≡ ReadFault
IsEndedBy store.NoMemory ended = ended ≡ NoMemory

-- what a fault says: the cause of each, and nothing of want of memory
abbrev pub HasWriteCause : ℕ → ℕ → Ended → Type 0
HasWriteCause before now Done = ⊥
HasWriteCause before now Different = ⊥
HasWriteCause before now Below = ⊥
HasWriteCause before now Usage = ⊥
HasWriteCause before now SomeRefused = ⊥
HasWriteCause before now ReadFault = ⊥
HasWriteCause before now WriteFault = Rose before now
HasWriteCause before now SpawnFault = ⊥
HasWriteCause before now LinkFault = ⊥
HasWriteCause before now (PeerFault session message) = ⊥
HasWriteCause before now (Child status) = ⊥
HasWriteCause before now NoMemory = Unit {0}
