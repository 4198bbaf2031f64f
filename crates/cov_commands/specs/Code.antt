-- The numbers that the program ends with, by which a caller tells its answers.
use Rattle.std.specs.Prelude.{ℕ}
use Rattle.cov_commands.specs.declared.ended.Ended.{Ended}
use Rattle.cov_commands.specs.declared.ended.Ended.TheVariants.{Done, Different, Below, Usage, SomeRefused, ReadFault, WriteFault, SpawnFault, LinkFault, PeerFault, Child, NoMemory}

abbrev pub code_of : Ended → ℕ
code_of Done = 0
code_of Different = 1
code_of Below = 1
code_of Usage = 2
code_of SomeRefused = 3
code_of ReadFault = 4
code_of WriteFault = 5
code_of NoMemory = 6
code_of LinkFault = 7
code_of (PeerFault session message) = 8
code_of SpawnFault = 9
code_of (Child status) = status
