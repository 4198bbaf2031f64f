-- What a call of a spawner leaves.
use Rattle.std.specs.Prelude.{ℕ, Option, Some, Result, Ok, Err}
use Rattle.std.specs.declared.io.ErrorKind.{ErrorKind}
use Rattle.std.specs.declared.io.ErrorKind.TheVariants.{OutOfMemory}
use Rattle.cov_io.specs.declared.spawn.SpawnFault.{SpawnFault}
use Rattle.cov_io.specs.declared.spawn.SpawnFault.TheVariants.{Failed, NoMemory}

-- the status of the last call that answered Ok
abbrev pub status_after : {E : Type 0} → Option ℕ → Result ℕ E → Option ℕ
status_after before (Ok status) = Some status
status_after before (Err fault) = before

-- What an error of the system becomes.
abbrev pub spawn_fault : ErrorKind → SpawnFault
spawn_fault OutOfMemory = NoMemory
spawn_fault _ = Failed
