-- What an error of the system becomes.
use Rattle.std.specs.declared.io.ErrorKind.{ErrorKind}
use Rattle.std.specs.declared.io.ErrorKind.TheVariants.{NotFound, NotADirectory, IsADirectory, FilesystemLoop, InvalidFilename, InvalidInput, OutOfMemory}
use Rattle.cov_io.specs.declared.store.StoreFault.{StoreFault}
use Rattle.cov_io.specs.declared.store.StoreFault.TheVariants.{Failed, Absent, NoMemory}

-- An error while what was found is read.
abbrev pub fault_within : ErrorKind → StoreFault
fault_within OutOfMemory = NoMemory
fault_within _ = Failed

-- An error on the way to what a path names. Nothing is there where a part of the path is missing or no folder, where a name is too
-- long or holds a NUL, and where links lead in a circle.
abbrev pub fault_on_way : ErrorKind → StoreFault
fault_on_way NotFound = Absent
fault_on_way NotADirectory = Absent
fault_on_way IsADirectory = Absent
fault_on_way InvalidFilename = Absent
fault_on_way InvalidInput = Absent
fault_on_way FilesystemLoop = Absent
fault_on_way kind = fault_within kind
