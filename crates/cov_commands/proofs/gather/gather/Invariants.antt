use Rattle.std.proofs.Common.{◌≡◌, take, map}
use Rattle.std.specs.Prelude.{Some, string_bytes}
use Rattle.cov_io.specs.Told.{Files}
use Rattle.cov_commands.specs.Gather.{HasKept, HasTaken}
use Rattle.cov_commands.proofs.gather.gather.Given as goal

-- the texts among the names so far have been taken, and the store has not failed
abbrev pub invariant-loop-name : goal.invariant-loop-name
invariant-loop-name g l =
    record {
      taken : (files : Files) → g.S.Store.files l.fn.store ≡ Some files → HasTaken l.folder files (map string_bytes (take l.name-index l.name-items)) l.book l.merged;
      kept : (files : Files) → g.S.Store.files l.fn.store ≡ Some files → HasKept l.maps l.folder files (map string_bytes (take l.name-index l.name-items)) l.merged;
      faults : g.S.Store.faults l.store ≡ g.S.Store.faults l.fn.store;
      files : g.S.Store.files l.store ≡ g.S.Store.files l.fn.store;
      folders : g.S.Store.folders l.store ≡ g.S.Store.folders l.fn.store;
    }
