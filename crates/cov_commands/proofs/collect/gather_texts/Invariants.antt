use Rattle.std.proofs.Common.{◌≡◌, take, map}
use Rattle.std.specs.Prelude.{Some, string_bytes}
use Rattle.cov_io.specs.Told.{Files}
use Rattle.cov_commands.specs.Gathering.{HasGathered}
use Rattle.cov_commands.proofs.collect.gather_texts.Given as goal

-- the texts among the names so far were handed on, and the store has not failed
abbrev pub invariant-loop-name : goal.invariant-loop-name
invariant-loop-name g l =
    record {
      taken : (files : Files) → g.S.Store.files l.fn.store ≡ Some files → HasGathered l.folder files (map string_bytes (take l.name-index l.name-items)) l.gathered;
      faults : g.S.Store.faults l.store ≡ g.S.Store.faults l.fn.store;
      files : g.S.Store.files l.store ≡ g.S.Store.files l.fn.store;
      folders : g.S.Store.folders l.store ≡ g.S.Store.folders l.fn.store;
    }
