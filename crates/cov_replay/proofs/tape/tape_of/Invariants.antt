use Rattle.std.proofs.Common.{◌≡◌, take, map}
use Rattle.std.specs.Prelude.{Some, string_bytes}
use Rattle.cov_io.specs.Told.{Files}
use Rattle.cov_book.specs.Stands.{StandsFor}
use Rattle.cov_replay.specs.Taping.{HasTaped}
use Rattle.cov_replay.proofs.tape.tape_of.Given as goal

-- the texts among the names so far were taken, and the store has not failed
abbrev pub invariant-loop-name : goal.invariant-loop-name
invariant-loop-name g l =
    record {
      stands : StandsFor l.book l.tape.snapshots.items;
      taped : (files : Files) → g.S.Store.files l.fn.store ≡ Some files → HasTaped l.folder files (map string_bytes (take l.name-index l.name-items)) l.tape;
      faults : g.S.Store.faults l.store ≡ g.S.Store.faults l.fn.store;
      files : g.S.Store.files l.store ≡ g.S.Store.files l.fn.store;
      folders : g.S.Store.folders l.store ≡ g.S.Store.folders l.fn.store;
    }
