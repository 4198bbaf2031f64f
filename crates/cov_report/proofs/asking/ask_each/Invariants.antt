use Rattle.std.proofs.Common.{◌≡◌, ◌≤◌, List, ◌++◌, take, map}
use Rattle.std.specs.Prelude.{Some}
use Rattle.cov_io.specs.Told.{Files}
use Rattle.cov_report.specs.Wanted.{Asked}
use Rattle.cov_report.specs.Gathering.{Gathers}
use Rattle.cov_report.specs.Counting.{HasCounted}
use Rattle.cov_report.proofs.Asked.{sources_to}
use Rattle.cov_report.proofs.asking.ask_each.Given as goal

-- what was asked for so far is gathered, and the store has counted its faults
abbrev pub invariant-loop-k : goal.invariant-loop-k
invariant-loop-k g l =
    record {
      gathers : (told : Files) → g.S.Store.files l.fn.store ≡ Some told → (earlier : List Asked) → Gathers told earlier l.fn.gathered → Gathers told (earlier ++ sources_to l.script l.good l.k) l.gathered;
      counted : HasCounted (g.S.Store.files l.fn.store) (g.S.Store.faults l.fn.store) (g.S.Store.faults l.store) l.fn.gathered.skips l.gathered.skips;
      later : g.S.Store.faults l.fn.store ≤ g.S.Store.faults l.store;
      files : g.S.Store.files l.store ≡ g.S.Store.files l.fn.store;
      folders : g.S.Store.folders l.store ≡ g.S.Store.folders l.fn.store;
    }
