use Rattle.std.proofs.Common.{◌≡◌, map}
use Rattle.std.specs.Map.Iter.{deref_pair}
use Rattle.cov_report.specs.Gathering.{coverage_at}
use Rattle.cov_report.proofs.files.coverage_of.Given as goal

abbrev pub invariant-loop-path : goal.invariant-loop-path
invariant-loop-path l = l.list ≡ map coverage_at (map deref_pair l.yielded)
