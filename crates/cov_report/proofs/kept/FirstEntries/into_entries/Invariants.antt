use Rattle.std.proofs.Common.{◌≡◌, ◌++◌, map}
use Rattle.source_maps.specs.Entries.{said}
use Rattle.cov_report.proofs.Keeping.{said_pair}
use Rattle.cov_report.proofs.kept.FirstEntries.into_entries.Given as goal

-- the entries made so far, and those that are left, are all
abbrev pub invariant-loop-url : goal.invariant-loop-url
invariant-loop-url l = map said l.entries.items ++ map said_pair l.url-iterator ≡ map said_pair l.fn.self.bodies.entries
