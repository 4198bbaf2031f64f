use Rattle.std.proofs.Common.{map, rules}
use Rattle.source_maps.specs.Entries.{said}
use Rattle.cov_report.proofs.Keeping.{same-firsts}
use Rattle.cov_report.proofs.kept.FirstEntries.into_entries.Goals as goal

pub returns : goal.returns
returns c = λ all are. same-firsts c.args.self all (map said c.loop-url.entries.items) (search rules) are
