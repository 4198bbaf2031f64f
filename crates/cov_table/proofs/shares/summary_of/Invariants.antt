use Rattle.std.proofs.Common.{◌≡◌, drop}
use Rattle.cov_table.specs.Shares.{summary}
use Rattle.cov_table.specs.Adding.{with_files}
use Rattle.cov_table.proofs.shares.summary_of.Given as goal

abbrev pub invariant-loop-file : goal.invariant-loop-file
invariant-loop-file l = with_files l.all (drop l.file-index l.files) ≡ summary l.files
