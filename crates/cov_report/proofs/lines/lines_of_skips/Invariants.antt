use Rattle.std.proofs.Common.{◌≡◌, take}
use Rattle.cov_report.specs.Texts as texts
use Rattle.cov_report.proofs.lines.lines_of_skips.Given as goal

abbrev pub invariant-loop-skip : goal.invariant-loop-skip
invariant-loop-skip l = l.lines.items ≡ texts.skip_lines (take l.skip-index l.skips)
