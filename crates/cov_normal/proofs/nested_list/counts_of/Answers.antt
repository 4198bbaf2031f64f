use Rattle.std.proofs.Common.{ap, ◌∙◌}
use Rattle.cov_model.specs.Nesting.{range_fault}
use Rattle.cov_normal.proofs.nested_list.counts_of.Goals as goal

pub of-requires : goal.of-requires
of-requires c = ap range_fault c.in_ok-report.ensures ∙ c.requires
