use Rattle.std.proofs.Common.{ap, ◌∙◌}
use Rattle.std.specs.Prelude.{is_none, not}
use Rattle.cov_model.specs.Nesting.{innermost}
use Rattle.cov_ranges.proofs.Nested.{innermost-root}
use Rattle.cov_ranges.proofs.count.count_at.Goals as goal

pub returns-clause-root : goal.returns-clause-root
returns-clause-root c =
    ap not c.map.ensures.variant ∙ ap is_none c.innermost_at.ensures
    ∙ ap (λ ranges. is_none (innermost ranges c.args.offset)) c.as_slice.ensures ∙ innermost-root c.args.report.now.ranges c.args.offset c.requires
