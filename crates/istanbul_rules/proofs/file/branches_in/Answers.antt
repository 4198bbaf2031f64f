use Rattle.std.proofs.Common.{◌∙◌, ap}
use Rattle.istanbul_rules.specs.File as file
use Rattle.istanbul_rules.proofs.Keyed.{part_on}
use Rattle.istanbul_rules.proofs.file.branches_in.Goals as goal

pub loop-part-preserved : goal.loop-part-preserved
loop-part-preserved c = record {
  value = part_on file.branch (file.is_branch_on c.args.off.now) (λ part. part.branches) c.args.parts.now c.loop-part.part-index c.part-item.result c.as_slice.result.now
      c.loop-part.branches c.add_branches.new.branches _ c.loop-part-test.true (c.as_slice.ensures ∙ ap (λ part. part.branches) c.part-item.is) c.in_ok-add_branches.ensures.value c.loop-part.invariant.value;
  bound = c.in_ok-add_branches.ensures.bound;
}
