use Rattle.std.proofs.Common.{◌∙◌, ap}
use Rattle.istanbul_rules.specs.File as file
use Rattle.istanbul_rules.proofs.Keyed.{part_on}
use Rattle.istanbul_rules.proofs.file.functions_in.Goals as goal

pub loop-part-preserved : goal.loop-part-preserved
loop-part-preserved c = record {
  value = part_on file.function (file.is_function_on c.args.off.now) (λ part. part.functions) c.args.parts.now c.loop-part.part-index c.part-item.result c.as_slice.result.now
      c.loop-part.functions c.add_functions.new.functions _ c.loop-part-test.true (c.as_slice.ensures ∙ ap (λ part. part.functions) c.part-item.is) c.in_ok-add_functions.ensures.value c.loop-part.invariant.value;
  bound = c.in_ok-add_functions.ensures.bound;
}
