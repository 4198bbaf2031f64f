use Rattle.std.proofs.Common.{arith}
use Rattle.istanbul_rules.proofs.Comments.{number_fits}
use Rattle.istanbul_rules.proofs.ignoring.number_of.Goals as goal

pub overflow_mul-number : goal.overflow_mul-number
overflow_mul-number c =
    let h = number_fits c.args.digits.now c.loop-digit.number c.loop-digit.digit-index c.requires.are_digits c.requires.few c.loop-digit-test.true c.loop-digit.invariant.small in
    omega arith

pub overflow_add-number : goal.overflow_add-number
overflow_add-number c =
    let h = number_fits c.args.digits.now c.loop-digit.number c.loop-digit.digit-index c.requires.are_digits c.requires.few c.loop-digit-test.true c.loop-digit.invariant.small in
    omega arith
