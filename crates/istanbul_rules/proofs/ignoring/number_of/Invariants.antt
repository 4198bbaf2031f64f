use Rattle.std.proofs.Common.{◌≡◌}
use Rattle.std.proofs.Common.{◌+◌, ◌-◌, ◌*◌, ◌^◌, ◌<◌, drop}
use Rattle.std.specs.Prelude.{fold}
use Rattle.istanbul_rules.specs.Ignored.{spelt}
use Rattle.istanbul_rules.proofs.ignoring.number_of.Given as goal

abbrev pub invariant-loop-digit : goal.invariant-loop-digit
invariant-loop-digit l = record {
  value : fold (λ n d. 10 * n + (d - 48)) l.number (drop l.digit-index l.digits) ≡ spelt l.digits;
  small : l.number < 10 ^ l.digit-index;
}
