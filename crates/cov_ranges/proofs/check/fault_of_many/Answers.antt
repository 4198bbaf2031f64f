use Rattle.std.proofs.Common.{◌∙◌}
use Rattle.cov_ranges.proofs.Longest.{Fronts, fault-behind, no-fault-behind}
use Rattle.cov_ranges.proofs.check.fault_of_many.Goals as goal

pub returns-then-place-ranges : goal.returns-then-place-ranges
returns-then-place-ranges c =
    let fronts : Fronts c.args.root c.args.ranges.now c.count_sound-sound.result c.in_ok-place.place =
    record { firmly = c.count_sound-sound.ensures; freely = c.in_ok-place.ensures } in
    c.fault_of.ensures
    ∙ fault-behind c.args.root c.args.ranges.now c.count_sound-sound.result c.in_ok-place.place (record { start = 0; end = 0; count = 0 }) fronts c.if-place-ranges.true

pub returns-else-place-ranges : goal.returns-else-place-ranges
returns-else-place-ranges c =
    let fronts : Fronts c.args.root c.args.ranges.now c.count_sound-sound.result c.in_ok-place.place =
    record { firmly = c.count_sound-sound.ensures; freely = c.in_ok-place.ensures } in
    no-fault-behind c.args.root c.args.ranges.now c.count_sound-sound.result c.in_ok-place.place fronts c.if-place-ranges.false
