use Rattle.istanbul_rules.specs.declared.painting.Stretch.{Stretch}
use Rattle.istanbul_rules.proofs.Lists.{walked}
use Rattle.istanbul_rules.proofs.painting.repeat.Goals as goal

abbrev nowhere : Stretch
nowhere = record { start = 0; end = 0 }

pub loop-stretch-preserved : goal.loop-stretch-preserved
loop-stretch-preserved c =
    walked (λ (s : Stretch). c.args.count) c.args.stretches.now c.loop-stretch._stretch-index nowhere c.loop-stretch.counts.items c.push.new.self.items _
    c.loop-stretch-test.true c.in_ok-push.ensures.items c.loop-stretch.invariant
