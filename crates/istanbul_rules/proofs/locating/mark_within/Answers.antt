use Rattle.istanbul_rules.proofs.Lines.{place_line}
use Rattle.istanbul_rules.proofs.locating.mark_within.Goals as goal

pub mark_at-requires : goal.mark_at-requires
mark_at-requires c = place_line c.args.table.now c.min.result c.in_ok-spot.spot c.in_ok-spot.ensures.spot
