use Rattle.json_walk.proofs.Reading.{if_some_weaker}
use Rattle.snapshot_reader.proofs.Whole.{top_nests, top_is}
use Rattle.snapshot_reader.proofs.bytes.fast_reading.Goals as goal

pub snapshot_in-requires : goal.snapshot_in-requires
snapshot_in-requires c = top_nests c.in_ok-found.ensures.value.0 c.in_ok-found.found c.in_ok-found.ensures.value.2

pub returns : goal.returns
returns c = if_some_weaker c.snapshot_in.result (λ s is. top_is c.args.bytes.now c.in_ok-found.found s c.in_ok-found.ensures.short c.in_ok-found.ensures.value is) c.snapshot_in.ensures
