use Rattle.snapshot_reader.proofs.Whole.{text_top, top_nests, top_is, maps_are}
use Rattle.snapshot_reader.proofs.bytes.fast_text.Goals as goal

pub snapshot_in-requires : goal.snapshot_in-requires
snapshot_in-requires c =
    let top = text_top c.args.bytes.now c.in_ok-found.found c.in_ok-found.ensures.value in
    top_nests top.0 c.in_ok-found.found.top top.2

pub returns-clause-snapshot : goal.returns-clause-snapshot
returns-clause-snapshot c =
    let found = c.in_ok-found.found in
    top_is c.args.bytes.now found.top c.in_ok-snapshot.snapshot c.in_ok-found.ensures.short (text_top c.args.bytes.now found c.in_ok-found.ensures.value) c.in_ok-snapshot.ensures

pub returns-clause-maps : goal.returns-clause-maps
returns-clause-maps c = maps_are c.args.bytes.now c.in_ok-found.found c.in_ok-found.ensures.value
