use Rattle.serde_json.specs.Data.{object}
use Rattle.json_walk.proofs.Reading.{if_some_weaker}
use Rattle.snapshot_reader.proofs.Snapshots.{entry_is}
use Rattle.snapshot_reader.proofs.script.FoundScriptListed.read.Goals as goal

pub returns-clause-ok : goal.returns-clause-ok
returns-clause-ok c =
    let read = c.in_ok-found.ensures.ok in
    if_some_weaker c.entry_in.result (λ x is. (object read.0, read.1, entry_is read.0 c.in_ok-found.found x read.2 is.0 is.1)) c.entry_in.ensures
