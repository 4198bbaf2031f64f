use Rattle.serde_json.specs.Data.{object}
use Rattle.json_walk.proofs.Reading.{if_some_weaker}
use Rattle.snapshot_reader.proofs.Snapshots.{report_is}
use Rattle.snapshot_reader.proofs.function.FoundFunctionListed.read.Goals as goal

pub returns-clause-ok : goal.returns-clause-ok
returns-clause-ok c =
    let read = c.in_ok-found.ensures.ok in
    if_some_weaker c.report_in.result (λ x is. (object read.0, read.1, (report_is read.0 c.in_ok-found.found x read.2 is.0 is.1 is.2 is.3, is.3))) c.report_in.ensures
