use Rattle.serde_json.specs.Data.{object}
use Rattle.json_walk.proofs.Reading.{if_some_weaker}
use Rattle.istanbul_json.proofs.Gathered.{loc_is}
use Rattle.istanbul_json.proofs.marks.LocListed.read.Goals as goal

pub returns-clause-ok : goal.returns-clause-ok
returns-clause-ok c =
    let read = c.in_ok-found.ensures.ok in
    if_some_weaker c.loc_in.result (λ x is. (object read.0, read.1, loc_is read.0 c.in_ok-found.found x read.2 is)) c.loc_in.ensures
