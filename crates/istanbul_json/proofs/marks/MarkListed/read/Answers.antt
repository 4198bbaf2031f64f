use Rattle.serde_json.specs.Data.{object}
use Rattle.json_walk.proofs.Reading.{if_some_weaker}
use Rattle.istanbul_json.proofs.Gathered.{mark_is}
use Rattle.istanbul_json.proofs.marks.MarkListed.read.Goals as goal

pub returns-clause-ok : goal.returns-clause-ok
returns-clause-ok c = if_some_weaker c.read_object.result (λ m read. (object read.0, read.1, mark_is read.0 m read.2)) c.read_object.ensures.ok
