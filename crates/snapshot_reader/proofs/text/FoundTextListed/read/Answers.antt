use Rattle.std.proofs.Common.{refl}
use Rattle.serde_json.specs.Data.{object}
use Rattle.json_walk.proofs.Reading.{if_some_weaker}
use Rattle.snapshot_reader.proofs.text.FoundTextListed.read.Goals as goal

pub returns-clause-ok : goal.returns-clause-ok
returns-clause-ok c = if_some_weaker c.read_object.result (λ x h. (object h.0, h.1, (h.0, refl, h.2))) c.read_object.ensures.ok
