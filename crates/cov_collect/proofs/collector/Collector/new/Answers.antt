use Rattle.std.proofs.Common.{ap, map}
use Rattle.std.specs.Prelude.{vec_items}
use Rattle.cov_collect.proofs.Batchwise.{Collects-none}
use Rattle.cov_collect.proofs.collector.Collector.new.Goals as goal

pub returns : goal.returns
returns c = Collects-none c.new.result c.new-2.result (map vec_items c.new-3.result.items) c.new.ensures c.new-2.ensures (ap (map vec_items) c.new-3.ensures.items)
