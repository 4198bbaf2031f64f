use Rattle.cov_commands.proofs.Parts.{part-all}
use Rattle.cov_commands.proofs.put.put_bytes.Goals as goal

pub returns-in-Ok-clause-part : goal.returns-in-Ok-clause-part
returns-in-Ok-clause-part g c = part-all (g.O.Sink.held c.args.out.now) (g.O.Sink.held c.write.new.self) c.args.bytes.now c.in-Ok.ensures.ok
