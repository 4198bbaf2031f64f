use Rattle.std.specs.Prelude.{map, string_bytes}
use Rattle.cov_commands.proofs.Sure.{gives_due}
use Rattle.cov_commands.proofs.tool.run_sure.Goals as goal

pub returns : goal.returns
returns c =
    gives_due (map string_bytes c.args.words.now) c.args.store.now c.run_tool.new.store c.args.out.now c.run_tool.new.out c.args.err.now c.run_tool.new.err
    c.run_tool.result c.run_tool.ensures
