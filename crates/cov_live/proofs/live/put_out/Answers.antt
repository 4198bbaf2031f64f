use Rattle.cov_links.specs.Together.{telling}
use Rattle.cov_live.proofs.Lives.{runs-served}
use Rattle.cov_live.proofs.live.put_out.Goals as goal

pub returns-in-Serve : goal.returns-in-Serve
returns-in-Serve g c =
    runs-served (telling g.N.Link.Link.state g.N.Link.Link.faults) c.args.command.now _ _ _ _ _ _ _ _ c.in-Serve.is c.as_text.ensures c.serve.ensures
