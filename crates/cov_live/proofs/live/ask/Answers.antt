use Rattle.cov_links.specs.Together.{telling}
use Rattle.cov_commands.proofs.Calls.{asks-short}
use Rattle.cov_live.specs.Commands.{live_duty}
use Rattle.cov_live.proofs.Lives.{live-lawful}
use Rattle.cov_live.proofs.live.ask.Goals as goal

pub returns-in-Err-NoMemory : goal.returns-in-Err-NoMemory
returns-in-Err-NoMemory g c =
    let tells = telling g.N.Link.Link.state g.N.Link.Link.faults in
    asks-short (live_duty tells) _ _ (live-lawful tells)
