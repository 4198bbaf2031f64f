use Rattle.cov_words.specs.declared.command.Collect.{Collect}
use Rattle.cov_commands.specs.Collect.{collect_duty, collect_reader}
use Rattle.cov_commands.proofs.Calls.{asks-short}
use Rattle.cov_commands.proofs.Tools.{lawful}
use Rattle.cov_commands.proofs.workers.ask.Goals as goal

pub returns-in-Err-NoMemory : goal.returns-in-Err-NoMemory
returns-in-Err-NoMemory g c = asks-short collect_duty _ _ (λ (command : Collect). lawful (collect_reader command.folder))
