use Rattle.cov_commands.specs.Child.{child_duty}
use Rattle.cov_commands.proofs.Calls.{asks-short}
use Rattle.cov_commands.proofs.Children.{child-lawful}
use Rattle.cov_commands.proofs.child.ask.Goals as goal

pub returns-in-Err-NoMemory : goal.returns-in-Err-NoMemory
returns-in-Err-NoMemory g c = asks-short child_duty _ _ child-lawful
