use Rattle.cov_commands.specs.Tool.{tool_duty}
use Rattle.cov_commands.proofs.Calls.{asks-short}
use Rattle.cov_commands.proofs.Tools.{tool-lawful}
use Rattle.cov_commands.proofs.tool.ask.Goals as goal

pub returns-in-Err-NoMemory : goal.returns-in-Err-NoMemory
returns-in-Err-NoMemory g c = asks-short tool_duty _ _ tool-lawful
