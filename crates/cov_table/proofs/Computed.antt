-- What computes the definitions on literals.
use Rattle.std.specs.Prelude.{⊤}
use Rattle.std.specs.Str.{chars}
use Rattle.lcov_text.proofs.Computed.{lcov_on_literals}
use Rattle.cov_table.specs.Shares.{summary, check_text}
use Rattle.cov_table.specs.Table.{table}

unfoldable pub table_on_literals : ⊤
unfolding chars lcov_on_literals summary check_text table
table_on_literals = tt
