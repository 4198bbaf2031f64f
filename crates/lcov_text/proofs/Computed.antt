-- What computes the definitions on literals.
use Rattle.std.specs.Prelude.{⊤}
use Rattle.std.specs.Fmt.{digits}
use Rattle.lcov_text.specs.Counts.{line_counts}
use Rattle.lcov_text.specs.Lcov.{lcov}

unfoldable pub lcov_on_literals : ⊤
unfolding digits line_counts lcov
lcov_on_literals = tt
