use Rattle.cov_ranges.proofs.Nested.{faultless_where_nested}
use Rattle.cov_ranges.proofs.laws.well_nested.Goals as goal

pub returns : goal.returns
returns c = faultless_where_nested
