use Rattle.cov_book.proofs.Shards.{merges_in_parts}
use Rattle.cov_book.proofs.laws.in_parts.Goals as goal

pub returns : goal.returns
returns c = merges_in_parts
