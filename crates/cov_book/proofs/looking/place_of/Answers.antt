use Rattle.std.proofs.Common.{[], rules}
use Rattle.std.proofs.lemmas.List.Sorted.{IsPartitionPoint-from_clause}
use Rattle.cov_book.specs.Listed.{comes_first}
use Rattle.cov_book.specs.Told.{named}
use Rattle.cov_book.proofs.Searched.{place, function-parted}
use Rattle.cov_book.proofs.looking.place_of.Goals as goal

pub returns : goal.returns
returns c =
    let k = named [] c.args.start c.args.end c.args.name.now in
    place (comes_first k) c.args.functions.now c.partition_point.result
    (IsPartitionPoint-from_clause (comes_first k) _ _ c.partition_point.ensures.partitioned (function-parted k c.args.functions.now c.requires) (λ a r q k. search rules)) c.partition_point.ensures.bound
