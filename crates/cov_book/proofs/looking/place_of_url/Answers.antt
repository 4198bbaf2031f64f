use Rattle.std.proofs.Common.{rules}
use Rattle.std.proofs.lemmas.List.Sorted.{IsPartitionPoint-from_clause}
use Rattle.cov_book.specs.Listed.{is_front}
use Rattle.cov_book.proofs.Among.{url-parted}
use Rattle.cov_book.proofs.Searched.{place}
use Rattle.cov_book.proofs.looking.place_of_url.Goals as goal

pub returns : goal.returns
returns c =
    let url = c.args.url.now in
    place (is_front url) c.args.scripts.now c.partition_point.result
    (IsPartitionPoint-from_clause (is_front url) _ _ c.partition_point.ensures.partitioned (url-parted url c.args.scripts.now c.requires) (λ a r q k. search rules)) c.partition_point.ensures.bound
