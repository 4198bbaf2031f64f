use Rattle.std.proofs.Common.{rules}
use Rattle.std.proofs.lemmas.List.Sorted.{IsPartitionPoint-from_clause}
use Rattle.source_maps.specs.Search.{stands_by}
use Rattle.source_maps.proofs.Searched.{parted}
use Rattle.source_maps.proofs.lookup.end_of_spot.Goals as goal

pub returns-clause-parted : goal.returns-clause-parted
returns-clause-parted c =
    let split = parted c.args.line c.args.column c.args.segments.now c.requires in
    IsPartitionPoint-from_clause (stands_by c.args.line c.args.column) _ _ c.partition_point.ensures.partitioned split (λ a r q k. search rules)
