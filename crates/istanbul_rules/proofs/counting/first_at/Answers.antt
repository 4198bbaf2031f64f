use Rattle.std.proofs.Common.{ℕ, rules}
use Rattle.std.specs.Prelude.{nat_lt}
use Rattle.std.proofs.lemmas.List.Sorted.{IsPartitionPoint-from_clause, IsPartitionedBy-ltb}
use Rattle.istanbul_rules.proofs.Offsets.{Parts, first_below, first_is}
use Rattle.istanbul_rules.proofs.counting.first_at.Goals as goal

pub returns-clause-below : goal.returns-clause-below
returns-clause-below c =
    let parted = IsPartitionedBy-ltb (λ (x : ℕ). x) c.args.offsets.now c.args.offset c.requires.sorted in
    let parts : Parts c.args.offset c.args.offsets.now c.partition_point.result =
    IsPartitionPoint-from_clause (λ x. nat_lt x c.args.offset) _ _ c.partition_point.ensures.partitioned parted (λ a r q k. search rules) in
    first_below c.args.offsets.now c.args.offset c.partition_point.result parts c.requires.within

pub returns-clause-found : goal.returns-clause-found
returns-clause-found c =
    let parted = IsPartitionedBy-ltb (λ (x : ℕ). x) c.args.offsets.now c.args.offset c.requires.sorted in
    let parts : Parts c.args.offset c.args.offsets.now c.partition_point.result =
    IsPartitionPoint-from_clause (λ x. nat_lt x c.args.offset) _ _ c.partition_point.ensures.partitioned parted (λ a r q k. search rules) in
    first_is c.args.offsets.now c.args.offset c.partition_point.result c.requires.sorted parts c.requires.within
