use Rattle.std.proofs.Common.{rules}
use Rattle.std.proofs.lemmas.List.Sorted.{IsPartitionPoint-from_clause, IsPartitionedBy-leb}
use Rattle.utf16_lines.specs.declared.Span.{Span}
use Rattle.utf16_lines.specs.Lines.{begins_by}
use Rattle.utf16_lines.proofs.table.lines_begun.Goals as goal

pub returns-clause-begun : goal.returns-clause-begun
returns-clause-begun c =
    let parted = IsPartitionedBy-leb (λ (s : Span). s.start) c.args.spans.now c.args.offset c.requires in
    IsPartitionPoint-from_clause (begins_by c.args.offset) _ _ c.partition_point.ensures.partitioned parted (λ a r q k. search rules)
