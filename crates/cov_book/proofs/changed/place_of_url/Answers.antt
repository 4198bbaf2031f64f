use Rattle.std.proofs.Common.{rules}
use Rattle.std.proofs.lemmas.List.Sorted.{IsPartitionPoint-from_clause}
use Rattle.cov_text.specs.Listing.{text_cmp}
use Rattle.cov_book.specs.declared.changed.ScriptChange.{ScriptChange}
use Rattle.cov_book.specs.Renewed.{change_before}
use Rattle.cov_book.proofs.Ordered.{text_total}
use Rattle.cov_book.proofs.Renewing.{place-last}
use Rattle.cov_book.proofs.Searched.{parted, place}
use Rattle.cov_book.proofs.changed.place_of_url.Goals as goal

pub returns-then-are_before : goal.returns-then-are_before
returns-then-are_before c =
    let url = c.args.url.now in
    let cs = c.args.changes.now in
    place-last url cs (c.are_before.ensures c.if-are_before.true)

pub returns : goal.returns
returns c =
    let url = c.args.url.now in
    let cs = c.args.changes.now in
    place (change_before url) cs c.partition_point.result
    (IsPartitionPoint-from_clause (change_before url) _ _ c.partition_point.ensures.partitioned (parted text_cmp text_total (λ (x : ScriptChange). x.url) url cs c.requires) (λ a r q k. search rules)) c.partition_point.ensures.bound
