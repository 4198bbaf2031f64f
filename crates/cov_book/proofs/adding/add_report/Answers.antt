use Rattle.std.proofs.Common.{◌≡◌, [], sym, ap, ◌∙◌, subst}
use Rattle.std.specs.Prelude.{Some, option_copied}
use Rattle.cov_book.specs.Least.{IsLeastSoFar}
use Rattle.cov_book.specs.Listed.{own_list}
use Rattle.cov_book.specs.Prepared.{report_sums, summed, sums_now, with_report, IsWithin}
use Rattle.cov_book.specs.Stretching.{IfRooted}
use Rattle.cov_book.specs.Renewed.{IsFoundAt, made}
use Rattle.cov_book.specs.Told.{named}
use Rattle.cov_book.proofs.Candidate.{least-none, least-skipped, least-added, least-found, report-spent, report-grown}
use Rattle.cov_book.proofs.Placed.{key-of-root, none-of-root, rooted-known}
use Rattle.cov_book.proofs.Renewing.{put-fresh-order, put-made}
use Rattle.cov_book.proofs.adding.add_report.Goals as goal

pub returns-in_default-clause-sums : goal.returns-in_default-clause-sums
returns-in_default-clause-sums g c = λ all functions knows before.
    least-none all functions (own_list c.args.url.now (made c.args.held.now c.args.changes.now)) c.args.past c.args.url.now c.args.report.now before (none-of-root c.args.url.now c.args.report.now c.in_default.ensures.value)

pub returns-then-not-is_before-clause-sums : goal.returns-then-not-is_before-clause-sums
returns-then-not-is_before-clause-sums g c = λ all functions knows before.
    let url = c.args.url.now in
    let f = c.args.report.now in
    let root = c.in-Some.root.now in
    least-skipped all functions (own_list url (made c.args.held.now c.args.changes.now)) c.args.past url f (named url root.start root.end f.name)
    before (key-of-root url f root c.in-Some.ensures.value) (sym c.is_before.ensures ∙ c.if-not-is_before.true)

pub sums_with-requires-clause-rooted : goal.sums_with-requires-clause-rooted
sums_with-requires-clause-rooted g c =
    let url = c.args.url.now in
    let f = c.args.report.now in
    let root = c.in-Some.root.now in
    let k = named url root.start root.end f.name in
    let all = c.requires.so_far.0 in
    let functions = c.requires.so_far.1 in
    let is : option_copied c.sums_so_far-before.result ≡ sums_now functions (own_list url (made c.args.held.now c.args.changes.now)) k =
    c.sums_so_far-before.ensures url functions c.requires.so_far.2
    ∙ ap (λ n. sums_now functions (own_list url (made c.args.held.now c.args.changes.now)) (named url root.start root.end n)) c.as_text-2.ensures in
    subst (IfRooted (report_sums f).runs.start (report_sums f).runs.end) (sym is)
    (rooted-known all functions (own_list url (made c.args.held.now c.args.changes.now)) c.args.past url f k c.requires.so_far.3 (key-of-root url f root c.in-Some.ensures.value))

pub sums_so_far-before-requires-clause-place : goal.sums_so_far-before-requires-clause-place
sums_so_far-before-requires-clause-place g c =
    let root = c.in-Some.root.now in
    subst (λ n. IsFoundAt (named [] root.start root.end n) c.args.held.now c.place_among-place.result) (c.as_text.ensures ∙ sym c.as_text-2.ensures) c.place_among-place.ensures

pub returns-in-Ok-clause-order : goal.returns-in-Ok-clause-order
returns-in-Ok-clause-order g c =
    let root = c.in-Some.root.now in
    put-fresh-order root.start root.end c.args.report.now.name c.in-Ok.sums c.place_among-place.result c.args.changes.now c.put_sums.new.changes c.in_ok-put_sums-in-Ok.ensures c.requires.changes

pub returns-in-Ok-clause-sums : goal.returns-in-Ok-clause-sums
returns-in-Ok-clause-sums g c = λ all functions knows before.
    let url = c.args.url.now in
    let f = c.args.report.now in
    let root = c.in-Some.root.now in
    let k = named url root.start root.end f.name in
    let old = own_list url (made c.args.held.now c.args.changes.now) in
    let is : option_copied c.sums_so_far-before.result ≡ sums_now functions old k =
    c.sums_so_far-before.ensures url functions knows
    ∙ ap (λ n. sums_now functions (own_list url (made c.args.held.now c.args.changes.now)) (named url root.start root.end n)) c.as_text-2.ensures in
    least-added all functions old (own_list url (made c.args.held.now c.put_sums.new.changes)) c.args.past url f k c.in-Ok.sums
    before (key-of-root url f root c.in-Some.ensures.value) (sym c.is_before.ensures ∙ c.if-not-is_before.false) c.in-Ok.ensures.within
    (c.in-Ok.ensures.sums ∙ ap (λ o. summed o (report_sums f)) is)
    (put-made url root.start root.end f.name c.in-Ok.sums c.args.held.now c.place_among-place.result c.args.changes.now c.put_sums.new.changes
    (subst (λ n. IsFoundAt (named [] root.start root.end n) c.args.held.now c.place_among-place.result) c.as_text.ensures c.place_among-place.ensures) c.in_ok-put_sums-in-Ok.ensures)

pub returns-in-Ok-clause-cost : goal.returns-in-Ok-clause-cost
returns-in-Ok-clause-cost g c = λ none all functions bound knows before within.
    let url = c.args.url.now in
    let f = c.args.report.now in
    let root = c.in-Some.root.now in
    let k = named url root.start root.end f.name in
    let old = own_list url (made c.args.held.now c.args.changes.now) in
    let is : option_copied c.sums_so_far-before.result ≡ sums_now functions old k =
    c.sums_so_far-before.ensures url functions knows
    ∙ ap (λ n. sums_now functions (own_list url (made c.args.held.now c.args.changes.now)) (named url root.start root.end n)) c.as_text-2.ensures in
    report-spent all functions old c.args.past url f k bound c.args.steps.now c.sums_with.new.steps (option_copied c.sums_so_far-before.result)
    before none (key-of-root url f root c.in-Some.ensures.value) is c.in-Ok.ensures.cost within

pub returns-in-Ok-clause-grows : goal.returns-in-Ok-clause-grows
returns-in-Ok-clause-grows g c = λ none all functions knows before.
    let url = c.args.url.now in
    let f = c.args.report.now in
    let root = c.in-Some.root.now in
    let k = named url root.start root.end f.name in
    let old = own_list url (made c.args.held.now c.args.changes.now) in
    let is : option_copied c.sums_so_far-before.result ≡ sums_now functions old k =
    c.sums_so_far-before.ensures url functions knows
    ∙ ap (λ n. sums_now functions (own_list url (made c.args.held.now c.args.changes.now)) (named url root.start root.end n)) c.as_text-2.ensures in
    report-grown all functions old c.args.past url f k c.in-Ok.sums (option_copied c.sums_so_far-before.result)
    before none (key-of-root url f root c.in-Some.ensures.value) is c.in-Ok.ensures.sums c.in-Ok.ensures.size

pub returns-in-Err-Past-clause-sums : goal.returns-in-Err-Past-clause-sums
returns-in-Err-Past-clause-sums g c = λ all functions knows before.
    let url = c.args.url.now in
    let f = c.args.report.now in
    let root = c.in-Some.root.now in
    let k = named url root.start root.end f.name in
    let old = own_list url (made c.args.held.now c.args.changes.now) in
    let is : option_copied c.sums_so_far-before.result ≡ sums_now functions old k =
    c.sums_so_far-before.ensures url functions knows
    ∙ ap (λ n. sums_now functions (own_list url (made c.args.held.now c.args.changes.now)) (named url root.start root.end n)) c.as_text-2.ensures in
    subst (λ now. IsLeastSoFar (with_report all url f) functions old (Some now)) (sym c.in_ok-key_named-in-Err-Past.ensures)
    (least-found all functions old c.args.past url f k
    before (key-of-root url f root c.in-Some.ensures.value) (sym c.is_before.ensures ∙ c.if-not-is_before.false)
    (λ within. (rw c.in-Err-Past.field-0-is at c.in-Err-Past.ensures.past) (subst (λ o. IsWithin (summed o (report_sums f))) (sym is) within)))
