use Rattle.std.proofs.Common.{◌≡◌, ◌++◌, map, sym, ap, ◌∙◌, subst, arith, Bor}
use Rattle.std.specs.Prelude.{option_copied, sum_by}
use Rattle.std.specs.Map.{lookup}
use Rattle.std.specs.BTreeMap.{is_at}
use Rattle.cov_model.specs.declared.report.FunctionReport.{FunctionReport}
use Rattle.cov_model.specs.Nesting.{AreReportsNested}
use Rattle.cov_model.specs.Sums.{file_order}
use Rattle.cov_book.specs.Counts.{capped, weight, reports_in}
use Rattle.cov_book.specs.Listed.{all_listed}
use Rattle.cov_book.specs.Told.{named}
use Rattle.cov_book.specs.Stretching.{AreRooted, IfRooted}
use Rattle.cov_book.proofs.Nested.{reports_in-nested}
use Rattle.cov_book.proofs.Passing.{fault-none, fault-some}
use Rattle.cov_book.proofs.Stretched.{rooted, rooted-lookup}
use Rattle.cov_book.proofs.faults.fault_at.Goals as goal

abbrev now : Bor FunctionReport → FunctionReport
now r = r.now

pub first_past-requires-clause-nested : goal.first_past-requires-clause-nested
first_past-requires-clause-nested g c =
    let more = reports_in c.args.key.now c.args.snapshot.now in
    subst AreReportsNested (sym (ap (map now) c.deref.ensures.value ∙ c.in_ok-add_reports.ensures ∙ ap (λ xs. map now xs ++ more) c.new-new.ensures.items))
    (reports_in-nested c.args.snapshot.now c.args.key.now c.requires.nested)

pub first_past-requires-clause-rooted : goal.first_past-requires-clause-rooted
first_past-requires-clause-rooted g c =
    let more = reports_in c.args.key.now c.args.snapshot.now in
    subst (AreRooted c.args.key.now.start c.args.key.now.end) (sym (ap (map now) c.deref.ensures.value ∙ c.in_ok-add_reports.ensures ∙ ap (λ xs. map now xs ++ more) c.new-new.ensures.items))
    (rooted c.args.key.now c.args.snapshot.now)

pub first_past-requires-clause-held : goal.first_past-requires-clause-held
first_past-requires-clause-held g c =
    let key = c.args.key.now in
    let here : named c.as_text.result.now key.start key.end c.as_text-2.result.now ≡ key = λ i. record { url = c.as_text.ensures i; start = key.start; end = key.end; name = c.as_text-2.ensures i } in
    subst (IfRooted key.start key.end) (sym (c.sums_named-before.ensures ∙ ap (λ k. lookup (is_at (file_order k)) (all_listed c.args.scripts.now)) here))
    (rooted-lookup (all_listed c.args.scripts.now) key c.requires.aligned)

pub sum_of-added-requires : goal.sum_of-added-requires
sum_of-added-requires g c =
    let more = reports_in c.args.key.now c.args.snapshot.now in
    subst AreReportsNested (sym (ap (map now) c.deref-2.ensures.value ∙ c.in_ok-add_reports.ensures ∙ ap (λ xs. map now xs ++ more) c.new-new.ensures.items))
    (reports_in-nested c.args.snapshot.now c.args.key.now c.requires.nested)

pub returns-in_default-clause-fault : goal.returns-in_default-clause-fault
returns-in_default-clause-fault g c = λ held is.
    let key = c.args.key.now in
    let s = c.args.snapshot.now in
    let new = ap (map now) c.deref.ensures.value ∙ c.in_ok-add_reports.ensures ∙ ap (λ xs. map now xs ++ reports_in key s) c.new-new.ensures.items in
    let here : named c.as_text.result.now key.start key.end c.as_text-2.result.now ≡ key = λ i. record { url = c.as_text.ensures i; start = key.start; end = key.end; name = c.as_text-2.ensures i } in
    let before = c.sums_named-before.ensures ∙ (λ i. lookup (is_at (file_order (here i))) (is i)) in
    fault-none held s key (option_copied c.sums_named-before.result) (map now c.deref.result.now) before new (sym c.in_default.is ∙ c.in_ok-at.ensures.point)

pub returns-clause-fault : goal.returns-clause-fault
returns-clause-fault g c = λ held is.
    let key = c.args.key.now in
    let s = c.args.snapshot.now in
    let new = ap (map now) c.deref.ensures.value ∙ c.in_ok-add_reports.ensures ∙ ap (λ xs. map now xs ++ reports_in key s) c.new-new.ensures.items in
    let same = ap (map now) (c.deref-2.ensures.value ∙ sym c.deref.ensures.value) in
    let here : named c.as_text.result.now key.start key.end c.as_text-2.result.now ≡ key = λ i. record { url = c.as_text.ensures i; start = key.start; end = key.end; name = c.as_text-2.ensures i } in
    let before = c.sums_named-before.ensures ∙ (λ i. lookup (is_at (file_order (here i))) (is i)) in
    let parts = c.in_ok-clone.ensures.cases in
    let copy : c.in_ok-clone.field-0 ≡ key = λ i. record { url = parts.0 i; start = parts.1.0 i; end = parts.1.1.0 i; name = parts.1.1.1 i } in
    fault-some held s key (option_copied c.sums_named-before.result) (map now c.deref.result.now) c.in-Some.at c.in_ok-clone.field-0 c.held_at-held.result c.sum_of-added.result
    before new (sym c.in-Some.is ∙ c.in_ok-at.ensures.point) copy c.held_at-held.ensures.sum (omega arith)
    (c.sum_of-added.ensures ∙ ap (λ fs. capped (sum_by (weight c.in-Some.at) fs)) same)
