use Rattle.std.proofs.Common.{◌++◌, map, sym, ap, ◌∙◌, subst, arith}
use Rattle.cov_book.specs.declared.scripts.Function.{Function}
use Rattle.cov_book.specs.Listed.{own, own_list}
use Rattle.cov_book.specs.Prepared.{AreAligned, IsAligned, told_report}
use Rattle.cov_book.proofs.Flat.{drop-nil, told-next}
use Rattle.cov_book.proofs.Nested.{All-at}
use Rattle.cov_book.proofs.merged.entry_of.Goals as goal

pub report_of-requires : goal.report_of-requires
report_of-requires c =
    let url = c.args.script.now.url in
    All-at IsAligned (own url) c.as_slice-function-items.result.now c.loop-function.function-index c.function-item.result (subst (λ fs. AreAligned (own_list url fs)) (sym c.as_slice-function-items.ensures) c.requires) c.loop-function-test.true c.function-item.is

pub loop-function-init : goal.loop-function-init
loop-function-init c = ap (λ rs. rs ++ map (λ (f : Function). told_report c.args.form (own c.args.script.now.url f)) c.as_slice-function-items.result.now) c.new-functions.ensures

pub loop-function-preserved : goal.loop-function-preserved
loop-function-preserved c =
    told-next (λ (f : Function). told_report c.args.form (own c.args.script.now.url f)) c.loop-function.functions c.push.new.self _ c.in_ok-report_of.field-0 c.as_slice-function-items.result.now c.loop-function.function-index c.function-item.result
    c.loop-function-test.true c.function-item.is c.in_ok-push.ensures.ok c.in_ok-report_of.ensures c.loop-function.invariant

pub returns : goal.returns
returns c =
    let told = drop-nil (λ (f : Function). told_report c.args.form (own c.args.script.now.url f)) c.loop-function.functions _ c.as_slice-function-items.result.now c.loop-function.function-index (omega (arith, c.loop-function-test.false)) c.loop-function.invariant in
    (λ i. record { url = c.in_ok-clone.ensures.cases i; functions = (told ∙ ap (map (λ (f : Function). told_report c.args.form (own c.args.script.now.url f))) c.as_slice-function-items.ensures) i })
