use Rattle.std.proofs.Common.{◌≤◌, sym, ◌∙◌, length, arith}
use Rattle.cov_book.proofs.Aligned.{count-here, count-later, count-end}
use Rattle.cov_book.proofs.faults.count_of.Goals as goal

pub loop-i-preserved : goal.loop-i-preserved
loop-i-preserved g c = record {
  count =
      sym (count-later c.args.runs.now.runs c.loop-i.i c.get-run.result c.args.offset c.get-run.ensures.value (sym c.has.ensures ∙ c.if-has.false))
      ∙ c.loop-i.invariant.count;
  later = omega (arith, c.get-run.ensures.step);
}

pub returns-then-has-clause-count : goal.returns-then-has-clause-count
returns-then-has-clause-count g c =
    sym (count-here c.args.runs.now.runs c.loop-i.i c.get-run.result c.args.offset c.get-run.ensures.value (sym c.has.ensures ∙ c.if-has.true))
    ∙ c.loop-i.invariant.count

pub returns-clause-count : goal.returns-clause-count
returns-clause-count g c =
    let past : length c.args.runs.now.runs ≤ c.loop-i.i = omega (arith, c.len-count.ensures.value) in
    sym (count-end c.args.runs.now.runs c.loop-i.i c.args.offset past) ∙ c.loop-i.invariant.count
