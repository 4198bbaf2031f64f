use Rattle.std.proofs.Common.{◌<◌, get_or, arith}
use Rattle.std.proofs.lemmas.List.{drop_more}
use Rattle.cov_book.specs.declared.stretches.Stretch.{Stretch}
use Rattle.cov_book.proofs.Stretched.{cover-more, runs-cons, walk-start, walk-more, walk-smaller}
use Rattle.cov_book.proofs.stretches.with_runs.Goals as goal

pub both-init : goal.both-init
both-init g c = record {
  walked = walk-start c.args.sums.now c.args.runs.now c.new-made.result.items c.start-from.result c.requires c.end-end.ensures.kept c.new-made.ensures.items c.start-from.ensures.value;
  later = omega arith;
}

pub both-smaller : goal.both-smaller
both-smaller g c =
    let b = c.both.invariant.walked in
    let sums = c.args.sums.now in
    let runs = c.args.runs.now in
    let lt : c.both.from < runs.end = omega (arith, c.both-test.true, c.end-end.ensures.value) in
    let none : Stretch = record { end = 0; sum = 0 } in
    let ws = drop_more sums c.both.i none (cover-more sums c.both.i c.both.from runs.end b.sums_left lt) in
    let rs = runs-cons runs.runs c.both.j c.get-run.result c.get-run.ensures.value in
    let s = walk-smaller sums runs c.both.made.items c.both.from c.both.i c.both.j (get_or sums c.both.i none) c.get-run.result c.min-next.result b ws rs c.min-next.ensures in
    omega (arith, s.0, s.1, c.end-end.ensures.value)

pub both-preserved : goal.both-preserved
both-preserved g c =
    let b = c.both.invariant.walked in
    let sums = c.args.sums.now in
    let runs = c.args.runs.now in
    let lt : c.both.from < runs.end = omega (arith, c.both-test.true, c.end-end.ensures.value) in
    let none : Stretch = record { end = 0; sum = 0 } in
    let ws = drop_more sums c.both.i none (cover-more sums c.both.i c.both.from runs.end b.sums_left lt) in
    let rs = runs-cons runs.runs c.both.j c.get-run.result c.get-run.ensures.value in
    record {
      walked =
          walk-more sums runs c.both.made.items c.push.new.self.items c.both.from c.both.i c.both.j c.place_at-i.result c.place_at-j.result (get_or sums c.both.i none) c.get-run.result
          c.min-next.result c.saturating_add-sum.result b ws rs c.min-next.ensures c.saturating_add-sum.ensures c.in_ok-push.ensures.items
          c.place_at-i.ensures.next c.place_at-i.ensures.stays c.place_at-j.ensures.next c.place_at-j.ensures.stays;
      later = omega (arith, c.both.invariant.later, c.get-run.ensures.step);
    }
