use Rattle.std.proofs.Common.{◌≡◌, ◌+◌, ◌/◌, ◌++◌, length, subst, arith, rules}
use Rattle.std.specs.Prelude.{vec_items}
use Rattle.cov_attach.specs.Gathered.{AreRun}
use Rattle.cov_attach.proofs.Parts.{are_run}
use Rattle.cov_attach.proofs.many.+fn-run_part-join_mut+arg2+fn-run_part-join_mut+arg3+run_part.Goals as goal

pub returns : goal.returns
returns g t c =
    let first = c.args.part.now.first in
    let takes = c.args.part.now.takes in
    let middle = first + length c.args.links.now / 2 in
    let xs = c.split_at_mut-front.result.0.now in
    let ys = c.split_at_mut-front.result.1.now in
    let run = AreRun g.L.Link.state g.L.Link.faults vec_items takes in
    let front : run first xs c.front-1.given.0 c.join_mut-a.result.0 = search rules in
    let back : run middle ys c.back-1.given.0 c.join_mut-a.result.1 = search rules in
    let whole : xs ++ ys ≡ c.args.links.now = search rules in
    subst (λ all. run first all (c.front-1.given.0 ++ c.back-1.given.0) c.joined.result) whole
    (are_run g.L.Link.state g.L.Link.faults vec_items takes first middle xs c.front-1.given.0 ys c.back-1.given.0 c.join_mut-a.result.0 c.join_mut-a.result.1
    c.joined.result front back (omega (arith, c.split_at_mut-front.ensures.front_len)) c.joined.ensures)
