use Rattle.std.proofs.Common.{◌+◌, ◌∷◌, [], refl, sym, ap, ◌∙◌, drop, arith}
use Rattle.std.specs.Prelude.{sum_by}
use Rattle.std.proofs.lemmas.List.{drop_more, drop_all}
use Rattle.std.proofs.lemmas.List.Sums.{sum_by-cons}
use Rattle.cov_book.specs.Listed.{bare, own}
use Rattle.cov_book.specs.Numbers.{ranges_told, root_told}
use Rattle.cov_book.specs.Prepared.{IsAligned}
use Rattle.cov_book.proofs.Nested.{All-at}
use Rattle.cov_book.proofs.numbers.with_functions.Goals as goal

pub range_count-requires : goal.range_count-requires
range_count-requires c = All-at IsAligned (own []) c.args.functions.now c.loop-function.function-index c.function-item.result c.requires c.loop-function-test.true c.function-item.is

pub loop-function-init : goal.loop-function-init
loop-function-init c = record { ranges = refl; roots = refl; few = omega arith; small = omega arith }

pub loop-function-preserved : goal.loop-function-preserved
loop-function-preserved c =
    let fs = c.args.functions.now in
    let k = c.loop-function.function-index in
    let f = c.function-item.result in
    let first = ap bare (drop_more fs k f c.loop-function-test.true ∙ ap (λ x. x ∷ drop (k + 1) fs) (sym c.function-item.is)) in
    let ranges = ap (sum_by ranges_told) first ∙ sum_by-cons ranges_told (own [] f) (bare (drop (k + 1) fs)) in
    let roots = ap (sum_by root_told) first ∙ sum_by-cons root_told (own [] f) (bare (drop (k + 1) fs)) in
    record {
      ranges = omega (arith, ranges, c.loop-function.invariant.ranges, c.in_ok-range_count.ensures);
      roots = omega (arith, roots, c.loop-function.invariant.roots);
      few = omega arith;
      small = omega arith;
    }

pub returns-clause-ranges : goal.returns-clause-ranges
returns-clause-ranges c =
    let done = ap (λ fs. sum_by ranges_told (bare fs)) (drop_all c.loop-function.function-index c.args.functions.now (omega (arith, c.loop-function-test.false))) in
    omega (arith, done, c.loop-function.invariant.ranges, c.loop-function.invariant.few)

pub returns-clause-roots : goal.returns-clause-roots
returns-clause-roots c =
    let done = ap (λ fs. sum_by root_told (bare fs)) (drop_all c.loop-function.function-index c.args.functions.now (omega (arith, c.loop-function-test.false))) in
    omega (arith, done, c.loop-function.invariant.roots, c.loop-function.invariant.small)
