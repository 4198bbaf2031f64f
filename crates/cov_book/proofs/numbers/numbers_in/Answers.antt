use Rattle.std.proofs.Common.{◌≡◌, ◌+◌, ◌∷◌, length, refl, sym, ap, ◌∙◌, subst, drop, arith}
use Rattle.std.specs.Prelude.{sum_by, min}
use Rattle.std.proofs.lemmas.List.{drop_more, drop_all, length-map}
use Rattle.cov_text.specs.Listing.{limit}
use Rattle.cov_book.specs.Counts.{capped}
use Rattle.cov_book.specs.declared.scripts.Script.{Script}
use Rattle.cov_book.specs.Listed.{all_listed, bare, listed}
use Rattle.cov_book.specs.Numbers.{ranges_told, root_told}
use Rattle.cov_book.specs.Prepared.{AreAligned}
use Rattle.cov_book.proofs.Flat.{aligned-bare, aligned-each, all-here, count-more, sum-more}
use Rattle.cov_book.proofs.numbers.numbers_in.Goals as goal

pub with_functions-requires : goal.with_functions-requires
with_functions-requires c =
    let s = c.script-item.result in
    let here = all-here (λ (x : Script). AreAligned (listed x)) c.args.scripts.now c.loop-script.script-index s (aligned-each c.args.scripts.now c.requires) c.loop-script-test.true c.script-item.is in
    subst (λ fs. AreAligned (bare fs)) (sym c.as_slice.ensures) (aligned-bare s.url s.functions here)

pub loop-script-init : goal.loop-script-init
loop-script-init c = record { scripts = omega arith; functions = omega arith; ranges = omega arith; roots = omega arith; few = omega arith; many = omega arith; small = omega arith }

pub loop-script-preserved : goal.loop-script-preserved
loop-script-preserved c =
    let ss = c.args.scripts.now in
    let k = c.loop-script.script-index in
    let s = c.script-item.result in
    let inv = c.loop-script.invariant in
    let next = c.in_ok-numbers.ensures in
    let first = drop_more ss k s c.loop-script-test.true ∙ ap (λ x. x ∷ drop (k + 1) ss) (sym c.script-item.is) in
    let rest = drop (k + 1) ss in
    let more = ap (λ xs. length (all_listed xs)) first ∙ count-more s rest in
    let ranges = ap (λ xs. sum_by ranges_told (all_listed xs)) first ∙ sum-more ranges_told (λ url f. refl) s rest in
    let roots = ap (λ xs. sum_by root_told (all_listed xs)) first ∙ sum-more root_told (λ url f. refl) s rest in
    let same = c.as_slice.ensures in
    let count = ap length same in
    let own_ranges = ap (λ fs. sum_by ranges_told (bare fs)) same in
    let own_roots = ap (λ fs. sum_by root_told (bare fs)) same in
    record {
      scripts = next.scripts ∙ inv.scripts;
      functions = omega (arith, more, count, next.functions, inv.functions);
      ranges = omega (arith, ranges, own_ranges, next.ranges, inv.ranges);
      roots = omega (arith, roots, own_roots, next.roots, inv.roots);
      few = omega (arith, next.functions);
      many = omega (arith, next.ranges);
      small = omega (arith, next.roots);
    }

pub returns : goal.returns
returns c =
    let ss = c.args.scripts.now in
    let inv = c.loop-script.invariant in
    let done = drop_all c.loop-script.script-index ss (omega (arith, c.loop-script-test.false)) in
    let none = ap (λ xs. length (all_listed xs)) done in
    let no_ranges = ap (λ xs. sum_by ranges_told (all_listed xs)) done in
    let no_roots = ap (λ xs. sum_by root_told (all_listed xs)) done in
    let functions : c.loop-script.numbers.functions ≡ min (length (all_listed ss)) limit = omega (arith, none, inv.functions, inv.few) in
    let ranges : c.loop-script.numbers.ranges ≡ min (sum_by ranges_told (all_listed ss)) limit = omega (arith, no_ranges, inv.ranges, inv.many) in
    let roots : c.loop-script.numbers.roots ≡ capped (sum_by root_told (all_listed ss)) = omega (arith, no_roots, inv.roots, inv.small) in
    (λ i. record { scripts = (inv.scripts ∙ ap (λ n. min n limit) (sym (length-map ss (λ (x : Script). x.url)))) i; functions = functions i; ranges = ranges i; roots = roots i })
