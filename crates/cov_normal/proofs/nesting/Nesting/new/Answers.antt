use Rattle.std.proofs.Common.{◌≡◌, [], ◌∷◌, rules, arith, subst}
use Rattle.std.specs.Prelude.{Some}
use Rattle.std.specs.Ordering.{nat_cmp}
use Rattle.std.specs.BTreeMap.{get}
use Rattle.std.proofs.lemmas.Grind.{common_steps}
use Rattle.cov_model.specs.Normal.{range}
use Rattle.cov_normal.specs.Stack.{IsNesting}
use Rattle.cov_normal.proofs.Stacked.{nesting-new}
use Rattle.cov_normal.proofs.nesting.Nesting.new.Goals as goal

pub returns : goal.returns
returns c = λ f.
    let start = c.args.start in
    let count = c.args.count in
    let heights = c.insert.new.self in
    let told : get nat_cmp heights count ≡ Some 0 = search rules in
    let ranges : range start start count ∷ [] ≡ c.push.new.self.items = grind (arith, common_steps) in
    let stack : 0 ∷ [] ≡ c.push-2.new.self.items = grind (arith, common_steps) in
    subst (λ xs. IsNesting f start count start xs c.push-2.new.self.items (get nat_cmp heights)) ranges
    (subst (λ xs. IsNesting f start count start (range start start count ∷ []) xs (get nat_cmp heights)) stack (nesting-new f start count (get nat_cmp heights) told))
