use Rattle.std.proofs.Common.{◌≡◌, ◌∙◌, sym, ap, subst, rules}
use Rattle.std.specs.Prelude.{◌∷◌, ◌↔◌, None, IsTrue}
use Rattle.cov_model.specs.Nesting.{range_fault, inner_count}
use Rattle.cov_model.specs.Nested.{nested}
use Rattle.cov_normal.specs.NestedLaws.{IsNested}
use Rattle.cov_normal.proofs.Counting.{is-own, nested-faultless}
use Rattle.cov_normal.proofs.nested_list.is_normal_under.Goals as goal

pub returns-then-not-branch : goal.returns-then-not-branch
returns-then-not-branch c = (λ e. absurd cc, λ h. subst IsTrue c.if-not-branch.true (c.in_ok-nest.ensures.1 (nested-faultless c.args.ranges.now h)))

pub returns : goal.returns
returns c =
    let root = c.args.root in
    let rest = c.args.rest.now in
    let ranges = c.args.ranges.now in
    let list = c.as_slice.result.now in
    let does : IsTrue c.in_ok-nest.field-0 = subst IsTrue (sym c.if-not-branch.false) (search rules) in
    let faultless : range_fault (root ∷ rest) ≡ None = ap range_fault (sym c.requires) ∙ c.in_ok-nest.ensures.0 does in
    let is : list ≡ nested root.start root.end root.count (inner_count (root ∷ rest)) =
    c.as_slice.ensures ∙ c.in_ok-list.ensures ∙ ap (λ xs. nested root.start root.end root.count (inner_count xs)) c.requires in
    let own : (list ≡ ranges) ↔ IsNested ranges = subst (λ xs. (list ≡ xs) ↔ IsNested xs) (sym c.requires) (is-own root rest list faultless is) in
    (λ e. own.0 (c.are_one.ensures.0 e), λ h. c.are_one.ensures.1 (own.1 h))
