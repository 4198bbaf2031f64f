use Rattle.std.proofs.Common.{sym, subst}
use Rattle.std.specs.Ordering.{nat_cmp}
use Rattle.std.specs.BTreeMap.{get}
use Rattle.cov_normal.specs.Stack.{IsNesting}
use Rattle.cov_normal.proofs.Stacked.{nesting-grow, nesting-begin}
use Rattle.cov_normal.proofs.nesting.Nesting.go_on.Goals as goal

pub returns-in-Some : goal.returns-in-Some
returns-in-Some c = λ f start count nesting shows.
    let old = c.args.self.now in
    let new = c.grow.new.self in
    subst (λ heights. IsNesting f start count c.args.run.end new.ranges.items new.stack.items (get nat_cmp heights)) (sym c.grow.ensures.heights)
    (nesting-grow f start count c.in-Some.height c.args.run old.ranges.items new.ranges.items old.stack.items new.stack.items (get nat_cmp old.heights) nesting (sym c.in-Some.ensures) shows
    (record { kept = c.grow.ensures.kept; ended = c.grow.ensures.ended }))

pub returns-in_ok-begin-in-None : goal.returns-in_ok-begin-in-None
returns-in_ok-begin-in-None c = λ f start count nesting shows.
    let old = c.args.self.now in
    let new = c.begin.new.self in
    let did = c.in_ok-begin-in-None.ensures in
    nesting-begin f start count c.args.run old.ranges.items new.ranges.items old.stack.items new.stack.items (get nat_cmp old.heights) (get nat_cmp new.heights) nesting (sym c.in-None.ensures) shows
    (record { listed = did.ranges; placed = did.stack; here = did.here; others = did.others })
