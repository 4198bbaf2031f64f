use Rattle.std.proofs.Common.{None, arith}
use Rattle.utf16_lines.specs.declared.Span.{Span}
use Rattle.utf16_lines.proofs.Found.{none-exactly, place-past_units, starts-in_order, place-none, place-found, found-begun, found-order}
use Rattle.utf16_lines.proofs.LineTable.place.Goals as goal

abbrev no_line : Span
no_line = record { start = 0; end = 0 }

pub lines_begun-begun-requires : goal.lines_begun-begun-requires
lines_begun-begun-requires c = starts-in_order c.self.inside.spans c.as_slice-spans.result.now c.self.inside.units c.self.invariant c.as_slice-spans.ensures

pub returns-then-begun-eq0-clause-spot : goal.returns-then-begun-eq0-clause-spot
returns-then-begun-eq0-clause-spot c =
    place-none c.self.inside.spans c.as_slice-spans.result.now c.self.inside.units c.args.offset c.lines_begun-begun.result c.args.self.now c.self.view_is
    c.as_slice-spans.ensures c.lines_begun-begun.ensures.begun (omega arith) (omega arith)

pub column_of-requires-clause-order : goal.column_of-requires-clause-order
column_of-requires-clause-order c =
    found-order c.self.inside.spans c.as_slice-spans.result.now c.self.inside.units c.lines_begun-begun.result no_line c.self.invariant c.as_slice-spans.ensures
    c.lines_begun-begun.ensures.bound (λ e. omega arith)

pub column_of-requires-clause-begun : goal.column_of-requires-clause-begun
column_of-requires-clause-begun c =
    found-begun c.as_slice-spans.result.now c.args.offset c.lines_begun-begun.result no_line c.lines_begun-begun.ensures.begun (λ e. omega arith)

pub returns-clause-spot : goal.returns-clause-spot
returns-clause-spot c =
    place-found c.self.inside.spans c.as_slice-spans.result.now c.self.inside.units c.args.offset c.lines_begun-begun.result no_line c.args.self.now c.self.view_is
    c.as_slice-spans.ensures c.lines_begun-begun.ensures.begun c.lines_begun-begun.ensures.bound (omega arith) (λ e. omega arith) c.column_of.result c.column_of.ensures

pub returns-then-offset-self-clause-none : goal.returns-then-offset-self-clause-none
returns-then-offset-self-clause-none c =
    none-exactly c.self.inside.spans c.self.inside.units c.args.offset c.args.self.now None c.self.view_is c.self.invariant
    (place-past_units c.self.inside.spans c.self.inside.units c.args.offset c.args.self.now c.self.view_is (omega arith))

pub returns-then-begun-eq0-clause-none : goal.returns-then-begun-eq0-clause-none
returns-then-begun-eq0-clause-none c =
    none-exactly c.self.inside.spans c.self.inside.units c.args.offset c.args.self.now None c.self.view_is c.self.invariant (returns-then-begun-eq0-clause-spot c)

pub returns-clause-none : goal.returns-clause-none
returns-clause-none c = none-exactly c.self.inside.spans c.self.inside.units c.args.offset c.args.self.now _ c.self.view_is c.self.invariant (returns-clause-spot c)
