use Rattle.std.proofs.Common.{◌<◌, [], ◌∷◌, ◌++◌, length, ap, ◌∙◌, arith}
use Rattle.istanbul_rules.specs.Painting.{stretch_of_line}
use Rattle.istanbul_rules.proofs.Lists.{walked, walked_all}
use Rattle.istanbul_rules.proofs.Lines.{line_starts, line_ends, line_there, line_missing, nowhere}
use Rattle.istanbul_rules.proofs.counting.line_stretches.Goals as goal
use Rattle.istanbul_rules.proofs.counting.line_stretches.Goals.{in-Some+in_ok-push, in_default}

pub loop-i-preserved : goal.loop-i-preserved
loop-i-preserved c =
    let lt : c.loop-i.i < length c.args.table.now.spans = omega arith in
    elim c.match-line.branch [
      | in-Some+in_ok-push w ↦
          let line = line_there c.args.table.now.spans c.loop-i.i w.in-Some.span w.in-Some.ensures.span lt in
          let grown = ap (λ v. v.items) w.stretches-is ∙ w.in_ok-push.ensures.items ∙ ap (λ s. c.loop-i.stretches.items ++ s ∷ []) (w.stretch_of.ensures ∙ ap stretch_of_line line) in
          walked stretch_of_line c.args.table.now.spans c.loop-i.i nowhere c.loop-i.stretches.items c.match-line.stretches.items _ lt grown c.loop-i.invariant
      | in_default w ↦ line_missing c.args.table.now.spans c.loop-i.i w.in_default.ensures.span lt
    ]

pub returns-clause-starts : goal.returns-clause-starts
returns-clause-starts c =
    line_starts c.args.table.now.spans c.args.table.now.units c.loop-i.stretches.items c.lines-lines.ensures.order
    (walked_all stretch_of_line c.args.table.now.spans c.loop-i.i c.loop-i.stretches.items _ (omega arith) c.loop-i.invariant)

pub returns-clause-ends : goal.returns-clause-ends
returns-clause-ends c =
    line_ends c.args.table.now.spans c.args.table.now.units c.loop-i.stretches.items c.lines-lines.ensures.order
    (walked_all stretch_of_line c.args.table.now.spans c.loop-i.i c.loop-i.stretches.items _ (omega arith) c.loop-i.invariant)
