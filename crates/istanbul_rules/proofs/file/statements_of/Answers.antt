use Rattle.std.proofs.Common.{◌≡◌, [], ◌∷◌, length, refl, ◌∙◌, ap, arith, length-append}
use Rattle.std.specs.Prelude.{decimal}
use Rattle.istanbul_json.specs.declared.file.Statement.{Statement}
use Rattle.istanbul_rules.specs.File as file
use Rattle.istanbul_rules.proofs.Keyed.{counted_off, left_out, without_count, with_count}
use Rattle.istanbul_rules.proofs.file.statements_of.Goals as goal
use Rattle.istanbul_rules.proofs.file.statements_of.Goals.{in-Some+in_ok-key+in_ok-push, in_default}

pub loop-i-preserved-then-is_off : goal.loop-i-preserved-then-is_off
loop-i-preserved-then-is_off c = record {
  value = left_out c.args.table.now c.args.off.now c.args.parts.now c.loop-i.i c.loop-i.statements c.loop-i.statements _ refl
      (counted_off c.args.off.now c.args.parts.now c.loop-i.i c.loop-i-test.true c.if-is_off.true) c.loop-i.invariant.value;
  bound = c.loop-i.invariant.bound;
}

pub loop-i-preserved : goal.loop-i-preserved
loop-i-preserved c =
    elim c.match-line_count.branch [
      | in-Some+in_ok-key+in_ok-push w ↦
          let key = w.in_ok-key.ensures ∙ ap decimal w.len.ensures in
          let s : Statement = record { key = w.in_ok-key.key; loc = w.whole_line-loc.result; count = w.in-Some.count } in
          let made : s ≡ file.statement c.args.table.now (decimal (length c.loop-i.statements)) (c.loop-i.i, w.in-Some.count) =
          (λ i. record { key = key i; loc = w.whole_line-loc.ensures i; count = w.in-Some.count }) in
          let grown = w.statements-is ∙ w.in_ok-push.ensures.ok in
          let room = ap length grown in
          let one = length-append c.loop-i.statements (s ∷ []) in
          let index = w.len.ensures in
          record {
            value = with_count c.args.table.now c.args.off.now c.args.parts.now c.loop-i.i w.in-Some.count c.loop-i.statements c.match-line_count.statements _
                s grown made
                c.loop-i-test.true c.if-is_off.false w.in-Some.ensures c.loop-i.invariant.value;
            bound = omega arith;
          }
      | in_default w ↦ record {
        value = without_count c.args.table.now c.args.off.now c.args.parts.now c.loop-i.i c.loop-i.statements c.match-line_count.statements _ w.statements-is
            c.loop-i-test.true c.if-is_off.false w.in_default.ensures c.loop-i.invariant.value;
        bound = let same = ap length w.statements-is in omega arith;
      }
    ]
