use Rattle.std.proofs.Common.{◌≡◌, [], ◌∷◌, length, sym, ap, ◌∙◌, arith, length-append}
use Rattle.std.specs.Prelude.{map}
use Rattle.std.proofs.lemmas.List.{map-append, length-map}
use Rattle.std.proofs.lemmas.Iterator.Splits.{YieldsList-from_lines}
use Rattle.std.proofs.lemmas.Iterator.Consumers.{YieldsList-end}
use Rattle.istanbul_rules.specs.Ignored.{marks, ignored}
use Rattle.istanbul_rules.specs.Walk.{covered}
use Rattle.istanbul_rules.proofs.Walked.{line_walked}
use Rattle.istanbul_rules.proofs.ignoring.ignored.Goals as goal

pub loop-line-preserved : goal.loop-line-preserved
loop-line-preserved c =
    let ys = map (λ line. line.now) c.loop-line.yielded in
    let seen : length ys ≡ length c.loop-line.yielded = length-map c.loop-line.yielded (λ line. line.now) in
    let more = map-append (λ line. line.now) c.loop-line.yielded (c.in-Some.line ∷ []) in
    let last = length-append c.loop-line.yielded (c.in-Some.line ∷ []) in
    let walk = line_walked ys c.in-Some.line.now c.loop-line.off c.push.new.self c.loop-line.is_open c.has_start-is_open.result c.has_stop.result c.loop-line.at c.loop-line.reached
    c.lines_covered.result c.max-reached.result _ (sym more) (record {
      off = c.loop-line.invariant.off;
      is_open = c.loop-line.invariant.is_open;
      reached = c.loop-line.invariant.reached;
      at = c.loop-line.invariant.at ∙ sym seen;
    }) c.has_start-is_open.ensures c.has_stop.ensures (c.lines_covered.ensures.value ∙ ap covered c.as_bytes.ensures.value) c.max-reached.ensures c.in_ok-push.ensures.ok in
    record { off = walk.off; is_open = walk.is_open; reached = walk.reached; at = omega arith }

pub returns : goal.returns
unfolding ignored
returns c =
    let end = YieldsList-end (YieldsList-from_lines c.args.text.now (cc)) c.loop-line.yielded _ c.loop-line.yielded_by _ _ c.in-None.is c.next.ensures.steps in
    c.loop-line.invariant.off ∙ ap marks end.0
