use Rattle.std.proofs.Common.{[], ◌+◌, take, sym, ap, ◌∙◌, subst}
use Rattle.source_remap.specs.Groups.{AreBySource}
use Rattle.istanbul_rules.specs.declared.remapped.NamedSpan.{NamedSpan}
use Rattle.istanbul_rules.specs.Remapped.{named_span, named_from}
use Rattle.istanbul_rules.proofs.Spans.{from-put, from-same}
use Rattle.istanbul_rules.proofs.remapped.named_spans.Goals as goal
use Rattle.istanbul_rules.proofs.remapped.named_spans.Goals.{in-Some+in_ok-put, in_default}

pub loop-function-preserved : goal.loop-function-preserved
loop-function-preserved c =
    let made = named_span c.args.generated.now c.args.map.now.segments in
    let all = take (c.loop-function.function-index + 1) c.args.functions.now in
    let is = sym (c.in_ok-named.ensures ∙ ap made c.function-item.is) in
    elim c.match-branch-2.branch [
      | in-Some+in_ok-put w ↦
          subst (AreBySource (named_from c.args.generated.now c.args.map.now.segments) all) (sym w.found-is)
          (from-put (λ (n : NamedSpan). n.root.span.source) made [] c.args.functions.now c.loop-function.function-index c.function-item.result w.in-Some.named c.loop-function.found
          w.put.new.self c.loop-function-test.true w.in_ok-put.ensures (is ∙ w.in-Some.is) c.loop-function.invariant)
      | in_default w ↦
          subst (AreBySource (named_from c.args.generated.now c.args.map.now.segments) all) (sym w.found-is)
          (from-same (λ (n : NamedSpan). n.root.span.source) made [] c.args.functions.now c.loop-function.function-index c.function-item.result c.loop-function.found
          c.loop-function-test.true (is ∙ w.in_default.is) c.loop-function.invariant)
    ]
