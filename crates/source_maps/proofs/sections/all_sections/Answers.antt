use Rattle.source_maps.proofs.Moved.{sections_next, parts_next}
use Rattle.source_maps.proofs.sections.all_sections.Goals as goal

pub loop-k-preserved : goal.loop-k-preserved
loop-k-preserved c =
    record {
      map =
          sections_next c.args.values.now c.loop-k.k c.index-values-k.result c.loop-k.ahead c.loop-k.map c.in_ok-start.next c.in-Ok.both c.in_ok-start.start
          c.len-sources.result c.len-names.result _ c.loop-k-test.true c.index-values-k.is c.len-sources.ensures c.len-names.ensures c.in-Ok.ensures
          c.in_ok-start.ensures.section c.loop-k.invariant.map;
      parts =
          parts_next c.loop-k.map c.in_ok-start.next c.in-Ok.both c.len-sources.result c.len-names.result c.len-sources.ensures c.len-names.ensures c.in-Ok.ensures
          c.loop-k.invariant.parts c.in_ok-start.ensures.parts;
    }
