use Rattle.std.proofs.Common.{None, ◌∷◌, [], length-append, arith}
use Rattle.source_maps.proofs.Read.{one_missing}
use Rattle.source_maps.proofs.plain.fitted.Goals as goal

pub loop-contents-preserved : goal.loop-contents-preserved
loop-contents-preserved c =
    let size = length-append c.loop-contents.contents.items (None ∷ []) in
    record {
      all = one_missing c.loop-contents.contents.items c.push.new.self.items c.args.sources None _ c.in_ok-push.ensures.items (omega arith) c.loop-contents.invariant.all;
      few = omega (arith, c.in_ok-push.ensures.len);
    }
