use Rattle.std.proofs.Common.{◌≡◌, ◌++◌, length}
use Rattle.std.specs.Prelude.{map}
use Rattle.std.specs.List.{zip}
use Rattle.std.specs.Vec.Iter.{into_iter_items, into_iter_len}
use Rattle.istanbul_json.specs.Answers.{pairs, texted}
use Rattle.istanbul_json.proofs.keys.made.Given as goal

-- those made so far, and those of the rest, are all
abbrev pub invariant-loop-key : goal.invariant-loop-key
invariant-loop-key g l =
    record {
      made : l.all.items ++ map g.T.Listed.made (zip (texted (into_iter_items l.key-iterator)) (texted (into_iter_items l.counts))) ≡ map g.T.Listed.made (zip (pairs l.fn.entries) (pairs l.fn.counts));
      entries : into_iter_len l.key-iterator ≡ length (into_iter_items l.key-iterator);
      counts : into_iter_len l.counts ≡ length (into_iter_items l.counts);
    }
