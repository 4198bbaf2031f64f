use Rattle.std.proofs.Common.{◌≡◌, ◌-◌, ◌≤◌, ◌++◌, length}
use Rattle.std.specs.Prelude.{None, replicate}
use Rattle.source_maps.specs.Maps.{fitted}
use Rattle.source_maps.proofs.plain.fitted.Given as goal

-- the contents so far, and those that are missing, are all
abbrev pub invariant-loop-contents : goal.invariant-loop-contents
invariant-loop-contents l =
    record {
      all : l.contents.items ++ replicate (l.sources - length l.contents.items) None ≡ fitted l.sources l.fn.contents;
      few : length l.contents.items ≤ l.sources;
    }

abbrev pub decreases-loop-contents : goal.decreases-loop-contents
decreases-loop-contents l = l.sources - length l.contents.items
