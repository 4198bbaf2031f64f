use Rattle.std.proofs.Common.{◌≡◌, map, take, length}
use Rattle.cov_text.specs.Listing.{counted}
use Rattle.source_remap.proofs.Anchors.{leftmost_so_far}
use Rattle.source_remap.proofs.lines.leftmost_offsets.Given as goal

-- of those so far the offsets of the leftmost of each line
abbrev pub invariant-loop-landing : goal.invariant-loop-landing
invariant-loop-landing l = l.found.items ≡ map (leftmost_so_far l.landings (take l.landing-index l.landings)) (counted 0 (length l.least))
