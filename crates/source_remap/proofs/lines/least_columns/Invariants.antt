use Rattle.std.proofs.Common.{◌≡◌, map, take}
use Rattle.cov_text.specs.Listing.{counted}
use Rattle.source_remap.specs.Columns.{least_on}
use Rattle.source_remap.proofs.lines.least_columns.Given as goal

-- the least column of each line among those so far
abbrev pub invariant-loop-landing : goal.invariant-loop-landing
invariant-loop-landing l = l.least.items ≡ map (least_on (take l.landing-index l.landings)) (counted 0 l.lines)
