use Rattle.std.proofs.Common.{◌≡◌, ◌+◌, ◌-◌, ◌≤◌, length}
use Rattle.vlq_mappings.specs.Pieces.{piece_at, near_values}
use Rattle.vlq_mappings.proofs.Groups.{closed}
use Rattle.vlq_mappings.proofs.Numbers.{cap, heavy}
use Rattle.vlq_mappings.proofs.values.read_value.Given as goal

abbrev pub invariant-groups : goal.invariant-groups
invariant-groups l = record {
  same : closed l.fn.from l.whole l.weight l.at (near_values l.at (piece_at l.bytes l.at)) ≡ near_values l.fn.from (piece_at l.bytes l.fn.from);
  below : l.whole ≤ cap;
  positive : 1 ≤ l.weight;
  light : l.weight ≤ heavy;
  onward : l.fn.from ≤ l.at;
  within : l.at ≤ length l.bytes;
  end : l.at + length (piece_at l.bytes l.at) ≡ l.fn.from + length (piece_at l.bytes l.fn.from);
}

abbrev pub decreases-groups : goal.decreases-groups
decreases-groups l = length l.bytes - l.at
