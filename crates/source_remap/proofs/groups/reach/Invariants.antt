use Rattle.std.proofs.Common.{◌≡◌, ℕ, ◌≤◌, length}
use Rattle.source_remap.specs.Groups.{of_source}
use Rattle.source_remap.proofs.groups.reach.Given as goal

-- each source has what it had
abbrev pub invariant-loop-list : goal.invariant-loop-list
invariant-loop-list g l = ((k : ℕ) → of_source l.lists.items k ≡ of_source l.fn.lists.items k) × (l._list ≤ length l.lists.items)
