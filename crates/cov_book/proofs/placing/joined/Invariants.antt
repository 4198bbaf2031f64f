use Rattle.std.proofs.Common.{◌≡◌, ◌≤◌, ◌+◌, ◌++◌, ℕ, List, length, reverse}
use Rattle.std.specs.Vec.{vec_len, vec_capacity}
use Rattle.cov_model.specs.declared.sums.Key.{Key}
use Rattle.cov_book.specs.Joining.{AreJoined, either}
use Rattle.cov_book.proofs.placing.joined.Given as goal

-- what is left stands before what was taken, and with it tells the sums of both lists
abbrev pub invariant-left : goal.invariant-left
invariant-left l = record {
  joined : AreJoined l.old.items l.fresh.items (reverse l.all.items);
  found : (url : List ℕ) (key : Key) → either url (l.fresh.items ++ reverse l.all.items) (l.old.items ++ reverse l.all.items) key ≡ either url l.fn.new.items l.fn.held.items key;
  room : vec_len l.all + (length l.old.items + length l.fresh.items) ≤ vec_capacity l.all;
}

abbrev pub decreases-left : goal.decreases-left
decreases-left l = length l.old.items + length l.fresh.items
