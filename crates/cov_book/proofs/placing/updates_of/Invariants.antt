use Rattle.std.proofs.Common.{◌≡◌, ◌++◌, length}
use Rattle.std.specs.List.{AllByRecursion}
use Rattle.std.specs.Vec.Iter.{into_iter_items, into_iter_len}
use Rattle.cov_book.specs.Room.{HasRoom, changes_in}
use Rattle.cov_book.proofs.placing.updates_of.Given as goal

-- the changes so far, with those that are left, are all
abbrev pub invariant-loop-change : goal.invariant-loop-change
invariant-loop-change l = record {
  made : changes_in l.updates.items ++ into_iter_items l.change-iterator ≡ l.fn.changed.items;
  room : AllByRecursion (HasRoom l.scripts) l.updates.items;
  count : into_iter_len l.change-iterator ≡ length (into_iter_items l.change-iterator);
}
