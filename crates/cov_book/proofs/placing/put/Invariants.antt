use Rattle.std.proofs.Common.{◌≡◌, ◌≤◌, ◌+◌, ◌++◌, length, reverse}
use Rattle.std.specs.Option.{option_or}
use Rattle.std.specs.List.{AllByRecursion}
use Rattle.std.specs.Vec.{vec_len, vec_capacity}
use Rattle.std.specs.Vec.Iter.{into_iter_items, into_iter_len}
use Rattle.cov_text.specs.Listing.{inserted, text_cmp}
use Rattle.cov_model.specs.declared.sums.Key.{Key}
use Rattle.cov_book.specs.Listed.{AreSorted, held_in, urls_in}
use Rattle.cov_book.specs.Room.{HasRoom, changes_in}
use Rattle.cov_book.specs.Renewed.{AreChanged, changed_scripts, changed_urls}
use Rattle.cov_book.proofs.placing.put.Given as goal

-- what is left, put into what there is, gives what all do
abbrev pub invariant-loop-update : goal.invariant-loop-update
invariant-loop-update l = record {
  order : AreSorted (l.walk.done.items ++ reverse l.walk.left.items);
  left : AreChanged (changes_in (into_iter_items l.update-iterator));
  held : (key : Key) → option_or (held_in (changed_scripts (l.walk.done.items ++ reverse l.walk.left.items) (changes_in (into_iter_items l.update-iterator))) key) (held_in (l.walk.done.items ++ reverse l.walk.left.items) key)
      ≡ option_or (held_in (changed_scripts l.fn.scripts.items l.fn.changed.items) key) (held_in l.fn.scripts.items key);
  urls : inserted text_cmp (urls_in (l.walk.done.items ++ reverse l.walk.left.items)) (changed_urls (changes_in (into_iter_items l.update-iterator))) ≡ inserted text_cmp (urls_in l.fn.scripts.items) (changed_urls l.fn.changed.items);
  room : AllByRecursion (HasRoom (l.walk.done.items ++ reverse l.walk.left.items)) (into_iter_items l.update-iterator);
  place : vec_len l.walk.done + length l.walk.left.items + into_iter_len l.update-iterator ≤ vec_capacity l.walk.done;
  count : into_iter_len l.update-iterator ≡ length (into_iter_items l.update-iterator);
}
