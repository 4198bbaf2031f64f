use Rattle.std.proofs.Common.{◌≡◌, ◌++◌, true, length}
use Rattle.std.specs.List.{list_all}
use Rattle.std.specs.Vec.Iter.{into_iter_items, into_iter_len}
use Rattle.istanbul_json.specs.Walks.{shown_by, members_of}
use Rattle.istanbul_json.proofs.joining.joined.Given as goal

-- the parts of those made so far, and those of the rest, are all
abbrev pub invariant-loop-entry : goal.invariant-loop-entry
invariant-loop-entry g l =
    record {
      entries : shown_by g.T.Listed.key_of g.T.Listed.entry_of l.all.items ++ members_of (into_iter_items l.entry-iterator) ≡ members_of l.fn.entries.items;
      counts : shown_by g.T.Listed.key_of g.T.Listed.counts_of l.all.items ++ members_of (into_iter_items l.counts) ≡ members_of l.fn.counts.items;
      fit : list_all g.T.Listed.fits_of l.all.items ≡ true;
      entries_left : into_iter_len l.entry-iterator ≡ length (into_iter_items l.entry-iterator);
      counts_left : into_iter_len l.counts ≡ length (into_iter_items l.counts);
    }
