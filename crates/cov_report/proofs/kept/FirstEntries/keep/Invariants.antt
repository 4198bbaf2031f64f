use Rattle.std.proofs.Common.{◌≡◌, List, ◌++◌, map, length}
use Rattle.std.specs.Vec.Iter.{into_iter_items, into_iter_len}
use Rattle.source_maps.specs.Entries.{Said, said}
use Rattle.cov_report.specs.First.{AreFirsts}
use Rattle.cov_report.proofs.kept.FirstEntries.keep.Given as goal

-- the entries gone over so far are taken, and with those that are left they are all
abbrev pub invariant-loop-entry : goal.invariant-loop-entry
invariant-loop-entry l = record {
  kept : (all : List Said) → AreFirsts all l.fn.self → (done : List Said) × (done ++ map said (into_iter_items l.entry-iterator) ≡ all ++ map said l.fn.found) × AreFirsts done l.self;
  count : into_iter_len l.entry-iterator ≡ length (into_iter_items l.entry-iterator);
}
