use Rattle.std.proofs.Common.{ℕ, List, map, ap, ◌∙◌, ◌++◌}
use Rattle.std.proofs.lemmas.List.Sorted.{IsNonDecreasingBy-from_sort}
use Rattle.source_remap.specs.declared.lines.Landing.{Landing}
use Rattle.istanbul_rules.proofs.Offsets.{offsets-more, all_found}
use Rattle.istanbul_rules.proofs.counting.landing_offsets.Goals as goal

pub loop-list-preserved : goal.loop-list-preserved
loop-list-preserved c =
    offsets-more c.args.landings.now c.loop-list.list-index c.list-item.result c.loop-list.offsets.items c.add_offsets.new.offsets.items _ c.loop-list-test.true
    (c.in_ok-add_offsets.ensures ∙ ap (λ (ls : List Landing). c.loop-list.offsets.items ++ map (λ (l : Landing). l.offset) ls) (c.as_slice.ensures ∙ c.list-item.is)) c.loop-list.invariant

pub returns-clause-sorted : goal.returns-clause-sorted
returns-clause-sorted c = IsNonDecreasingBy-from_sort (λ (x : ℕ). x) c.sort_unstable.new.self.items c.sort_unstable.ensures.sorted

pub returns-clause-all : goal.returns-clause-all
returns-clause-all c =
    all_found c.args.landings.now c.loop-list.list-index c.loop-list.offsets.items c.sort_unstable.new.self.items c.loop-list-test.false c.loop-list.invariant c.sort_unstable.ensures.permutation
