use Rattle.std.proofs.Common.{map, ◌∙◌, subst}
use Rattle.std.specs.List.{All, Contains}
use Rattle.source_remap.specs.declared.lines.Landing.{Landing}
use Rattle.source_remap.specs.Groups.{of_source}
use Rattle.istanbul_rules.specs.Parts.{count_at}
use Rattle.istanbul_rules.proofs.remapped.Remapped.of.Goals as goal

pub invariant_of-result : goal.invariant_of-result
invariant_of-result c =
    let ranges = c.as_slice.ensures ∙ c.in_ok-ranges.ensures in (
      record { lands = c.in_ok-landings.ensures; ranges = c.in_ok-branches.ensures; roots = c.in_ok-named.ensures },
      record {
        rise = c.in_ok-offsets.ensures.sorted;
        within = λ source. subst (λ lists. All (Contains c.in_ok-offsets.offsets.items) (map (λ (l : Landing). l.offset) (of_source lists source))) c.lists.ensures (c.in_ok-offsets.ensures.all source);
        painted = c.in_ok-counts.ensures ∙ (λ i. map (count_at (ranges i)) (c.deref.ensures.value i));
      },
    )
