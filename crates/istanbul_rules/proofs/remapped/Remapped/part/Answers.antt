use Rattle.std.proofs.Common.{◌≡◌, map, sym, ap, ◌∙◌, subst, subst₂}
use Rattle.std.specs.Prelude.{filter_map}
use Rattle.std.specs.List.{All, Contains}
use Rattle.source_remap.specs.declared.lines.Landing.{Landing}
use Rattle.source_remap.specs.Origins.{original_lines}
use Rattle.istanbul_rules.specs.declared.part.Part.{Part}
use Rattle.istanbul_rules.specs.Parts.{mapped_part, mapped_line, ranges_in_order, count_at, greatest}
use Rattle.istanbul_rules.specs.Remapped.{branch_in, function_in}
use Rattle.istanbul_rules.proofs.Offsets.{leftmost_within}
use Rattle.istanbul_rules.proofs.Spans.{lines-are, branches-are, functions-are}
use Rattle.istanbul_rules.proofs.remapped.Remapped.part.Goals as goal

pub mapped_lines-requires-clause-within : goal.mapped_lines-requires-clause-within
mapped_lines-requires-clause-within c =
    let within = subst (λ ls. All (Contains c.self.inside.offsets.items) (map (λ (l : Landing). l.offset) ls)) (sym c.of.ensures) (c.self.invariant.1.within c.args.source) in
    subst₂ (λ offsets anchors. All (All (Contains offsets)) anchors) (sym c.deref.ensures.value) (sym (c.as_slice.ensures ∙ c.in_ok-anchors.ensures))
    (leftmost_within c.self.inside.offsets.items c.of.result.now 0 c.lines.result within)

pub returns : goal.returns
unfolding mapped_part
returns c =
    let generated = c.self.inside.generated.now in
    let segments = c.self.inside.map.now.segments in
    let all = c.self.inside.functions.now in
    let source = c.args.source in
    let count_of = count_at (ranges_in_order all) in
    let counts = c.deref-2.ensures.value ∙ c.self.invariant.1.painted ∙ ap (map count_of) (sym c.deref.ensures.value) in
    let lines =
    c.in_ok-lines.ensures count_of counts ∙ ap (map (λ places. greatest (map count_of places))) (c.as_slice.ensures ∙ c.in_ok-anchors.ensures)
    ∙ lines-are generated segments source c.lines.result all c.of.result.now (c.of.ensures ∙ c.self.invariant.0.lands source)
    ∙ ap (λ n. map (mapped_line (ranges_in_order all)) (original_lines segments source generated n)) c.lines.ensures.count in
    let branches =
    c.in_ok-branches.ensures ∙ ap (filter_map (branch_in c.args.table.now source)) (c.of-2.ensures ∙ c.self.invariant.0.ranges source)
    ∙ branches-are c.args.table.now generated segments source all in
    let functions =
    c.in_ok-functions.ensures ∙ ap (filter_map (function_in c.args.table.now source)) (c.of-3.ensures ∙ c.self.invariant.0.roots source)
    ∙ functions-are c.args.table.now generated segments source all in
    let part : Part = record { lines = c.in_ok-lines.lines; branches = c.in_ok-branches.branches; functions = c.in_ok-functions.functions } in
    subst (λ code. part ≡ mapped_part c.args.table.now code.generated code.segments source code.functions) c.self.view_is
    (λ i. record { lines = lines i; branches = branches i; functions = functions i })
