use Rattle.std.proofs.Common.{◌≡◌, true, length, ap, ◌∙◌, arith}
use Rattle.std.specs.List.{list_all}
use Rattle.vlq_mappings.specs.Kept.{is_near as segment_is_near}
use Rattle.source_maps.specs.Kept.{is_near, is_below}
use Rattle.source_maps.specs.Maps.{located}
use Rattle.source_maps.proofs.Read.{if_below, near_located, none_past, spelt-ok}
use Rattle.source_maps.proofs.Counts.{few_lines, few_segments}
use Rattle.source_maps.proofs.segments.segments_of.Goals as goal

pub located-requires : goal.located-requires
located-requires c =
    let few = few_lines _ c.in_ok-mappings.mappings (spelt-ok c.args.section _ c.in_ok-mappings.mappings c.in_ok-mappings.ensures) in
    let same = ap length c.lines.ensures.value in
    let short = c.in_ok-text.ensures.short in
    omega arith

pub all_below-requires : goal.all_below-requires
all_below-requires c =
    let few = few_segments _ c.in_ok-mappings.mappings (spelt-ok c.args.section _ c.in_ok-mappings.mappings c.in_ok-mappings.ensures) in
    let same = ap length (c.in-Ok.ensures ∙ ap (located 0) c.lines.ensures.value) in
    let short = c.in_ok-text.ensures.short in
    omega arith

pub returns-clause-near : goal.returns-clause-near
returns-clause-near c =
    let few = few_lines _ c.in_ok-mappings.mappings (spelt-ok c.args.section _ c.in_ok-mappings.mappings c.in_ok-mappings.ensures) in
    let same = ap length c.lines.ensures.value in
    let short = c.in_ok-text.ensures.short in
    let near : list_all (list_all segment_is_near) c.lines.result.now ≡ true = ap (list_all (list_all segment_is_near)) c.lines.ensures.value ∙ c.lines.ensures.kept.near in
    let all : list_all is_near c.in-Ok.segments ≡ true = ap (list_all is_near) c.in-Ok.ensures ∙ near_located 0 c.lines.result.now (omega arith) near in
    if_below (λ segments. list_all is_near segments ≡ true) c.in-Ok.segments c.args.sources c.args.names c.all_below.result c.all_below.ensures (λ e. all)

pub returns-clause-below : goal.returns-clause-below
returns-clause-below c =
    if_below (λ segments. list_all (is_below c.args.sources c.args.names) segments ≡ true) c.in-Ok.segments c.args.sources c.args.names c.all_below.result c.all_below.ensures
    (λ e. none_past c.args.sources c.args.names c.in-Ok.segments e)
