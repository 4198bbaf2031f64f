use Rattle.source_maps.proofs.Moved.{section_is}
use Rattle.source_maps.proofs.sections.section_of.Goals as goal

pub returns-clause-parts : goal.returns-clause-parts
returns-clause-parts c =
    section_is c.in_ok-start.start c.args.sources c.args.names c.args.k c.in_ok-map.map c.as_slice.result.now c.in_ok-segments.segments c.in_ok-map.ensures.parts
    c.as_slice.ensures c.in_ok-segments.ensures
