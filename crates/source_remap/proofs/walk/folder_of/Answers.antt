use Rattle.source_remap.proofs.Named.{inner_segments-cut}
use Rattle.source_remap.proofs.walk.folder_of.Goals as goal

pub returns : goal.returns
returns c = inner_segments-cut c.args.segments.now _ _ c.saturating_sub-end.ensures c.min.ensures
