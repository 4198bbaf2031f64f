-- What holds of the lists of both forms.
use Rattle.cov_model.specs.declared.report.ListForm.TheVariants.{Nested, Flat}
use Rattle.cov_model.specs.Normal.{flat}
use Rattle.cov_normal.specs.Laws.{CountsDetermineIt, ItIsWellNested}
use Rattle.cov_normal.proofs.Counting.{nested-same, nested-well}
use Rattle.cov_normal.proofs.Lists.{shape-nests}
use Rattle.cov_normal.proofs.One.{flat-same, flat-shape}

pub counts_determine_it : CountsDetermineIt
counts_determine_it Nested s e c f g same = nested-same s e c f g same
counts_determine_it Flat s e c f g same = flat-same s e c f g same

pub it_is_well_nested : ItIsWellNested
it_is_well_nested Nested s e c f le = nested-well s e c f le
it_is_well_nested Flat s e c f le = shape-nests (flat s e c f) (flat-shape s e c f le)
