use Rattle.std.proofs.Common.{ap, ◌∙◌}
use Rattle.cov_model.specs.Reading.{reading}
use Rattle.cov_collect.proofs.Shelves.{reading-at}
use Rattle.cov_collect.proofs.batch.take_under.Goals as goal

pub take_open-done-requires : goal.take_open-done-requires
take_open-done-requires g c = record {
  read =
      reading-at c.args.texts.now g.N.Naming.texts c.args.place c.index-texts-place.result _ c.requires.texts c.requires.place
      c.index-texts-place.is (c.in_ok-read.ensures ∙ ap reading c.as_slice.ensures.value);
}
