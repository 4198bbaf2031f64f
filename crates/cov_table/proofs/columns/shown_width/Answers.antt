use Rattle.std.proofs.Common.{◌∙◌}
use Rattle.cov_table.proofs.Characters.{same_characters}
use Rattle.cov_table.proofs.columns.shown_width.Goals as goal

pub returns : goal.returns
returns c = c.character_count.ensures ∙ same_characters c.args.name.now c.utf8.name
