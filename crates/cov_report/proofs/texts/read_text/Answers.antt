use Rattle.std.proofs.Common.{◌≡◌, ◌∙◌}
use Rattle.cov_io.specs.Told.{bytes_at}
use Rattle.cov_report.proofs.TextIn.{found-text}
use Rattle.cov_report.proofs.texts.read_text.Goals as goal

pub returns-in-Ok-clause-text : goal.returns-in-Ok-clause-text
returns-in-Ok-clause-text g c = λ files is. c.text_in.ensures.text ∙ found-text (bytes_at c.args.path.now files) c.in-Ok.bytes.items (c.in-Ok.ensures.bytes files is)
