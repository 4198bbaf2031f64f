use Rattle.cov_laws.proofs.OfTexts.{told-by-file}
use Rattle.cov_laws.proofs.have_one_file.Goals as goal

pub returns-clause-files : goal.returns-clause-files
returns-clause-files c held more one other h k = told-by-file c.agrees.result held more one.fit other.fit h k (c.agrees.ensures.lists held more one other)
