use Rattle.cov_files.proofs.NormalFiles.{none-fits}
use Rattle.cov_files.proofs.normal.read_in.Goals as goal

pub returns-in-Err-Sum-clause-fails : goal.returns-in-Err-Sum-clause-fails
returns-in-Err-Sum-clause-fails c =
    let past = rw c.in-Err-Sum.field-0-is at c.in-Err-Sum.ensures.sum in
    none-fits c.args.form c.args.bytes.now c.in-Ok.snapshot c.in-Err-Sum.field-0-0 c.in-Ok.ensures past
