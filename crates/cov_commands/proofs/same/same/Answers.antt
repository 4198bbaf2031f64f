use Rattle.std.proofs.Common.{◌∙◌, arith, rules}
use Rattle.cov_model.specs.Outcome.{accepted}
use Rattle.cov_commands.specs.Due.{readings}
use Rattle.cov_commands.specs.Owed.{owed_of}
use Rattle.cov_commands.proofs.Answered.{folder-read, same-is-due}
use Rattle.cov_commands.proofs.Tools.{reads-same}
use Rattle.cov_commands.proofs.same.same.Goals as goal

pub returns-in-Ok-answered : goal.returns-in-Ok-answered
returns-in-Ok-answered g c =
    let one = c.args.one.now in
    let other = c.args.other.now in
    let first = c.in-Ok.ensures in
    let second = c.in-Ok-gather.ensures in
    let agree = c.have_one_file-agree in
    reads-same _ _ one other c.in-Ok-answered.due agree.result _ _
    (λ files told. same-is-due one other files _ _ c.in-Ok.found c.in-Ok-gather.more agree.result (owed_of c.in-Ok-answered.due)
    (first.taken files told) (second.taken files (first.still.files ∙ told)) agree.ensures.sums c.in-Ok-answered.ensures)
    (λ files told. agree.ensures.files (accepted (readings one files)) (accepted (readings other files))
    (first.taken files told).book (second.taken files (first.still.files ∙ told)).book (folder-read one files) (folder-read other files))
    c.in-Ok-answered.ensures (search rules) (second.kept ∙ first.kept)
    (record { files = second.still.files ∙ first.still.files; folders = second.still.folders ∙ first.still.folders; later = omega arith })
