use Rattle.std.proofs.Common.{ap, arith}
use Rattle.cov_session.specs.Script.{Talk}
use Rattle.cov_session.proofs.Scripted.{not_past}
use Rattle.cov_session.proofs.client.Client.answer.Goals as goal

pub invariant_of-self : goal.invariant_of-self
invariant_of-self c =
    let is = c.self.view_is in
    (omega (arith, not_past c.args.self.now c.requires.awaits, ap (λ (t : Talk). t.answered) is, ap (λ (t : Talk). t.takes) is), omega arith)
