use Rattle.std.proofs.Common.{arith}
use Rattle.cov_session.proofs.Scripted.{not_past}
use Rattle.cov_attach.proofs.session.Session.hear.Goals as goal

pub overflow_add-self : goal.overflow_add-self
overflow_add-self g c =
    let counted = c.requires.counted in
    omega (arith, not_past c.args.self.now.client c.requires.awaits, counted.takes, counted.received, counted.events)
