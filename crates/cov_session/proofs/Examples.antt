-- The worked examples, by computation.
use Rattle.std.specs.Prelude.{refl}
use Rattle.cov_model.proofs.Examples.{cov_on_literals}
use Rattle.cov_session.specs.Examples.{TwoSessions, Views, OneSession, StillRuns, Resumes, ClientRuns}

pub two_sessions : TwoSessions
unfolding cov_on_literals
two_sessions = (refl, refl, refl, refl)

pub views : Views
unfolding cov_on_literals
views = (refl, refl, refl)

pub one_session : OneSession
one_session = refl

pub still_runs : StillRuns
still_runs = refl

pub resumes : Resumes
resumes = (refl, refl, refl)

pub client_runs : ClientRuns
unfolding cov_on_literals
client_runs = (refl, refl, refl, refl)
