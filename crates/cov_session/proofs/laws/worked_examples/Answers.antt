use Rattle.cov_session.proofs.Examples as examples
use Rattle.cov_session.proofs.laws.worked_examples.Goals as goal

pub returns-clause-two_sessions : goal.returns-clause-two_sessions
returns-clause-two_sessions c = examples.two_sessions

pub returns-clause-views : goal.returns-clause-views
returns-clause-views c = examples.views

pub returns-clause-one_session : goal.returns-clause-one_session
returns-clause-one_session c = examples.one_session

pub returns-clause-still_runs : goal.returns-clause-still_runs
returns-clause-still_runs c = examples.still_runs

pub returns-clause-resumes : goal.returns-clause-resumes
returns-clause-resumes c = examples.resumes

pub returns-clause-client_runs : goal.returns-clause-client_runs
returns-clause-client_runs c = examples.client_runs
