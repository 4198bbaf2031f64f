use Rattle.std.proofs.Common.{◌∙◌, length}
use Rattle.std.specs.Prelude.{slice_get}
use Rattle.cov_serve.proofs.Serves.{stepped_served, stepped_answered, stepped_takes}
use Rattle.cov_serve.proofs.locked.served_step.Goals as goal

pub returns-clause-served : goal.returns-clause-served
returns-clause-served c =
    stepped_served c.args.target.now c.resume.new.self c.step.new.self c.args.session c.args.desk.now c.args.command.now c.resume.ensures.state c.step.result c.step.ensures.state c.step.ensures.err

pub returns-clause-answered : goal.returns-clause-answered
returns-clause-answered c =
    stepped_answered c.args.target.now c.resume.new.self c.step.new.self c.args.session c.args.desk.now c.args.command.now c.resume.ensures.state c.requires.within c.in_ok-reply.ensures.state c.in_ok-reply.reply c.in_ok-reply.ensures.reply
    c.take_at-take.result (c.take_at-take.ensures ∙ (λ i. slice_get (c.takes.ensures.value i) (length (c.takes-earlier.ensures.value i))))

pub returns-clause-takes : goal.returns-clause-takes
returns-clause-takes c =
    stepped_takes c.args.target.now c.resume.new.self c.step.new.self c.args.session c.args.desk.now c.args.command.now c.resume.ensures.state c.in_ok-reply.ensures.state
    c.take_at-take.result (c.take_at-take.ensures ∙ (λ i. slice_get (c.takes.ensures.value i) (length (c.takes-earlier.ensures.value i))))
