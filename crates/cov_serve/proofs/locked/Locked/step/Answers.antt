use Rattle.std.proofs.Common.{subst}
use Rattle.std.specs.Option.{option_to_list}
use Rattle.cov_serve.specs.Seats.{Seated}
use Rattle.cov_serve.specs.Answering.{IsAnswered, judged}
use Rattle.cov_serve.proofs.Serves.{total_more, length_more, replied_more, starts_more}
use Rattle.cov_serve.proofs.locked.Locked.step.Goals as goal

pub invariant_of-self-2 : goal.invariant_of-self-2
invariant_of-self-2 g c =
    let e = c.in_ok-stepped.ensures in
    let ts = c.args.self.now.target.takes in
    let us = c.served_step.new.target.takes in
    let add = option_to_list c.in_ok-stepped.stepped.take in
    record {
      served = e.served g.N.Show.tape g.N.Show.pace g.N.Show.sessions c.args.self.now.served;
      takes_are = total_more _ _ _ _ _ _ c.add.ensures.total c.args.self.now.takes_are c.taken.ensures (length_more ts us add e.takes);
      frames_are = total_more _ _ _ _ _ _ c.add-2.ensures.total c.args.self.now.frames_are c.frames_in.ensures (replied_more ts us add e.takes);
      starts_are = total_more _ _ _ _ _ _ c.add-3.ensures.total c.args.self.now.starts_are c.start_in.ensures (starts_more ts us add e.takes);
    }

pub returns-clause-answered : goal.returns-clause-answered
returns-clause-answered g c =
    subst (λ (s : Seated). IsAnswered g.N.Show.tape g.N.Show.pace s.session (judged c.args.desk.now c.args.command.now) c.in_ok-stepped.stepped.reply c.in_ok-stepped.stepped.take) c.seat.view_is
    (c.in_ok-stepped.ensures.answered g.N.Show.tape g.N.Show.pace g.N.Show.sessions c.args.self.now.served)
