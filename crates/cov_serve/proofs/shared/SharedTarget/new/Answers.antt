use Rattle.std.proofs.Common.{rules, ◌∙◌}
use Rattle.cov_serve.proofs.Serves.{seats_more}
use Rattle.cov_serve.proofs.shared.SharedTarget.new.Goals as goal

pub loop-session-preserved : goal.loop-session-preserved
loop-session-preserved g c =
    let n = c.new-in-loop-session.ensures in
    record {
      takes = search rules;
      frames = search rules;
      starts = search rules;
      seats = seats_more c.loop-session.session c.loop-session.seats.items c.push.new.self.items c.new-in-loop-session.result c.loop-session.invariant.seats c.in_ok-push.ensures.items (search rules)
          (n.takes ∙ c.split_off-takes.ensures.amount) (n.frames ∙ c.split_off-frames.ensures.amount) (n.starts ∙ c.split_off-starts.ensures.amount);
    }
