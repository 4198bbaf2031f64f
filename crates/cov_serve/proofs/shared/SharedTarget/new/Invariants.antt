use Rattle.std.specs.Prelude.{◌≡◌, ◌+◌}
use Rattle.cov_serve.specs.Seats.{new_seats}
use Rattle.cov_serve.proofs.shared.SharedTarget.new.Given as goal

abbrev pub invariant-loop-session : goal.invariant-loop-session
invariant-loop-session g l =
    record {
      takes : (l.all_takes.parts + l.session ≡ g.N.Show.sessions) × (l.all_takes.amount ≡ 0);
      frames : (l.all_frames.parts + l.session ≡ g.N.Show.sessions) × (l.all_frames.amount ≡ 0);
      starts : (l.all_starts.parts + l.session ≡ g.N.Show.sessions) × (l.all_starts.amount ≡ 0);
      seats : l.seats.items ≡ new_seats l.session;
    }
