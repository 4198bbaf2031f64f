use Rattle.std.specs.Prelude.{◌≡◌, ◌+◌, sum_by, vec_len}
use Rattle.cov_serve.proofs.shared.gathered.Given as goal

abbrev pub invariant-loop-seat : goal.invariant-loop-seat
invariant-loop-seat g l =
    record {
      parts : (l.takes.parts + vec_len l.seats ≡ vec_len l.fn.seats) × (l.frames.parts + vec_len l.seats ≡ vec_len l.fn.seats) × (l.starts.parts + vec_len l.seats ≡ vec_len l.fn.seats);
      takes : l.takes.amount + sum_by (λ s. s.takes) l.seats.items ≡ sum_by (λ s. s.takes) l.fn.seats.items;
      frames : l.frames.amount + sum_by (λ s. s.frames) l.seats.items ≡ sum_by (λ s. s.frames) l.fn.seats.items;
      starts : l.starts.amount + sum_by (λ s. s.starts) l.seats.items ≡ sum_by (λ s. s.starts) l.fn.seats.items;
    }

abbrev pub decreases-loop-seat : goal.decreases-loop-seat
decreases-loop-seat g l = goal.left-loop-seat g l
