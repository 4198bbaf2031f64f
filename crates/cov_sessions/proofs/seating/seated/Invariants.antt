use Rattle.std.proofs.Common.{◌≡◌, ◌++◌, ◌+◌, ◌≤◌, length}
use Rattle.std.specs.Vec.{vec_len, vec_capacity}
use Rattle.std.specs.Vec.Iter.{into_iter_items, into_iter_len}
use Rattle.cov_sessions.specs.Seating.{links_in, seats_in}
use Rattle.cov_sessions.proofs.seating.seated.Given as goal

-- those seated so far and those of the rest are all, and there is room for the rest
abbrev pub invariant-loop-link : goal.invariant-loop-link
invariant-loop-link g l =
    record {
      links : links_in l.sessions.items ++ into_iter_items l.link-iterator ≡ l.fn.links.items;
      seats : seats_in l.sessions.items ++ into_iter_items l.seats ≡ l.fn.seats.items;
      each : into_iter_len l.seats ≡ into_iter_len l.link-iterator;
      room : vec_len l.sessions + into_iter_len l.link-iterator ≤ vec_capacity l.sessions;
      left : into_iter_len l.link-iterator ≡ length (into_iter_items l.link-iterator);
      seats_left : into_iter_len l.seats ≡ length (into_iter_items l.seats);
    }
