use Rattle.std.proofs.Common.{◌≡◌, ◌++◌, ◌+◌, ◌≤◌, length}
use Rattle.std.specs.Vec.{vec_len, vec_capacity}
use Rattle.std.specs.Vec.Iter.{into_iter_items, into_iter_len}
use Rattle.cov_sessions.specs.Seating.{links_in, seats_in}
use Rattle.cov_sessions.proofs.seating.unseated.Given as goal

-- those so far and those of the rest are all, and there is room for the rest
abbrev pub invariant-loop-session : goal.invariant-loop-session
invariant-loop-session g l =
    record {
      links : l.links.items ++ links_in (into_iter_items l.session-iterator) ≡ links_in l.fn.sessions.items;
      seats : l.seats.items ++ seats_in (into_iter_items l.session-iterator) ≡ seats_in l.fn.sessions.items;
      links_room : vec_len l.links + into_iter_len l.session-iterator ≤ vec_capacity l.links;
      seats_room : vec_len l.seats + into_iter_len l.session-iterator ≤ vec_capacity l.seats;
      left : into_iter_len l.session-iterator ≡ length (into_iter_items l.session-iterator);
    }
