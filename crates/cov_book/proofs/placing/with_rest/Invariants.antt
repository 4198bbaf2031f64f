use Rattle.std.proofs.Common.{◌≡◌, ◌≤◌, ◌+◌, ◌++◌, length, reverse}
use Rattle.std.specs.Vec.{vec_len, vec_capacity}
use Rattle.cov_book.proofs.placing.with_rest.Given as goal

abbrev pub invariant-rest : goal.invariant-rest
invariant-rest l = record {
  all : l.all.items ++ reverse l.rest.items ≡ l.fn.done.items ++ reverse l.fn.left.items;
  place : vec_len l.all + length l.rest.items ≤ vec_capacity l.all;
}

abbrev pub decreases-rest : goal.decreases-rest
decreases-rest l = length l.rest.items
