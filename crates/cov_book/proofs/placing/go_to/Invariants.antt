use Rattle.std.proofs.Common.{◌≡◌, ℕ, ◌≤◌, ◌+◌, ◌++◌, length, reverse}
use Rattle.std.specs.Vec.{vec_len, vec_capacity}
use Rattle.cov_book.proofs.placing.go_to.Given as goal

-- both parts are all scripts, and there is room for what is left
abbrev pub invariant-over : goal.invariant-over
invariant-over l = record {
  all : l.done.items ++ reverse l.left.items ≡ l.initial.done.items ++ reverse l.initial.left.items;
  place : vec_len l.done + length l.left.items ≤ vec_capacity l.done;
  room : (more : ℕ) → vec_len l.initial.done + length l.initial.left.items + more ≤ vec_capacity l.initial.done → vec_len l.done + length l.left.items + more ≤ vec_capacity l.done;
}

abbrev pub decreases-over : goal.decreases-over
decreases-over l = length l.left.items
