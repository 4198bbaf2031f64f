-- Numbers that are drawn one after the other: a linear congruential generator modulo 2^31, of which the upper bits are taken.
use Rattle.std.specs.Prelude.{ℕ, zero, suc, ◌+◌, ◌*◌, ◌/◌, ◌%◌, ◌^◌}

-- the state behind one draw
unfoldable pub next : ℕ → ℕ
next x = (x * 1103515245 + 12345) % 2 ^ 31

-- what a draw gives, by the state behind it
abbrev pub upper : ℕ → ℕ
upper x = x / 65536

-- the state behind n draws
abbrev pub behind : ℕ → ℕ → ℕ
behind zero x = x
behind (suc n) x = next (behind n x)

-- draw n from a state on, from 0
abbrev pub draw : ℕ → ℕ → ℕ
draw n x = upper (behind (suc n) x)
