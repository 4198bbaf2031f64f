-- The order in which V8 lists ranges: parents before their children.
use Rattle.std.specs.Prelude.{ℕ, Bool, ◌&&◌, ◌||◌, ◌==◌, nat_lt, nat_le}
use Rattle.cov_model.specs.declared.report.Range.{Range}

-- it starts first, or at the same offset and ends later
abbrev pub comes_first : Range → Range → Bool
comes_first a b = nat_lt a.start b.start || (a.start == b.start && nat_lt b.end a.end)

-- it starts first, or at the same offset and ends no sooner
abbrev pub precedes : Range → Range → Bool
precedes a b = nat_lt a.start b.start || (a.start == b.start && nat_le b.end a.end)

abbrev pub ends_behind : ℕ → Range → Bool
ends_behind o r = nat_lt o r.end

abbrev pub ends_before : ℕ → Range → Bool
ends_before o r = nat_lt r.end o
