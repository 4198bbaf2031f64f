-- What a range is checked for by itself, what two are, and how far a list passes a test.
use Rattle.std.specs.Prelude.{◌≡◌, ℕ, suc, ◌<◌, ◌≤◌, Bool, true, false, ◌&&◌, not, List, length, take, nat_le}
use Rattle.std.specs.List.{list_all}
use Rattle.cov_model.specs.declared.report.Range.{Range}
use Rattle.cov_model.specs.Nesting.{crosses, each_pair, is_within}

-- the range ends no sooner than it starts, and lies in the root
abbrev pub sound : Range → Range → Bool
sound root r = nat_le r.start r.end && is_within root r

abbrev pub are_sound : Range → List Range → Bool
are_sound root ranges = list_all (sound root) ranges

abbrev pub apart : Range → Range → Bool
apart a b = not (crosses a b)

-- no two cross
abbrev pub are_apart : List Range → Bool
are_apart ranges = each_pair apart ranges

-- So many ranges at the front pass the test, and with one more they don't.
pub record IsLongestFront (test : List Range → Bool) (ranges : List Range) (count : ℕ) : Type 0 where
  pub within : count ≤ length ranges
  pub front : test (take count ranges) ≡ true
  pub behind : count < length ranges → test (take (suc count) ranges) ≡ false
