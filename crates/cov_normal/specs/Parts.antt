-- The parts of a normal list.
use Rattle.std.specs.Prelude.{Bool, ◌&&◌, not, List, ◌==◌, nat_lt, filter}
use Rattle.cov_model.specs.declared.report.Range.{Range}
use Rattle.cov_model.specs.Nesting.{is_within}

-- it has another count than the root
abbrev pub counts_otherwise : Range → Range → Bool
counts_otherwise root run = not (run.count == root.count)

-- it may stand behind this root: nonempty, within it, and of another count
abbrev pub may_stand : Range → Range → Bool
may_stand root r = nat_lt r.start r.end && (is_within root r && counts_otherwise root r)

-- the runs of another count than the root's
abbrev pub told : Range → List Range → List Range
told root runs = filter (counts_otherwise root) runs
