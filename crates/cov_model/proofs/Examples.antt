-- The worked examples, by computation.
use Rattle.std.specs.Prelude.{refl, ⊤, [], ◌∷◌}
use Rattle.std.specs.Str.{is_utf8, chars}
use Rattle.std.specs.Fmt.{digits}
use Rattle.serde_json.proofs.OnLiterals.{serde_json_on_literals}
use Rattle.cov_model.specs.Nesting.{range_fault, inner, is_well_nested}
use Rattle.cov_model.specs.Sums.{reports, root, total, flag, fits, sum_fault}
use Rattle.cov_model.specs.Normal.{range, maximal_runs, flat, is_flat}
use Rattle.cov_model.specs.Nested.{nest_to, nested}
use Rattle.cov_model.specs.File.{scripts_in, scripts_data, file_in}
use Rattle.cov_model.specs.Reading.{snapshot_of, reading}
use Rattle.cov_model.specs.Held.{held_of}
use Rattle.cov_model.specs.Outcome.{accepted_over, answers_over}
use Rattle.cov_model.specs.Examples.{TwoFiles, HiddenRoot, UrlTwice, TwoNames, NoFunction, CrossingRanges, RangeShapes, PastTheLimit, Branches, BranchesFlat, ComesAgain, ThereAndBack, NoSnapshot, ReadingFaults, NormalFile, FlatLists, HeldSums, one}

-- what a proof unfolds to compute the definitions on a literal
unfoldable pub cov_on_literals : ⊤
unfolding range_fault inner is_well_nested reports root total flag fits sum_fault maximal_runs flat is_flat nest_to nested scripts_in scripts_data file_in snapshot_of reading accepted_over answers_over
cov_on_literals = tt

pub two_files : TwoFiles
unfolding cov_on_literals
two_files = refl

pub hidden_root : HiddenRoot
unfolding cov_on_literals
hidden_root = refl

pub url_twice : UrlTwice
unfolding cov_on_literals
url_twice = refl

pub two_names : TwoNames
unfolding cov_on_literals
two_names = refl

pub no_function : NoFunction
unfolding cov_on_literals serde_json_on_literals digits
no_function = refl

pub crossing_ranges : CrossingRanges
unfolding cov_on_literals
crossing_ranges = refl

pub range_shapes : RangeShapes
unfolding cov_on_literals
range_shapes = (refl, refl, refl, refl, refl)

pub past_the_limit : PastTheLimit
unfolding cov_on_literals
past_the_limit = (refl, refl, refl)

pub branches : Branches
unfolding cov_on_literals
branches = refl

pub branches_flat : BranchesFlat
unfolding cov_on_literals
branches_flat = refl

pub comes_again : ComesAgain
unfolding cov_on_literals
comes_again = refl

pub there_and_back : ThereAndBack
unfolding cov_on_literals serde_json_on_literals is_utf8 chars digits
there_and_back = (refl, refl)

pub no_snapshot : NoSnapshot
unfolding cov_on_literals serde_json_on_literals digits
no_snapshot = refl

pub reading_faults : ReadingFaults
unfolding cov_on_literals serde_json_on_literals is_utf8 chars digits
reading_faults = (refl, refl, refl)

pub normal_file : NormalFile
unfolding cov_on_literals serde_json_on_literals is_utf8 chars digits
normal_file = (one (range 0 10 1 ∷ []), record { read = refl; fit = refl; same = refl })

pub flat_lists : FlatLists
unfolding cov_on_literals
flat_lists = (refl, refl, refl)

pub held_sums : HeldSums
unfolding cov_on_literals held_of
held_sums = refl
