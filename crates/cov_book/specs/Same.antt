-- Whether two scripts have the same functions, each with the same sums.
use Rattle.std.specs.Prelude.{Bool, ◌&&◌, ◌==◌}
use Rattle.std.specs.Cmp.Lexicographic.{pointwise}
use Rattle.cov_text.specs.Listing.{same_text}
use Rattle.cov_book.specs.declared.scripts.Function.{Function}
use Rattle.cov_book.specs.declared.scripts.Script.{Script}
use Rattle.cov_book.specs.Told.{same_sums}

abbrev pub same_place : Function → Function → Bool
same_place a b = (a.start == b.start) && ((a.end == b.end) && same_text a.name b.name)

abbrev pub same_function : Function → Function → Bool
same_function a b = same_place a b && same_sums a.sums b.sums

abbrev pub same_script : Script → Script → Bool
same_script a b = same_text a.url b.url && pointwise same_function a.functions b.functions
