-- How files are taken in, one after the other.
use Rattle.std.specs.Prelude.{ℕ, suc, ◌+◌, min, List, [], ◌∷◌, Option, None, Some, ◌==◌, if◌then◌else◌}
use Rattle.cov_text.specs.Listing.{limit}
use Rattle.istanbul_json.specs.declared.file.FileParts.{FileParts}
use Rattle.lcov_text.specs.declared.counts.LineCount.{LineCount}
use Rattle.lcov_text.specs.declared.counts.Share.{Share}
use Rattle.lcov_text.specs.Counts.{line_counts, counts_of_lines, counts_of_branches, counts_of_functions, share_of}
use Rattle.cov_table.specs.declared.runs.Run.{Run}
use Rattle.cov_table.specs.declared.shares.Summary.{Summary}
use Rattle.cov_table.specs.Table.{one_line, runs}

-- ---- shares

abbrev pub plus : Share → Share → Share
plus a b = record { hit = min (a.hit + b.hit) limit; all = min (a.all + b.all) limit }

abbrev pub both : Summary → Summary → Summary
both a b = record { lines = plus a.lines b.lines; branches = plus a.branches b.branches; functions = plus a.functions b.functions }

-- the shares of a file with these lines
abbrev pub shares_with : FileParts → List LineCount → Summary
shares_with f lines =
    record { lines = share_of (counts_of_lines lines); branches = share_of (counts_of_branches f.branches); functions = share_of (counts_of_functions f.functions) }

abbrev pub none : Share
none = record { hit = 0; all = 0 }

abbrev pub nothing : Summary
nothing = record { lines = none; branches = none; functions = none }

abbrev pub with_files : Summary → List FileParts → Summary
with_files s [] = s
with_files s (f ∷ fs) = with_files (both s (shares_with f (line_counts f))) fs

-- ---- runs

-- the runs of rising numbers behind a run
abbrev pub runs_behind : Run → List ℕ → List Run
runs_behind run [] = run ∷ []
runs_behind run (n ∷ ns) = if suc run.last == n then runs_behind (record { first = run.first; last = n }) ns else run ∷ runs_behind (one_line n) ns

-- the same where there may be no run yet
abbrev pub runs_from : Option Run → List ℕ → List Run
runs_from None ns = runs ns
runs_from (Some run) ns = runs_behind run ns
