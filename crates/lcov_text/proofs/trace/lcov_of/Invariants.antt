use Rattle.std.proofs.Common.{◌≡◌, drop, ◌++◌}
use Rattle.std.specs.List.{flat_map}
use Rattle.lcov_text.specs.Lcov.{record_lines, ended_lines}
use Rattle.lcov_text.proofs.trace.lcov_of.Given as goal

abbrev pub invariant-loop-file : goal.invariant-loop-file
invariant-loop-file l = l.text.items ++ flat_map (λ f. ended_lines (record_lines f)) (drop l.file-index l.files) ≡ flat_map (λ f. ended_lines (record_lines f)) l.files
