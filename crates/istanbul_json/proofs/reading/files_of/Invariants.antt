use Rattle.std.proofs.Common.{◌≡◌, length, map, ◌++◌}
use Rattle.serde_json.specs.View.{members_view}
use Rattle.istanbul_json.specs.Answers.{behind_files}
use Rattle.istanbul_json.specs.Coverage.{files_from}
use Rattle.istanbul_json.proofs.Walked.{names}
use Rattle.istanbul_json.proofs.reading.files_of.Given as goal

-- the files so far, and those of the rest, are those of all
abbrev pub invariant-loop-path : goal.invariant-loop-path
invariant-loop-path l =
    record {
      read : behind_files l.files (files_from (length l.files) (members_view l.path-iterator)) ≡ files_from 0 (members_view l.members.entries);
      paths : map (λ f. f.path) l.files ++ names (members_view l.path-iterator) ≡ names (members_view l.members.entries);
    }
