use Rattle.std.proofs.Common.{◌≡◌, drop}
use Rattle.std.specs.Prelude.{map}
use Rattle.serde_json.specs.View.{view}
use Rattle.cov_model.specs.File.{entries_data}
use Rattle.cov_messages.proofs.Written.{ahead}
use Rattle.cov_messages.proofs.writing.scripts_value.Given as goal

-- the scripts so far, and those of the rest, are those of all
abbrev pub invariant-loop-place : goal.invariant-loop-place
invariant-loop-place l = ahead (map view l.values.items) (entries_data l.place (drop l.place l.scripts)) ≡ entries_data 0 l.scripts
