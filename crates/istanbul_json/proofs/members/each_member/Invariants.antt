use Rattle.std.proofs.Common.{◌≡◌}
use Rattle.serde_json.specs.View.{members_view}
use Rattle.json_shapes.specs.Members.{each_member}
use Rattle.istanbul_json.specs.Answers.{behind, pairs}
use Rattle.istanbul_json.proofs.members.each_member.Given as goal

-- the members so far, and those of the rest, are those of all
abbrev pub invariant-loop-key : goal.invariant-loop-key
invariant-loop-key g l = behind (pairs l.members) (each_member g.T.FromValue.reads (members_view l.key-iterator)) ≡ each_member g.T.FromValue.reads (members_view l.map.entries)
