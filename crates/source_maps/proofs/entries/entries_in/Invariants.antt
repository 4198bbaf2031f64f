use Rattle.std.proofs.Common.{◌≡◌, ◌++◌, map}
use Rattle.serde_json.specs.View.{members_view}
use Rattle.source_maps.specs.Entries.{said, entries_in}
use Rattle.source_maps.proofs.entries.entries_in.Given as goal

-- the entries so far, and those of the members left, are those of all
abbrev pub invariant-loop-url : goal.invariant-loop-url
invariant-loop-url l = map said l.entries ++ entries_in (members_view l.url-iterator) ≡ entries_in (members_view l.fn.members.entries)
