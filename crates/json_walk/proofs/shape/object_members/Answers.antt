use Rattle.std.proofs.Common.{◌≡◌, Some, arith}
use Rattle.json.specs.Json.{read_key}
use Rattle.json_walk.proofs.Turns.{members_start, members_turn, members_done}
use Rattle.json_walk.proofs.shape.object_members.Goals as goal

pub members-init : goal.members-init
members-init g c = (members_start c.args.depth c.args.reader.now, c.none-found.ensures)

pub members-preserved : goal.members-preserved
members-preserved g c =
    let l = c.members in
    let gone = l.invariant.0 in
    let key = c.in-Ok-Some.key.now in
    let named : read_key l.reader ≡ Some (Some key, c.next_key.new.self) = grind arith in
    let done = c.in_ok-found-in-Ok-Some.ensures in (
      members_turn c.args.depth c.args.reader.now l.reader c.next_key.new.self c.take.new.reader key done.ok.0 gone named done.ok.1 done.shorter,
      done.ok.2 gone.told l.invariant.1,
    )

pub returns-in-Ok-None-clause-ok : goal.returns-in-Ok-None-clause-ok
returns-in-Ok-None-clause-ok g c =
    let gone = c.members.invariant.0 in
    (gone.told, members_done c.args.depth c.args.reader.now c.members.reader c.next_key.new.self gone (grind arith), c.members.invariant.1)
