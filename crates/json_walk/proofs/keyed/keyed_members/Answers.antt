use Rattle.std.proofs.Common.{◌≡◌, Some, arith}
use Rattle.json.specs.Json.{read_key}
use Rattle.json_walk.proofs.Turns.{members_start, members_turn, members_done}
use Rattle.json_walk.proofs.Lists.{none_put, one_more_put, on_ok_at}
use Rattle.json_walk.proofs.keyed.keyed_members.Goals as goal

pub members-init : goal.members-init
members-init g c = (members_start c.args.depth c.args.reader.now, none_put g.T.Keyed.key_of g.T.Keyed.says _ c.new-found.ensures)

pub members-preserved : goal.members-preserved
members-preserved g c =
    let l = c.members in
    let gone = l.invariant.0 in
    let key = c.in-Ok-Some.key.now in
    let named : read_key l.reader ≡ Some (Some key, c.next_key.new.self) = grind arith in
    let done = c.in_ok-member-in-Ok-Some.ensures in
    let pushed = on_ok_at c.push.result c.if-is_err.ensures.value c.push.ensures.ok in (
      members_turn c.args.depth c.args.reader.now l.reader c.next_key.new.self c.read_member.new.reader key done.ok.0 gone named done.ok.1 done.shorter,
      one_more_put g.T.Keyed.key_of g.T.Keyed.says l.found _ c.in_ok-member-in-Ok-Some.member done.ok.0 key gone.told pushed done.ok.3 done.ok.2 l.invariant.1,
    )

pub returns-in-Ok-None-clause-ok : goal.returns-in-Ok-None-clause-ok
returns-in-Ok-None-clause-ok g c =
    let gone = c.members.invariant.0 in
    (gone.told, members_done c.args.depth c.args.reader.now c.members.reader c.next_key.new.self gone (grind arith), c.members.invariant.1)
