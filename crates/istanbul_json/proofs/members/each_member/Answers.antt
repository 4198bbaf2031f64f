use Rattle.std.proofs.Common.{sym, ◌∙◌}
use Rattle.istanbul_json.proofs.Walked.{one-more, all-rise}
use Rattle.istanbul_json.proofs.members.each_member.Goals as goal

pub loop-key-preserved : goal.loop-key-preserved
loop-key-preserved g c =
    one-more g.T.FromValue.reads c.loop-key.members c.push.new.self c.loop-key.key-iterator c.next.new.self c.next.result c.in-Some.key c.in-Some.value c.as_str.result c.in-Some-2.value _
    c.in-Some.is c.next.ensures.steps c.as_str.ensures.value (sym c.in-Some-2.is ∙ c.in_ok-value.ensures) c.in_ok-push.ensures.items c.loop-key.invariant

pub returns-clause-rising : goal.returns-clause-rising
returns-clause-rising g c =
    all-rise g.T.FromValue.reads c.loop-key.members c.loop-key.key-iterator c.next.new.self c.args.map.now.entries c.next.result c.in-None.is c.next.ensures.steps
    c.into_iter-key-iterator.ensures.into_iter_gives.5 c.loop-key.invariant
