use Rattle.std.proofs.Common.{arith}
use Rattle.cov_steps.proofs.Walks.{walked-more, walked-read}
use Rattle.cov_steps.proofs.sum.side_at.Goals as goal

pub prove-unreachable-requires : goal.prove-unreachable-requires
prove-unreachable-requires g c = omega (arith, walked-more c.args.runs.now.runs c.args.runs.now.end c.args.side.next c.args.at c.args.side.run c.requires.walked c.if-at-side.false c.requires.more)

pub returns-clause-walked : goal.returns-clause-walked
returns-clause-walked g c = (walked-read c.args.runs.now.runs c.args.runs.now.end c.args.side.next c.args.at c.args.side.run c.get-run.result c.requires.walked c.if-at-side.false c.requires.more c.get-run.ensures.value).0

pub returns-clause-past : goal.returns-clause-past
returns-clause-past g c = (walked-read c.args.runs.now.runs c.args.runs.now.end c.args.side.next c.args.at c.args.side.run c.get-run.result c.requires.walked c.if-at-side.false c.requires.more c.get-run.ensures.value).1
