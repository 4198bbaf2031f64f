use Rattle.std.proofs.Common.{◌≡◌, ◌∷◌, drop}
use Rattle.istanbul_json.specs.Walks.{rising}
use Rattle.istanbul_json.proofs.joining.rises.Given as goal

-- what is left rises where all do
abbrev pub invariant-loop-next : goal.invariant-loop-next
invariant-loop-next g l = rising g.T.Ordered.cmp (l.before ∷ drop l.next-index l.rest) ≡ rising g.T.Ordered.cmp l.all
