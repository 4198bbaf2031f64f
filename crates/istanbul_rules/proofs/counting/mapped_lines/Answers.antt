use Rattle.std.proofs.Common.{[], ◌∷◌, ◌++◌, sym, ap, ◌∙◌, subst}
use Rattle.std.specs.Prelude.{map}
use Rattle.std.specs.List.{All, Contains}
use Rattle.istanbul_rules.specs.Parts.{greatest}
use Rattle.istanbul_rules.proofs.Lists.{walked}
use Rattle.istanbul_rules.proofs.counting.mapped_lines.Goals as goal

pub greatest_count-requires-clause-within : goal.greatest_count-requires-clause-within
greatest_count-requires-clause-within c =
    subst (All (Contains c.args.offsets.now)) (sym (c.as_slice.ensures ∙ c.places-item.is)) (c.requires.within c.loop-places.places-index c.places-item.result c.loop-places-test.true)

pub loop-places-preserved : goal.loop-places-preserved
loop-places-preserved c =
    λ count_of is.
    let found = c.greatest_count.ensures count_of is ∙ ap (λ places. greatest (map count_of places)) (c.as_slice.ensures ∙ c.places-item.is) in
    walked (λ places. greatest (map count_of places)) c.args.anchors.now c.loop-places.places-index c.places-item.result c.loop-places.lines c.push.new.self _ c.loop-places-test.true
    (c.in_ok-push.ensures.ok ∙ ap (λ o. c.loop-places.lines ++ o ∷ []) found) (c.loop-places.invariant count_of is)
