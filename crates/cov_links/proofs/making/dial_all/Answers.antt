use Rattle.std.proofs.Common.{◌≡◌, ◌+◌, [], ◌∷◌, ◌++◌, length, take, ap, Err, ◌∙◌, subst₂, arith, sym}
use Rattle.std.proofs.lemmas.Result.{err_from_is_err_and}
use Rattle.cov_links.specs.Together.{Made, net_at, telling}
use Rattle.cov_links.proofs.Steps.{none_unmade, not_made, tried_next, take_next, one_made}
use Rattle.cov_links.proofs.making.dial_all.Goals as goal

pub returns-in_err-links-clause-unmade : goal.returns-in_err-links-clause-unmade
returns-in_err-links-clause-unmade g c =
    let p = err_from_is_err_and c.from_residual.result c.from_residual.ensures.1 in
    rw (p.1) (none_unmade (length c.args.places.now) c.args.places.now (net_at (g.N.Net.state c.args.net.now) (g.N.Net.faults c.args.net.now)) p.0 p.2)

pub returns-in-Err-clause-unmade : goal.returns-in-Err-clause-unmade
returns-in-Err-clause-unmade g c =
    let tells = telling g.N.Link.Link.state g.N.Link.Link.faults in
    let before = net_at (g.N.Net.state c.args.net.now) (g.N.Net.faults c.args.net.now) in
    let mid = net_at (g.N.Net.state c.loop-place.net) (g.N.Net.faults c.loop-place.net) in
    let met = net_at (g.N.Net.state c.dial.new.self) (g.N.Net.faults c.dial.new.self) in
    let now = net_at (g.N.Net.state c.given_up.new.net) (g.N.Net.faults c.given_up.new.net) in
    let links = c.loop-place.links.items in
    let places = c.args.places.now in
    let k = c.loop-place.place-index in
    let place = c.as_text.result.now in
    let each : length links ≡ k = sym c.loop-place.links.ok.0 ∙ c.loop-place.invariant.1 in
    let next : take k places ++ place ∷ [] ≡ take (k + 1) places =
    ap (λ n. take k places ++ n ∷ []) (c.as_text.ensures ∙ c.place-item.is) ∙ sym (take_next places k c.place-item.result c.loop-place-test.true) in
    not_made tells (length places) (take k places) places before mid met now links c.in-Err.fault c.given_up.result c.loop-place.invariant.0
    (omega (arith, each, c.loop-place-test.true)) c.in-Err.ensures.makes
    (tried_next tells places k place before mid met c.in-Err.fault links c.loop-place.invariant.0 each next c.in-Err.ensures.dialled)
    c.in-Err.ensures.cause.later (λ e. c.in-Err.ensures.cause.rose (ap Err e)) c.given_up.ensures.returned c.given_up.ensures.told c.given_up.ensures.back

pub loop-place-preserved : goal.loop-place-preserved
loop-place-preserved g c =
    let tells = telling g.N.Link.Link.state g.N.Link.Link.faults in
    let before = net_at (g.N.Net.state c.args.net.now) (g.N.Net.faults c.args.net.now) in
    let mid = net_at (g.N.Net.state c.loop-place.net) (g.N.Net.faults c.loop-place.net) in
    let now = net_at (g.N.Net.state c.dial.new.self) (g.N.Net.faults c.dial.new.self) in
    let links = c.loop-place.links.items in
    let places = c.args.places.now in
    let k = c.loop-place.place-index in
    let place = c.as_text.result.now in
    let next : take k places ++ place ∷ [] ≡ take (k + 1) places =
    ap (λ n. take k places ++ n ∷ []) (c.as_text.ensures ∙ c.place-item.is) ∙ sym (take_next places k c.place-item.result c.loop-place-test.true) in
    let made =
    one_made tells (take k places) (place ∷ []) before mid now links c.in-Ok.link c.loop-place.invariant.0 c.in-Ok.ensures.makes
    c.in-Ok.ensures.fresh c.in-Ok.ensures.dialled c.in-Ok.ensures.cause.kept in (
      subst₂ (λ ps ls. Made tells ps before now ls) next (sym c.push_reserved.ensures.items) made,
      omega (arith, c.push_reserved.ensures.len, c.loop-place.invariant.1),
      omega (arith, c.push_reserved.ensures.capacity, c.loop-place.invariant.2),
    )
