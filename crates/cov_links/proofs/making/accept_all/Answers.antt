use Rattle.std.proofs.Common.{◌≡◌, [], length, ap, Err, ◌∙◌, arith, sym}
use Rattle.std.proofs.lemmas.Result.{err_from_is_err_and}
use Rattle.cov_links.specs.Together.{net_at, telling}
use Rattle.cov_links.proofs.Steps.{none_unmade, not_made, tried_none}
use Rattle.cov_links.proofs.making.accept_all.Goals as goal

pub returns-in_err-links-clause-unmade : goal.returns-in_err-links-clause-unmade
returns-in_err-links-clause-unmade g c =
    let p = err_from_is_err_and c.from_residual.result c.from_residual.ensures.1 in
    rw (p.1) (none_unmade c.args.count [] (net_at (g.N.Net.state c.args.net.now) (g.N.Net.faults c.args.net.now)) p.0 p.2)

pub returns-in-Err-clause-unmade : goal.returns-in-Err-clause-unmade
returns-in-Err-clause-unmade g c =
    let tells = telling g.N.Link.Link.state g.N.Link.Link.faults in
    let before = net_at (g.N.Net.state c.args.net.now) (g.N.Net.faults c.args.net.now) in
    let mid = net_at (g.N.Net.state c.loop-made.net) (g.N.Net.faults c.loop-made.net) in
    let met = net_at (g.N.Net.state c.accept.new.self) (g.N.Net.faults c.accept.new.self) in
    let now = net_at (g.N.Net.state c.given_up.new.net) (g.N.Net.faults c.given_up.new.net) in
    let links = c.loop-made.links.items in
    let each : length links ≡ c.loop-made._made = sym c.loop-made.links.ok.0 ∙ c.loop-made.invariant.1 in
    not_made tells c.args.count [] [] before mid met now links c.in-Err.fault c.given_up.result c.loop-made.invariant.0
    (omega (arith, each, c.loop-made-test.true)) c.in-Err.ensures.makes
    (tried_none tells before mid met c.in-Err.fault links c.loop-made.invariant.0 c.in-Err.ensures.dialled) c.in-Err.ensures.cause.later
    (λ e. c.in-Err.ensures.cause.rose (ap Err e)) c.given_up.ensures.returned c.given_up.ensures.told c.given_up.ensures.back
