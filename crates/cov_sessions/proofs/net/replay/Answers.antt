use Rattle.std.proofs.Common.{subst}
use Rattle.cov_links.specs.Together.{net_at, telling}
use Rattle.cov_sessions.specs.Sessions.{Plays}
use Rattle.cov_sessions.proofs.Came.{came-err, came-ok}
use Rattle.cov_sessions.proofs.net.replay.Goals as goal

pub returns-clause-ok : goal.returns-clause-ok
returns-clause-ok g c =
    let tells = telling g.N.Link.Link.state g.N.Link.Link.faults in
    let target = c.args.target in
    let made = c.in-Ok.links.items in
    let left = c.serve_links-links.result in
    came-ok tells target.tape target.pace c.args.sessions (net_at (g.N.Net.state c.args.net.now) (g.N.Net.faults c.args.net.now))
    (net_at (g.N.Net.state c.accept_all.new.net) (g.N.Net.faults c.accept_all.new.net)) (net_at (g.N.Net.state c.hang_up_all.new.net) (g.N.Net.faults c.hang_up_all.new.net))
    made left.links.items c.in-Ok.ensures.each c.requires.sessions.1 c.in-Ok.ensures.made c.hang_up_all.ensures.returned left.told
    (subst (λ n. Plays tells target.tape target.pace n made left.links.items left.told) c.requires.sessions.0 c.serve_links-links.ensures) c.in-Ok-hang_up_all.ensures.back

pub returns-clause-err : goal.returns-clause-err
returns-clause-err g c =
    let tells = telling g.N.Link.Link.state g.N.Link.Link.faults in
    let target = c.args.target in
    let made = c.in-Ok.links.items in
    let left = c.serve_links-links.result in
    came-err tells target.tape target.pace c.args.sessions (net_at (g.N.Net.state c.args.net.now) (g.N.Net.faults c.args.net.now))
    (net_at (g.N.Net.state c.accept_all.new.net) (g.N.Net.faults c.accept_all.new.net)) (net_at (g.N.Net.state c.hang_up_all.new.net) (g.N.Net.faults c.hang_up_all.new.net))
    made left.links.items c.in-Ok.ensures.each c.requires.sessions.1 c.in-Ok.ensures.made c.hang_up_all.ensures.returned left.told
    (subst (λ n. Plays tells target.tape target.pace n made left.links.items left.told) c.requires.sessions.0 c.serve_links-links.ensures) c.in-Ok-hang_up_all.ensures.back
