use Rattle.std.proofs.Common.{ℕ, List, subst}
use Rattle.std.specs.Prelude.{vec_items}
use Rattle.cov_links.specs.Together.{net_at, telling}
use Rattle.cov_attach.specs.Gathered.{AllTell, AreRun, TellsRuns}
use Rattle.cov_attach.proofs.Visited.{came_short, came_taken, came_told}
use Rattle.cov_attach.proofs.places.attach_places.Goals as goal

pub returns-in_default-clause-err : goal.returns-in_default-clause-err
returns-in_default-clause-err g c =
    let tells = telling g.N.Link.Link.state g.N.Link.Link.faults in
    let made = c.as_mut_slice.ensures.value in
    let told = c.attach_all-told.result in
    let left = c.attach_all-told.new.links in
    came_short tells c.args.takes c.args.places.now (net_at (g.N.Net.state c.args.net.now) (g.N.Net.faults c.args.net.now))
    (net_at (g.N.Net.state c.dial_all.new.net) (g.N.Net.faults c.dial_all.new.net)) (net_at (g.N.Net.state c.hang_up_all.new.net) (g.N.Net.faults c.hang_up_all.new.net))
    c.in-Ok.links.items left vec_items told c.in-Ok.links.len c.in-Ok.links.ok.0 c.in-Ok.ensures.made c.in-Ok.ensures.each
    (subst (λ links. AreRun tells.state tells.faults vec_items c.args.takes 0 links left told) made c.attach_all-told.ensures.sessions)
    c.hang_up_all.ensures.returned

pub returns-in-Ok-told-clause-ok : goal.returns-in-Ok-told-clause-ok
returns-in-Ok-told-clause-ok g c =
    let tells = telling g.N.Link.Link.state g.N.Link.Link.faults in
    let made = c.as_mut_slice.ensures.value in
    let told = c.attach_all-told.result in
    let left = c.attach_all-told.new.links in
    came_taken tells c.args.takes c.args.places.now (net_at (g.N.Net.state c.args.net.now) (g.N.Net.faults c.args.net.now))
    (net_at (g.N.Net.state c.dial_all.new.net) (g.N.Net.faults c.dial_all.new.net)) (net_at (g.N.Net.state c.hang_up_all.new.net) (g.N.Net.faults c.hang_up_all.new.net))
    c.in-Ok.links.items left vec_items told c.in-Ok-told.taken c.in-Ok-told.is c.in-Ok.links.len c.in-Ok.links.ok.0 c.in-Ok.ensures.made c.in-Ok.ensures.each
    (subst (λ links. AreRun tells.state tells.faults vec_items c.args.takes 0 links left told) made c.attach_all-told.ensures.sessions)
    c.hang_up_all.ensures.returned c.in-Ok-hang_up_all.ensures.back
    (subst (λ links. (all : List (List (List ℕ))) → AllTell tells.state links all → TellsRuns vec_items c.args.takes all told) made c.attach_all-told.ensures.runs)

pub returns-in-Err-clause-err : goal.returns-in-Err-clause-err
returns-in-Err-clause-err g c =
    let tells = telling g.N.Link.Link.state g.N.Link.Link.faults in
    let made = c.as_mut_slice.ensures.value in
    let told = c.attach_all-told.result in
    let left = c.attach_all-told.new.links in
    came_told tells c.args.takes c.args.places.now (net_at (g.N.Net.state c.args.net.now) (g.N.Net.faults c.args.net.now))
    (net_at (g.N.Net.state c.dial_all.new.net) (g.N.Net.faults c.dial_all.new.net)) (net_at (g.N.Net.state c.hang_up_all.new.net) (g.N.Net.faults c.hang_up_all.new.net))
    c.in-Ok.links.items left vec_items told c.in-Err.fault c.in-Err.is c.in-Ok.links.len c.in-Ok.links.ok.0 c.in-Ok.ensures.made c.in-Ok.ensures.each
    (subst (λ links. AreRun tells.state tells.faults vec_items c.args.takes 0 links left told) made c.attach_all-told.ensures.sessions)
    c.hang_up_all.ensures.returned c.in-Ok-hang_up_all.ensures.back
    (subst (λ links. (all : List (List (List ℕ))) → AllTell tells.state links all → TellsRuns vec_items c.args.takes all told) made c.attach_all-told.ensures.runs)
