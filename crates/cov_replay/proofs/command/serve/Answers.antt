use Rattle.cov_links.specs.Together.{telling}
use Rattle.cov_commands.specs.Sinks.{sink_at}
use Rattle.cov_commands.specs.Stores.{store_at}
use Rattle.cov_replay.specs.Live.{live_net, live_world}
use Rattle.cov_replay.specs.Serving.{playing}
use Rattle.cov_replay.proofs.Played.{runs-open, runs-shut}
use Rattle.cov_replay.proofs.command.serve.Goals as goal

pub returns-in-Ok : goal.returns-in-Ok
returns-in-Ok g c =
    let p = playing c.args.folder.now c.args.port c.args.sessions c.args.pace in
    let before = live_world (store_at c.args.store.now (g.S.Store.files c.args.store.now) (g.S.Store.folders c.args.store.now) (g.S.Store.faults c.args.store.now))
    (live_net c.args.net.now (g.N.Net.state c.args.net.now) (g.N.Net.faults c.args.net.now)) in
    let mid = live_world (store_at c.prepare.new.store (g.S.Store.files c.prepare.new.store) (g.S.Store.folders c.prepare.new.store) (g.S.Store.faults c.prepare.new.store))
    (live_net c.prepare.new.net (g.N.Net.state c.prepare.new.net) (g.N.Net.faults c.prepare.new.net)) in
    let net = live_net c.play.new.net (g.N.Net.state c.play.new.net) (g.N.Net.faults c.play.new.net) in
    let out = sink_at c.args.out.now (g.O.Sink.held c.args.out.now) (g.O.Sink.longest c.args.out.now) (g.O.Sink.faults c.args.out.now) in
    let out_now = sink_at c.play.new.out (g.O.Sink.held c.play.new.out) (g.O.Sink.longest c.play.new.out) (g.O.Sink.faults c.play.new.out) in
    let err = sink_at c.args.err.now (g.E.Sink.held c.args.err.now) (g.E.Sink.longest c.args.err.now) (g.E.Sink.faults c.args.err.now) in
    let err_now = sink_at c.play.new.err (g.E.Sink.held c.play.new.err) (g.E.Sink.longest c.play.new.err) (g.E.Sink.faults c.play.new.err) in
    runs-open (telling g.N.Link.Link.state g.N.Link.Link.faults) p before mid net out out_now err err_now c.in-Ok.opened c.play.result c.in-Ok.ensures.ready c.play.ensures

pub returns-in-Err : goal.returns-in-Err
returns-in-Err g c =
    let p = playing c.args.folder.now c.args.port c.args.sessions c.args.pace in
    let before = live_world (store_at c.args.store.now (g.S.Store.files c.args.store.now) (g.S.Store.folders c.args.store.now) (g.S.Store.faults c.args.store.now))
    (live_net c.args.net.now (g.N.Net.state c.args.net.now) (g.N.Net.faults c.args.net.now)) in
    let mid = live_world (store_at c.prepare.new.store (g.S.Store.files c.prepare.new.store) (g.S.Store.folders c.prepare.new.store) (g.S.Store.faults c.prepare.new.store))
    (live_net c.prepare.new.net (g.N.Net.state c.prepare.new.net) (g.N.Net.faults c.prepare.new.net)) in
    let out = sink_at c.args.out.now (g.O.Sink.held c.args.out.now) (g.O.Sink.longest c.args.out.now) (g.O.Sink.faults c.args.out.now) in
    let err = sink_at c.args.err.now (g.E.Sink.held c.args.err.now) (g.E.Sink.longest c.args.err.now) (g.E.Sink.faults c.args.err.now) in
    runs-shut (telling g.N.Link.Link.state g.N.Link.Link.faults) p before mid out err c.in-Err.ended c.in-Err.ensures.shut
