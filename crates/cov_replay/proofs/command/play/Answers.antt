use Rattle.std.proofs.Common.{refl, sym, subst, arith}
use Rattle.std.specs.Io.KnownBytes.{Appends}
use Rattle.cov_io.specs.Grows.{AppendsPart}
use Rattle.cov_links.specs.Together.{net_at, telling}
use Rattle.json_pieces.specs.Pieces.{piece}
use Rattle.json_pieces.proofs.Steps.{within-same}
use Rattle.cov_commands.specs.declared.due.Due.{Due}
use Rattle.cov_commands.specs.declared.due.Output.TheVariants.{Bytes}
use Rattle.cov_commands.specs.Sinks.{sink_at}
use Rattle.cov_commands.proofs.Parts.{part-same}
use Rattle.cov_replay.specs.Serving.{PlaysOut, listening_line}
use Rattle.cov_replay.proofs.Played.{plays-cut, plays-due, plays-short, plays-unwritten}
use Rattle.cov_replay.proofs.command.play.Goals as goal

pub returns-in_default : goal.returns-in_default
returns-in_default g c =
    let before = net_at (g.N.Net.state c.args.net.now) (g.N.Net.faults c.args.net.now) in
    let out = sink_at c.args.out.now (g.O.Sink.held c.args.out.now) (g.O.Sink.longest c.args.out.now) (g.O.Sink.faults c.args.out.now) in
    let err = sink_at c.args.err.now (g.E.Sink.held c.args.err.now) (g.E.Sink.longest c.args.err.now) (g.E.Sink.faults c.args.err.now) in
    plays-unwritten (telling g.N.Link.Link.state g.N.Link.Link.faults) c.args.sessions c.args.opened before before out out err _ tt
    (part-same (g.O.Sink.held c.args.out.now) (listening_line c.args.opened.port)) (omega arith) (within-same piece (g.O.Sink.longest c.args.out.now))

pub returns-in-Err : goal.returns-in-Err
returns-in-Err g c =
    let before = net_at (g.N.Net.state c.args.net.now) (g.N.Net.faults c.args.net.now) in
    let out = sink_at c.args.out.now (g.O.Sink.held c.args.out.now) (g.O.Sink.longest c.args.out.now) (g.O.Sink.faults c.args.out.now) in
    let now = sink_at c.put_output.new.out (g.O.Sink.held c.put_output.new.out) (g.O.Sink.longest c.put_output.new.out) (g.O.Sink.faults c.put_output.new.out) in
    let err = sink_at c.args.err.now (g.E.Sink.held c.args.err.now) (g.E.Sink.longest c.args.err.now) (g.E.Sink.faults c.args.err.now) in
    let e = c.in-Err.ensures in
    plays-unwritten (telling g.N.Link.Link.state g.N.Link.Link.faults) c.args.sessions c.args.opened before before out now err c.in-Err.ended e.cause
    (subst (AppendsPart (g.O.Sink.held c.args.out.now) (g.O.Sink.held c.put_output.new.out)) c.in-Ok.ensures e.part) e.later e.within

pub returns-in-Err-replay : goal.returns-in-Err-replay
returns-in-Err-replay g c =
    let tells = telling g.N.Link.Link.state g.N.Link.Link.faults in
    let before = net_at (g.N.Net.state c.args.net.now) (g.N.Net.faults c.args.net.now) in
    let left = net_at (g.N.Net.state c.replay.new.net) (g.N.Net.faults c.replay.new.net) in
    let out = sink_at c.args.out.now (g.O.Sink.held c.args.out.now) (g.O.Sink.longest c.args.out.now) (g.O.Sink.faults c.args.out.now) in
    let now = sink_at c.put_output.new.out (g.O.Sink.held c.put_output.new.out) (g.O.Sink.longest c.put_output.new.out) (g.O.Sink.faults c.put_output.new.out) in
    let err = sink_at c.args.err.now (g.E.Sink.held c.args.err.now) (g.E.Sink.longest c.args.err.now) (g.E.Sink.faults c.args.err.now) in
    let e = c.in_default-put_output.ensures in
    subst (PlaysOut tells c.args.sessions c.args.opened before left out now err err) (sym c.ended_by.ensures)
    (plays-cut tells c.args.sessions c.args.opened before left out now err c.in-Err-replay.fault c.in-Err-replay.ensures.err
    (subst (Appends (g.O.Sink.held c.args.out.now) (g.O.Sink.held c.put_output.new.out)) c.in-Ok.ensures e.ok) e.kept e.within)

pub returns-in_default-tally_line : goal.returns-in_default-tally_line
returns-in_default-tally_line g c =
    let before = net_at (g.N.Net.state c.args.net.now) (g.N.Net.faults c.args.net.now) in
    let left = net_at (g.N.Net.state c.replay.new.net) (g.N.Net.faults c.replay.new.net) in
    let out = sink_at c.args.out.now (g.O.Sink.held c.args.out.now) (g.O.Sink.longest c.args.out.now) (g.O.Sink.faults c.args.out.now) in
    let now = sink_at c.put_output.new.out (g.O.Sink.held c.put_output.new.out) (g.O.Sink.longest c.put_output.new.out) (g.O.Sink.faults c.put_output.new.out) in
    let err = sink_at c.args.err.now (g.E.Sink.held c.args.err.now) (g.E.Sink.longest c.args.err.now) (g.E.Sink.faults c.args.err.now) in
    let e = c.in_default-put_output.ensures in
    plays-short (telling g.N.Link.Link.state g.N.Link.Link.faults) c.args.sessions c.args.opened before left out now err c.in-Ok-replay.tally c.in-Ok-replay.ensures.ok
    (subst (Appends (g.O.Sink.held c.args.out.now) (g.O.Sink.held c.put_output.new.out)) c.in-Ok.ensures e.ok) e.kept e.within

pub returns : goal.returns
returns g c =
    let before = net_at (g.N.Net.state c.args.net.now) (g.N.Net.faults c.args.net.now) in
    let left = net_at (g.N.Net.state c.replay.new.net) (g.N.Net.faults c.replay.new.net) in
    let out = sink_at c.args.out.now (g.O.Sink.held c.args.out.now) (g.O.Sink.longest c.args.out.now) (g.O.Sink.faults c.args.out.now) in
    let now = sink_at c.put_output.new.out (g.O.Sink.held c.put_output.new.out) (g.O.Sink.longest c.put_output.new.out) (g.O.Sink.faults c.put_output.new.out) in
    let end = sink_at c.put_due.new.out (g.O.Sink.held c.put_due.new.out) (g.O.Sink.longest c.put_due.new.out) (g.O.Sink.faults c.put_due.new.out) in
    let err = sink_at c.args.err.now (g.E.Sink.held c.args.err.now) (g.E.Sink.longest c.args.err.now) (g.E.Sink.faults c.args.err.now) in
    let err_end = sink_at c.put_due.new.err (g.E.Sink.held c.put_due.new.err) (g.E.Sink.longest c.put_due.new.err) (g.E.Sink.faults c.put_due.new.err) in
    let e = c.in_default-put_output.ensures in
    let due : Due = record { out = Bytes c.in-Ok-tally_line.line; err = c.args.opened.lines; ended = c.refused_or_done.result } in
    plays-due (telling g.N.Link.Link.state g.N.Link.Link.faults) c.args.sessions c.args.opened before left out now err end err_end c.in-Ok-replay.tally due c.put_due.result
    c.in-Ok-replay.ensures.ok
    (subst (Appends (g.O.Sink.held c.args.out.now) (g.O.Sink.held c.put_output.new.out)) c.in-Ok.ensures e.ok) e.kept e.within
    c.in-Ok-tally_line.ensures refl c.refused_or_done.ensures c.put_due.ensures
