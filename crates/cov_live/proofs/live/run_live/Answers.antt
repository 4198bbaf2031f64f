use Rattle.std.specs.Prelude.{map, string_bytes}
use Rattle.cov_links.specs.Together.{telling}
use Rattle.cov_commands.specs.Sinks.{sink_at}
use Rattle.cov_commands.proofs.Calls.{called}
use Rattle.cov_words.specs.Live.{live_of}
use Rattle.cov_live.specs.Commands.{live_duty}
use Rattle.cov_live.proofs.Lives.{live-lawful}
use Rattle.cov_live.proofs.live.run_live.Goals as goal

pub returns : goal.returns
returns g c =
    let tells = telling g.N.Link.Link.state g.N.Link.Link.faults in
    called (live_duty tells) (live_of (map string_bytes c.args.words.now)) _ _ (sink_at c.tell_end.new.err (g.E.Sink.held c.tell_end.new.err) (g.E.Sink.longest c.tell_end.new.err) (g.E.Sink.faults c.tell_end.new.err))
    c.ask-ended.result (live-lawful tells) c.ask-ended.ensures
    (record {
      gains = c.tell_end.ensures.gains;
      handed = c.tell_end.ensures.handed;
      none = λ none. λ i. let same = c.tell_end.ensures.nothing none in sink_at (same i) (g.E.Sink.held (same i)) (g.E.Sink.longest (same i)) (g.E.Sink.faults (same i));
      later = c.tell_end.ensures.later;
    })
