use Rattle.std.specs.Prelude.{map, string_bytes}
use Rattle.cov_words.specs.declared.command.Collect.{Collect}
use Rattle.cov_words.specs.Groups.{collect_of}
use Rattle.cov_commands.specs.Collect.{collect_duty, collect_reader}
use Rattle.cov_commands.specs.Sinks.{sink_at}
use Rattle.cov_commands.proofs.Calls.{called}
use Rattle.cov_commands.proofs.Tools.{lawful}
use Rattle.cov_commands.proofs.workers.run_collect.Goals as goal

pub returns : goal.returns
returns g c =
    called collect_duty (collect_of (map string_bytes c.args.words.now)) _ _ (sink_at c.tell_end.new.err (g.E.Sink.held c.tell_end.new.err) (g.E.Sink.longest c.tell_end.new.err) (g.E.Sink.faults c.tell_end.new.err))
    c.ask-ended.result (λ (command : Collect). lawful (collect_reader command.folder)) c.ask-ended.ensures
    (record {
      gains = c.tell_end.ensures.gains;
      handed = c.tell_end.ensures.handed;
      none = λ none. λ i. let same = c.tell_end.ensures.nothing none in sink_at (same i) (g.E.Sink.held (same i)) (g.E.Sink.longest (same i)) (g.E.Sink.faults (same i));
      later = c.tell_end.ensures.later;
    })
