use Rattle.std.proofs.Common.{sym, ◌∙◌}
use Rattle.std.specs.Prelude.{slice_get, option_map}
use Rattle.cov_messages.specs.declared.request.Flags.{Flags}
use Rattle.cov_session.specs.Machine.{start, answers}
use Rattle.cov_session.specs.View.{taken_view}
use Rattle.cov_session.specs.Fates.{picked}
use Rattle.cov_session.specs.Laws.{flags_of_takes, taken_snapshots}
use Rattle.cov_session.proofs.Replies.{of_their_fates}
use Rattle.cov_session.proofs.events.run_events.Goals as goal

pub returns-clause-frames : goal.returns-clause-frames
returns-clause-frames c =
    let tape = c.args.tape.items in
    let told = answers (start tape 0 c.args.sessions) c.args.events.now in
    λ k.
    (λ i. slice_get (taken_snapshots (c.in_ok-run.ensures.replies i)) k)
    ∙ of_their_fates tape c.args.sessions c.args.events.now k
    ∙ (λ i. option_map (λ (flags : Flags). taken_view flags (picked k (sym c.in_ok-run.ensures.fates i) tape)) (slice_get (flags_of_takes told) k))
