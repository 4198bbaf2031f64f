use Rattle.std.proofs.Common.{sym, ap, ◌∙◌}
use Rattle.std.specs.Prelude.{Some, None}
use Rattle.cov_messages.specs.Requests.{request_text}
use Rattle.cov_session.specs.Script.{awaited}
use Rattle.cov_session.proofs.Scripted.{word_is}
use Rattle.cov_session.proofs.client.Client.word.Goals as goal

pub returns-in_ok-text-in-Some : goal.returns-in_ok-text-in-Some
returns-in_ok-text-in-Some c =
    ap Some (c.in_ok-text-in-Some.ensures ∙ ap (λ k. request_text k c.in-Some.command) c.awaited_id.ensures)
    ∙ word_is c.args.self.now (Some c.in-Some.command) (sym c.in-Some.is ∙ c.command_at.ensures ∙ ap awaited c.self.view_is)

pub returns-in-None : goal.returns-in-None
returns-in-None c = word_is c.args.self.now None (sym c.in-None.is ∙ c.command_at.ensures ∙ ap awaited c.self.view_is)
