-- What a received text is told by, beside the body of an answer.
use Rattle.std.specs.Prelude.{ℕ, Option, None, Some}
use Rattle.serde_json.specs.Data.{Data}
use Rattle.cov_messages.specs.declared.message.Kind.{Kind}
use Rattle.cov_messages.specs.declared.message.Kind.TheVariants.{Event, Answer, Refusal, Other}
use Rattle.cov_messages.specs.Replies.{Meant, event, answer, refusal, other}

abbrev pub answer_or_other : ℕ → Option Data → Meant
answer_or_other id None = other
answer_or_other id (Some body) = answer id body

abbrev pub told_by : Kind → Option Data → Meant
told_by Event body = event
told_by (Answer id) body = answer_or_other id body
told_by (Refusal id code) body = refusal id code
told_by Other body = other
