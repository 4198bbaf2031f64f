use Rattle.std.proofs.Common.{◌∙◌}
use Rattle.std.specs.Prelude.{map, string_bytes}
use Rattle.clap.specs.Words.{app_of, kind_of}
use Rattle.cov_words.proofs.Given.{refused, simple-of}
use Rattle.cov_words.proofs.reading.matches_of.Goals as goal

pub returns-in-Ok-clause-ok : goal.returns-in-Ok-clause-ok
returns-in-Ok-clause-ok c = (c.in-Ok.ensures.kinds c.requires, (c.in-Ok.ensures.matches (simple-of (app_of c.args.command) c.requires)).0)

pub returns-clause-usage : goal.returns-clause-usage
returns-clause-usage c =
    λ _. refused (app_of c.args.command) (map string_bytes c.args.words.now) (kind_of c.in-Err.error) (λ e. c.in_default.not-OutOfMemory (c.kind.ensures ∙ e))
    (c.in-Err.ensures.kinds c.requires)
