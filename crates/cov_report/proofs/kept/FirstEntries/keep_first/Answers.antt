use Rattle.std.proofs.Common.{◌≡◌, ◌∙◌, false, refl, sym}
use Rattle.std.specs.Prelude.{Option, None, Some, is_some}
use Rattle.source_maps.specs.declared.entries.EntryBody.{EntryBody}
use Rattle.source_maps.specs.Entries.{said}
use Rattle.cov_report.proofs.Keeping.{still-firsts, put-first}
use Rattle.cov_report.proofs.kept.FirstEntries.keep_first.Goals as goal

is-none : (o : Option EntryBody) → false ≡ is_some o → o ≡ None
is-none None e = refl
is-none (Some body) e = absurd cc

pub returns-then-contains_key : goal.returns-then-contains_key
returns-then-contains_key c = λ all are. still-firsts all (said c.args.entry) c.args.self.now c.args.self.now (sym c.contains_key.ensures ∙ c.if-contains_key.true) refl are

pub returns : goal.returns
returns c = λ all are.
    put-first all (said c.args.entry) c.args.self.now (record { bodies = c.insert.new.self }) c.args.entry.body refl (is-none _ (sym c.if-contains_key.false ∙ c.contains_key.ensures)) c.in_ok-insert.ensures.updates.0 are
