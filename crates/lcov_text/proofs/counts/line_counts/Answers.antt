use Rattle.std.proofs.Common.{◌≡◌, ℕ, List, [], map, ap, ◌∙◌}
use Rattle.std.proofs.lemmas.Result.{IfOk-weaker}
use Rattle.lcov_text.specs.declared.counts.LineCount.{LineCount}
use Rattle.lcov_text.specs.Counts as counts
use Rattle.lcov_text.specs.Counting.{line_count, with_statements}
use Rattle.lcov_text.proofs.Greatest.{lines_gathered}
use Rattle.lcov_text.proofs.counts.line_counts.Goals as goal

abbrev as_lines : List (ℕ × ℕ) → List LineCount
as_lines entries = map (λ e. line_count e.0 e.1) entries

pub returns : goal.returns
returns c =
    IfOk-weaker c.lines_of.result (λ lines. lines.items ≡ as_lines c.in_ok-greatest.greatest.entries) (λ lines. lines.items ≡ counts.line_counts c.args.file.now)
    (λ lines e.
    e
    ∙ ap as_lines c.in_ok-greatest.ensures
    ∙ ap (λ statements. as_lines (with_statements [] statements)) c.statements.ensures.value
    ∙ lines_gathered c.args.file.now)
    c.lines_of.ensures
