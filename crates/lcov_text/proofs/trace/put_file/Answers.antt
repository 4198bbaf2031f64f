use Rattle.std.proofs.Common.{codes, ap, ◌∙◌, ◌++◌}
use Rattle.std.proofs.lemmas.Result.{on_ok_weaker}
use Rattle.lcov_text.specs.Counts.{line_counts}
use Rattle.lcov_text.specs.Lcov.{head_lines, function_lines, line_lines, branch_lines, ended_lines}
use Rattle.lcov_text.proofs.Lines.{parts_put}
use Rattle.lcov_text.proofs.trace.put_file.Goals as goal

pub returns : goal.returns
returns c =
    let f = c.args.file.now in
    let start = c.args.text.now.items in
    let head = c.put_head.new.text.items in
    let functions = c.put_functions.new.text.items in
    let lines = c.put_lines.new.text.items in
    let branches = c.put_branches.new.text.items in
    let whole =
    parts_put start head functions lines branches (head_lines f.path) (function_lines f.functions) (line_lines (line_counts f)) (branch_lines f.branches) (codes "end_of_record")
    (c.in_ok-put_head.ensures ∙ ap (λ x. start ++ ended_lines (head_lines x)) c.path.ensures.value)
    (c.in_ok-put_functions.ensures ∙ ap (λ x. head ++ ended_lines (function_lines x)) c.functions.ensures.value)
    (c.in_ok-put_lines.ensures ∙ ap (λ x. functions ++ ended_lines (line_lines x)) (c.deref.ensures.value ∙ c.in_ok-lines.ensures))
    (c.in_ok-put_branches.ensures ∙ ap (λ x. lines ++ ended_lines (branch_lines x)) c.branches.ensures.value) in
    on_ok_weaker c.put.result (λ e. e ∙ whole) c.put.ensures.put
