use Rattle.std.proofs.lemmas.Result.{err_from_is_err_and}
use Rattle.utf16_lines.proofs.Made.{lengths-made, lengths-table_of, fault-given}
use Rattle.utf16_lines.proofs.LineTable.of_lengths.Goals as goal

pub returns-in_err-spans : goal.returns-in_err-spans
returns-in_err-spans c =
    let p = err_from_is_err_and c.from_residual.result c.from_residual.ensures.1 in
    rw (p.1, p.2) (fault-given c.args.lengths.now c.in_err-spans.field-0.0 c.in_err-spans.ensures)

pub invariant_of-result : goal.invariant_of-result
invariant_of-result c =
    let found = c.in_ok-spans.ensures in
    lengths-made c.args.lengths.now c.in_ok-spans.spans c.in_ok-spans.units found.0 found.1 found.2

pub returns : goal.returns
returns c =
    let found = c.in_ok-spans.ensures in
    lengths-table_of c.args.lengths.now c.in_ok-spans.spans c.in_ok-spans.units found.0 found.1 found.2
