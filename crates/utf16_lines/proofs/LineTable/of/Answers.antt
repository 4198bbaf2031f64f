use Rattle.utf16_lines.proofs.Made.{text-made, text-table_of}
use Rattle.utf16_lines.proofs.LineTable.of.Goals as goal

pub invariant_of-result : goal.invariant_of-result
invariant_of-result c =
    text-made c.args.text.now c.as_bytes.result.now c.in_ok-spans.spans c.in_ok-spans.units c.utf8.text c.requires c.as_bytes.ensures.value
    c.in_ok-spans.ensures.lines c.in_ok-spans.ensures.units

pub returns : goal.returns
returns c =
    text-table_of c.args.text.now c.as_bytes.result.now c.in_ok-spans.spans c.in_ok-spans.units c.utf8.text c.as_bytes.ensures.value
    c.in_ok-spans.ensures.lines c.in_ok-spans.ensures.units
