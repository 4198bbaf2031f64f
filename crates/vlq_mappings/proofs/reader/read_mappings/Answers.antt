use Rattle.vlq_mappings.proofs.Laws.{found_by, only_by, first_by}
use Rattle.vlq_mappings.proofs.reader.read_mappings.Goals as goal

pub returns-clause-found : goal.returns-clause-found
returns-clause-found c = found_by c.args.text.now _ c.read_lines.ensures

pub returns-clause-only : goal.returns-clause-only
returns-clause-only c = only_by c.args.text.now _ c.read_lines.ensures

pub returns-clause-first : goal.returns-clause-first
returns-clause-first c = first_by c.args.text.now _ c.read_lines.ensures
