use Rattle.utf16_lines.proofs.Cut.{lines_end_at_line_ends}
use Rattle.utf16_lines.proofs.OneWay.{one_way_to_cut}
use Rattle.utf16_lines.proofs.laws.cut_at_line_ends.Goals as goal

pub returns-clause-cut : goal.returns-clause-cut
returns-clause-cut c = lines_end_at_line_ends

pub returns-clause-one_way : goal.returns-clause-one_way
returns-clause-one_way c = one_way_to_cut
