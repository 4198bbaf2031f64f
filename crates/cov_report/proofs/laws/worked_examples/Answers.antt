use Rattle.std.proofs.Common.{refl}
use Rattle.cov_report.proofs.Computed.{report_on_literals}
use Rattle.cov_report.proofs.laws.worked_examples.Goals as goal

pub returns-clause-mapped_file : goal.returns-clause-mapped_file
unfolding report_on_literals
returns-clause-mapped_file c = (refl, refl)

pub returns-clause-without_lengths : goal.returns-clause-without_lengths
unfolding report_on_literals
returns-clause-without_lengths c = (refl, refl)

pub returns-clause-refused_map : goal.returns-clause-refused_map
unfolding report_on_literals
returns-clause-refused_map c = (refl, refl)

pub returns-clause-direct_file : goal.returns-clause-direct_file
unfolding report_on_literals
returns-clause-direct_file c = refl

pub returns-clause-absent_file : goal.returns-clause-absent_file
unfolding report_on_literals
returns-clause-absent_file c = (refl, refl)

pub returns-clause-no_text : goal.returns-clause-no_text
unfolding report_on_literals
returns-clause-no_text c = (refl, refl)

pub returns-clause-shared_path : goal.returns-clause-shared_path
unfolding report_on_literals
returns-clause-shared_path c = (refl, refl)
