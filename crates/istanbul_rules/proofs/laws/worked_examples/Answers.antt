use Rattle.std.proofs.Common.{refl}
use Rattle.istanbul_rules.proofs.Computed.{rules_on_literals}
use Rattle.istanbul_rules.proofs.laws.worked_examples.Goals as goal

pub returns-clause-line_counts : goal.returns-clause-line_counts
unfolding rules_on_literals
returns-clause-line_counts c = (refl, refl, refl)

pub returns-clause-ignored_lines : goal.returns-clause-ignored_lines
unfolding rules_on_literals
returns-clause-ignored_lines c = refl

pub returns-clause-comments : goal.returns-clause-comments
unfolding rules_on_literals
returns-clause-comments c = (refl, refl, refl, refl, refl, refl)

pub returns-clause-direct_file : goal.returns-clause-direct_file
unfolding rules_on_literals
returns-clause-direct_file c = refl

pub returns-clause-ignored_file : goal.returns-clause-ignored_file
unfolding rules_on_literals
returns-clause-ignored_file c = refl

pub returns-clause-mapped_file : goal.returns-clause-mapped_file
unfolding rules_on_literals
returns-clause-mapped_file c = refl
