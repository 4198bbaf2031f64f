use Rattle.cov_model.proofs.Examples as examples
use Rattle.cov_model.proofs.laws.worked_examples.Goals as goal

pub returns-clause-two_files : goal.returns-clause-two_files
returns-clause-two_files c = examples.two_files

pub returns-clause-hidden_root : goal.returns-clause-hidden_root
returns-clause-hidden_root c = examples.hidden_root

pub returns-clause-url_twice : goal.returns-clause-url_twice
returns-clause-url_twice c = examples.url_twice

pub returns-clause-two_names : goal.returns-clause-two_names
returns-clause-two_names c = examples.two_names

pub returns-clause-no_function : goal.returns-clause-no_function
returns-clause-no_function c = examples.no_function

pub returns-clause-crossing : goal.returns-clause-crossing
returns-clause-crossing c = examples.crossing_ranges

pub returns-clause-shapes : goal.returns-clause-shapes
returns-clause-shapes c = examples.range_shapes

pub returns-clause-past_the_limit : goal.returns-clause-past_the_limit
returns-clause-past_the_limit c = examples.past_the_limit

pub returns-clause-branches : goal.returns-clause-branches
returns-clause-branches c = examples.branches

pub returns-clause-branches_flat : goal.returns-clause-branches_flat
returns-clause-branches_flat c = examples.branches_flat

pub returns-clause-comes_again : goal.returns-clause-comes_again
returns-clause-comes_again c = examples.comes_again

pub returns-clause-there_and_back : goal.returns-clause-there_and_back
returns-clause-there_and_back c = examples.there_and_back

pub returns-clause-empty : goal.returns-clause-empty
returns-clause-empty c = examples.no_snapshot

pub returns-clause-faults : goal.returns-clause-faults
returns-clause-faults c = examples.reading_faults

pub returns-clause-normal : goal.returns-clause-normal
returns-clause-normal c = examples.normal_file

pub returns-clause-flat : goal.returns-clause-flat
returns-clause-flat c = examples.flat_lists

pub returns-clause-held : goal.returns-clause-held
returns-clause-held c = examples.held_sums
