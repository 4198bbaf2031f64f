use Rattle.std.proofs.Common.{refl}
use Rattle.vlq_mappings.specs.Mappings.{mappings}
use Rattle.vlq_mappings.specs.Written.{written, spelled_in}
use Rattle.vlq_mappings.proofs.examples.worked_examples.Goals as goal

pub returns-clause-read : goal.returns-clause-read
unfolding mappings
returns-clause-read c = (refl, refl, refl, refl, refl, refl, refl)

pub returns-clause-written : goal.returns-clause-written
unfolding written spelled_in
returns-clause-written c = (refl, refl)

pub returns-clause-pieces : goal.returns-clause-pieces
unfolding mappings written spelled_in
returns-clause-pieces c = (refl, refl, refl, refl)
