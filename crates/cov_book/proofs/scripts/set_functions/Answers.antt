use Rattle.std.proofs.Common.{ap}
use Rattle.std.specs.List.{slice_set}
use Rattle.cov_book.proofs.Among.{taken-one}
use Rattle.cov_book.proofs.scripts.set_functions.Goals as goal

pub returns-clause-set : goal.returns-clause-set
returns-clause-set c = λ s is.
    let same = taken-one c.index_mut.result.now s c.args.scripts.now.items c.args.at is c.index_mut.ensures.value in
    ap (slice_set c.args.scripts.now.items c.args.at) (λ i. record { url = (same i).url; functions = c.from_vec.ensures i })
