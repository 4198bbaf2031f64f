use Rattle.std.proofs.Common.{ap, ◌∙◌}
use Rattle.std.specs.List.{slice_set}
use Rattle.cov_book.specs.declared.scripts.Script.{Script}
use Rattle.cov_book.proofs.Among.{taken-one}
use Rattle.cov_book.proofs.scripts.take_functions.Goals as goal

pub returns-clause-functions : goal.returns-clause-functions
returns-clause-functions c = λ s is.
    c.into_vec.ensures ∙ c.replace.ensures.value ∙ ap (λ (x : Script). x.functions) (taken-one c.index_mut.result.now s c.args.scripts.now.items c.args.at is c.index_mut.ensures.value)

pub returns-clause-left : goal.returns-clause-left
returns-clause-left c = λ s is.
    let same = taken-one c.index_mut.result.now s c.args.scripts.now.items c.args.at is c.index_mut.ensures.value in
    ap (slice_set c.args.scripts.now.items c.args.at) (λ i. record { url = (same i).url; functions = (c.replace.ensures.after ∙ c.new.ensures) i })
