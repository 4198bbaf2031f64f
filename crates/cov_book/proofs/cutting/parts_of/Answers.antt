use Rattle.std.proofs.Common.{sym}
use Rattle.std.proofs.Common.{ap}
use Rattle.cov_book.specs.Weights.{entries_in}
use Rattle.cov_book.proofs.Weighed.{alike-itself, alike-sorted, alike-then}
use Rattle.cov_book.proofs.cutting.parts_of.Goals as goal

pub returns-clause-alike : goal.returns-clause-alike
returns-clause-alike c =
    let all = c.args.snapshot.now in
    let wholes = c.in_ok-wholes.wholes.items in
    let sorted = c.sort_by.new.self.items in
    let lent = c.deref.result.now in
    let cut = c.in_ok-parts.parts.items in
    let parts = c.sort_by-2.new.self.items in
    alike-then all (entries_in wholes) (entries_in parts) (alike-itself all (entries_in wholes) (sym c.in_ok-wholes.ensures.wholes))
    (alike-then (entries_in wholes) (entries_in sorted) (entries_in parts) (alike-sorted wholes sorted c.in_ok-sort_by.ensures.permutation)
    (alike-then (entries_in sorted) (entries_in lent) (entries_in parts) (alike-itself (entries_in sorted) (entries_in lent) (sym (ap entries_in c.deref.ensures.value)))
    (alike-then (entries_in lent) (entries_in cut) (entries_in parts) c.in_ok-parts.ensures (alike-sorted cut parts c.in_ok-sort_by-2.ensures.permutation))))
