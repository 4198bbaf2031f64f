use Rattle.std.proofs.Common.{◌≡◌, suc, ◌<◌, ◌≤◌, ◌+◌, ◌++◌, [], ◌∷◌, length, refl, sym, ap, ◌∙◌, subst, arith, rules}
use Rattle.std.specs.Vec.{vec_len, vec_capacity}
use Rattle.cov_book.proofs.Joining.{more-length}
use Rattle.cov_book.proofs.Placed.{took}
use Rattle.cov_book.proofs.Walking.{moved}
use Rattle.cov_book.proofs.placing.go_to.Goals as goal

pub over-preserved : goal.over-preserved
over-preserved c =
    let s = c.in-Some.script in
    let done = c.over.done.items in
    let rest = c.take_up_to.new.left.items in
    let inv = c.over.invariant in
    let taken : c.over.left.items ≡ rest ++ s ∷ [] = c.in-Some.ensures.taken in
    let count : length c.over.left.items ≡ suc (length rest) = ap length taken ∙ more-length rest s in
    let fits : vec_len c.over.done < vec_capacity c.over.done = omega (arith, inv.place, count) in
    let pushed : c.push.new.self.items ≡ done ++ s ∷ [] = took c.push.result c.push.new.self.items (done ++ s ∷ []) done (c.push.ensures.succeeds fits) c.push.ensures.items in
    let one : vec_len c.over.done ≡ length done = search rules in
    let other : vec_len c.push.new.self ≡ length c.push.new.self.items = search rules in
    let longer : length c.push.new.self.items ≡ suc (length done) = ap length pushed ∙ more-length done s in
    record {
      all = moved done c.over.left.items s c.push.new.self.items rest taken pushed ∙ inv.all;
      place = omega (arith, inv.place, count, one, other, longer, c.push.ensures.capacity);
      room = λ more fit. let held = inv.room more fit in omega (arith, held, count, one, other, longer, c.push.ensures.capacity);
    }

pub returns-clause-room : goal.returns-clause-room
returns-clause-room c = λ more fit.
    subst (λ ss. vec_len c.over.done + length ss + more ≤ vec_capacity c.over.done) (sym (c.in_default.ensures.none refl)) (c.over.invariant.room more fit)
