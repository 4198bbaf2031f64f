use Rattle.std.proofs.Common.{◌≡◌, ◌∷◌, ◌++◌, [], length, sym, ap, ◌∙◌, rules}
use Rattle.std.specs.Prelude.{option_to_list}
use Rattle.std.specs.Vec.{vec_len}
use Rattle.cov_book.specs.Renewed.{renewed, renewed_at}
use Rattle.cov_book.proofs.Renewing.{renewed-last, renewed-none, popped-none}
use Rattle.cov_book.proofs.changed.renew.Goals as goal

pub left-preserved : goal.left-preserved
left-preserved c =
    let fs = c.left.functions.items in
    let xs = c.pop.new.self.items in
    let len : vec_len c.pop.new.self ≡ length xs = search rules in
    let all : c.left.left.items ≡ xs ++ c.in-Some.sums ∷ [] = c.pop.ensures.items ∙ ap (λ o. xs ++ option_to_list o) c.in-Some.is in
    ap (λ gs. renewed gs xs) (c.renew_one.ensures ∙ ap (λ n. renewed_at fs n c.in-Some.sums) (c.len.ensures ∙ len))
    ∙ renewed-last fs xs c.in-Some.sums ∙ sym (ap (renewed fs) all) ∙ c.left.invariant

pub returns : goal.returns
returns c =
    let fs = c.left.functions.items in
    let len : vec_len c.left.left ≡ length c.left.left.items = search rules in
    sym (renewed-none fs) ∙ sym (ap (renewed fs) (popped-none c.left.left.items c.pop.result (vec_len c.left.left) (vec_len c.pop.new.self) len c.pop.ensures.cases c.in_default.is)) ∙ c.left.invariant
