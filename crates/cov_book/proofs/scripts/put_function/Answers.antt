use Rattle.std.proofs.Common.{◌≡◌, [], true, false, sym, ap, ◌∙◌, subst, arith}
use Rattle.std.specs.Prelude.{slice_get, is_some}
use Rattle.cov_book.specs.Listed.{IsPlace, bare, bare_key, comes_first, hit}
use Rattle.cov_book.specs.Told.{named}
use Rattle.cov_book.proofs.Searched.{put-there, put-gap, hit-within}
use Rattle.cov_book.proofs.scripts.put_function.Goals as goal

pub index_mut-requires : goal.index_mut-requires
index_mut-requires c =
    let g = c.args.function in
    let here : is_some (hit (bare_key g) (slice_get c.deref-2.result.now c.place_of-at.result)) ≡ true = ap (λ n. is_some (hit (named [] g.start g.end n) (slice_get c.deref-2.result.now c.place_of-at.result))) (sym c.as_text-name.ensures) ∙ sym c.is_function_at.ensures ∙ c.if-is_function_at.true in
    let within = hit-within (bare_key g) c.deref-2.result.now c.place_of-at.result here in
    omega (arith, within, c.deref-2.ensures.len)

pub returns-then-is_function_at-clause-put : goal.returns-then-is_function_at-clause-put
returns-then-is_function_at-clause-put c =
    let g = c.args.function in
    let at = c.place_of-at.result in
    let here : is_some (hit (bare_key g) (slice_get c.deref-2.result.now at)) ≡ true = ap (λ n. is_some (hit (named [] g.start g.end n) (slice_get c.deref-2.result.now c.place_of-at.result))) (sym c.as_text-name.ensures) ∙ sym c.is_function_at.ensures ∙ c.if-is_function_at.true in
    let p = subst (λ n. IsPlace (comes_first (named [] g.start g.end n)) c.deref.result.now at) c.as_text-name.ensures c.place_of-at.ensures in
    let q = subst (λ fs. IsPlace (comes_first (bare_key g)) fs at) c.deref.ensures.value p in
    put-there g c.args.functions.now.items at q.front (sym (ap (λ fs. is_some (hit (bare_key g) (slice_get fs at))) c.deref-2.ensures.value) ∙ here)

pub returns-clause-put : goal.returns-clause-put
returns-clause-put c =
    let g = c.args.function in
    let at = c.place_of-at.result in
    let none : is_some (hit (bare_key g) (slice_get c.deref-2.result.now at)) ≡ false = ap (λ n. is_some (hit (named [] g.start g.end n) (slice_get c.deref-2.result.now c.place_of-at.result))) (sym c.as_text-name.ensures) ∙ sym c.is_function_at.ensures ∙ c.if-is_function_at.false in
    let p = subst (λ n. IsPlace (comes_first (named [] g.start g.end n)) c.deref.result.now at) c.as_text-name.ensures c.place_of-at.ensures in
    let q = subst (λ fs. IsPlace (comes_first (bare_key g)) fs at) c.deref.ensures.value p in
    ap bare c.in_ok-insert.ensures.items ∙ put-gap g c.args.functions.now.items at q.front q.back (sym (ap (λ fs. is_some (hit (bare_key g) (slice_get fs at))) c.deref-2.ensures.value) ∙ none)
