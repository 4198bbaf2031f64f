use Rattle.std.proofs.Common.{◌≡◌, [], sym, ap, ◌∙◌}
use Rattle.std.specs.Prelude.{Some, None, cond, slice_get}
use Rattle.std.specs.List.Sorted.{IsStrictlySortedBy}
use Rattle.cov_text.specs.Listing.{same_text}
use Rattle.cov_model.specs.Sums.{file_order}
use Rattle.cov_book.proofs.Among.{found-url, hit_url}
use Rattle.cov_book.proofs.Searched.{item-at}
use Rattle.cov_book.proofs.looking.functions_of.Goals as goal

nothing : IsStrictlySortedBy file_order []
unfolding IsStrictlySortedBy
nothing = tt

pub returns-in_default-clause-order : goal.returns-in_default-clause-order
returns-in_default-clause-order c = nothing

pub returns-in_default-clause-functions : goal.returns-in_default-clause-functions
returns-in_default-clause-functions c =
    let url = c.args.url.now in
    let ss = c.args.scripts.now in
    let is : slice_get ss c.place_of_url-at.result ≡ None = item-at ss c.place_of_url-at.result None c.in_default.ensures.lookup in
    sym (found-url url ss c.place_of_url-at.result c.requires.urls c.place_of_url-at.ensures.front c.place_of_url-at.ensures.back ∙ ap (hit_url url) is)

pub returns-then-eq-clause-functions : goal.returns-then-eq-clause-functions
returns-then-eq-clause-functions c =
    let url = c.args.url.now in
    let ss = c.args.scripts.now in
    let s = c.in-Some.script.now in
    let is : slice_get ss c.place_of_url-at.result ≡ Some s = item-at ss c.place_of_url-at.result (Some c.in-Some.script) c.in-Some.ensures.lookup in
    let here : same_text s.url url ≡ c.eq.result = ap (λ t. same_text t url) (sym c.as_text.ensures) ∙ sym c.eq.ensures in
    c.as_slice.ensures ∙ sym (found-url url ss c.place_of_url-at.result c.requires.urls c.place_of_url-at.ensures.front c.place_of_url-at.ensures.back ∙ ap (hit_url url) is
    ∙ ap (λ b. cond b s.functions []) (here ∙ c.if-eq.true))

pub returns-else-eq-clause-order : goal.returns-else-eq-clause-order
returns-else-eq-clause-order c = nothing

pub returns-else-eq-clause-functions : goal.returns-else-eq-clause-functions
returns-else-eq-clause-functions c =
    let url = c.args.url.now in
    let ss = c.args.scripts.now in
    let s = c.in-Some.script.now in
    let is : slice_get ss c.place_of_url-at.result ≡ Some s = item-at ss c.place_of_url-at.result (Some c.in-Some.script) c.in-Some.ensures.lookup in
    let here : same_text s.url url ≡ c.eq.result = ap (λ t. same_text t url) (sym c.as_text.ensures) ∙ sym c.eq.ensures in
    sym (found-url url ss c.place_of_url-at.result c.requires.urls c.place_of_url-at.ensures.front c.place_of_url-at.ensures.back ∙ ap (hit_url url) is
    ∙ ap (λ b. cond b s.functions []) (here ∙ c.if-eq.false))
