use Rattle.std.proofs.Common.{◌≡◌, [], true, false, sym, ap, ◌∙◌, subst}
use Rattle.std.specs.Prelude.{slice_get}
use Rattle.std.specs.List.{AllByRecursion, insert}
use Rattle.std.specs.List.Sorted.{IsStrictlySortedBy}
use Rattle.std.specs.BTreeSet.{insert_key}
use Rattle.cov_text.specs.Listing.{text_cmp}
use Rattle.cov_book.specs.declared.changed.ScriptChange.{ScriptChange}
use Rattle.cov_book.specs.Listed.{AreInOrder, IsPlace, all_listed, held_in, of_url}
use Rattle.cov_book.specs.Prepared.{sums_now}
use Rattle.cov_book.specs.Renewed.{change_before, changed_scripts, changed_urls, is_changed}
use Rattle.cov_book.proofs.Among.{empty-in-order, insert-there, same-text, urls-there}
use Rattle.cov_book.proofs.Ordered.{sorted-insert, text_total}
use Rattle.cov_book.proofs.Renewing.{all-insert, insert-same, made-none, scripts-front, scripts-there, urls-changed, urls-put}
use Rattle.cov_book.proofs.changed.place_of_change.Goals as goal

pub returns-then-is_change_at-clause-urls : goal.returns-then-is_change_at-clause-urls
returns-then-is_change_at-clause-urls c =
    let url = c.args.url.now in
    let cs = c.args.changes.now.items in
    let at = c.place_of_url-at.result in
    let q : IsPlace (change_before url) cs at =
    subst (λ xs. IsPlace (change_before url) xs at) c.deref.ensures.value (subst (λ u. IsPlace (change_before u) c.deref.result.now at) c.as_text.ensures c.place_of_url-at.ensures) in
    let here : is_changed url (slice_get cs at) ≡ true = sym (ap (λ xs. is_changed url (slice_get xs at)) c.deref-2.ensures.value) ∙ sym c.is_change_at.ensures ∙ c.if-is_change_at.true in
    sym (ap (λ us. insert_key text_cmp us url) (sym (urls-changed [] cs)) ∙ urls-there url (changed_scripts [] cs) at (scripts-front url [] cs at q.front) (scripts-there url [] cs at ∙ here) ∙ urls-changed [] cs)

pub returns-clause-order : goal.returns-clause-order
returns-clause-order c =
    let url = c.args.url.now in
    let cs = c.args.changes.now.items in
    let at = c.place_of_url-at.result in
    let q : IsPlace (change_before url) cs at =
    subst (λ xs. IsPlace (change_before url) xs at) c.deref.ensures.value (subst (λ u. IsPlace (change_before u) c.deref.result.now at) c.as_text.ensures c.place_of_url-at.ensures) in
    let none : is_changed url (slice_get cs at) ≡ false = sym (ap (λ xs. is_changed url (slice_get xs at)) c.deref-2.ensures.value) ∙ sym c.is_change_at.ensures ∙ c.if-is_change_at.false in
    let x = c.in_ok-change.change in
    let made : c.insert.new.self.items ≡ insert cs at x = c.in_ok-insert.ensures.items in
    let urls : changed_urls c.insert.new.self.items ≡ insert_key text_cmp (changed_urls cs) url = ap changed_urls made ∙ urls-put url cs at x q none c.in_ok-change.ensures.url in
    record {
      urls = subst (IsStrictlySortedBy text_cmp) (sym urls) (sorted-insert text_cmp text_total (changed_urls cs) url c.requires.urls);
      fresh = subst (AllByRecursion (λ (y : ScriptChange). AreInOrder y.functions.fresh.items)) (sym made)
          (all-insert (λ (y : ScriptChange). AreInOrder y.functions.fresh.items) cs at x c.requires.fresh (subst AreInOrder (sym c.in_ok-change.ensures.fresh) empty-in-order));
    }

pub returns-clause-there : goal.returns-clause-there
returns-clause-there c =
    let url = c.args.url.now in
    let cs = c.args.changes.now.items in
    let at = c.place_of_url-at.result in
    let q : IsPlace (change_before url) cs at =
    subst (λ xs. IsPlace (change_before url) xs at) c.deref.ensures.value (subst (λ u. IsPlace (change_before u) c.deref.result.now at) c.as_text.ensures c.place_of_url-at.ensures) in
    let x = c.in_ok-change.change in
    ap (λ xs. is_changed url (slice_get xs at)) c.in_ok-insert.ensures.items ∙ ap (is_changed url) (insert-there x cs at q.within) ∙ same-text x.url url c.in_ok-change.ensures.url

pub returns-clause-same : goal.returns-clause-same
returns-clause-same c = λ ss sorts key.
    let url = c.args.url.now in
    let cs = c.args.changes.now.items in
    let at = c.place_of_url-at.result in
    let q : IsPlace (change_before url) cs at =
    subst (λ xs. IsPlace (change_before url) xs at) c.deref.ensures.value (subst (λ u. IsPlace (change_before u) c.deref.result.now at) c.as_text.ensures c.place_of_url-at.ensures) in
    let none : is_changed url (slice_get cs at) ≡ false = sym (ap (λ xs. is_changed url (slice_get xs at)) c.deref-2.ensures.value) ∙ sym c.is_change_at.ensures ∙ c.if-is_change_at.false in
    let x = c.in_ok-change.change in
    ap (λ xs. sums_now (held_in ss) (all_listed (changed_scripts ss xs)) key) c.in_ok-insert.ensures.items
    ∙ insert-same url ss cs at x sorts c.requires.urls q none c.in_ok-change.ensures.url (made-none (of_url url ss) x.functions c.in_ok-change.ensures.again c.in_ok-change.ensures.fresh)
    (subst (IsStrictlySortedBy text_cmp) (sym (urls-put url cs at x q none c.in_ok-change.ensures.url)) (sorted-insert text_cmp text_total (changed_urls cs) url c.requires.urls)) key

pub returns-clause-urls : goal.returns-clause-urls
returns-clause-urls c =
    let url = c.args.url.now in
    let cs = c.args.changes.now.items in
    let at = c.place_of_url-at.result in
    let q : IsPlace (change_before url) cs at =
    subst (λ xs. IsPlace (change_before url) xs at) c.deref.ensures.value (subst (λ u. IsPlace (change_before u) c.deref.result.now at) c.as_text.ensures c.place_of_url-at.ensures) in
    let none : is_changed url (slice_get cs at) ≡ false = sym (ap (λ xs. is_changed url (slice_get xs at)) c.deref-2.ensures.value) ∙ sym c.is_change_at.ensures ∙ c.if-is_change_at.false in
    ap changed_urls c.in_ok-insert.ensures.items ∙ urls-put url cs at c.in_ok-change.change q none c.in_ok-change.ensures.url
