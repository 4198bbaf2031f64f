use Rattle.std.proofs.Common.{◌≡◌, List, length, sym, ap, ◌∙◌, subst, arith, rules}
use Rattle.std.specs.Prelude.{Option, Some, slice_get}
use Rattle.std.specs.Vec.{vec_len}
use Rattle.std.proofs.lemmas.Result.{IfOk-weaker, on_ok_weaker}
use Rattle.cov_model.specs.declared.sums.Key.{Key}
use Rattle.cov_book.specs.declared.sums.Sums.{Sums}
use Rattle.cov_book.specs.declared.changed.ScriptChange.{ScriptChange}
use Rattle.cov_book.specs.Least.{IsLeastSoFar}
use Rattle.cov_book.specs.Listed.{AreInOrder, Knows, all_listed, held_in, of_url, own_list}
use Rattle.cov_book.specs.Prepared.{with_reports}
use Rattle.cov_book.specs.Renewed.{changed_scripts, made}
use Rattle.cov_book.proofs.Among.{apart, apart-knows, so-far-same}
use Rattle.cov_book.proofs.Renewing.{all-get, enter-change, leave-change, read-at, set-changed, urls-kept}
use Rattle.cov_book.proofs.adding.add_script.Goals as goal

pub index_mut-requires : goal.index_mut-requires
index_mut-requires g c = c.in_ok-at.ensures.place

pub add_reports-requires-clause-changes : goal.add_reports-requires-clause-changes
add_reports-requires-clause-changes g c =
    let url = c.args.url.now in
    let ss = c.args.scripts.now in
    let cs = c.place_of_change.new.changes.items in
    let at = c.in_ok-at.at in
    let x = c.index_mut.result.now in
    let held = c.functions_of-held.result.now in
    let len : vec_len c.place_of_change.new.changes ≡ length cs = search rules in
    let there : slice_get cs at ≡ Some x = read-at cs at x (omega (arith, len, c.in_ok-at.ensures.place)) c.index_mut.ensures.value in
    all-get (λ (y : ScriptChange). AreInOrder y.functions.fresh.items) cs at x c.in_ok-at.ensures.order.fresh there

pub add_reports-requires-clause-so_far : goal.add_reports-requires-clause-so_far
add_reports-requires-clause-so_far g c =
    let url = c.args.url.now in
    let ss = c.args.scripts.now in
    let cs = c.place_of_change.new.changes.items in
    let at = c.in_ok-at.at in
    let x = c.index_mut.result.now in
    let held = c.functions_of-held.result.now in
    let len : vec_len c.place_of_change.new.changes ≡ length cs = search rules in
    let there : slice_get cs at ≡ Some x = read-at cs at x (omega (arith, len, c.in_ok-at.ensures.place)) c.index_mut.ensures.value in
    let is : held ≡ of_url url ss = c.functions_of-held.ensures.functions ∙ ap (λ u. of_url u ss) c.as_text.ensures in
    let functions : Key → Option Sums = apart url (changed_scripts ss cs) (held_in ss) in
    let knows : Knows url held functions = subst (λ gs. Knows url gs functions) (sym is) (apart-knows url (changed_scripts ss cs) ss c.requires.held.urls) in
    let enters : (all : List (Key × Sums)) → IsLeastSoFar all (held_in ss) (all_listed (changed_scripts ss c.args.changed.now.items)) c.args.before → IsLeastSoFar all functions (own_list url (made held x.functions)) c.args.before =
    λ all before.
    enter-change all url ss held cs at x c.in_ok-at.ensures.order there c.in_ok-at.ensures.there is c.args.before
    (so-far-same all (held_in ss) (held_in ss) (all_listed (changed_scripts ss c.args.changed.now.items)) (all_listed (changed_scripts ss cs)) c.args.before (λ key. sym (c.in_ok-at.ensures.same ss c.requires.held.urls key)) before) in
    (c.requires.so_far.0, functions, knows, enters c.requires.so_far.0 c.requires.so_far.1)

pub returns-clause-order : goal.returns-clause-order
returns-clause-order g c =
    let url = c.args.url.now in
    let ss = c.args.scripts.now in
    let cs = c.place_of_change.new.changes.items in
    let at = c.in_ok-at.at in
    let x = c.index_mut.result.now in
    let held = c.functions_of-held.result.now in
    let len : vec_len c.place_of_change.new.changes ≡ length cs = search rules in
    let there : slice_get cs at ≡ Some x = read-at cs at x (omega (arith, len, c.in_ok-at.ensures.place)) c.index_mut.ensures.value in
    on_ok_weaker c.add_reports.result (λ order. set-changed cs at x c.add_reports.new.changes c.in_ok-at.ensures.order there order) c.add_reports.ensures.order

pub returns-clause-urls : goal.returns-clause-urls
returns-clause-urls g c =
    let url = c.args.url.now in
    let ss = c.args.scripts.now in
    let cs = c.place_of_change.new.changes.items in
    let at = c.in_ok-at.at in
    let x = c.index_mut.result.now in
    let held = c.functions_of-held.result.now in
    let len : vec_len c.place_of_change.new.changes ≡ length cs = search rules in
    let there : slice_get cs at ≡ Some x = read-at cs at x (omega (arith, len, c.in_ok-at.ensures.place)) c.index_mut.ensures.value in
    on_ok_weaker c.add_reports.result (λ order. urls-kept cs at x c.add_reports.new.changes there ∙ c.in_ok-at.ensures.urls) c.add_reports.ensures.order

pub returns-clause-sums : goal.returns-clause-sums
returns-clause-sums g c =
    let url = c.args.url.now in
    let ss = c.args.scripts.now in
    let cs = c.place_of_change.new.changes.items in
    let at = c.in_ok-at.at in
    let x = c.index_mut.result.now in
    let held = c.functions_of-held.result.now in
    let len : vec_len c.place_of_change.new.changes ≡ length cs = search rules in
    let there : slice_get cs at ≡ Some x = read-at cs at x (omega (arith, len, c.in_ok-at.ensures.place)) c.index_mut.ensures.value in
    let is : held ≡ of_url url ss = c.functions_of-held.ensures.functions ∙ ap (λ u. of_url u ss) c.as_text.ensures in
    let functions : Key → Option Sums = apart url (changed_scripts ss cs) (held_in ss) in
    let knows : Knows url held functions = subst (λ gs. Knows url gs functions) (sym is) (apart-knows url (changed_scripts ss cs) ss c.requires.held.urls) in
    let enters : (all : List (Key × Sums)) → IsLeastSoFar all (held_in ss) (all_listed (changed_scripts ss c.args.changed.now.items)) c.args.before → IsLeastSoFar all functions (own_list url (made held x.functions)) c.args.before =
    λ all before.
    enter-change all url ss held cs at x c.in_ok-at.ensures.order there c.in_ok-at.ensures.there is c.args.before
    (so-far-same all (held_in ss) (held_in ss) (all_listed (changed_scripts ss c.args.changed.now.items)) (all_listed (changed_scripts ss cs)) c.args.before (λ key. sym (c.in_ok-at.ensures.same ss c.requires.held.urls key)) before) in
    IfOk-weaker c.add_reports.result _ _
    (λ now step all before.
    leave-change (with_reports all url c.args.reports.now) url ss held cs at x c.in_ok-at.ensures.order there c.in_ok-at.ensures.there is c.add_reports.new.changes now (step all functions knows (enters all before)))
    c.add_reports.ensures.sums

pub returns-clause-cost : goal.returns-clause-cost
returns-clause-cost g c =
    let url = c.args.url.now in
    let ss = c.args.scripts.now in
    let cs = c.place_of_change.new.changes.items in
    let at = c.in_ok-at.at in
    let x = c.index_mut.result.now in
    let held = c.functions_of-held.result.now in
    let len : vec_len c.place_of_change.new.changes ≡ length cs = search rules in
    let there : slice_get cs at ≡ Some x = read-at cs at x (omega (arith, len, c.in_ok-at.ensures.place)) c.index_mut.ensures.value in
    let is : held ≡ of_url url ss = c.functions_of-held.ensures.functions ∙ ap (λ u. of_url u ss) c.as_text.ensures in
    let functions : Key → Option Sums = apart url (changed_scripts ss cs) (held_in ss) in
    let knows : Knows url held functions = subst (λ gs. Knows url gs functions) (sym is) (apart-knows url (changed_scripts ss cs) ss c.requires.held.urls) in
    let enters : (all : List (Key × Sums)) → IsLeastSoFar all (held_in ss) (all_listed (changed_scripts ss c.args.changed.now.items)) c.args.before → IsLeastSoFar all functions (own_list url (made held x.functions)) c.args.before =
    λ all before.
    enter-change all url ss held cs at x c.in_ok-at.ensures.order there c.in_ok-at.ensures.there is c.args.before
    (so-far-same all (held_in ss) (held_in ss) (all_listed (changed_scripts ss c.args.changed.now.items)) (all_listed (changed_scripts ss cs)) c.args.before (λ key. sym (c.in_ok-at.ensures.same ss c.requires.held.urls key)) before) in
    IfOk-weaker c.add_reports.result _ _ (λ now step none all bound before within. step none all functions bound knows (enters all before) within) c.add_reports.ensures.cost

pub returns-clause-grows : goal.returns-clause-grows
returns-clause-grows g c =
    let url = c.args.url.now in
    let ss = c.args.scripts.now in
    let cs = c.place_of_change.new.changes.items in
    let at = c.in_ok-at.at in
    let x = c.index_mut.result.now in
    let held = c.functions_of-held.result.now in
    let len : vec_len c.place_of_change.new.changes ≡ length cs = search rules in
    let there : slice_get cs at ≡ Some x = read-at cs at x (omega (arith, len, c.in_ok-at.ensures.place)) c.index_mut.ensures.value in
    let is : held ≡ of_url url ss = c.functions_of-held.ensures.functions ∙ ap (λ u. of_url u ss) c.as_text.ensures in
    let functions : Key → Option Sums = apart url (changed_scripts ss cs) (held_in ss) in
    let knows : Knows url held functions = subst (λ gs. Knows url gs functions) (sym is) (apart-knows url (changed_scripts ss cs) ss c.requires.held.urls) in
    let enters : (all : List (Key × Sums)) → IsLeastSoFar all (held_in ss) (all_listed (changed_scripts ss c.args.changed.now.items)) c.args.before → IsLeastSoFar all functions (own_list url (made held x.functions)) c.args.before =
    λ all before.
    enter-change all url ss held cs at x c.in_ok-at.ensures.order there c.in_ok-at.ensures.there is c.args.before
    (so-far-same all (held_in ss) (held_in ss) (all_listed (changed_scripts ss c.args.changed.now.items)) (all_listed (changed_scripts ss cs)) c.args.before (λ key. sym (c.in_ok-at.ensures.same ss c.requires.held.urls key)) before) in
    IfOk-weaker c.add_reports.result _ _ (λ now step none all before. step none all functions knows (enters all before)) c.add_reports.ensures.grows
