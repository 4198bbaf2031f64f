use Rattle.std.proofs.Common.{◌≡◌, ◌+◌, ◌<◌, List, ◌∷◌, ◌++◌, length, drop, get_or, sym, ap, ◌∙◌, subst, arith, rules}
use Rattle.std.specs.Prelude.{nat_lt, option_map}
use Rattle.cov_session.specs.declared.session.Event.{Event}
use Rattle.cov_session.specs.declared.session.Event.TheVariants as event
use Rattle.cov_session.specs.Machine.{State, answer, answers}
use Rattle.cov_session.specs.View.{reply_of, replies}
use Rattle.cov_session.specs.Kept.{IsKept}
use Rattle.cov_session.specs.Fates.{all_fates, given, settled_by}
use Rattle.cov_session.proofs.Runs.{replies_more, fates_more, kept_after, takes_after, drop_here}
use Rattle.cov_session.proofs.events.run_all.Goals as goal

pub loop-i-preserved : goal.loop-i-preserved
loop-i-preserved c =
    let s = c.loop-i.target in
    let t = c.happen.new.target in
    let at = c.loop-i.i in
    let tape = c.args.tape.items in
    let all = c.args.events.now in
    let inv = c.loop-i.invariant in
    let et = c.in_ok-reply.ensures.state in
    let eb = c.tally-before.ensures in
    let en = c.tally-now.ensures in
    let tk = c.takes.ensures.value in
    let tn = c.takes-takes_now.ensures.value in
    let lt : at < length all = search rules in
    let e : Event = get_or all at event.Frame in
    let es : List Event = drop (at + 1) all in
    let here : drop at all ≡ e ∷ es = drop_here all at event.Frame lt in
    let next = kept_after s e inv.kept inv.slow in
    let em : c.settle.new.fates.items ≡ c.loop-i.settled.items ++ settled_by s t at =
    c.in_ok-settle.ensures
    ∙ (λ i. c.loop-i.settled.items ++ given (nat_lt (eb i).unwatched (en i).unwatched) (nat_lt (length (tk i)) (length (tn i))) (nat_lt (eb i).discarded (en i).discarded) (eb i).held (length (tk i)) at) in
    record {
      replies = replies_more tape c.loop-i.replies c.push.new.self s t e es c.in_ok-reply.reply _ (ap (λ xs. c.loop-i.replies ++ replies tape (answers s xs)) (sym here) ∙ inv.replies) et
          (c.in_ok-reply.ensures.reply ∙ ap (λ xs. option_map (reply_of xs) (answer s e)) inv.tape) c.in_ok-push.ensures.ok;
      fates = fates_more c.loop-i.settled.items c.settle.new.fates.items s t at e es _ inv.kept inv.slow (ap (λ xs. c.loop-i.settled.items ++ all_fates s at xs) (sym here) ∙ inv.fates) et em;
      kept = subst IsKept (sym et) next.kept;
      tape = ap (λ (x : State). x.tape) et ∙ next.tape ∙ inv.tape;
      slow = ap (λ (x : State). x.pace) et ∙ next.slow;
      takes = omega (arith, inv.takes, ap (λ (x : State). length x.takes) et, takes_after s e inv.kept inv.slow);
      desks = ap (λ (x : State). length x.desks) et ∙ next.desks ∙ inv.desks;
    }
