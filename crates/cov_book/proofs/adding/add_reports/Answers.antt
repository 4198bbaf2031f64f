use Rattle.std.proofs.Common.{◌≤◌, ◌+◌, ◌∷◌, sym, ap, ◌∙◌, subst, drop, arith}
use Rattle.std.specs.Prelude.{sum_by}
use Rattle.std.proofs.lemmas.List.{drop_more, drop_all}
use Rattle.cov_book.specs.Spent.{for_reports, own_runs, runs_at}
use Rattle.cov_book.specs.Renewed.{made}
use Rattle.cov_book.specs.Prepared.{with_report, with_reports}
use Rattle.cov_book.specs.Least.{IsLeastSoFar}
use Rattle.cov_book.specs.Listed.{own_list}
use Rattle.cov_book.proofs.Costs.{rest-grows, rest-within, rest-cost}
use Rattle.cov_book.proofs.adding.add_reports.Goals as goal

pub loop-report-preserved : goal.loop-report-preserved
loop-report-preserved g c =
    let items = c.args.reports.now in
    let k = c.loop-report.report-index in
    let f = c.report-item.result in
    let url = c.args.url.now in
    let rest = drop (k + 1) items in
    let more = drop_more items k f c.loop-report-test.true ∙ ap (λ x. x ∷ drop (k + 1) items) (sym c.report-item.is) in
    let inv = c.loop-report.invariant in
    let here = inv.so_far in
    let next = c.in_ok-past.ensures in
    record {
      order = next.order;
      so_far = (with_report here.0 url f, here.1, here.2, next.sums here.0 here.1 here.2 here.3);
      sums = λ all functions knows before.
          let so_far = inv.sums all functions knows before in (
            with_report so_far.0 url f,
            next.sums so_far.0 functions knows so_far.1,
            sym (ap (with_reports so_far.0 url) more) ∙ so_far.2,
            λ none key.
                rest-grows so_far.0 (with_report so_far.0 url f) url f (drop k items) rest key (runs_at all key + sum_by (own_runs key url) items) more
                (so_far.3 (next.stays none) key) (next.grows none so_far.0 functions knows so_far.1 key),
          );
      cost = λ none all functions bound knows before within.
          let so_far = inv.sums all functions knows before in
          rest-cost bound url f (drop k items) rest c.loop-report.steps c.add_report.new.steps (c.args.steps.now + for_reports bound url items) more
          (inv.cost (next.stays none) all functions bound knows before within)
          (next.cost none so_far.0 functions bound knows so_far.1
          (λ key. rest-within so_far.0 url f (drop k items) rest key (runs_at all key + sum_by (own_runs key url) items) (bound key) more (so_far.3 (next.stays none) key) (within key)));
      stays = λ none. inv.stays (next.stays none);
      later = omega (arith, inv.later, next.later);
    }

pub returns-clause-sums : goal.returns-clause-sums
returns-clause-sums g c = λ all functions knows before.
    let items = c.args.reports.now in
    let url = c.args.url.now in
    let so_far = c.loop-report.invariant.sums all functions knows before in
    let done = drop_all c.loop-report.report-index items (omega (arith, c.loop-report-test.false)) in
    subst (λ now. IsLeastSoFar now functions (own_list url (made c.args.held.now c.loop-report.changes)) c.loop-report.past)
    (sym (ap (with_reports so_far.0 url) done) ∙ so_far.2) so_far.1

pub returns-clause-grows : goal.returns-clause-grows
returns-clause-grows g c = λ none all functions knows before key.
    let items = c.args.reports.now in
    let url = c.args.url.now in
    let so_far = c.loop-report.invariant.sums all functions knows before in
    let done = drop_all c.loop-report.report-index items (omega (arith, c.loop-report-test.false)) in
    let is = sym (ap (with_reports so_far.0 url) done) ∙ so_far.2 in
    let grown = subst (λ now. runs_at now key + sum_by (own_runs key url) (drop c.loop-report.report-index items) ≤ runs_at all key + sum_by (own_runs key url) items) is (so_far.3 none key) in
    omega (arith, grown)

pub returns-clause-cost : goal.returns-clause-cost
returns-clause-cost g c = λ none all functions bound knows before within.
    let spent = c.loop-report.invariant.cost none all functions bound knows before within in
    omega (arith, spent)
