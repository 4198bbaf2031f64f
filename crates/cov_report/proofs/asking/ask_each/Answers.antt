use Rattle.std.proofs.Common.{◌≡◌, ◌<◌, ◌≤◌, ◌++◌, length, get_or, ap, sym, ◌∙◌, subst, arith}
use Rattle.std.proofs.lemmas.List.{append_assoc}
use Rattle.cov_report.specs.Wanted.{asked_at}
use Rattle.cov_report.specs.Gathering.{Gathers}
use Rattle.cov_report.specs.Counting.{HasCounted}
use Rattle.cov_report.proofs.Asked.{sources_to, sources-more, sources-all}
use Rattle.cov_report.proofs.Counts.{Counted-more}
use Rattle.cov_report.proofs.asking.ask_each.Goals as goal

pub loop-k-preserved : goal.loop-k-preserved
loop-k-preserved g c =
    let value = c.sources-name-items.ensures.value in
    let k = c.loop-k.k in
    let name = c.name-item.result in
    let below : k < length c.args.good.now.map.sources = subst (λ xs. k < length xs) value c.loop-k-test.true in
    let is-at : name ≡ get_or c.args.good.now.map.sources k name = c.name-item.is ∙ ap (λ xs. get_or xs k name) value in
    record {
      gathers = λ told is earlier holds.
          subst (λ asked. Gathers told asked c.ask_place.new.gathered)
          (append_assoc earlier (sources_to c.args.script.now c.args.good.now k) (asked_at c.args.script.now c.args.good.now (k, name))
          ∙ ap (λ l. earlier ++ l) (sym (sources-more c.args.script.now c.args.good.now k name below is-at)))
          (c.in_default.ensures.gathers told (c.loop-k.invariant.files ∙ is) (earlier ++ sources_to c.args.script.now c.args.good.now k) (c.loop-k.invariant.gathers told is earlier holds));
      counted = Counted-more (g.S.Store.files c.args.store.now) (g.S.Store.faults c.args.store.now) (g.S.Store.faults c.loop-k.store) (g.S.Store.faults c.ask_place.new.store)
          c.args.gathered.now.skips c.loop-k.gathered.skips c.ask_place.new.gathered.skips c.loop-k.invariant.later c.in_default.ensures.store.later c.loop-k.invariant.counted
          (subst (λ f. HasCounted f (g.S.Store.faults c.loop-k.store) (g.S.Store.faults c.ask_place.new.store) c.loop-k.gathered.skips c.ask_place.new.gathered.skips) c.loop-k.invariant.files c.in_default.ensures.store.counts);
      later = omega (arith, c.loop-k.invariant.later, c.in_default.ensures.store.later);
      files = c.in_default.ensures.store.files ∙ c.loop-k.invariant.files;
      folders = c.in_default.ensures.store.folders ∙ c.loop-k.invariant.folders;
    }

pub returns-clause-gathers : goal.returns-clause-gathers
returns-clause-gathers g c =
    λ told is earlier holds.
    subst (λ l. Gathers told (earlier ++ l) c.loop-k.gathered)
    (sources-all c.args.script.now c.args.good.now c.loop-k.k (subst (λ xs. length xs ≤ c.loop-k.k) c.sources-name-items.ensures.value c.loop-k-test.false))
    (c.loop-k.invariant.gathers told is earlier holds)
