use Rattle.std.proofs.Common.{◌≡◌, ◌++◌, take, map, refl, ap, sym, ◌∙◌, subst, arith}
use Rattle.std.proofs.lemmas.List.{append_assoc, append-nil}
use Rattle.source_maps.specs.Entries.{said}
use Rattle.cov_report.specs.Wanted.{asked, asked_by, entry_for}
use Rattle.cov_report.specs.Gathering.{Gathers}
use Rattle.cov_report.specs.Counting.{HasCounted}
use Rattle.cov_report.proofs.Asked.{asked-none, asked-more}
use Rattle.cov_report.proofs.Counts.{Counted-same, Counted-more}
use Rattle.cov_report.proofs.making.gather.Goals as goal

pub loop-script-init : goal.loop-script-init
loop-script-init g c =
    record {
      gathers = λ told is earlier holds.
          subst (λ l. Gathers told l c.args.gathered.now) (sym (append-nil earlier) ∙ ap (λ l. earlier ++ l) (sym (asked-none (map said c.args.entries.now)))) holds;
      counted = Counted-same (g.S.Store.files c.args.store.now) (g.S.Store.faults c.args.store.now) (g.S.Store.faults c.args.store.now) c.args.gathered.now.skips c.args.gathered.now.skips refl refl;
      later = omega arith;
      files = refl;
      folders = refl;
    }

pub loop-script-preserved : goal.loop-script-preserved
loop-script-preserved g c =
    let k = c.loop-script.script-index in
    let script = c.script-item.result in
    record {
      gathers = λ told is earlier holds.
          subst (λ l. Gathers told l c.ask.new.gathered)
          (append_assoc earlier (asked (take k c.args.scripts.now) (map said c.args.entries.now)) (asked_by script (entry_for (map said c.args.entries.now) script.url))
          ∙ ap (λ l. earlier ++ l) (sym (asked-more c.args.scripts.now k script (map said c.args.entries.now) c.loop-script-test.true c.script-item.is)))
          (c.in_default.ensures.gathers told (c.loop-script.invariant.files ∙ is) (earlier ++ asked (take k c.args.scripts.now) (map said c.args.entries.now))
          (c.loop-script.invariant.gathers told is earlier holds));
      counted = Counted-more (g.S.Store.files c.args.store.now) (g.S.Store.faults c.args.store.now) (g.S.Store.faults c.loop-script.store) (g.S.Store.faults c.ask.new.store)
          c.args.gathered.now.skips c.loop-script.gathered.skips c.ask.new.gathered.skips c.loop-script.invariant.later c.in_default.ensures.store.later c.loop-script.invariant.counted
          (subst (λ f. HasCounted f (g.S.Store.faults c.loop-script.store) (g.S.Store.faults c.ask.new.store) c.loop-script.gathered.skips c.ask.new.gathered.skips) c.loop-script.invariant.files c.in_default.ensures.store.counts);
      later = omega (arith, c.loop-script.invariant.later, c.in_default.ensures.store.later);
      files = c.in_default.ensures.store.files ∙ c.loop-script.invariant.files;
      folders = c.in_default.ensures.store.folders ∙ c.loop-script.invariant.folders;
    }
