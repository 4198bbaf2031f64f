use Rattle.std.proofs.Common.{◌≡◌, [], ◌∷◌, ◌++◌, sym, ap, ◌∙◌, subst, arith}
use Rattle.cov_laws.specs.Laws.{AreInBounds}
use Rattle.cov_book.specs.Stands.{StandsFor}
use Rattle.made_snapshots.specs.Draws.{behind}
use Rattle.made_snapshots.specs.Made.{made, snapshot}
use Rattle.made_snapshots.proofs.Next.{made-more, made-none, twelve-more}
use Rattle.made_summary.proofs.Bounds.{made-bounds}
use Rattle.made_summary.proofs.making.made_book.Goals as goal

pub loop-number-init : goal.loop-number-init
loop-number-init g c = record {
  state = c.new-draws.ensures;
  stands = subst (StandsFor c.new-book.result) (sym (made-none c.args.seed)) c.new-book.ensures;
  within = omega arith;
}

pub add_written-requires : goal.add_written-requires
add_written-requires g c = subst AreInBounds (sym (c.as_slice.ensures ∙ c.in_ok-scripts.ensures.scripts)) (made-bounds c.loop-number.number c.loop-number.draws)

pub loop-number-preserved : goal.loop-number-preserved
loop-number-preserved g c =
    let inv = c.loop-number.invariant in
    let n = c.loop-number.number in
    let seed = c.args.seed in
    let scripts = c.as_slice.ensures ∙ c.in_ok-scripts.ensures.scripts ∙ ap (snapshot n) inv.state in
    record {
      state = c.in_ok-scripts.ensures.state ∙ ap (behind 12) inv.state ∙ sym (twelve-more n seed);
      stands = subst (StandsFor c.add_written.new.book) (ap (λ s. made seed n ++ s ∷ []) scripts ∙ sym (made-more seed n)) (c.in_ok-add_written.ensures (made seed n) inv.stands);
      within = omega arith;
    }

pub returns : goal.returns
returns g c =
    let all : c.loop-number.number ≡ c.args.count = omega (arith, c.loop-number-test.false, c.loop-number.invariant.within) in
    subst (λ n. StandsFor c.loop-number.book (made c.args.seed n)) all c.loop-number.invariant.stands
