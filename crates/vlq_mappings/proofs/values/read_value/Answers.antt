use Rattle.std.proofs.Common.{arith, ◌≡◌, ◌+◌, ◌*◌, ◌%◌, min, false, length, get_or, refl, sym, ap, ◌∙◌}
use Rattle.vlq_mappings.specs.Faults.{goes_on}
use Rattle.vlq_mappings.specs.Digits.{value}
use Rattle.vlq_mappings.specs.Pieces.{piece_at, is_end, near_values, with_value}
use Rattle.vlq_mappings.proofs.Groups.{ends_at, goes_at, within_piece, piece_more}
use Rattle.vlq_mappings.proofs.Numbers.{cap, heavy}
use Rattle.vlq_mappings.proofs.values.read_value.Goals as goal

pub returns-then-digit-lt32-clause-value : goal.returns-then-digit-lt32-clause-value
returns-then-digit-lt32-clause-value c =
    let text = c.args.bytes.now in
    let at = c.groups.at in
    let some : is_end (piece_at text at) ≡ false = cc in
    let e = ends_at text c.args.from c.groups.whole c.groups.weight at (get_or text at 0) c.in-Some.digit some refl (sym c.in-Some.ensures.worth) c.if-digit-lt32.true in
    let low : c.from-low.result ≡ c.in-Some.digit = omega arith in
    let w : c.min-whole.result ≡ min (c.groups.whole + c.in-Some.digit * c.groups.weight) cap = rw (← low) c.min-whole.ensures in
    sym c.groups.invariant.same ∙ e ∙ ap (λ n. goes_on (near_values (at + 1) (piece_at text (at + 1))) (with_value (value c.args.from n))) (sym w)

pub groups-preserved : goal.groups-preserved
groups-preserved c =
    let text = c.args.bytes.now in
    let at = c.groups.at in
    let some : is_end (piece_at text at) ≡ false = cc in
    let e = goes_at text c.args.from c.groups.whole c.groups.weight at (get_or text at 0) c.in-Some.digit some refl (sym c.in-Some.ensures.worth) c.in-Some.ensures.below c.if-digit-lt32.false c.groups.invariant.positive in
    let w : c.min-whole.result ≡ min (c.groups.whole + c.in-Some.digit % 32 * c.groups.weight) cap = rw (← c.from-low.ensures) c.min-whole.ensures in
    let h : c.min-weight.result ≡ min (c.groups.weight * 32) heavy = c.min-weight.ensures in
    let more = ap length (piece_more text at some) in
    let lt = within_piece text at some in
    record {
      same = rw (w, h) (sym e ∙ c.groups.invariant.same);
      below = omega arith;
      positive = omega arith;
      light = omega arith;
      onward = omega arith;
      within = omega arith;
      end = omega arith;
    }
