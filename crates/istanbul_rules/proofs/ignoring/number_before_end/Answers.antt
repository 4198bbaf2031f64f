use Rattle.std.proofs.Common.{◌∙◌, sym, ap, take}
use Rattle.std.specs.List.{list_all}
use Rattle.std.specs.Char.{is_ascii_digit}
use Rattle.istanbul_rules.proofs.Comments.{digits_before, no_digit, many_digits, not_ended, number_there}
use Rattle.istanbul_rules.proofs.ignoring.number_before_end.Goals as goal
use Rattle.istanbul_rules.proofs.ignoring.number_before_end.Goals.{then-digits-eq0-via-then-digits-eq0, then-digits-eq0-via-else-digits-eq0+then-digits-gt-MOST_DIGITS, then-digits-eq0-via-else-digits-eq0+else-digits-gt-MOST_DIGITS+then-not-starts_with}

pub returns-then-digits-eq0 : goal.returns-then-digits-eq0
returns-then-digits-eq0 c =
    let n = c.digits_before-digits.result in
    let is = c.digits_before-digits.ensures.value in
    elim c.then-digits-eq0.branch [
      | then-digits-eq0-via-then-digits-eq0 w ↦ no_digit c.args.bytes.now n is w.if-digits-eq0.true
      | then-digits-eq0-via-else-digits-eq0+then-digits-gt-MOST_DIGITS w ↦ many_digits c.args.bytes.now n is w.if-digits-gt-MOST_DIGITS.true
      | then-digits-eq0-via-else-digits-eq0+else-digits-gt-MOST_DIGITS+then-not-starts_with w ↦
          not_ended c.args.bytes.now n is (sym w.starts_with.ensures.value ∙ w.if-not-starts_with.true)
    ]

pub number_of-requires-clause-are_digits : goal.number_of-requires-clause-are_digits
number_of-requires-clause-are_digits c =
    ap (λ n. list_all is_ascii_digit (take n c.args.bytes.now)) c.digits_before-digits.ensures.value ∙ digits_before c.args.bytes.now

pub returns : goal.returns
returns c =
    number_there c.args.bytes.now c.digits_before-digits.result c.number_of.result c.digits_before-digits.ensures.value c.if-digits-eq0.false c.if-digits-gt-MOST_DIGITS.false
    (sym c.starts_with.ensures.value ∙ c.if-not-starts_with.false) c.number_of.ensures
