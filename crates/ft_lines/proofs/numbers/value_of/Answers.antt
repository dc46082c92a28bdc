use Rattle.std.proofs.Common.{◌+◌, ◌*◌, ap, ◌∙◌, arith}
use Rattle.std.proofs.lemmas.Bool.{MatchBool-at_true, MatchBool-at_false}
use Rattle.std.proofs.lemmas.Str.Parse.{digit_at}
use Rattle.ft_lines.proofs.Decimals.{next_digit_value, next_all_digits, over_in_front}
use Rattle.ft_lines.proofs.numbers.value_of.Goals as goal

pub returns-then-not-is_ascii_digit-clause-none : goal.returns-then-not-is_ascii_digit-clause-none
returns-then-not-is_ascii_digit-clause-none c digits =
    let range = digit_at c.args.digits.now c.loop-digit.digit-index digits c.loop-digit-test.true in
    let out = MatchBool-at_false _ _ c.if-not-is_ascii_digit.true c.is_ascii_digit.ensures.cases in
    absurd (omega (arith, range.0, range.1, out))

pub returns-then-value-tenth-clause-none : goal.returns-then-value-tenth-clause-none
returns-then-value-tenth-clause-none c _ =
    let ds = c.args.digits.now in
    let i = c.loop-digit.digit-index in
    let range = MatchBool-at_true _ _ c.if-not-is_ascii_digit.false c.is_ascii_digit.ensures.cases in
    let value = next_digit_value ds i c.loop-digit.value c.loop-digit-test.true range.0 range.1 c.loop-digit.invariant.value in
    over_in_front c.args.most ds (i + 1) (omega (arith, value, c.if-value-tenth.true))

pub returns-then-ones-most-clause-none : goal.returns-then-ones-most-clause-none
returns-then-ones-most-clause-none c _ =
    let ds = c.args.digits.now in
    let i = c.loop-digit.digit-index in
    let range = MatchBool-at_true _ _ c.if-not-is_ascii_digit.false c.is_ascii_digit.ensures.cases in
    let value = next_digit_value ds i c.loop-digit.value c.loop-digit-test.true range.0 range.1 c.loop-digit.invariant.value in
    over_in_front c.args.most ds (i + 1) (omega (arith, value, c.from-ones.ensures, c.if-ones-most.true))

pub loop-digit-preserved : goal.loop-digit-preserved
loop-digit-preserved c =
    let ds = c.args.digits.now in
    let i = c.loop-digit.digit-index in
    let range = MatchBool-at_true _ _ c.if-not-is_ascii_digit.false c.is_ascii_digit.ensures.cases in
    record {
      value = ap (λ n. c.loop-digit.value * 10 + n) c.from-ones.ensures
          ∙ next_digit_value ds i c.loop-digit.value c.loop-digit-test.true range.0 range.1 c.loop-digit.invariant.value;
      digits = next_all_digits ds i c.loop-digit-test.true range.0 range.1 c.loop-digit.invariant.digits;
      within = omega (arith, c.if-ones-most.false, c.if-value-tenth.false);
    }
