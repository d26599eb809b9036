use Rattle.std.proofs.Common.{◌≡◌, ◌+◌, ◌-◌, ◌*◌, get_or, take, arith, sym, subst}
use Rattle.us_schedule.proofs.Digits.{IsValue, no_digit, too_large, value_more, value_all}
use Rattle.us_schedule.proofs.numbers.decimal_value.Goals as goal

pub returns-then-not-is_ascii_digit : goal.returns-then-not-is_ascii_digit
returns-then-not-is_ascii_digit c = sym (no_digit c.args.digits.now c.loop-digit.digit-index c.loop-digit-test.true c.if-not-is_ascii_digit.ensures.cases)

pub returns-in_err-checked_mul : goal.returns-in_err-checked_mul
returns-in_err-checked_mul c =
    let more = value_more c.args.digits.now c.loop-digit.digit-index c.loop-digit.value c.loop-digit-test.true c.if-not-is_ascii_digit.ensures.cases c.loop-digit.invariant.0 in
    rw c.from_residual.ensures (sym (too_large c.args.digits.now c.loop-digit.digit-index c.loop-digit-test.true (grind (arith, more.is, c.in_err-checked_mul.ensures))))

pub returns-in_err-value : goal.returns-in_err-value
returns-in_err-value c =
    let more = value_more c.args.digits.now c.loop-digit.digit-index c.loop-digit.value c.loop-digit-test.true c.if-not-is_ascii_digit.ensures.cases c.loop-digit.invariant.0 in
    rw c.from_residual-in_err-value.ensures (sym (too_large c.args.digits.now c.loop-digit.digit-index c.loop-digit-test.true (grind (arith, more.is, c.in_err-value.ensures, c.in_ok-checked_mul.ensures))))

pub loop-digit-preserved : goal.loop-digit-preserved
loop-digit-preserved c =
    let more = value_more c.args.digits.now c.loop-digit.digit-index c.loop-digit.value c.loop-digit-test.true c.if-not-is_ascii_digit.ensures.cases c.loop-digit.invariant.0 in
    let is : c.in_ok-value.value ≡ c.loop-digit.value * 10 + (get_or c.args.digits.now c.loop-digit.digit-index 0 - 48) = omega (arith, c.in_ok-value.ensures, c.in_ok-checked_mul.ensures) in
    (subst (λ v. IsValue (take (c.loop-digit.digit-index + 1) c.args.digits.now) v) (sym is) more, omega (arith, c.in_ok-value.ensures))

pub returns : goal.returns
returns c = sym (value_all c.args.digits.now c.loop-digit.digit-index c.loop-digit.value c.loop-digit-test.false c.loop-digit.invariant.0 c.loop-digit.invariant.1)
