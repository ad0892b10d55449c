use Rattle.std.proofs.Common.{lit≤, arith}
use Rattle.std.proofs.lemmas.Str.Parse.{digit_at, digits_value-take-le}
use Rattle.arimaa_time.proofs.Numbers.{digits_value_small, digits_value-more}
use Rattle.arimaa_time.proofs.spans.value.Goals as goal

pub overflow_mul-n : goal.overflow_mul-n
overflow_mul-n c =
    let ds = c.args.digits.now in
    omega (arith, digits_value_small ds c.requires.digits c.requires.short, digits_value-take-le 10 ds c.loop-digit.digit-index (lit≤ tt), c.loop-digit.invariant)

pub overflow_sub-digit : goal.overflow_sub-digit
overflow_sub-digit c = omega (arith, digit_at c.args.digits.now c.loop-digit.digit-index c.requires.digits c.loop-digit-test.true)

pub overflow_add-n : goal.overflow_add-n
overflow_add-n c =
    let ds = c.args.digits.now in
    omega (arith, digits_value_small ds c.requires.digits c.requires.short, digits_value-take-le 10 ds c.loop-digit.digit-index (lit≤ tt), c.loop-digit.invariant, digit_at ds c.loop-digit.digit-index c.requires.digits c.loop-digit-test.true)

pub loop-digit-preserved : goal.loop-digit-preserved
loop-digit-preserved c =
    omega (arith, digits_value-more c.args.digits.now c.loop-digit.digit-index c.requires.digits c.loop-digit-test.true, c.loop-digit.invariant)

pub returns-clause-small : goal.returns-clause-small
returns-clause-small c =
    let ds = c.args.digits.now in
    omega (arith, digits_value_small ds c.requires.digits c.requires.short, digits_value-take-le 10 ds c.loop-digit.digit-index (lit≤ tt), c.loop-digit.invariant)
