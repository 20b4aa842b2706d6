-- `numbers::put_decimal` puts the digits of a tenth of the number, and then the last digit.
-- Assumes nothing.
use native.Mathlib.Omega.{arith}
use Rattle.listing_lines.proofs.numbers.Puts.{put_digit, put_last, digit_room, digits_room}
use Rattle.listing_lines.proofs.numbers.+put_decimal.Goals as goal

pub bounds-out-at : goal.bounds-out-at
bounds-out-at t c = omega (arith, digit_room c.args.x c.if-x-lt10.true)

pub returns-then-x-lt10 : goal.returns-then-x-lt10
returns-then-x-lt10 t c = put_digit _ _ _ c.if-x-lt10.true

pub put_decimal-last-requires : goal.put_decimal-last-requires
put_decimal-last-requires t c = (omega (arith, c.decreases), omega (arith, digits_room c.args.x c.if-x-lt10.false))

pub bounds-out-last : goal.bounds-out-last
bounds-out-last t c =
    omega (arith, digits_room c.args.x c.if-x-lt10.false, c.put_decimal-last.ensures.0, c.put_decimal-last.auto.out)

pub overflow_add-result-2 : goal.overflow_add-result-2
overflow_add-result-2 t c =
    omega (arith, digits_room c.args.x c.if-x-lt10.false, c.put_decimal-last.ensures.0, c.put_decimal-last.auto.out)

pub returns : goal.returns
returns t c = put_last _ _ _ _ _ c.if-x-lt10.false c.put_decimal-last.ensures
