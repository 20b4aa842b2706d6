-- `numbers::put_spaced` stores the space, and then the number.
-- Assumes nothing.
use native.Mathlib.Omega.{arith}
use lib.ListN.{length-set}
use Rattle.listing_lines.proofs.numbers.Puts.{length-spaced, put-spaced}
use Rattle.listing_lines.proofs.numbers.put_spaced.Goals as goal

pub bounds-out-at : goal.bounds-out-at
bounds-out-at c = omega (arith, length-spaced c.args.x)

pub put_decimal-requires : goal.put_decimal-requires
put_decimal-requires c = simp length-set (omega (arith, length-spaced c.args.x))

pub returns : goal.returns
returns c = put-spaced _ _ _ _ _ c.put_decimal.ensures
