-- What `search` leaves open of the proof of `counting::sum_up`.
use mathlib.Core.Path.{refl}
use native.Mathlib.Omega.{arith}
use Rattle.distribution.proofs.Sums.{below}
use Rattle.delay.proofs.counting.Filling.{filled_none, filled_end}
use Rattle.delay.proofs.counting.Loops.{sum_next, sum_fits, sum_filled}
use Rattle.delay.proofs.counting.sum_up.Goals as goal

pub loop-x-init : goal.loop-x-init
unfolding below
loop-x-init c = (refl, filled_none)

pub overflow_add-sum : goal.overflow_add-sum
overflow_add-sum c =
    let i = c.loop-x.invariant in omega (arith, sum_fits i.1 i.0 c.loop-x-test.true c.requires)

pub loop-x-preserved : goal.loop-x-preserved
loop-x-preserved c =
    let i = c.loop-x.invariant in
    let o = c.loop-x-test.true in (sum_next i.1 i.0 o, sum_filled i.1 i.0 o)

pub returns : goal.returns
returns c = filled_end c.loop-x.invariant.1 c.loop-x-test.false
