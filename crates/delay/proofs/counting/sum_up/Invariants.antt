-- `counting::sum_up` makes each number the sum of those up to it. The invariant: the numbers before x are such
-- sums, and `sum` is the last one.
-- Assumes nothing.
use mathlib.Core.Path.{◌≡◌}
use lib.ListN.{length}
use Rattle.distribution.proofs.Sums.{below}
use Rattle.distribution.proofs.Factors.{sum_to}
use Rattle.distribution.proofs.Values.{value_at}
use Rattle.delay.proofs.counting.Filling.{Filled}
use Rattle.delay.proofs.counting.sum_up.Given as goal

abbrev pub invariant-loop-x : goal.invariant-loop-x
invariant-loop-x l =
    let f = value_at l.initial.counts in (l.sum ≡ below f l.x-index) × Filled l.x-index (sum_to f) f (length l.initial.counts) l.counts
