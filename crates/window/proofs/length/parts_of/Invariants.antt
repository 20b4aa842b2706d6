-- `length::parts_of` goes from the last entry to the first, with the set of the sizes behind and three sums.
-- Assumes nothing.
use Rattle.window.proofs.length.OnePass.{Gone}
use Rattle.window.proofs.length.parts_of.Given as goal

abbrev pub invariant-loop-i : goal.invariant-loop-i
invariant-loop-i l = Gone l.window.entries.now l.behind l.pairs l.negative_sum_pairs l.negatives l.i
