-- `counting::count` multiplies one level after another. The invariant: the levels with less than c greater sizes
-- are counted.
-- Assumes nothing.
use Rattle.delay.proofs.counting.Levels.{Counted}
use Rattle.delay.proofs.counting.count.Given as goal

abbrev pub invariant-loop-c : goal.invariant-loop-c
invariant-loop-c l = Counted l.group.kind l.group.rank l.counts l.d l.c
