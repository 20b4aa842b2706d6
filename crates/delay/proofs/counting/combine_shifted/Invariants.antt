-- `counting::combine_shifted` combines each number with the one b places before it. The invariant: the numbers from l on
-- are done.
-- Assumes nothing.
use Rattle.delay.proofs.counting.Filling.{Combined}
use Rattle.delay.proofs.counting.combine_shifted.Given as goal

abbrev pub invariant-loop-l : goal.invariant-loop-l
invariant-loop-l g l = Combined l.l l.b (goal.F-post g l.combine) l.initial.counts l.counts
