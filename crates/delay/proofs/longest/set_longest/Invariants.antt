-- `longest::set_longest` writes the longest window entry by entry. The invariant: the entries before i are written.
-- Assumes nothing.
use mathlib.Core.Path.{◌≡◌}
use lib.ListN.{take}
use Rattle.distribution.specs.Longest.{longest}
use Rattle.delay.proofs.longest.set_longest.Given as goal

abbrev pub invariant-loop-i : goal.invariant-loop-i
invariant-loop-i l = take l.i l.w ≡ take l.i (longest l.group.kind l.group.rank)
