-- `stripping::strip` tries the steps from 1 on, and goes back to the lowest neighbour of each step that it takes.
-- The length falls with each of them, and else the steps to be tried do.
-- Assumes nothing.
use mathlib.Core.Path.{◌≡◌}
use Prim.Native.Nat.{◌+◌, ◌-◌, ◌*◌}
use lib.ListN.{length}
use Rattle.coxeter.specs.Length.{window_length}
use Rattle.descents.proofs.stripping.Turns.{Turning}
use Rattle.descents.proofs.stripping.strip.Given as goal

abbrev pub invariant-loop-s : goal.invariant-loop-s
invariant-loop-s l = (length l.w ≡ length l.initial.w) × Turning l.allowed l.group.kind l.group.rank l.initial.w l.w l.s

abbrev pub decreases-loop-s : goal.decreases-loop-s
decreases-loop-s l = window_length l.group.kind l.w * (l.group.rank + 1) + (l.group.rank + 1 - l.s)
