-- `walk::is_identity` goes from entry to entry: those before i are those of the straight window.
-- Assumes nothing.
use mathlib.Core.Path.{◌≡◌}
use lib.ListN.{length, take}
use Rattle.coxeter.specs.Windows.{identity}
use Rattle.descents.proofs.walk.is_identity.Given as goal

abbrev pub invariant-loop-i : goal.invariant-loop-i
invariant-loop-i l = take l.i l.w ≡ take l.i (identity (length l.w))
