-- `action::set_identity` writes the straight window. The invariant: the entries written so far are 1, 2, .., and
-- `next` is the one that follows.
-- Assumes nothing.
use mathlib.Core.Path.{◌≡◌}
use Prim.Native.Nat.{◌+◌}
use lib.ListN.{take}
use Rattle.coxeter.specs.Windows.{identity}
use Rattle.window.proofs.action.set_identity.Given as goal

abbrev pub invariant-loop-e : goal.invariant-loop-e
invariant-loop-e l = (l.next ≡ l.e-index + 1) × (take l.e-index l.w ≡ identity l.e-index)
