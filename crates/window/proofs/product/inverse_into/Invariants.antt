-- `product::inverse_into` stores the position of each entry at its size: what is left to store are the entries from
-- `i` on.
-- Assumes nothing.
use mathlib.Core.Path.{◌≡◌}
use Prim.Native.Nat.{◌+◌}
use lib.ListN.{drop}
use Rattle.window.proofs.product.Scatter.{scatter}
use Rattle.window.proofs.product.inverse_into.Given as goal

abbrev pub invariant-loop-i : goal.invariant-loop-i
invariant-loop-i l = scatter l.initial.out 1 l.window.entries.now ≡ scatter l.out (l.i + 1) (drop l.i l.window.entries.now)
