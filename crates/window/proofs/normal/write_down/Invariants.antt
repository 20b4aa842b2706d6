-- `normal::write_down` stores the letters from b down to a. The invariant: those before the place reached are stored, and the next is below
-- `above`.
-- Assumes nothing.
use mathlib.Core.Path.{◌≡◌}
use Prim.Native.Nat.{◌+◌}
use lib.ListN.{take}
use Rattle.coxeter.specs.NormalForm.{down}
use Rattle.window.proofs.normal.write_down.Given as goal

abbrev pub invariant-loop-letter : goal.invariant-loop-letter
invariant-loop-letter l = (l.above + l.letter-index ≡ l.b + 1) × (take l.letter-index l.letter-items ≡ down l.b l.letter-index)
