-- `windows::odd_negatives` flips its flag at each negative entry: before each entry it is `flag_after` of the entries
-- in front of it.
-- Assumes nothing.
use mathlib.Core.Path.{◌≡◌}
use lib.ListN.{take}
use Rattle.coxeter.specs.Parity.{flag_after}
use Rattle.refusals.proofs.windows.odd_negatives.Given as goal

abbrev pub invariant-loop-e : goal.invariant-loop-e
invariant-loop-e l = l.flag ≡ flag_after (take l.e-index l.w)
