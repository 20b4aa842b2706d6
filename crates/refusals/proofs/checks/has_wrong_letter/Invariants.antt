-- `checks::has_wrong_letter` goes from letter to letter and keeps the greatest of them, each less one: a letter is wrong if the
-- rank is not above that number, or if one of those left is wrong.
-- Assumes nothing.
use mathlib.Core.Path.{◌≡◌}
use mathlib.Core.Bool.{◌||◌}
use lib.Dec.{leb}
use lib.ListN.{drop}
use Rattle.coxeter.specs.Checks.{wrong_letter}
use Rattle.refusals.proofs.checks.has_wrong_letter.Given as goal

abbrev pub invariant-loop-s : goal.invariant-loop-s
invariant-loop-s l =
    (leb l.rank 0 || wrong_letter l.rank l.word) ≡ (leb l.rank l.highest || wrong_letter l.rank (drop l.s-index l.word))
