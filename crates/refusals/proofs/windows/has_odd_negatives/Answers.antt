-- `windows::has_odd_negatives`, by cases on the kind; in kind D the flag says whether the negatives are odd in number.
-- Assumes nothing.
use mathlib.Core.Path.{◌∙◌}
use Rattle.std.proofs.Common.{rules}
use Rattle.coxeter.specs.Checks.{odd_negatives}
use Rattle.coxeter.proofs.Parity.{flag_is_odd}
use Rattle.refusals.proofs.windows.has_odd_negatives.Goals as goal

pub returns-in-A : goal.returns-in-A
unfolding odd_negatives
returns-in-A c = search rules

pub returns-in-D : goal.returns-in-D
unfolding odd_negatives
returns-in-D c = rw c.in-D.is (c.odd_negatives.ensures ∙ flag_is_odd _)
