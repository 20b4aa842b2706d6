-- `windows::negative_in_a`, by cases on the kind.
-- Assumes nothing.
use mathlib.Core.Path.{ap, ◌∙◌}
use Rattle.std.proofs.Common.{rules}
use Rattle.coxeter.specs.Length.{negative}
use Rattle.coxeter.specs.Checks.{negative_in_A}
use Rattle.refusals.proofs.Bytes.{element_back}
use Rattle.refusals.proofs.windows.negative_in_a.Goals as goal

pub returns-in-A : goal.returns-in-A
unfolding negative_in_A
returns-in-A c = rw c.in-A.is (c.is_negative.ensures ∙ ap negative (element_back c.args.e c.ranges.e.sfits))

pub returns-in-B : goal.returns-in-B
unfolding negative_in_A
returns-in-B c = search rules
