-- `longest::write_longest` lends the front of its output to `set_longest`.
-- Assumes nothing.
use mathlib.Core.Path.{sym, ◌∙◌}
use Rattle.coxeter.proofs.FrontLaws.{front_parts}
use Rattle.distribution.proofs.Tables.{length-longest}
use Rattle.delay.proofs.longest.write_longest.Goals as goal

pub returns : goal.returns
returns c =
    front_parts _ _ _ _ (length-longest _ _ c.args.group.in_range.0 ∙ sym c.lanes.ensures) c.set_longest.ensures
