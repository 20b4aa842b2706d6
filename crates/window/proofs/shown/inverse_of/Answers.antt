-- `shown::inverse_of` has as many entries as there are lanes, and what it makes passes.
-- Assumes nothing.
use Rattle.coxeter.proofs.Groups.{group_lanes_le}
use Rattle.coxeter.proofs.Inverses.{length-inverse}
use Rattle.coxeter.proofs.Theorems.{inverse_passes}
use Rattle.window.proofs.length.Sums.{length_le_of_lanes}
use Rattle.window.proofs.shown.Fronts.{made_front}
use Rattle.window.proofs.shown.inverse_of.Goals as goal

pub slice_bounds-inverse_into-end : goal.slice_bounds-inverse_into-end
slice_bounds-inverse_into-end c = length_le_of_lanes _ _ _ (group_lanes_le _ _ c.args.window.group.in_range) c.args.window.accepted

pub invariant_of-result : goal.invariant_of-result
invariant_of-result c = record { accepted = rw (made_front _ _ c.inverse_into.ensures (length-inverse _)) (inverse_passes _ _ _ c.args.window.accepted) }

pub returns-clause-entries : goal.returns-clause-entries
returns-clause-entries c = made_front _ _ c.inverse_into.ensures (length-inverse _)
