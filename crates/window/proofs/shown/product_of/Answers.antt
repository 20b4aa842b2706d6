-- `shown::product_of` has as many entries as there are lanes, and what it makes passes.
-- Assumes nothing.
use Rattle.coxeter.proofs.Groups.{group_lanes_le}
use Rattle.coxeter.proofs.Products.{length-product}
use Rattle.coxeter.proofs.Theorems.{product_passes}
use Rattle.window.proofs.length.Sums.{length_le_of_lanes}
use Rattle.window.proofs.shown.Fronts.{made_front}
use Rattle.window.proofs.shown.product_of.Goals as goal

pub slice_bounds-product_into-end : goal.slice_bounds-product_into-end
slice_bounds-product_into-end c = length_le_of_lanes _ _ _ (group_lanes_le _ _ c.args.pair.group.in_range) c.args.pair.second_accepted

pub invariant_of-result : goal.invariant_of-result
invariant_of-result c = record { accepted = rw (made_front _ _ c.product_into.ensures (length-product _ _)) (product_passes _ _ _ _ c.args.pair.first_accepted c.args.pair.second_accepted) }

pub returns-clause-entries : goal.returns-clause-entries
returns-clause-entries c = made_front _ _ c.product_into.ensures (length-product _ _)
