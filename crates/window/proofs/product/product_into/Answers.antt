-- What `search` leaves open of the proof of `product::product_into`.
use mathlib.Core.Path.{sym, ◌∙◌}
use native.Mathlib.Omega.{arith}
use Rattle.coxeter.proofs.Groups.{rank_le}
use Rattle.window.proofs.product.Entries.{image_asks, product_step, product_end, product-written}
use Rattle.window.proofs.product.product_into.Goals as goal

pub image-requires : goal.image-requires
image-requires c = let h = image_asks _ _ _ (rank_le _ _ c.args.pair.group.in_range).1 c.args.pair.first_accepted c.args.pair.second_accepted c.loop-i-test.true (omega arith) in
    record { e_value = h.0; bound = h.1.0; e_in_bounds = h.1.1.0; e_bound = h.1.1.1 }

pub loop-i-preserved : goal.loop-i-preserved
loop-i-preserved c =
    c.loop-i.invariant ∙ product_step _ _ _ _ _ c.loop-i-test.true (omega arith) c.image.type_inv c.image.ensures

pub returns : goal.returns
returns c =
    sym (product_end _ _ _ _ c.loop-i-test.false) ∙ sym c.loop-i.invariant ∙ product-written _ _ _ c.requires
