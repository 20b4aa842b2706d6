-- `product_of_windows` hands on the refusal of its checks, or writes the product.
-- Assumes nothing.
use mathlib.Core.Path.{refl}
use Rattle.coxeter.specs.Calls.{product_of_windows}
use Rattle.coxeter.proofs.Outcomes.{writes_passed}
use Rattle.window.proofs.HandedOn.{writes_handed_on}
use Rattle.window.proofs.product_of_windows.Goals as goal

pub returns-in_err-pair : goal.returns-in_err-pair
unfolding product_of_windows
returns-in_err-pair c = writes_handed_on _ _ _ _ refl _ _ c.from_residual.ensures c.in_err-pair.ensures.refusal

pub returns : goal.returns
unfolding product_of_windows
returns c =
    let h = c.in_ok-pair.ensures.windows in
    writes_passed _ _ _ _ _ refl c.in_ok-pair.ensures.refusal _ _ refl (rw (h.2, h.3) at c.write_product.ensures)
