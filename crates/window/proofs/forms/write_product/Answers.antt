-- `forms::write_product` makes check 14 and writes the product.
-- Assumes nothing.
use mathlib.Core.Path.{refl}
use Rattle.coxeter.proofs.Products.{length-product}
use Rattle.coxeter.proofs.Outcomes.{writes_short, writes-written}
use Rattle.window.proofs.forms.write_product.Goals as goal

pub returns-then-out-m : goal.returns-then-out-m
returns-then-out-m c = writes_short _ _ 0 _ _ refl refl _ refl (length-product _ _) c.if-out-m.true

pub returns : goal.returns
returns c = writes-written _ _ 0 _ _ refl refl _ _ refl (length-product _ _) c.if-out-m.false c.product_into.ensures
