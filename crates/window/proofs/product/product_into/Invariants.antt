-- `product::product_into` stores the product's entries one by one: what is left to store is the product with the
-- part of v from `i` on.
-- Assumes nothing.
use mathlib.Core.Path.{◌≡◌}
use lib.ListN.{drop}
use lib.Seq.{sets}
use Rattle.coxeter.specs.Windows.{product}
use Rattle.window.proofs.product.product_into.Given as goal

abbrev pub invariant-loop-i : goal.invariant-loop-i
invariant-loop-i l = sets l.initial.out 0 (product l.pair.first.now l.pair.second.now) ≡ sets l.out l.i (product l.pair.first.now (drop l.i l.pair.second.now))
