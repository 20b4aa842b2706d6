-- `shown::shown_product` applies the second word to what the first shows.
-- Assumes nothing.
use mathlib.Core.Path.{◌≡◌, sym, ◌∙◌}
use Rattle.coxeter.proofs.Basics.{length-window}
use Rattle.coxeter.specs.Windows.{window, product}
use Rattle.coxeter.proofs.Products.{length-product, window_from-product}
use Rattle.coxeter.proofs.Theorems.{window_passes, product_passes}
use Rattle.window.proofs.shown.Fronts.{made}
use Rattle.window.proofs.shown.shown_product.Goals as goal
use Rattle.window.proofs.shown.shown_product.Goals.{After-apply}

pub apply-requires : goal.apply-requires
apply-requires c = rw (c.requires.0, c.requires.1, made _ c.show.ensures (length-window _ _ _ ∙ sym c.lanes-m.ensures)) (window_passes _ _ _)

-- the window after both words
both : (c : After-apply) → let a = c.args.first in
    c.apply.new.w ≡ product (window a.group.kind a.group.rank a.letters.now) (window a.group.kind a.group.rank c.args.second.letters.now)
both c =
    (rw (c.requires.0, c.requires.1, made _ c.show.ensures (length-window _ _ _ ∙ sym c.lanes-m.ensures)) at c.apply.ensures)
    ∙ window_from-product _ _ _ _ (length-window _ _ _)

pub invariant_of-result : goal.invariant_of-result
invariant_of-result c =
    record {
      accepted = rw (made _ (both c.before.before) (length-product _ _ ∙ length-window _ _ _ ∙ sym c.lanes-m.ensures))
          (product_passes _ _ _ _ (window_passes _ _ _) (window_passes _ _ _));
    }

pub returns-clause-entries : goal.returns-clause-entries
returns-clause-entries c = made _ (both c.before.before.before) (length-product _ _ ∙ length-window _ _ _ ∙ sym c.lanes-m.ensures)
