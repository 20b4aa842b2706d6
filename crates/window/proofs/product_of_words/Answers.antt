-- `product_of_words` hands on the refusal of its checks, or writes the normal form of the product of what the words show.
-- Assumes nothing.
use mathlib.Core.Path.{refl}
use Rattle.coxeter.specs.Calls.{product_of_words}
use Rattle.coxeter.proofs.Outcomes.{writes_passed}
use Rattle.window.proofs.HandedOn.{writes_handed_on}
use Rattle.window.proofs.product_of_words.Goals as goal

pub returns-in_err-first : goal.returns-in_err-first
unfolding product_of_words
returns-in_err-first c = writes_handed_on _ _ _ _ refl _ _ c.from_residual.ensures c.in_err-first.ensures.refusal

pub returns : goal.returns
unfolding product_of_words
returns c =
    let h = c.in_ok-first.ensures.words in
    writes_passed _ _ _ _ _ refl c.in_ok-first.ensures.refusal _ _ refl (rw (c.shown_product.ensures.group.0, c.shown_product.ensures.group.1, c.shown_product.ensures.entries, h.0.0, h.0.1, h.0.2, h.1.2) at c.write_form.ensures)
