-- `shown::between` multiplies the inverse of the first window with the second. Written out, so that another first factor is
-- refused by what is known of it.
-- Assumes nothing.
use Rattle.window.proofs.shown.between.Goals as goal

pub returns-clause-entries : goal.returns-clause-entries
returns-clause-entries c = rw (← c.inverse_of-inverse.ensures.entries) c.product_of.ensures.entries
