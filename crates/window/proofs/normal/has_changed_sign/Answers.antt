-- `normal::has_changed_sign` goes by cases on the kind.
-- Assumes nothing.
use borrow.Author.Rules.{rules}
use Rattle.coxeter.proofs.PeelingByPlaces.{sign_changed}
use Rattle.window.proofs.normal.has_changed_sign.Goals as goal

pub returns-in-A : goal.returns-in-A
unfolding sign_changed
returns-in-A c = search rules

pub returns-in-D : goal.returns-in-D
unfolding sign_changed
returns-in-D c = search rules
