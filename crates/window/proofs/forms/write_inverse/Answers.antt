-- `forms::write_inverse` makes check 14 and writes the inverse.
-- Assumes nothing.
use mathlib.Core.Path.{refl}
use Rattle.coxeter.proofs.Inverses.{length-inverse}
use Rattle.coxeter.proofs.Outcomes.{writes_short, writes-written}
use Rattle.window.proofs.forms.write_inverse.Goals as goal

pub returns-then-out-m : goal.returns-then-out-m
returns-then-out-m c = writes_short _ _ 0 _ _ refl refl _ refl (length-inverse _) c.if-out-m.true

pub returns : goal.returns
returns c = writes-written _ _ 0 _ _ refl refl _ _ refl (length-inverse _) c.if-out-m.false c.inverse_into.ensures
