-- `forms::write_window` makes check 14 and writes the window of a word.
-- Assumes nothing.
use mathlib.Core.Path.{refl, sym, ◌∙◌}
use Rattle.coxeter.proofs.Basics.{length-window}
use Rattle.coxeter.proofs.Outcomes.{writes_short, writes_done}
use Rattle.window.proofs.forms.write_window.Goals as goal

pub returns-then-out-m : goal.returns-then-out-m
returns-then-out-m c = writes_short _ _ 0 _ _ refl refl _ refl (length-window _ _ _ ∙ sym c.lanes-m.ensures) c.if-out-m.true

pub returns : goal.returns
returns c = writes_done _ _ 0 _ _ refl refl _ _ refl (length-window _ _ _ ∙ sym c.lanes-m.ensures) c.if-out-m.false c.show.ensures
