-- `inverse_of_window` hands on the refusal of its checks, or writes the inverse.
-- Assumes nothing.
use mathlib.Core.Path.{refl}
use Rattle.coxeter.specs.Calls.{inverse_of_window}
use Rattle.coxeter.proofs.Outcomes.{writes_passed}
use Rattle.window.proofs.HandedOn.{writes_handed_on}
use Rattle.window.proofs.inverse_of_window.Goals as goal

pub returns-in_err-window : goal.returns-in_err-window
unfolding inverse_of_window
returns-in_err-window c = writes_handed_on _ _ _ _ refl _ _ c.from_residual.ensures c.in_err-window.ensures.refusal

pub returns : goal.returns
unfolding inverse_of_window
returns c =
    let h = c.in_ok-window.ensures.window in
    writes_passed _ _ _ _ _ refl c.in_ok-window.ensures.refusal _ _ refl (rw h.2 at c.write_inverse.ensures)
