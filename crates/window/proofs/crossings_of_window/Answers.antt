-- `crossings_of_window` hands on the refusal of its checks, or counts the pairs and the negative entries.
-- Assumes nothing.
use mathlib.Core.Path.{refl, ◌∙◌}
use Rattle.coxeter.specs.Calls.{crossings_of_window}
use Rattle.coxeter.proofs.Outcomes.{counted_crossings}
use Rattle.window.proofs.HandedOn.{counted_handed_on}
use Rattle.window.proofs.crossings_of_window.Goals as goal

pub returns-in_err-window : goal.returns-in_err-window
unfolding crossings_of_window
returns-in_err-window c = counted_handed_on _ _ _ _ c.from_residual.ensures c.in_err-window.ensures.refusal

pub returns : goal.returns
unfolding crossings_of_window
returns c =
    let h = c.in_ok-window.ensures.window in
    (rw (h.0, h.2) at c.crossings_of.ensures) ∙ counted_crossings _ c.in_ok-window.ensures.refusal refl
