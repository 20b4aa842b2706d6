-- `shown::shown` is the window of the word, which passes.
-- Assumes nothing.
use mathlib.Core.Path.{sym, ◌∙◌}
use Rattle.coxeter.proofs.Basics.{length-window}
use Rattle.coxeter.proofs.Theorems.{window_passes}
use Rattle.window.proofs.shown.Fronts.{made}
use Rattle.window.proofs.shown.shown.Goals as goal

pub invariant_of-result : goal.invariant_of-result
invariant_of-result c =
    record { accepted = rw (made _ c.show.ensures (length-window _ _ _ ∙ sym c.lanes-m.ensures)) (window_passes _ _ _) }
