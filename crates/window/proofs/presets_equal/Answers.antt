-- `presets_equal` hands on the refusal of its checks, or compares the windows where the lanes are as many.
-- Assumes nothing.
use mathlib.Core.Path.{sym, ◌∙◌}
use Rattle.std.proofs.lemmas.Bool.Decides.{Decides-int_eq, same_from_decides}
use Rattle.std.proofs.lemmas.Slice.Eq.{slice_eq-Decides}
use Rattle.coxeter.proofs.Order.{same_window_true, same_window_of_eq}
use Rattle.coxeter.proofs.Outcomes.{lanes-differ, same_lanes}
use Rattle.window.proofs.HandedOn.{verdict_handed_on, verdict_passed}
use Rattle.window.proofs.presets_equal.Goals as goal

pub returns-in_err-first : goal.returns-in_err-first
returns-in_err-first c = verdict_handed_on _ _ _ _ _ _ _ _ c.from_residual.ensures c.in_err-first.ensures.refusal

pub returns-then-lanes : goal.returns-then-lanes
returns-then-lanes c =
    let h = c.in_ok-first.ensures.words in
    verdict_passed _ _ _ _ _ _ _ c.in_ok-first.ensures.refusal
    (lanes-differ _ _ _ _ _ _ (rw (h.0.0, h.0.1) at c.lanes.ensures) (rw (h.1.0, h.1.1) at c.lanes-2.ensures) c.if-lanes.true)

pub returns : goal.returns
returns c =
    let h = c.in_ok-first.ensures.words in
    let a = (rw (h.0.0, h.0.1, h.0.2) at c.shown.ensures.entries) in
    let b = (rw (h.1.0, h.1.1, h.1.2) at c.shown-2.ensures.entries) in
    verdict_passed _ _ _ _ _ _ _ c.in_ok-first.ensures.refusal
    (same_lanes _ _ _ _ _ _ (sym (rw (h.0.0, h.0.1) at c.lanes.ensures) ∙ c.if-lanes.false ∙ (rw (h.1.0, h.1.1) at c.lanes-2.ensures))
    (rw (← a, ← b) (same_from_decides _ _ (slice_eq-Decides Decides-int_eq _ _ _ c.eq.ensures) (same_window_true _ _, same_window_of_eq _ _))))
