-- `crossings_of_word` hands on the refusal of its checks, or counts the pairs and the negative entries.
-- Assumes nothing.
use mathlib.Core.Path.{refl, ◌∙◌}
use Rattle.coxeter.specs.Calls.{crossings_of_word}
use Rattle.coxeter.proofs.Outcomes.{counted_crossings}
use Rattle.window.proofs.HandedOn.{counted_handed_on}
use Rattle.window.proofs.crossings_of_word.Goals as goal

pub returns-in_err-word : goal.returns-in_err-word
unfolding crossings_of_word
returns-in_err-word c = counted_handed_on _ _ _ _ c.from_residual.ensures c.in_err-word.ensures.refusal

pub returns : goal.returns
unfolding crossings_of_word
returns c =
    let h = c.in_ok-word.ensures.word in
    (rw (c.shown.ensures.group.0, c.shown.ensures.entries, h.0, h.1, h.2) at c.crossings_of.ensures) ∙ counted_crossings _ c.in_ok-word.ensures.refusal refl
