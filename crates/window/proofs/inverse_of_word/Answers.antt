-- `inverse_of_word` hands on the refusal of its checks, or writes the normal form of the inverse of what the word shows,
-- which is that of the word read backwards.
-- Assumes nothing.
use mathlib.Core.Path.{refl}
use Rattle.coxeter.specs.Calls.{inverse_of_word}
use Rattle.coxeter.proofs.Outcomes.{writes_passed}
use Rattle.window.proofs.HandedOn.{writes_handed_on}
use Rattle.window.proofs.inverse_of_word.Goals as goal

pub returns-in_err-word : goal.returns-in_err-word
unfolding inverse_of_word
returns-in_err-word c = writes_handed_on _ _ _ _ refl _ _ c.from_residual.ensures c.in_err-word.ensures.refusal

pub returns : goal.returns
unfolding inverse_of_word
returns c =
    let h = c.in_ok-word.ensures.word in
    writes_passed _ _ _ _ _ refl c.in_ok-word.ensures.refusal _ _ refl (rw (c.shown.ensures.group.0, c.shown.ensures.group.1, c.shown.ensures.entries, h.0, h.1, h.2) at c.write_form_of_inverse.ensures)
