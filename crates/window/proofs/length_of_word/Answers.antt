-- `length_of_word` is the total of what `crossings_of_word` counts, or the same refusal.
-- Assumes nothing.
use mathlib.Core.Path.{sym, ap, ◌∙◌}
use native.Mathlib.Omega.{arith}
use Rattle.coxeter.proofs.Totals.{totalled, totalled_word, crossings_of_word_small}
use Rattle.window.proofs.HandedOn.{total_handed_on}
use Rattle.window.proofs.length_of_word.Goals as goal

pub returns-in_err-counts : goal.returns-in_err-counts
returns-in_err-counts c = total_handed_on _ _ c.from_residual.ensures c.in_err-counts.ensures ∙ totalled_word _ _ _

pub overflow_add-result : goal.overflow_add-result
overflow_add-result c =
    record { fits = omega (arith, crossings_of_word_small _ _ _ _ _ _ (sym c.in_ok-counts.ensures)) }

pub overflow_add-result-2 : goal.overflow_add-result-2
overflow_add-result-2 c =
    record { fits = omega (arith, crossings_of_word_small _ _ _ _ _ _ (sym c.in_ok-counts.ensures)) }

pub returns : goal.returns
returns c = ap totalled c.in_ok-counts.ensures ∙ totalled_word _ _ _
