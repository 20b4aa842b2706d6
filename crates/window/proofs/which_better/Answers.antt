-- `which_better` chooses the word that comes first by length and dictionary where the verdict is yes, and else neither.
-- Assumes nothing.
use mathlib.Core.Path.{sym, ◌∙◌}
use Rattle.std.proofs.lemmas.Bool.{not-true, not-false}
use Rattle.window.proofs.BetterWords.{hands_back_result, choice_neither, choice_second, choice_first}
use Rattle.window.proofs.which_better.Goals as goal

pub returns-then-ne : goal.returns-then-ne
returns-then-ne c = choice_neither _ _ (hands_back_result _ _ _ _ _ _ c.presets_equal.ensures ∙ not-true _ (sym c.if-ne.ensures))

pub returns-then-is_shortlex : goal.returns-then-is_shortlex
returns-then-is_shortlex c =
    choice_second (hands_back_result _ _ _ _ _ _ c.presets_equal.ensures ∙ not-false _ (sym c.if-ne.ensures)) (sym c.is_shortlex.ensures ∙ c.if-is_shortlex.true)

pub returns : goal.returns
returns c = choice_first (hands_back_result _ _ _ _ _ _ c.presets_equal.ensures ∙ not-false _ (sym c.if-ne.ensures)) (sym c.is_shortlex.ensures ∙ c.if-is_shortlex.false)
