-- `better_word` hands back the lent slice that `which_better` chooses, or an empty part of the first.
-- Assumes nothing.
use mathlib.Core.Path.{sym, ap, ◌∙◌}
use Rattle.std.specs.Prelude.{Some}
use Rattle.coxeter.specs.answers.Choice.{as_choice}
use Rattle.window.proofs.BetterWords.{better-part, better_second, better_first}
use Rattle.window.proofs.better_word.Goals as goal

pub returns-in-Some-First : goal.returns-in-Some-First
returns-in-Some-First c = better_first (sym c.which_better.ensures ∙ ap as_choice (c.in-Some-First.is ∙ ap Some c.in-Some-First.field-0-is))

pub returns-in-Some-Second : goal.returns-in-Some-Second
returns-in-Some-Second c = better_second (sym c.which_better.ensures ∙ ap as_choice (c.in-Some-Second.is ∙ ap Some c.in-Some-Second.field-0-is))

pub returns-in-None : goal.returns-in-None
returns-in-None c = better-part (sym c.which_better.ensures ∙ ap as_choice c.in-None.is)
