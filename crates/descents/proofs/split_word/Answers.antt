-- `split_word` refuses in the order of its checks, or splits the word.
-- Assumes nothing.
use mathlib.Core.Path.{refl}
use Rattle.coxeter.proofs.Groups.{number_positive}
use Rattle.shortest_words.proofs.SplitOutcomes as outcomes
use Rattle.descents.proofs.Answers.{split_refused}
use Rattle.descents.proofs.split_word.Goals as goal

pub returns-in_err-word : goal.returns-in_err-word
returns-in_err-word c =
    rw (split_refused _ _ c.from_residual.ensures) (outcomes.split_refused _ _ _ _ _ c.in_err-word.ensures.refusal _ _ (number_positive _))

pub returns : goal.returns
returns c =
    let u = c.in_ok-word.ensures in
    outcomes.split_passed _ _ _ _ _ u.refusal _ _ refl _ _ _ (rw (u.word.0, u.word.1, u.word.2) at c.split_accepted.ensures)
