-- `fallback_places` goes by its checks in their order, and then by the verdict on the two words.
-- Assumes nothing.
use mathlib.Core.Path.{refl}
use Rattle.coxeter.proofs.Groups.{number_positive}
use Rattle.shortest_words.proofs.Verdicts.{fell_back_refused, fell_back_decided}
use Rattle.descents.proofs.Answers.{fallback_refused}
use Rattle.descents.proofs.fallback_places.Goals as goal

pub returns-in_err-present : goal.returns-in_err-present
returns-in_err-present c =
    rw (fallback_refused _ _ c.from_residual.ensures) (fell_back_refused _ _ _ _ _ c.in_err-present.ensures.refusal (number_positive _))

pub returns : goal.returns
returns c =
    let w = c.in_ok-present.ensures in
    fell_back_decided _ _ _ _ _ w.refusal refl (rw (w.words.0.0, w.words.0.1, w.words.0.2, w.words.1.2) at c.decide_words.ensures)
