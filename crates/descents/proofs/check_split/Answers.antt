-- `check_split` makes checks 5, 6 and 16, then checks 7 and 8; checks 5 and 6, made once more, pass.
-- Assumes nothing.
use mathlib.Core.Path.{sym, ◌∙◌}
use Rattle.coxeter.proofs.Refusals.{then_none}
use Rattle.shortest_words.proofs.BetweenCalls.{rank_of_set}
use Rattle.descents.proofs.check_split.Goals as goal

pub returns-clause-refusal : goal.returns-clause-refusal
returns-clause-refusal c =
    let set = sym c.in_ok-group_with_set.ensures.refusal in
    c.accepted_word.ensures.refusal ∙ then_none _ _ (rank_of_set _ _ _ set) ∙ sym (then_none _ _ set)
