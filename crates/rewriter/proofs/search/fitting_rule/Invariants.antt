-- `search::fitting_rule` is the rule that fits. Its loop keeps the search of the word from the place on.
-- Assumes nothing.
use Rattle.rewriter.proofs.search.Searches.{Searching}
use Rattle.rewriter.proofs.search.fitting_rule.Given as goal

abbrev pub invariant-loop-at : goal.invariant-loop-at
invariant-loop-at l = Searching l.word.group.kind l.word.group.rank l.word.letters.now l.place l.i l.j l.at
