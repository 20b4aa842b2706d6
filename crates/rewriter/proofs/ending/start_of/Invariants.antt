-- `ending::start_of` goes back over letters above i.
-- Assumes nothing.
use Rattle.rewriter.proofs.ending.Ends.{LettersAbove}
use Rattle.rewriter.proofs.ending.start_of.Given as goal

abbrev pub invariant-loop-t : goal.invariant-loop-t
invariant-loop-t l = LettersAbove l.word l.from l.i l.t
