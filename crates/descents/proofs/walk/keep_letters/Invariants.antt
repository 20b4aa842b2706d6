-- `walk::keep_letters` goes from the last letter to the first: the target steps back at a letter that is kept, and
-- any other letter becomes 0.
-- Assumes nothing.
use Rattle.descents.proofs.walk.Walking.{Walking}
use Rattle.descents.proofs.walk.keep_letters.Given as goal

abbrev pub invariant-loop-i : goal.invariant-loop-i
invariant-loop-i l = Walking l.group.kind l.group.rank l.initial.word l.initial.w l.word l.w l.i l.kept
