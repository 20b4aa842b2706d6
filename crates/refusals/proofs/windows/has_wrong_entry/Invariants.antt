-- `windows::has_wrong_entry` goes from the last entry to the first. The invariant: the entries behind passed, and
-- their sizes are marked.
-- Assumes nothing.
use Rattle.refusals.proofs.windows.Marks.{MarkedFrom}
use Rattle.refusals.proofs.windows.has_wrong_entry.Given as goal

abbrev pub invariant-loop-i : goal.invariant-loop-i
invariant-loop-i l = MarkedFrom l.kind l.m l.w l.marks l.i
