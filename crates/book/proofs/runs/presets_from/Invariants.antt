-- `runs::presets_from` stores preset after preset. The invariant: the presets before `i` are stored.
-- Assumes nothing.
use Rattle.book_format.specs.Calls.{checked_preset}
use Rattle.book.proofs.runs.StoredRuns.{FirstStored}
use Rattle.book.proofs.runs.presets_from.Given as goal

abbrev pub invariant-loop-i : goal.invariant-loop-i
invariant-loop-i l = FirstStored (checked_preset l.book.edition l.book.bytes.now) l.start 128 l.i l.preset-items
