-- What `search` leaves open of the proof of `runs::presets_from`.
use mathlib.Core.Path.{refl}
use Rattle.book.proofs.runs.StoredRuns.{first_stored_none, first_stored_next}
use Rattle.book.proofs.runs.presets_from.Goals as goal

pub loop-i-init : goal.loop-i-init
loop-i-init c = first_stored_none _ _ _ _ refl

pub loop-i-preserved : goal.loop-i-preserved
loop-i-preserved c = first_stored_next _ _ _ _ c.loop-i.invariant c.loop-i-test.true c.preset.ensures
