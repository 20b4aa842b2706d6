-- `normal::set_places` stores the place of each entry at its size. The invariant: those of the entries before `i` are
-- stored.
-- Assumes nothing.
use Rattle.window.proofs.normal.StoredPlaces.{PlacesStored}
use Rattle.window.proofs.normal.set_places.Given as goal

abbrev pub invariant-loop-i : goal.invariant-loop-i
invariant-loop-i l = PlacesStored l.window.entries.now l.places l.i
