-- What `search` leaves open of the proof of `numbers::put_entries`.
-- Assumes nothing.
use native.Mathlib.Omega.{arith}
use Rattle.listing_lines.proofs.numbers.Puts.{entries_room, entries-put, entries_done}
use Rattle.listing_lines.proofs.numbers.put_entries.Goals as goal

pub put_entry-r-requires : goal.put_entry-r-requires
put_entry-r-requires c =
    entries_room _ _ c.loop-e-test.true (omega arith) c.requires c.loop-e.invariant

pub loop-e-preserved : goal.loop-e-preserved
loop-e-preserved c =
    entries-put _ _ c.loop-e-test.true (omega arith) c.loop-e.invariant c.put_entry-r.ensures

pub returns : goal.returns
returns c = entries_done _ _ _ _ _ _ c.loop-e-test.false c.loop-e.invariant
