-- What `search` leaves open of the proof of `numbers::put_letters`.
-- Assumes nothing.
use Rattle.listing_lines.proofs.numbers.Puts.{letters_room, letters-put, letters_done}
use Rattle.listing_lines.proofs.numbers.put_letters.Goals as goal

pub put_spaced-r-requires : goal.put_spaced-r-requires
put_spaced-r-requires c =
    letters_room _ _ _ _ _ _ c.loop-letter-test.true c.requires c.loop-letter.invariant

pub loop-letter-preserved : goal.loop-letter-preserved
loop-letter-preserved c =
    letters-put _ _ c.loop-letter-test.true c.loop-letter.invariant c.put_spaced-r.ensures

pub returns : goal.returns
returns c = letters_done _ _ _ _ _ _ c.loop-letter-test.false c.loop-letter.invariant
