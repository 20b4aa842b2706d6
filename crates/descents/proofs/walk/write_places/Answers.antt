-- What `search` leaves open of the proof of `walk::write_places`.
use Rattle.descents.proofs.walk.Walking.{writing_room, writing_kept, writing_left, writing_end}
use Rattle.descents.proofs.walk.write_places.Goals as goal
use Rattle.descents.proofs.walk.write_places.Goals.{then-s-ne0, else-s-ne0}

pub bounds-places-at : goal.bounds-places-at
bounds-places-at c =
    writing_room _ _ _ _ _ c.loop-i-test.true c.loop-i.invariant c.if-s-ne0.true c.requires.word_in_bounds

pub loop-i-preserved : goal.loop-i-preserved
loop-i-preserved c =
    elim c.if-s-ne0.branch [
      | then-s-ne0 w ↦ rw (w.places-is, w.at-is) (writing_kept _ _ _ _ _ c.loop-i-test.true c.loop-i.invariant w.if-s-ne0.true)
      | else-s-ne0 w ↦ rw (w.places-is, w.at-is) (writing_left _ _ _ _ _ c.loop-i-test.true c.loop-i.invariant w.if-s-ne0.false)
    ]

pub returns : goal.returns
returns c = writing_end _ _ _ c.loop-i-test.false c.requires.word_in_bounds c.loop-i.invariant
