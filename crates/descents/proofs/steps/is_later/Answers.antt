-- `steps::is_later` is the order of entries: by one comparison and the signs of both.
-- Assumes nothing.
use Rattle.descents.proofs.steps.Descents.{later_of_signs}
use Rattle.descents.proofs.steps.is_later.Goals as goal

pub returns : goal.returns
returns c = later_of_signs _ _ c.ranges.x c.ranges.y c.is_negative.ensures c.is_negative-2.ensures
