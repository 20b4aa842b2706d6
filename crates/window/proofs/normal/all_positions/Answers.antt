-- `normal::all_positions` shifts m of 64 set digits into place.
-- Assumes nothing.
use Rattle.window.proofs.normal.OneLevel.{ones-shifted}
use Rattle.window.proofs.normal.all_positions.Goals as goal

pub returns : goal.returns
returns c = ones-shifted _ c.requires.1
