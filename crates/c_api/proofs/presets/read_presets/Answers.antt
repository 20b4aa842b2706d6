-- `presets::read_presets` answers the number of the call below it, which fits: a book of at most 65,535 bytes has
-- fewer presets.
-- Assumes nothing.
use Rattle.c_api.proofs.Lengths.{fits, reading_presets_small}
use Rattle.c_api.proofs.presets.read_presets.Goals as goal

pub number_of-requires : goal.number_of-requires
number_of-requires c = fits _ c.read_presets.ensures.0 (reading_presets_small _ _ _ _)
