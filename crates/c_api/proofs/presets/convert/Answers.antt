-- `presets::convert` answers the number of the call below it, which fits: a book has at most 65,535 bytes.
-- Assumes nothing.
use Rattle.c_api.proofs.Lengths.{fits, converting_small}
use Rattle.c_api.proofs.presets.convert.Goals as goal

pub number_of-requires : goal.number_of-requires
number_of-requires c = fits _ c.convert.ensures.value (converting_small _ _ _)
