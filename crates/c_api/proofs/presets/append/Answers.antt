-- `presets::append` answers the number of the call below it, which fits: a book has at most 65,535 bytes.
-- Assumes nothing.
use Rattle.c_api.proofs.Lengths.{fits, appending_small}
use Rattle.c_api.proofs.Bytes.{appending_refusable, yielded}
use Rattle.c_api.proofs.presets.append.Goals as goal

pub number_of-requires : goal.number_of-requires
number_of-requires c = fits _ c.append.ensures.value (appending_small _ _ _ _ _ _)

pub returns : goal.returns
returns c =
    yielded (appending_refusable _ _ _ _) _ _ c.byte.ensures c.byte-2.ensures c.number_of.type_inv c.number_of.ensures
    (c.append.ensures.value, c.append.ensures.out_after)
