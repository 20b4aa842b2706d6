-- `shortest::winnathey_between` answers the number of the call below it, which fits: a normal form has at most
-- 4,096 letters.
-- Assumes nothing.
use Rattle.c_api.proofs.Lengths.{fits}
use Rattle.c_api.proofs.Bytes.{yielded}
use Rattle.c_api.proofs.Verdicts.{between_windows_refusable, between_windows_small}
use Rattle.c_api.proofs.shortest.winnathey_between.Goals as goal

pub number_of-requires : goal.number_of-requires
number_of-requires c = fits _ c.between_windows.ensures.0 (between_windows_small _ _ _ _ _ _)

pub returns : goal.returns
returns c =
    yielded (between_windows_refusable _ _ _ _) _ _ c.byte.ensures c.byte-2.ensures c.number_of.type_inv c.number_of.ensures
    c.between_windows.ensures
