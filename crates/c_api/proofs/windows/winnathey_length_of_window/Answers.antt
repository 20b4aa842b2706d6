-- `windows::winnathey_length_of_window` answers the number of the call below it, which fits: a normal form has at
-- most 4,096 letters.
-- Assumes nothing.
use Rattle.c_api.proofs.Lengths.{fits, length_of_window_small}
use Rattle.c_api.proofs.Bytes.{length_of_window_refusable, measured}
use Rattle.c_api.proofs.windows.winnathey_length_of_window.Goals as goal

pub number_of-requires : goal.number_of-requires
number_of-requires c = fits _ c.length_of_window.ensures (length_of_window_small _ _ _)

pub returns : goal.returns
returns c =
    measured (length_of_window_refusable _) _ _ c.byte.ensures c.byte-2.ensures c.number_of.type_inv c.number_of.ensures
    c.length_of_window.ensures
