-- `windows::winnathey_inverse_of_window` answers the number of the call below it, which fits: a window has at most
-- 64 entries.
-- Assumes nothing.
use Rattle.c_api.proofs.Lengths.{fits, inverse_of_window_small}
use Rattle.c_api.proofs.Bytes.{inverse_of_window_refusable, yielded}
use Rattle.c_api.proofs.windows.winnathey_inverse_of_window.Goals as goal

pub number_of-requires : goal.number_of-requires
number_of-requires c = fits _ c.inverse_of_window.ensures.0 (inverse_of_window_small _ _ _ _)

pub returns : goal.returns
returns c =
    yielded (inverse_of_window_refusable _ _) _ _ c.byte.ensures c.byte-2.ensures c.number_of.type_inv c.number_of.ensures
    c.inverse_of_window.ensures
