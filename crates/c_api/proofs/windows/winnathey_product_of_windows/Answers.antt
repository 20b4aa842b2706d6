-- `windows::winnathey_product_of_windows` answers the number of the call below it, which fits: a window has at most
-- 64 entries.
-- Assumes nothing.
use Rattle.c_api.proofs.Lengths.{fits, product_of_windows_small}
use Rattle.c_api.proofs.Bytes.{product_of_windows_refusable, yielded}
use Rattle.c_api.proofs.windows.winnathey_product_of_windows.Goals as goal

pub number_of-requires : goal.number_of-requires
number_of-requires c = fits _ c.product_of_windows.ensures.0 (product_of_windows_small _ _ _ _ _)

pub returns : goal.returns
returns c =
    yielded (product_of_windows_refusable _ _ _) _ _ c.byte.ensures c.byte-2.ensures c.number_of.type_inv c.number_of.ensures
    c.product_of_windows.ensures
