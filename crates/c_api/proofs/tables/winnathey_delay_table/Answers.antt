-- `tables::winnathey_delay_table` hands the bytes of kind and rank on.
-- Assumes nothing.
use Rattle.c_api.proofs.Bytes.{as_bytes_back}
use Rattle.c_api.proofs.TableNumbers.{delay_table_listed_refusable}
use Rattle.c_api.proofs.tables.winnathey_delay_table.Goals as goal

pub returns : goal.returns
returns c =
    as_bytes_back (delay_table_listed_refusable _ _ _ _) _ _ _ c.byte.ensures c.byte-2.ensures c.number_of.type_inv
    c.number_of.ensures c.table.ensures.numbers
