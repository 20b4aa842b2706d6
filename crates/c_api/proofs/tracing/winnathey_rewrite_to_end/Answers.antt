-- `tracing::winnathey_rewrite_to_end` hands the bytes of kind and rank on.
-- Assumes nothing.
use Rattle.c_api.proofs.Bytes.{as_bytes_back}
use Rattle.c_api.proofs.StepNumbers.{rewriting_to_end_listed_refusable}
use Rattle.c_api.proofs.tracing.winnathey_rewrite_to_end.Goals as goal

pub returns : goal.returns
returns c =
    as_bytes_back (rewriting_to_end_listed_refusable _ _ _ _ _ _) _ _ _ c.byte.ensures c.byte-2.ensures
    c.number_of.type_inv c.number_of.ensures c.to_end.ensures.numbers
