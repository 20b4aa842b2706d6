-- `rewriting::winnathey_rewrite` hands the bytes of kind and rank on.
-- Assumes nothing.
use mathlib.Core.Path.{refl}
use Rattle.c_api.proofs.Bytes.{rewriting_refusable, as_bytes_back}
use Rattle.c_api.proofs.rewriting.winnathey_rewrite.Goals as goal

pub returns : goal.returns
returns c =
    as_bytes_back (rewriting_refusable _ _ _ _) _ _ _ c.byte.ensures c.byte-2.ensures c.rewrite.type_inv refl
    c.rewrite.ensures
