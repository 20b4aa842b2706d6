-- `entries::is_negative` is the sign of an integer.
-- Assumes nothing.
use mathlib.Core.Path.{◌∙◌, ap}
use lib.IntN.{ℤ, pos}
use lib.Signed.{lt_z}
use Rattle.refusals.proofs.Bytes.{byte_back, negative_is_test}
use Rattle.refusals.proofs.entries.is_negative.Goals as goal

pub returns : goal.returns
returns c = ap (λ (z : ℤ). lt_z z (pos 0)) (byte_back _ c.ranges.e) ∙ negative_is_test c.args.e
