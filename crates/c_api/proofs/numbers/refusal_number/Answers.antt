-- `numbers::refusal_number` negates a byte, which an `i64` holds.
-- Assumes nothing.
use Rattle.c_api.proofs.Lengths.{refusal_back}
use Rattle.c_api.proofs.numbers.refusal_number.Goals as goal

pub returns : goal.returns
returns c = refusal_back _ c.ranges.k.fits
