-- `numbers::two_at` is the two-byte number at p.
-- Assumes nothing.
use native.Mathlib.Omega.{arith}
use Rattle.book_format.specs.Books.{two_at}
use Rattle.book.proofs.numbers.two_at.Goals as goal

pub returns : goal.returns
unfolding two_at
returns c = (omega (arith, c.from_le_bytes.ensures), c.from_le_bytes.type_inv)
