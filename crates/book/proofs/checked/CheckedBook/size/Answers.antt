-- `CheckedBook::size`: where the trailer begins, the offsets and the count.
-- Assumes nothing.
use native.Mathlib.Omega.{arith}
use Rattle.book_format.proofs.BookLaws.{accepted}
use Rattle.book.proofs.checked.CheckedBook.size.Goals as goal

pub returns : goal.returns
returns c =
    let b = c.args.self.now in
    let a = accepted _ _ b.accepted in
    (omega (arith, a.sized, b.counted, b.cut), omega (arith, a.sized, a.most, b.counted, b.cut))
