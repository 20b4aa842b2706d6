-- What `search` leaves open of the proof of `Conversion::write_offsets`.
use native.Mathlib.Omega.{arith}
use Rattle.book.proofs.converting.Conversions.{converts, offset_small, offsets_next, offsets_end}
use Rattle.book.proofs.converting.Conversion.write_offsets.Goals as goal

pub overflow_add-o : goal.overflow_add-o
overflow_add-o c =
    let s = c.args.self.now in
    omega (arith, offset_small (converts s.passed s.some) s.book.counted c.loop-i.invariant c.loop-i-test.true, c.other_size-o.ensures)

pub loop-i-preserved : goal.loop-i-preserved
loop-i-preserved c =
    let s = c.args.self.now in
    offsets_next (converts s.passed s.some) s.book.counted c.loop-i.invariant c.loop-i-test.true c.put_two.ensures c.other_size-o.ensures

pub returns : goal.returns
returns c =
    let s = c.args.self.now in
    offsets_end (converts s.passed s.some) s.book.counted c.loop-i.invariant c.loop-i-test.false
