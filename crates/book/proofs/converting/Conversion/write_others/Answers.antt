-- What `search` leaves open of the proof of `Conversion::write_others`.
use native.Mathlib.Omega.{arith}
use Rattle.book.proofs.converting.Conversions.{converts, others_room, others_next, others_end}
use Rattle.book.proofs.converting.Conversion.write_others.Goals as goal

pub write_other-requires-clause-number_in_bounds : goal.write_other-requires-clause-number_in_bounds
write_other-requires-clause-number_in_bounds c =
    let s = c.args.self.now in
    others_room (converts s.passed s.some) s.book.counted _ c.loop-i.invariant c.loop-i-test.true c.requires

pub overflow_add-p : goal.overflow_add-p
overflow_add-p c =
    let s = c.args.self.now in
    let inv = c.loop-i.invariant in
    omega (arith, others_room (converts s.passed s.some) s.book.counted _ inv c.loop-i-test.true c.requires, inv.size, c.other_size-p.ensures)

pub loop-i-preserved : goal.loop-i-preserved
loop-i-preserved c =
    let s = c.args.self.now in
    others_next (converts s.passed s.some) s.book.counted _ c.loop-i.invariant c.loop-i-test.true c.write_other.ensures c.other_size-p.ensures

pub returns : goal.returns
returns c =
    let s = c.args.self.now in
    others_end (converts s.passed s.some) s.book.counted _ c.loop-i.invariant c.loop-i-test.false
