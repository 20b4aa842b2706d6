-- `Conversion::write_converted` writes the records, the offsets and the count, one behind the other.
-- Assumes nothing.
use native.Mathlib.Omega.{arith}
use Rattle.book.proofs.converting.Conversions.{converts, length_parts, all_written}
use Rattle.book.proofs.converting.Conversion.write_converted.Goals as goal

pub write_offsets-requires : goal.write_offsets-requires
write_offsets-requires c =
    let s = c.args.self.now in
    omega (arith, c.requires, length_parts (converts s.passed s.some) s.book.counted, c.write_others-p.ensures.1, c.write_others-p.auto.out)

pub overflow_add-p : goal.overflow_add-p
overflow_add-p c =
    let s = c.args.self.now in
    let w = converts s.passed s.some in
    omega (arith, length_parts w s.book.counted, w.small, c.write_others-p.ensures.1)

pub put_two-requires : goal.put_two-requires
put_two-requires c =
    let s = c.args.self.now in
    omega (
      arith,
      c.requires,
      length_parts (converts s.passed s.some) s.book.counted,
      c.write_others-p.ensures.1,
      c.write_others-p.auto.out,
      c.write_offsets.auto.out,
    )

pub returns : goal.returns
returns c =
    let s = c.args.self.now in
    all_written (converts s.passed s.some) s.book.counted _ c.write_others-p.ensures c.write_offsets.ensures c.put_two.ensures
