-- `numbers::put_two` stores the two bytes of a number.
-- Assumes nothing.
use mathlib.Core.Path.{◌≡◌}
use Prim.Native.Nat.{◌/◌, ◌%◌}
use native.Mathlib.Omega.{arith}
use Rattle.book.proofs.numbers.Stores.{sets-two}
use Rattle.book.proofs.numbers.put_two.Goals as goal

pub returns : goal.returns
returns c =
    let x = c.args.x in
    let low : x % 65536 % 256 ≡ x % 256 = omega arith in
    let high : x % 65536 / 256 % 256 ≡ x / 256 % 256 = omega arith in
    rw (c.to_le_bytes-bytes.ensures, low, high) (sets-two c.args.out.now c.args.p x)
