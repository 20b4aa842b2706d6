-- What `search` leaves open of the proof of `normal::write_down`.
use mathlib.Core.Path.{refl, ◌∙◌}
use Prim.Native.Nat.{◌+◌, ◌-◌}
use native.Mathlib.Omega.{arith}
use lib.ListN.{length}
use Rattle.coxeter.specs.NormalForm.{down}
use Rattle.coxeter.specs.NormalForm.{fall}
use Rattle.window.proofs.normal.Blocks.{length-fall, down-fall, down_next, part_long, stored_in_part}
use Rattle.window.proofs.normal.write_down.Goals as goal

pub slice_bounds-letter-items-end : goal.slice_bounds-letter-items-end
slice_bounds-letter-items-end c = omega (arith, length-fall c.args.b c.args.a, c.saturating_sub.ensures, c.requires)

pub loop-letter-init : goal.loop-letter-init
unfolding down
loop-letter-init c = (omega arith, refl)

pub loop-letter-preserved : goal.loop-letter-preserved
loop-letter-preserved c =
    let held = c.loop-letter.invariant in
    (omega arith, down_next c.args.b c.loop-letter.letter-index c.loop-letter.letter-items (omega arith) (omega arith) held.1)

pub returns : goal.returns
returns c =
    let a = c.args in
    let size = length-fall a.b a.a in
    let long = part_long a.out.now a.at (a.at + c.saturating_sub.result - a.at) (length (fall a.b a.a)) c.requires.2 (omega arith) in (
      omega arith,
      stored_in_part a.out.now c.loop-letter.letter-items (fall a.b a.a) a.at _ c.loop-letter.letter-index c.requires.2 (omega arith) (omega arith) (omega arith)
          (c.loop-letter.invariant.1 ∙ down-fall a.b a.a c.loop-letter.letter-index (omega arith)),
    )
