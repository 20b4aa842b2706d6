-- `writing::copy` is the library's copy into the part of the output from the place on.
-- Assumes nothing.
use mathlib.Core.Path.{◌≡◌, sym, ◌∙◌}
use mathlib.Core.List.{append_assoc}
use Prim.Native.Nat.{◌+◌, ◌-◌}
use native.Mathlib.Omega.{arith}
use lib.ListN.{length, take, drop}
use lib.Seq.{sets-eq, drop-drop}
use Rattle.rewriter.proofs.writing.copy.Goals as goal

pub returns : goal.returns
returns c =
    let n : c.args.at + length c.args.part.now - c.args.at ≡ length c.args.part.now = omega arith in
    rw (n, c.copy_from_slice.ensures.after, drop-drop (length c.args.part.now) c.args.at c.args.out.now)
    (sym
    (sets-eq c.args.part.now c.args.out.now c.args.at c.requires
    ∙ append_assoc (take c.args.at c.args.out.now) c.args.part.now (drop (c.args.at + length c.args.part.now) c.args.out.now)))
