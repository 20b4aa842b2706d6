-- `numbers::put_bytes` is the library's copy into the part of the buffer that begins at `at`.
-- Assumes nothing.
use mathlib.Core.Path.{◌≡◌, refl, sym, ◌∙◌}
use mathlib.Core.List.{append_assoc}
use Prim.Native.Nat.{◌+◌, ◌-◌}
use native.Mathlib.Omega.{arith}
use lib.ListN.{length, take, drop}
use lib.Seq.{drop-drop, sets-eq}
use Rattle.listing_lines.proofs.numbers.put_bytes.Goals as goal

pub returns : goal.returns
returns c =
    let l = c.args.out.now in
    let u = c.args.part.now in
    let p = c.args.at in
    let n : (p + length u) - p ≡ length u = omega arith in (
      refl,
      rw (n, c.copy_from_slice.ensures.after, drop-drop (length u) p l)
          (sym (sets-eq u l p c.requires ∙ append_assoc (take p l) u (drop (p + length u) l))),
    )
