-- `numbers::copy_to` is the library's copy into the part of the list that begins at p.
-- Assumes nothing.
use mathlib.Core.Path.{◌≡◌, sym, ◌∙◌}
use mathlib.Core.List.{append_assoc}
use Prim.Native.Nat.{◌+◌, ◌-◌}
use native.Mathlib.Omega.{arith}
use lib.ListN.{length, take, drop}
use lib.Seq.{drop-drop, sets-eq}
use Rattle.book.proofs.numbers.copy_to.Goals as goal

pub returns : goal.returns
returns g c =
    let l = c.args.out.now in
    let u = c.args.part.now in
    let p = c.args.p in
    let n : (p + length u) - p ≡ length u = omega arith in
    rw (n, c.copy_from_slice.ensures.after, drop-drop (length u) p l)
    (sym (sets-eq u l p c.requires ∙ append_assoc (take p l) u (drop (p + length u) l)))
