-- What `search` leaves open of the proof of `carrying::carry`.
use mathlib.Core.Path.{◌≡◌, refl}
use Prim.Native.Nat.{◌+◌, ◌-◌}
use native.Mathlib.Omega.{arith}
use lib.ListN.{length-set}
use Rattle.rewriter.proofs.carrying.Shifting.{put_none, put_next, put_end}
use Rattle.rewriter.proofs.carrying.carry.Goals as goal

pub loop-t-init : goal.loop-t-init
loop-t-init c = record { from_place = omega arith; place_le = omega arith; same_size = refl; moved = put_none _ _ c.requires.1 }

pub loop-t-preserved : goal.loop-t-preserved
loop-t-preserved c =
    let i = c.loop-t.invariant in
    let next : c.loop-t.t - 1 + 1 ≡ c.loop-t.t = omega arith in
    record {
      from_place = omega arith;
      place_le = omega arith;
      same_size = simp length-set i.same_size;
      moved = rw next (put_next _ _ _ c.requires.1 _ (omega arith) i.place_le i.moved);
    }

pub returns : goal.returns
returns c =
    let i = c.loop-t.invariant in
    put_end _ _ _ c.requires.1 _ _ _ i.from_place c.loop-t-test.false c.requires.0 i.moved
