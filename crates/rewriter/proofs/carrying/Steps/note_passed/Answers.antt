-- What `search` leaves open of the proof of `Steps::note_passed`.
use mathlib.Core.Path.{◌≡◌, refl, sym}
use Prim.Native.Nat.{◌-◌, min}
use lib.ListN.{length}
use native.Mathlib.Omega.{arith}
use Rattle.rewriter.proofs.carrying.Noting.{stores_start, stores_next, stores_end}
use Rattle.rewriter.proofs.carrying.Steps.note_passed.Goals as goal

pub loop-i-init : goal.loop-i-init
loop-i-init c =
    (record { count_le = omega arith; families_are = stores_start _ _ _; places_are = stores_start _ _ _; lengths_are = stores_start _ _ _ }, refl, refl, refl)

pub loop-i-preserved : goal.loop-i-preserved
loop-i-preserved c =
    let i = c.loop-i.invariant.0 in (
      record {
        count_le = omega arith;
        families_are = stores_next _ _ _ _ i.families_are _ refl;
        places_are = stores_next _ _ _ _ i.places_are _ (omega arith);
        lengths_are = stores_next _ _ _ _ i.lengths_are _ refl;
      },
      c.loop-i.invariant.1,
      c.loop-i.invariant.2,
      c.loop-i.invariant.3,
    )

pub returns-clause-noted : goal.returns-clause-noted
returns-clause-noted c =
    let i = c.loop-i.invariant.0 in
    let long = c.args.self.now.equally_long in
    let room : c.min-end.result ≡ min c.args.m (length c.args.self.now.families.now - c.args.self.now.made) =
    rw (← c.saturating_sub.ensures) c.min-end.ensures in (
      refl,
      stores_end _ _ _ _ i.families_are _ refl room i.count_le c.loop-i-test.false,
      stores_end _ _ _ _ i.places_are _ (sym long.0) room i.count_le c.loop-i-test.false,
      stores_end _ _ _ _ i.lengths_are _ (sym long.1) room i.count_le c.loop-i-test.false,
    )
