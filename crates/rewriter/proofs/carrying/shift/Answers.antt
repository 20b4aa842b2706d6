-- What `search` leaves open of the proof of `carrying::shift`.
use mathlib.Core.Path.{◌≡◌, refl, sym, ◌∙◌}
use Prim.Native.Nat.{◌+◌, ◌-◌}
use native.Mathlib.Omega.{arith}
use lib.ListN.{length-set}
use Rattle.coxeter.proofs.Acceptance.{letters_accepted}
use Rattle.coxeter.proofs.Groups.{rank_le}
use Rattle.coxeter.proofs.LetterLaws.{letter_at}
use Rattle.rewriter.proofs.carrying.Shifting.{put_none, put_set, put_read, put_next, commutes_from_next}
use Rattle.rewriter.proofs.carrying.shift.Goals as goal

pub loop-t-init : goal.loop-t-init
loop-t-init c =
    record { place_le = omega arith; same_size = refl; moved = put_none _ _ c.requires.1; commute = λ j a b. absurd (omega arith) }

pub commutes-requires : goal.commutes-requires
commutes-requires c =
    let i = c.loop-t.invariant in
    let w = c.args.word.now in
    let p = c.loop-t.t - 1 in
    rw (put_read w _ _ c.requires.1 _ _ (omega arith) i.place_le i.moved)
    (omega (arith, (letter_at _ w p (omega (arith, c.requires.1)) (letters_accepted _ w c.requires.0)).1, rank_le _ _ c.args.group.in_range))

pub loop-t-preserved : goal.loop-t-preserved
loop-t-preserved c =
    let i = c.loop-t.invariant in
    let next : c.loop-t.t - 1 + 1 ≡ c.loop-t.t = omega arith in
    let read = put_read _ c.loop-t.word _ c.requires.1 c.loop-t.t _ (omega arith) i.place_le i.moved in
    record {
      place_le = omega arith;
      same_size = simp length-set i.same_size;
      moved = rw next (put_next _ _ _ c.requires.1 _ (omega arith) i.place_le i.moved);
      commute = commutes_from_next _ _ c.args.word.now _ _ c.loop-t.t read (rw c.levels_of-levels.ensures at c.commutes.ensures) c.if-not-commutes.false i.commute;
    }

pub returns-then-not-commutes : goal.returns-then-not-commutes
returns-then-not-commutes c =
    let i = c.loop-t.invariant in
    let next : c.loop-t.t - 1 + 1 ≡ c.loop-t.t = omega arith in
    rw next (
      i.place_le,
      put_set _ _ _ c.requires.1 _ _ i.place_le i.moved,
      i.commute,
      λ o. rw (← put_read _ _ _ c.requires.1 _ _ (omega arith) i.place_le i.moved) (sym (rw c.levels_of-levels.ensures at c.commutes.ensures) ∙ c.if-not-commutes.true),
    )
