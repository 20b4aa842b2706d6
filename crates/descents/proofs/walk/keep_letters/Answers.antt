-- What `search` leaves open of the proof of `walk::keep_letters`.
use Prim.Native.Nat.{◌-◌}
use native.Mathlib.Omega.{arith}
use Rattle.coxeter.proofs.Acceptance.{letters_accepted}
use Rattle.descents.proofs.walk.Walking.{walking_start, walking_within, walking_room, walking_kept, walking_left, walking_end}
use Rattle.descents.proofs.walk.keep_letters.Goals as goal

pub loop-i-init : goal.loop-i-init
loop-i-init c = walking_start _ _ _ _ c.requires.window_of

pub take_descent-requires-clause-le_s : goal.take_descent-requires-clause-le_s
take_descent-requires-clause-le_s c =
    walking_within _ _ _ _ _ c.loop-i.invariant (omega arith) (letters_accepted _ _ c.requires.word_of)

pub overflow_add-kept : goal.overflow_add-kept
overflow_add-kept c =
    let r = walking_room _ _ _ _ (c.loop-i.i - 1) c.loop-i.invariant (omega arith) in
    omega arith

pub loop-i-preserved-then-take_descent : goal.loop-i-preserved-then-take_descent
loop-i-preserved-then-take_descent c =
    let l = c.take_descent in
    walking_kept _ _ _ _ _ c.loop-i.invariant (omega arith) l.ensures.0 l.ensures.1 c.if-take_descent.true
    (letters_accepted _ _ c.requires.word_of)

pub loop-i-preserved : goal.loop-i-preserved
loop-i-preserved c =
    let l = c.take_descent in
    walking_left _ _ _ _ _ c.loop-i.invariant (omega arith) l.ensures.0 l.ensures.1 c.if-take_descent.false

pub returns : goal.returns
returns c = walking_end _ _ _ _ c.loop-i.invariant c.loop-i-test.false
