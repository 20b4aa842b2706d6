-- What `search` leaves open of the proof of `checked::is_misplaced`.
use mathlib.Core.Path.{sym, ap, ◌∙◌}
use mathlib.Core.Bool.{◌||◌}
use native.Mathlib.Omega.{arith}
use Rattle.book_format.proofs.BookLaws.{misplaced_start, misplaced_room, misplaced_step, misplaced_last}
use Rattle.book.proofs.checked.is_misplaced.Goals as goal

pub loop-i-init : goal.loop-i-init
loop-i-init c = (omega arith, λ ed w. misplaced_start ed _ _ c.requires.c_value)

pub returns-then-trailer-offset : goal.returns-then-trailer-offset
returns-then-trailer-offset c =
    let e = c.requires.c_value in
    let w = c.count_place-place.ensures.0 in
    sym
    (c.loop-i.invariant.1 _ w
    ∙ misplaced_room _ _ _ _ e c.loop-i-test.true c.two_at-offset.ensures.0 w c.head_size-head.ensures.0
    c.loop-i.wrong c.if-trailer-offset.true)

pub loop-i-preserved : goal.loop-i-preserved
loop-i-preserved c =
    let e = c.requires.c_value in (
      omega arith,
      λ ed w. c.loop-i.invariant.1 ed w
          ∙ misplaced_step ed _ _ _ e c.loop-i-test.true c.two_at-offset.ensures.0 w
          (c.head_size-head.ensures.0 ∙ rw (← c.count_place-place.ensures.0, w)) c.loop-i.wrong c.two_at.ensures.0,
    )

pub returns : goal.returns
returns c =
    let w = c.count_place-place.ensures.0 in
    sym (c.loop-i.invariant.1 _ w ∙ ap (λ t. c.loop-i.wrong || t) (misplaced_last _ _ _ _ _ c.requires.c_value c.loop-i-test.false))
