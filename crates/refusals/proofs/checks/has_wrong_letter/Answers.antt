-- What `search` leaves open of the proof of `checks::has_wrong_letter`.
use mathlib.Core.Path.{◌∙◌}
use native.Mathlib.Omega.{arith}
use Rattle.refusals.proofs.checks.Tests.{wrong_letter_next, wrong_letter_end}
use Rattle.refusals.proofs.checks.has_wrong_letter.Goals as goal

pub loop-s-preserved : goal.loop-s-preserved
loop-s-preserved c =
    let at = c.loop-s in
    let a = c.args in
    let known = c.less_one.ensures in
    at.invariant
    ∙ wrong_letter_next a.rank a.word.now at.s-index at.highest _ (omega arith) c.loop-s-test.true known.0 known.1
    ∙ rw (← c.max-highest.ensures)

pub returns : goal.returns
returns c =
    let at = c.loop-s in
    let a = c.args in
    rw c.is_empty.ensures (wrong_letter_end a.rank a.word.now at.s-index at.highest c.loop-s-test.false at.invariant)
