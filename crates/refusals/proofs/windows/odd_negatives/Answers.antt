-- What `search` leaves open of the proof of `windows::odd_negatives`.
use mathlib.Core.Path.{refl, sym, ap, ◌∙◌}
use native.Mathlib.Omega.{arith}
use Rattle.coxeter.specs.Length.{negative}
use Rattle.coxeter.specs.Parity.{flipped}
use Rattle.refusals.proofs.Bytes.{element_back}
use Rattle.refusals.proofs.checks.Tests.{flag_flipped}
use Rattle.refusals.proofs.windows.odd_negatives.Goals as goal

pub loop-e-init : goal.loop-e-init
unfolding flipped
loop-e-init c = refl

-- by the four cases of the flag and of the entry's sign, whatever the code makes of the two
pub loop-e-preserved : goal.loop-e-preserved
loop-e-preserved c =
    flag_flipped _ _ c.loop-e-test.true c.loop-e.invariant
    (sym (c.is_negative-flag.ensures ∙ ap negative (element_back _ (omega arith))))
    (λ e f. simp (e, f)) (λ e f. simp (e, f)) (λ e f. simp (e, f)) (λ e f. simp (e, f))
