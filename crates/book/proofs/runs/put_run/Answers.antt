-- What `search` leaves open of the proof of `runs::put_run`.
use mathlib.Core.Path.{sym, ◌∙◌}
use native.Mathlib.Omega.{arith}
use Rattle.book.proofs.runs.StoredRuns.{run_step, run_end}
use Rattle.book.proofs.runs.put_run.Goals as goal

pub loop-i-preserved : goal.loop-i-preserved
loop-i-preserved c =
    let inv = c.loop-i.invariant in
    let put = rw c.numbers_of.ensures at c.put_five.ensures in
    (omega arith, c.put_five.auto.fields ∙ inv.1, inv.2 ∙ run_step _ _ _ _ _ _ c.loop-i-test.true c.preset.ensures put)

pub returns : goal.returns
returns c = let inv = c.loop-i.invariant in sym (inv.2 ∙ run_end _ _ _ _ _ _ c.loop-i-test.false)
