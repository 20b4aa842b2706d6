-- `counting::write_counts` lends the front of its output to `count`.
-- Assumes nothing.
use mathlib.Core.Path.{sym, ap, ◌∙◌}
use Prim.Native.Nat.{ℕ, ◌+◌}
use Rattle.distribution.proofs.Tables.{length-distribution}
use Rattle.coxeter.proofs.FrontLaws.{front_parts}
use Rattle.delay.proofs.counting.write_counts.Goals as goal

pub returns : goal.returns
returns c =
    let size = c.greatest_length-size.ensures in
    front_parts _ _ _ _ (length-distribution _ _ ∙ ap (λ (x : ℕ). x + 1) (sym size)) c.count.ensures
