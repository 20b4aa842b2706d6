-- `counting::multiply` makes the factor of a level: running sums, in kind D with a shifted sum after them.
-- Assumes nothing.
use borrow.Author.Rules.{rules}
use Rattle.delay.proofs.counting.Factors.{sum_fits, factor_sums}
use Rattle.delay.proofs.counting.multiply.Goals as goal

pub combine_shifted-requires : goal.combine_shifted-requires
combine_shifted-requires c =
    λ l h o a b e r. record { fits = sum_fits _ _ _ _ c.run-in-D.ensures (rw c.in-D.is at c.requires.fit) l h o }

pub returns-in-D : goal.returns-in-D
returns-in-D c =
    let s = c.combine_shifted.ensures in
    rw c.in-D.is
    (factor_sums _ _ _ _ c.run-in-D.ensures _ c.combine_shifted.auto.counts s.first (λ l h o. let k = s.others l h o in search rules))
