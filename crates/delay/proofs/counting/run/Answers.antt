-- `counting::run` makes running sums: sums from the start, each less the one c + 1 places before it.
-- Assumes nothing.
use borrow.Author.Rules.{rules}
use Rattle.delay.proofs.counting.Factors.{sums_rise, running_sums}
use Rattle.delay.proofs.counting.run.Goals as goal

pub combine_shifted-requires : goal.combine_shifted-requires
combine_shifted-requires c = λ l h o a b e r. sums_rise _ _ _ _ c.sum_up.ensures l h o

pub returns : goal.returns
returns c =
    let s = c.combine_shifted.ensures in
    running_sums _ _ _ _ c.sum_up.ensures _ c.combine_shifted.auto.counts s.first (λ l h o. let k = s.others l h o in search rules)
