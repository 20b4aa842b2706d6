-- `checks::accepted_presets`: the second preset's refusal comes behind the first preset's checks. Written out, so that a
-- check with another rank is refused by what is known of it.
-- Assumes nothing.
use mathlib.Core.Path.{refl}
use Rattle.coxeter.specs.Checks.{rank_refusal, word_refusal}
use Rattle.coxeter.proofs.Groups.{handed_on}
use Rattle.coxeter.proofs.Refusals.{pair_next}
use Rattle.refusals.proofs.checks.accepted_presets.Goals as goal

pub returns-in_err-second-clause-refusal : goal.returns-in_err-second-clause-refusal
returns-in_err-second-clause-refusal c =
    handed_on _ _ c.from_residual-in_err-second.ensures
    (pair_next (rank_refusal _ _) (word_refusal _ _) c.in_ok-first.ensures.refusal refl c.in_err-second.ensures.refusal)
