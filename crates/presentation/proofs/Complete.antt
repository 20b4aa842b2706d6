-- The rules of a kind and rank are a complete normalized presentation of its group: each field from the law of the
-- files before.
-- Assumes nothing.
use Prim.Native.Nat.{ℕ, ◌≤◌}
use Rattle.coxeter.specs.declared.Kind.{Kind}
use Rattle.coxeter.specs.Kinds.{least}
use Rattle.rules.specs.Rules.{rules}
use Rattle.presentation.specs.Presentations.{CompletePresentation}
use Rattle.presentation.proofs.Ending.{descending_bounded, descending_terminating}
use Rattle.presentation.proofs.Confluence.{rules_confluent, rules_presenting}
use Rattle.presentation.proofs.Normalized.{rules_right_irreducible}
use Rattle.presentation.proofs.Sides.{rule_steps, rule_descending}
use Rattle.presentation.proofs.Distinct.{rules_left_irreducible}

-- U2 to U6
pub rules_complete : (k : Kind) (n : ℕ) → least k ≤ n → CompletePresentation k n (rules k n)
rules_complete k n low = record {
  steps = rule_steps k n low;
  descending = rule_descending k n low;
  presenting = rules_presenting k n low;
  terminating = descending_terminating n (rules k n) (λ x m. (rule_steps k n low x m).1) (rule_descending k n low);
  bounded = descending_bounded n (rules k n) (λ x m. (rule_steps k n low x m).1) (rule_descending k n low);
  confluent = rules_confluent k n low;
  right_irreducible = rules_right_irreducible k n low;
  left_irreducible = rules_left_irreducible k n low;
}
