-- What the statements cite of the rules, over the definitions of specs/ alone; demand 3 itself is `demand3` of
-- Demand3.antt. Each is a corollary of a law of the files before. The ranks need no upper end, and words may have
-- any length.
--
-- Sections: one rule; one use of a rule; normal forms.
-- Assumes nothing.
use mathlib.Core.Path.{◌≡◌}
use mathlib.Core.Bool.{true}
use mathlib.Core.List.{List, Memᴰ}
use Prim.Native.Nat.{ℕ, ◌≤◌}
use native.Mathlib.Omega.{arith}
use native.Mathlib.Decide.{dec_le}
use lib.IntN.{ℤ}
use lib.ListN.{length}
use mathlib.Core.Bool.{true≢false}
use mathlib.Core.Path.{sym, ◌∙◌}
use Rattle.coxeter.specs.declared.Kind.{Kind}
use Rattle.coxeter.specs.Kinds.{least}
use Rattle.coxeter.specs.Windows.{window}
use Rattle.coxeter.specs.Dictionary.{shortlex}
use Rattle.coxeter.specs.Relations.{Braid, Relation, Congruent}
use Rattle.coxeter.specs.Checks.{WindowOf}
use Rattle.coxeter.specs.NormalForm.{normal_form, word_normal_form, IsNormalForm}
use Rattle.coxeter.proofs.Levels.{accepted_of_refusal}
use Rattle.coxeter.proofs.Theorems.{window_passes}
use Rattle.rules.specs.Rules.{Rule, rules, fits, rewritten}
use Rattle.rules.proofs.RuleList.{rule_of_list}
use Rattle.rules.proofs.RuleFields.{right_empty}
use Rattle.rules.proofs.Derivations as derivations
use Rattle.rules.proofs.Fits.{fits-past, left_nonempty, rewrites_of_fits}
use Rattle.rules.proofs.Rewriting.{Rewrites}
use Rattle.rules.proofs.Completeness as complete

module _ (k : Kind) (n : ℕ) (low : least k ≤ n) (x : Rule) (listed : Memᴰ x (rules k n)) where
  -- ---- one rule

  -- both sides are congruent under the relations
  pub rule_congruent : Congruent (Relation k n) x.left x.right
  rule_congruent = derivations.rule_congruent k n low (rule_of_list k n low x listed)

  -- and, but for family 1, by relations of equal length alone
  pub rule_braid : (x.family ≡ 1 → ⊥) → Congruent (Braid k n) x.left x.right
  rule_braid f = derivations.rule_braid k n low (rule_of_list k n low x listed) (λ e. f (right_empty k n low x listed e))

  -- ---- one use of a rule

  module _ (u : List ℕ) (p : ℕ) (fitting : fits x u p ≡ true) where
    rewrites : Rewrites k n u (rewritten x u p)
    rewrites = elim (dec_le p (length u)) [
      | yes inside ↦ rewrites_of_fits k n low x listed u p inside fitting
      | no outside ↦ absurd (true≢false (sym fitting ∙ fits-past x u p (left_nonempty k n low x listed) (omega arith)))
    ]

    -- the new word has the same window, and is shorter, or as long and earlier in the dictionary
    pub rewritten-window : window k n u ≡ window k n (rewritten x u p)
    rewritten-window = complete.rewrites_window k n low rewrites

    pub rewritten-shortlex : shortlex (rewritten x u p) u ≡ true
    rewritten-shortlex = complete.rewrites_shortlex rewrites

    -- and has no letter that the word lacked
    pub no_new_letter : (a : ℕ) → Memᴰ a (rewritten x u p) → Memᴰ a u
    no_new_letter a m = complete.no_new_letter rewrites m

-- ---- normal forms

-- N1, N3: the shortest word with that window, and among those the first in the dictionary
pub normal_form-least : (k : Kind) (n : ℕ) (w : List ℤ) → least k ≤ n → WindowOf k n w → IsNormalForm k n w (normal_form k n w)
normal_form-least k n w low passed = complete.normal_form-least k n w low (accepted_of_refusal k n w passed)

-- N2: of a word of any length
pub word_normal_form-least : (k : Kind) (n : ℕ) (u : List ℕ) → least k ≤ n → IsNormalForm k n (window k n u) (word_normal_form k n u)
word_normal_form-least k n u low = normal_form-least k n (window k n u) low (window_passes k n u)
