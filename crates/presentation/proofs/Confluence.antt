-- The rules of a kind and rank are confluent: every word of steps reduces to the normal form of its window, which no
-- rule reduces. So they present what the relations present.
--
-- Sections: reductions and rewritings; the normal form; what is presented.
-- Assumes nothing.
use mathlib.Core.Path.{◌≡◌, sym, ap, subst, subst₂}
use mathlib.Core.Bool.{false}
use mathlib.Core.Logic.{◌↔◌}
use mathlib.Core.List.{List, ◌++◌}
use Prim.Native.Nat.{ℕ, suc, ◌≤◌}
use Rattle.coxeter.specs.declared.Kind.{Kind}
use Rattle.coxeter.specs.Kinds.{least}
use Rattle.coxeter.specs.Checks.{wrong_letter}
use Rattle.coxeter.specs.Relations.{Relation, Congruent}
use Rattle.coxeter.specs.NormalForm.{normal_form, word_normal_form}
use Rattle.coxeter.proofs.Congruence.{congruent_one}
use Rattle.coxeter.proofs.Relations.{congruent_window, relation_letters}
use Rattle.rules.specs.Rules.{rules, Irreducible}
use Rattle.rules.proofs.Rewriting as rewriting
use Rattle.rules.proofs.Completeness as complete
use Rattle.rules.proofs.RuleList.{rule_of_list, list_of_rule}
use Rattle.rules.proofs.Theorems.{rule_congruent}
use Rattle.presentation.specs.Reductions.{Pair, pair, Reduces, within, Reductions, stays, step, ReducesTo}
use Rattle.presentation.proofs.Reducing.{joined_congruent, congruent_flat}

module _ (k : Kind) (n : ℕ) (low : least k ≤ n) where
  -- ---- reductions and rewritings

  pub rewrites_of_reduces : {u v : List ℕ} → Reduces (rules k n) u v → rewriting.Rewrites k n u v
  rewrites_of_reduces (within b a x m) = rewriting.within b a (rule_of_list k n low x m)

  pub reduces_of_rewrites : {u v : List ℕ} → rewriting.Rewrites k n u v → Reduces (rules k n) u v
  reduces_of_rewrites (rewriting.within b a {l} {r} q) =
      let (x, m, e, f) = list_of_rule k n low q in
      subst₂ (λ (l r : List ℕ). Reduces (rules k n) (b ++ (l ++ a)) (b ++ (r ++ a))) e f (within b a x m)

  rewrites_to_of_reductions : {t : ℕ} {u v : List ℕ} → Reductions (rules k n) t u v → complete.RewritesTo k n u v
  rewrites_to_of_reductions stays = complete.stays
  rewrites_to_of_reductions (step r p) = complete.step (rewrites_of_reduces r) (rewrites_to_of_reductions p)

  reduces_to_of_rewrites_to : {u v : List ℕ} → complete.RewritesTo k n u v → ReducesTo (rules k n) u v
  reduces_to_of_rewrites_to complete.stays = (0, stays)
  reduces_to_of_rewrites_to (complete.step r p) = let q = reduces_to_of_rewrites_to p in (suc q.0, step (reduces_of_rewrites r) q.1)

  reduces_to_letters : {u v : List ℕ} → ReducesTo (rules k n) u v → wrong_letter n u ≡ false → wrong_letter n v ≡ false
  reduces_to_letters p = complete.rewrites_to_letters (rewrites_to_of_reductions p.1)

  -- a descendant has the same normal form
  reduces_to_normal_form : {u v : List ℕ} → ReducesTo (rules k n) u v → word_normal_form k n u ≡ word_normal_form k n v
  reduces_to_normal_form p = ap (normal_form k n) (complete.rewrites_to_window k n low (rewrites_to_of_reductions p.1))

  -- ---- the normal form

  -- every word of steps reduces to its normal form
  reduces_to_word_normal_form : (u : List ℕ) → wrong_letter n u ≡ false → ReducesTo (rules k n) u (word_normal_form k n u)
  reduces_to_word_normal_form u e = reduces_to_of_rewrites_to (complete.rewrites_to_normal_form k n u low e)

  -- U3: two descendants of a word have a descendant in common
  pub rules_confluent : (u v w : List ℕ) → wrong_letter n u ≡ false → ReducesTo (rules k n) u v → ReducesTo (rules k n) u w
      → (z : List ℕ) × ReducesTo (rules k n) v z × ReducesTo (rules k n) w z
  rules_confluent u v w e p q = (word_normal_form k n u, common v p, common w q)
    where
      common : (v : List ℕ) → ReducesTo (rules k n) u v → ReducesTo (rules k n) v (word_normal_form k n u)
      common v p = subst (ReducesTo (rules k n) v) (sym (reduces_to_normal_form p)) (reduces_to_word_normal_form v (reduces_to_letters p e))

  -- U7: the irreducible words of steps are the normal forms
  pub irreducible_normal : (u : List ℕ) → wrong_letter n u ≡ false → Irreducible (rules k n) u ↔ (u ≡ word_normal_form k n u)
  irreducible_normal u e = complete.irreducible_iff k n u low e

  -- ---- what is presented

  -- both sides of a relation reduce to one normal form
  relation_congruent : (l r : List ℕ) → Relation k n l r → Congruent (Pair (rules k n)) l r
  relation_congruent l r h =
      let (e, f) = relation_letters h in
      let q : word_normal_form k n r ≡ word_normal_form k n l = ap (normal_form k n) (sym (congruent_window k n (congruent_one h))) in
      joined_congruent (reduces_to_word_normal_form l e) (subst (ReducesTo (rules k n) r) q (reduces_to_word_normal_form r f))

  pair_congruent : (l r : List ℕ) → Pair (rules k n) l r → Congruent (Relation k n) l r
  pair_congruent l r (pair x m) = rule_congruent k n low x m

  -- U4: used in either direction, the rules turn a word into just those into which the relations turn it
  pub rules_presenting : (u v : List ℕ) → Congruent (Pair (rules k n)) u v ↔ Congruent (Relation k n) u v
  rules_presenting u v = (congruent_flat pair_congruent, congruent_flat relation_congruent)
