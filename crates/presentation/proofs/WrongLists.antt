-- Lists of rules that are no complete normalized presentation: the mistakes that are close at hand when such a list is
-- written down, each ruled out by the definition of such a presentation or by the theorem that there is only one.
--
-- Sections: too few and too many; a rule that does not belong there; lists of small ranks.
-- Assumes nothing.
use mathlib.Core.Path.{◌≡◌, refl, sym, ap, ◌∙◌}
use mathlib.Core.Bool.{true, true≢false}
use mathlib.Core.List.Memᴰ
use mathlib.Core.List.{List, [], ◌∷◌, ◌++◌, Memᴰ}
use Prim.Native.Nat.{ℕ, ◌≤◌}
use native.Mathlib.Omega.{arith}
use lib.ListN.{length, length-append}
use Rattle.coxeter.specs.declared.Kind.{Kind}
use Rattle.coxeter.specs.declared.Kind.TheVariants.{A, B, D}
use Rattle.coxeter.specs.Kinds.{least, up}
use Rattle.coxeter.specs.Windows.{from, swap, negate_first, swap_negate, act, window_from, identity, window}
use Rattle.coxeter.specs.Dictionary.{before, shortlex}
use Rattle.coxeter.proofs.Congruence.{congruent_one}
use Rattle.coxeter.proofs.Order.{shortlex_asymm}
use Rattle.coxeter.proofs.Relations.{congruent_window}
use Rattle.coxeter.proofs.TestLaws.{impossible}
use Rattle.rules.specs.Rules.{Rule, rule, rules}
use Rattle.rules.proofs.RuleFields.{left_determines}
use Rattle.presentation.specs.Reductions.{pair}
use Rattle.presentation.specs.Presentations.{CompletePresentation}
use Rattle.presentation.proofs.Entries.{in_entry, once_others}
use Rattle.presentation.proofs.Presentations.{rules_present}
use Rattle.presentation.proofs.Only.{same_entry, complete_once}
use Rattle.presentation.proofs.Sentences.{no_other-rule}

-- ---- too few and too many

module _ (k : Kind) (n : ℕ) (low : least k ≤ n) where
  as_many : (rs : List Rule) → CompletePresentation k n rs → length rs ≡ length (rules k n)
  as_many rs c = (((rules_present k n low).only rs).0 c).1

  -- U10: the rules of a kind and rank without one of them are no complete normalized presentation
  pub rule_left_out : (front : List Rule) (x : Rule) (rest : List Rule) → rules k n ≡ front ++ (x ∷ rest)
      → CompletePresentation k n (front ++ rest) → ⊥
  rule_left_out front x rest e c =
      omega (arith, as_many (front ++ rest) c, ap length e, length-append front rest, length-append front (x ∷ rest))

  -- U6, U10: the rules of a kind and rank with one more, new or already there, are no complete normalized presentation
  pub rule-added : (front : List Rule) (x : Rule) (rest : List Rule) → rules k n ≡ front ++ rest
      → CompletePresentation k n (front ++ (x ∷ rest)) → ⊥
  rule-added front x rest e c =
      omega (arith, as_many (front ++ (x ∷ rest)) c, ap length e, length-append front rest, length-append front (x ∷ rest))

  -- U6: no list in which a rule stands twice is a complete normalized presentation
  pub rule_twice : (front : List Rule) (x : Rule) (middle rest : List Rule)
      → CompletePresentation k n (front ++ (x ∷ (middle ++ (x ∷ rest)))) → ⊥
  rule_twice front x middle rest c =
      once_others front x (middle ++ (x ∷ rest)) (complete_once k n low (front ++ (x ∷ (middle ++ (x ∷ rest)))) c)
      (Memᴰ.append_right front (in_entry middle x rest))

  -- ---- a rule that does not belong there

  module _ (rs : List Rule) (c : CompletePresentation k n rs) (x : Rule) (m : Memᴰ x rs) where
    -- U6: in a complete normalized presentation the left side of a rule stands in no other left side
    pub left_in_own_alone : (y : Rule) → Memᴰ y rs → (front rest : List ℕ) → y.left ≡ front ++ (x.left ++ rest) → x ≡ y
    left_in_own_alone y q = same_entry k n low rs c y x q m

    -- U5: no rule of a complete normalized presentation leads to a later word
    pub never_later : shortlex x.left x.right ≡ true → ⊥
    never_later e = true≢false (sym (c.descending x m) ∙ shortlex_asymm x.left x.right e)

    -- U4: both sides of a rule of a complete normalized presentation have the same window
    pub sides_alike : window k n x.left ≡ window k n x.right
    sides_alike = congruent_window k n ((c.presenting x.left x.right).0 (congruent_one (pair x m)))

    -- U10: if a rule of a complete normalized presentation has the left side of a rule of the kind and rank, it
    -- has its right side too
    pub right_side_given : (y : Rule) → Memᴰ y (rules k n) → y.left ≡ x.left → y.right ≡ x.right
    right_side_given y q e =
        let (z, p, l, r) = no_other-rule rules_present k n low rs c x m in
        ap (λ (w : Rule). w.right) (left_determines k n y z low q p (e ∙ sym l)) ∙ r

-- ---- lists of small ranks

-- U4, Q9: no complete normalized presentation of D₄ has the rule 2 4 → 4 2, which is kind B's
pub pair_of_B_in_D : (rs : List Rule) (x : Rule) → Memᴰ x rs → x.left ≡ 2 ∷ 4 ∷ [] → x.right ≡ 4 ∷ 2 ∷ []
    → CompletePresentation D 4 rs → ⊥
unfolding window window_from identity up act from swap swap_negate
pair_of_B_in_D rs x m e f c =
    let w : window D 4 (2 ∷ 4 ∷ []) ≡ window D 4 (4 ∷ 2 ∷ []) =
    sym (ap (window D 4) e) ∙ sides_alike D 4 (omega arith) rs c x m ∙ ap (window D 4) f in
    impossible (cc)

-- U4, Q9: no complete normalized presentation of B₄ has the rule 3 4 → 4 3, which is kind D's
pub pair_of_D_in_B : (rs : List Rule) (x : Rule) → Memᴰ x rs → x.left ≡ 3 ∷ 4 ∷ [] → x.right ≡ 4 ∷ 3 ∷ []
    → CompletePresentation B 4 rs → ⊥
unfolding window window_from identity up act from swap negate_first
pair_of_D_in_B rs x m e f c =
    let w : window B 4 (3 ∷ 4 ∷ []) ≡ window B 4 (4 ∷ 3 ∷ []) =
    sym (ap (window B 4) e) ∙ sides_alike B 4 (omega arith) rs c x m ∙ ap (window B 4) f in
    impossible (cc)

-- U5, Q8: the list for A₂ that belongs to the usual dictionary, with the lower step first, is no complete normalized
-- presentation for the order that has the higher step first
pub usual_order : CompletePresentation A 2
    (rule 1 1 0 (1 ∷ 1 ∷ []) [] ∷ rule 1 2 0 (2 ∷ 2 ∷ []) [] ∷ rule 3 1 2 (2 ∷ 1 ∷ 2 ∷ []) (1 ∷ 2 ∷ 1 ∷ []) ∷ []) → ⊥
unfolding shortlex before
usual_order c = never_later A 2 (omega arith) _ c _ (Memᴰ.tail (Memᴰ.tail (Memᴰ.head refl))) refl

-- U3, U10: the relations of A₃ alone, each from its later side to its earlier one, are no complete normalized
-- presentation, since 1 2 3 1 → 2 1 2 3 is missing
pub relations_alone : CompletePresentation A 3
    (rule 1 1 0 (1 ∷ 1 ∷ []) [] ∷ rule 1 2 0 (2 ∷ 2 ∷ []) [] ∷ rule 1 3 0 (3 ∷ 3 ∷ []) []
    ∷ rule 2 1 3 (1 ∷ 3 ∷ []) (3 ∷ 1 ∷ [])
    ∷ rule 3 1 2 (1 ∷ 2 ∷ 1 ∷ []) (2 ∷ 1 ∷ 2 ∷ []) ∷ rule 3 2 3 (2 ∷ 3 ∷ 2 ∷ []) (3 ∷ 2 ∷ 3 ∷ []) ∷ []) → ⊥
relations_alone c = omega (arith, as_many A 3 (omega arith) _ c, (rules_present A 3 (omega arith)).count)

-- U9, U10: the rules of D₄ without the longest, 1 2 4 3 2 1 2 → 2 1 2 4 3 2 1, are no complete normalized presentation
pub longest_left_out : CompletePresentation D 4
    (rule 1 1 0 (1 ∷ 1 ∷ []) [] ∷ rule 1 2 0 (2 ∷ 2 ∷ []) [] ∷ rule 1 3 0 (3 ∷ 3 ∷ []) [] ∷ rule 1 4 0 (4 ∷ 4 ∷ []) []
    ∷ rule 2 1 3 (1 ∷ 3 ∷ []) (3 ∷ 1 ∷ []) ∷ rule 2 1 4 (1 ∷ 4 ∷ []) (4 ∷ 1 ∷ []) ∷ rule 2 3 4 (3 ∷ 4 ∷ []) (4 ∷ 3 ∷ [])
    ∷ rule 3 1 2 (1 ∷ 2 ∷ 1 ∷ []) (2 ∷ 1 ∷ 2 ∷ []) ∷ rule 3 1 3 (1 ∷ 2 ∷ 3 ∷ 1 ∷ []) (2 ∷ 1 ∷ 2 ∷ 3 ∷ [])
    ∷ rule 3 1 4 (1 ∷ 2 ∷ 4 ∷ 1 ∷ []) (2 ∷ 1 ∷ 2 ∷ 4 ∷ []) ∷ rule 3 1 5 (1 ∷ 2 ∷ 4 ∷ 3 ∷ 1 ∷ []) (2 ∷ 1 ∷ 2 ∷ 4 ∷ 3 ∷ [])
    ∷ rule 3 2 3 (2 ∷ 3 ∷ 2 ∷ []) (3 ∷ 2 ∷ 3 ∷ []) ∷ rule 5 2 0 (2 ∷ 4 ∷ 2 ∷ []) (4 ∷ 2 ∷ 4 ∷ [])
    ∷ rule 6 2 0 (2 ∷ 4 ∷ 3 ∷ 2 ∷ 4 ∷ []) (3 ∷ 2 ∷ 4 ∷ 3 ∷ 2 ∷ []) ∷ rule 7 2 0 (2 ∷ 4 ∷ 3 ∷ 2 ∷ 3 ∷ []) (4 ∷ 2 ∷ 4 ∷ 3 ∷ 2 ∷ []) ∷ []) → ⊥
longest_left_out c = omega (arith, as_many D 4 (omega arith) _ c, (rules_present D 4 (omega arith)).count)

-- U6: in no kind and rank does a complete normalized presentation have a rule for 1 1 1 beside one for 1 1
pub cube_added : {k : Kind} {n : ℕ} → least k ≤ n → {rs : List Rule} {x y : Rule} → Memᴰ x rs → x.left ≡ 1 ∷ 1 ∷ 1 ∷ []
    → Memᴰ y rs → y.left ≡ 1 ∷ 1 ∷ [] → CompletePresentation k n rs → ⊥
cube_added {k} {n} low {rs} {x} {y} m e q f c =
    let d = left_in_own_alone k n low rs c y q x m [] (1 ∷ []) (e ∙ ap (λ (w : List ℕ). w ++ (1 ∷ [])) (sym f)) in
    omega (arith, ap length e, ap length f, ap (λ (w : Rule). length w.left) d)
