-- Which lists are the complete normalized presentations of a group: exactly those that have the sides of the rules of
-- its kind and rank, and as many rules. So the order of a list and the numbers that its rules show play no part.
-- Assumes nothing.
use mathlib.Core.Path.{◌≡◌, sym, ap, ap₂, subst, ◌∙◌}
use mathlib.Core.Bool.{true, false}
use mathlib.Core.Logic.{◌↔◌, ⊎_elim}
use mathlib.Core.List.Memᴰ
use mathlib.Core.List.{List, ◌∷◌, ◌++◌, map, Memᴰ}
use Prim.Native.Nat.{ℕ, ◌≤◌}
use native.Mathlib.Omega.{arith}
use lib.ListN.{length, drop, length-append, length-map}
use Rattle.coxeter.specs.declared.Kind.{Kind}
use Rattle.coxeter.specs.Kinds.{least}
use Rattle.coxeter.specs.Checks.{wrong_letter}
use Rattle.coxeter.specs.Dictionary.{shortlex}
use Rattle.coxeter.proofs.Congruence.{congruent_map}
use Rattle.coxeter.proofs.TestLaws.{not_true_false}
use Rattle.rules.specs.Rules.{Rule, rules, begins, fits, Irreducible}
use Rattle.rules.proofs.RuleFields.{left_determines}
use Rattle.distribution.specs.AllWindows.{In}
use Rattle.distribution.proofs.Members.{length_le_of_map}
use Rattle.presentation.specs.Reductions.{Pair, pair}
use Rattle.presentation.specs.Presentations.{CompletePresentation}
use Rattle.presentation.proofs.Entries.{in_entry, of_others, or_others}
use Rattle.presentation.proofs.Reducing.{pair_exactly, reduces_map, reduces_to_map, irreducible_stops}
use Rattle.presentation.proofs.Ending.{descending_bounded, descending_terminating}
use Rattle.presentation.proofs.Normalized.{left_fits}
use Rattle.presentation.proofs.Distinct.{rules_once}
use Rattle.presentation.proofs.Complete.{rules_complete}
use Rattle.presentation.proofs.Only.{presentations_same}

module _ (k : Kind) (n : ℕ) (low : least k ≤ n) (rs : List Rule) (same : (l r : List ℕ) → Pair rs l r ↔ Pair (rules k n) l r)
    (size : length rs ≡ length (rules k n)) where
  of_rules : CompletePresentation k n (rules k n)
  of_rules = rules_complete k n low

  forth : (l r : List ℕ) → Pair rs l r → Pair (rules k n) l r
  forth l r = (same l r).0

  back : (l r : List ℕ) → Pair (rules k n) l r → Pair rs l r
  back l r = (same l r).1

  -- the rule with the sides of an entry
  rule_of : (x : Rule) → Memᴰ x rs → (y : Rule) × Memᴰ y (rules k n) × (y.left ≡ x.left) × (y.right ≡ x.right)
  rule_of x m = (pair_exactly (rules k n) x.left x.right).0 (forth x.left x.right (pair x m))

  steps : (x : Rule) → Memᴰ x rs → (wrong_letter n x.left ≡ false) × (wrong_letter n x.right ≡ false)
  steps x m =
      let (y, q, e, f) = rule_of x m in
      let s = of_rules.steps y q in
      (ap (wrong_letter n) (sym e) ∙ s.0, ap (wrong_letter n) (sym f) ∙ s.1)

  descending : (x : Rule) → Memᴰ x rs → shortlex x.right x.left ≡ true
  descending x m =
      let (y, q, e, f) = rule_of x m in
      ap₂ shortlex (sym f) (sym e) ∙ of_rules.descending y q

  irreducible_same : (u : List ℕ) → Irreducible (rules k n) u → Irreducible rs u
  irreducible_same u i = (irreducible_stops rs u).1 (λ v r. (irreducible_stops (rules k n) u).0 i v (reduces_map forth r))

  -- another entry with the left side of an entry would be one too many
  lonely : (front : List Rule) (x : Rule) (rest : List Rule) → rs ≡ front ++ (x ∷ rest)
      → (y : Rule) → In y (front ++ rest) → y.left ≡ x.left → ⊥
  lonely front x rest e y m q =
      omega (
        arith,
        length_le_of_map (λ z. z.left) (rules k n) (map (λ z. z.left) (front ++ rest)) (rules_once k n low)
            (λ v w p s. left_determines k n v w low p s) there,
        length-map (front ++ rest) (λ z. z.left),
        length-append front rest,
        ap length e ∙ length-append front (x ∷ rest),
      )
    where
      there : (z : Rule) → In z (rules k n) → In z.left (map (λ v. v.left) (front ++ rest))
      there z p =
          let (v, s, f, g) = (pair_exactly rs z.left z.right).0 (back z.left z.right (pair z p)) in
          ⊎_elim
          (λ t. Memᴰ.cast (sym f ∙ ap (λ (w : Rule). w.left) t ∙ sym q) (Memᴰ.map (λ (w : Rule). w.left) m))
          (λ t. Memᴰ.cast (sym f) (Memᴰ.map (λ (w : Rule). w.left) t))
          (or_others front x v rest (subst (In v) e s))

  left_irreducible : (front : List Rule) (x : Rule) (rest : List Rule) → rs ≡ front ++ (x ∷ rest) → Irreducible (front ++ rest) x.left
  unfolding fits
  left_irreducible front x rest e y m p = not_true_false (fits y x.left p) (λ f.
      let (v, a, b, c) = rule_of x (subst (Memᴰ x) (sym e) (in_entry front x rest)) in
      let (w, g, h, i) = rule_of y (subst (Memᴰ y) (sym e) (of_others front x y rest m)) in
      let q = left_fits k n low v w a g p (ap₂ (λ (l u : List ℕ). begins l (drop p u)) h b ∙ f) in
      lonely front x rest e y m (sym h ∙ ap (λ (z : Rule). z.left) q ∙ b))

  complete_of_same : CompletePresentation k n rs
  complete_of_same = record {
    steps = steps;
    descending = descending;
    presenting = λ u v. (
      λ c. (of_rules.presenting u v).0 (congruent_map forth c),
      λ c. congruent_map back ((of_rules.presenting u v).1 c),
    );
    terminating = descending_terminating n rs (λ x m. (steps x m).1) descending;
    bounded = descending_bounded n rs (λ x m. (steps x m).1) descending;
    confluent = λ u v w e p q.
        let (z, s, t) = of_rules.confluent u v w e (reduces_to_map forth p) (reduces_to_map forth q) in
        (z, reduces_to_map back s, reduces_to_map back t);
    right_irreducible = λ x m.
        let (y, q, e, f) = rule_of x m in
        irreducible_same x.right (subst (Irreducible (rules k n)) f (of_rules.right_irreducible y q));
    left_irreducible = left_irreducible;
  }

-- U10: the complete normalized presentations of a group are exactly the lists with the sides of the rules of its kind
-- and rank, and as many rules
pub presentation_exactly : (k : Kind) (n : ℕ) → least k ≤ n → (rs : List Rule) → CompletePresentation k n rs
    ↔ (((l r : List ℕ) → Pair rs l r ↔ Pair (rules k n) l r) × (length rs ≡ length (rules k n)))
presentation_exactly k n low rs = (
  λ c. presentations_same k n low rs (rules k n) c (rules_complete k n low),
  λ (same, size). complete_of_same k n low rs same size,
)
