-- The family and the rule of a letter that leaves the way of a block.
--
-- Sections: the family of a letter that leaves; the rule of a letter that leaves.
-- Assumes nothing.
use mathlib.Core.Path.{◌≡◌, refl, ap, ◌∙◌}
use mathlib.Core.List.{List, [], ◌∷◌, ◌++◌}
use Prim.Native.Nat.{ℕ, ◌+◌, ◌-◌, ◌*◌, ◌≤◌, ◌<◌}
use native.Mathlib.Decide.{ℕ_discrete}
use native.Mathlib.Omega.{arith}
use borrow.Author.Tests.{eq-eqb, ne_eqb, lt-ltb, le-ltb}
use Rattle.coxeter.specs.declared.Kind.{Kind}
use Rattle.coxeter.specs.declared.Kind.TheVariants.{A, B, D}
use Rattle.coxeter.specs.Kinds.{least}
use Rattle.coxeter.specs.NormalForm.{block}
use Rattle.rules.specs.Rules.{rule, commuted, carried, turned}
use Rattle.rules.proofs.Families.{IsD}
use Rattle.rules.proofs.Letters.{block-fork, block_one}
use Rattle.rules.proofs.Extending.{block-top}
use Rattle.rules.proofs.Scan.{family_at_end, family_at, shown_index, first_letter, rule_at}

-- ---- the family of a letter that leaves

module _ (n f i j x : ℕ) where
  pub family_at_square : j ≡ i → x ≡ i → family_at n f i j x ≡ 1
  unfolding family_at
  family_at_square e g = rw (eq-eqb j i e, eq-eqb x i g)

  pub family_at_commute : j ≡ i → i < x → family_at n f i j x ≡ 2
  unfolding family_at
  family_at_commute e g = rw (eq-eqb j i e, ne_eqb x i (omega arith), lt-ltb i x g)

  pub family_at-below : j ≡ i → x < i → family_at n f i j x ≡ 0
  unfolding family_at
  family_at-below e g = rw (eq-eqb j i e, ne_eqb x i (omega arith), le-ltb i x (omega arith))

  -- families 3 and 5
  pub family_at_carry : i < j → (i + j ≡ 2 * n → ⊥) → x ≡ i → (i ≡ f → j ≡ n → ⊥) → family_at n f i j x ≡ 3
  unfolding family_at
  family_at_carry h g e q = elim (ℕ_discrete i f) [
    | yes t ↦ rw (ne_eqb j i (omega arith), ne_eqb (i + j) (2 * n) g, eq-eqb x i e, eq-eqb i f t, ne_eqb j n (q t))
    | no t ↦ rw (ne_eqb j i (omega arith), ne_eqb (i + j) (2 * n) g, eq-eqb x i e, ne_eqb i f t)
  ]

  pub family_at_five : i < j → (i + j ≡ 2 * n → ⊥) → x ≡ i → i ≡ f → j ≡ n → family_at n f i j x ≡ 5
  unfolding family_at
  family_at_five h g e q t = rw (ne_eqb j i (omega arith), ne_eqb (i + j) (2 * n) g, eq-eqb x i e, eq-eqb i f q, eq-eqb j n t)

  pub family_at_inside : i < j → (i + j ≡ 2 * n → ⊥) → (x ≡ i → ⊥) → family_at n f i j x ≡ 0
  unfolding family_at
  family_at_inside h g e = rw (ne_eqb j i (omega arith), ne_eqb (i + j) (2 * n) g, ne_eqb x i e)

  -- families 4, 6 and 7
  pub family_at_turn : i < j → i + j ≡ 2 * n → (i ≡ f → ⊥) → x ≡ i + 1 → family_at n f i j x ≡ 4
  unfolding family_at family_at_end
  family_at_turn h g e q = rw (ne_eqb j i (omega arith), eq-eqb (i + j) (2 * n) g, ne_eqb i f e, eq-eqb x (i + 1) q)

  pub family_at_six : i < j → i + j ≡ 2 * n → i ≡ f → x ≡ n → family_at n f i j x ≡ 6
  unfolding family_at family_at_end
  family_at_six h g e q = rw (ne_eqb j i (omega arith), eq-eqb (i + j) (2 * n) g, eq-eqb i f e, eq-eqb x n q)

  pub family_at_seven : i < j → i + j ≡ 2 * n → i ≡ f → (x ≡ n → ⊥) → x ≡ i + 1 → family_at n f i j x ≡ 7
  unfolding family_at family_at_end
  family_at_seven h g e q t = rw (ne_eqb j i (omega arith), eq-eqb (i + j) (2 * n) g, eq-eqb i f e, ne_eqb x n q, eq-eqb x (i + 1) t)

  pub family_at-after : i < j → i + j ≡ 2 * n → (i ≡ f → x ≡ n → ⊥) → (x ≡ i + 1 → ⊥) → family_at n f i j x ≡ 0
  unfolding family_at family_at_end
  family_at-after h g e q = elim (ℕ_discrete i f) [
    | yes t ↦ rw (ne_eqb j i (omega arith), eq-eqb (i + j) (2 * n) g, eq-eqb i f t, ne_eqb x n (e t), ne_eqb x (i + 1) q)
    | no t ↦ rw (ne_eqb j i (omega arith), eq-eqb (i + j) (2 * n) g, ne_eqb i f t, ne_eqb x (i + 1) q)
  ]

-- ---- the rule of a letter that leaves

pub rule_at_square : (k : Kind) (n i : ℕ) → least k ≤ n → i ≤ n → rule_at k n i i i 1 ≡ rule 1 i 0 (i ∷ i ∷ []) []
unfolding rule_at shown_index
rule_at_square k n i h l = rw (block_one k n i h l)

pub rule_at_commute : (k : Kind) (n i x : ℕ) → least k ≤ n → i ≤ n → rule_at k n i i x 2 ≡ commuted i x
unfolding rule_at shown_index first_letter
rule_at_commute k n i x h l = rw (block_one k n i h l)

pub rule_at_carry : (k : Kind) (n i j : ℕ) → rule_at k n i j i 3 ≡ carried k n i j
unfolding rule_at shown_index first_letter
rule_at_carry k n i j = refl

pub rule_at_turn : (k : Kind) (n i : ℕ) → rule_at k n i (2 * n - i) (i + 1) 4 ≡ turned k n i
unfolding rule_at shown_index first_letter
rule_at_turn k n i = refl

pub rule_at_five : (k : Kind) (n a : ℕ) → least k ≤ n → IsD k → a + 2 ≡ n → rule_at k n a n a 5 ≡ rule 5 a 0 (a ∷ n ∷ a ∷ []) (n ∷ a ∷ n ∷ [])
unfolding rule_at shown_index first_letter
rule_at_five A n a h d e = absurd d
rule_at_five B n a h d e = absurd d
rule_at_five D n a h d e =
    let q : block D n a n ≡ a ∷ n ∷ [] =
    block-top D n {i = a} {j = a} (omega arith) (omega arith) (omega arith)
    ∙ ap (λ (w : List ℕ). w ++ (n ∷ [])) (block_one D n a h (omega arith)) in
    rw q

pub rule_at_six : (k : Kind) (n a : ℕ) → least k ≤ n → IsD k → a + 2 ≡ n
    → rule_at k n a (n + 2) n 6 ≡ rule 6 a 0 (a ∷ n ∷ (a + 1) ∷ a ∷ n ∷ []) ((a + 1) ∷ a ∷ n ∷ (a + 1) ∷ a ∷ [])
unfolding rule_at shown_index first_letter
rule_at_six A n a h d e = absurd d
rule_at_six B n a h d e = absurd d
rule_at_six D n a h d e = let q : n - 1 ≡ a + 1 = omega arith in rw (block-fork n a (omega arith) e, q)

pub rule_at_seven : (k : Kind) (n a : ℕ) → least k ≤ n → IsD k → a + 2 ≡ n
    → rule_at k n a (n + 2) (a + 1) 7 ≡ rule 7 a 0 (a ∷ n ∷ (a + 1) ∷ a ∷ (a + 1) ∷ []) (n ∷ a ∷ n ∷ (a + 1) ∷ a ∷ [])
unfolding rule_at shown_index first_letter
rule_at_seven A n a h d e = absurd d
rule_at_seven B n a h d e = absurd d
rule_at_seven D n a h d e = rw (block-fork n a (omega arith) e)
