-- The theorem on the rules in plain terms (U2 to U11 of the specification), of every kind and every rank for which the
-- claim `RulesPresentHolds` holds, each by that claim alone: every field is used here as strongly as it is stated, so
-- that a weaker record would not do.
--
-- Sections: complete; normalized; normal forms; no other list; rewrites; how many rules.
-- Assumes nothing.
use mathlib.Core.Path.{◌≡◌, refl, sym, ◌∙◌}
use mathlib.Core.Bool.{true, false}
use mathlib.Core.Logic.{◌↔◌, ◌⊎◌, ⊎_elim}
use mathlib.Core.List.Memᴰ
use mathlib.Core.List.{List, [], ◌∷◌, ◌++◌, append-nil, Memᴰ}
use mathlib.Core.Option.{some}
use Prim.Native.Nat.{ℕ, zero, suc, ◌+◌, ◌-◌, ◌*◌, ◌/◌, ◌≤◌, ◌<◌}
use native.Mathlib.Nat.{suc-mul, mul-suc, mul-le-mul_right}
use native.Mathlib.Omega.{arith}
use lib.ListN.{length}
use Rattle.coxeter.specs.declared.Kind.{Kind}
use Rattle.coxeter.specs.declared.Kind.TheVariants.{A, B, D}
use Rattle.coxeter.specs.Kinds.{least}
use Rattle.coxeter.specs.Checks.{wrong_letter}
use Rattle.coxeter.specs.Dictionary.{before}
use Rattle.coxeter.specs.Relations.{Relation, Congruent}
use Rattle.coxeter.specs.NormalForm.{blocks, Indices, word_normal_form}
use Rattle.coxeter.proofs.Orders.{shortlex_exactly}
use Rattle.rules.specs.Rules.{Rule, rules, first_fitting, rewritten, Irreducible}
use Rattle.rules.proofs.Ending.{letters_of_accepted}
use Rattle.distribution.specs.AllWindows.{In, Once}
use Rattle.distribution.specs.Distribution.{order}
use Rattle.presentation.specs.Reductions.{Pair, pair, Reduces, Reductions, ReducesTo}
use Rattle.presentation.specs.Presentations.{CompletePresentation, RulesPresent, RulesPresentHolds}
use Rattle.presentation.proofs.Entries.{once_of_others}
use Rattle.presentation.proofs.Reducing.{pair_exactly, irreducible_exactly}

-- n (n + 1) is even
pronic : (n : ℕ) → (m : ℕ) × (n * n + n ≡ 2 * m)
pronic zero = (0, refl)
pronic (suc n) = let (m, e) = pronic n in (m + n + 1, omega (arith, suc-mul n (suc n), mul-suc n n))

-- (3n² − 5n + 4) / 2 is whole
whole : (n c : ℕ) → 2 ≤ n → c ≡ (3 * (n * n) - 5 * n + 4) / 2 → 2 * c + 5 * n ≡ 3 * (n * n) + 4
whole n c h e =
    let (m, q) = pronic n in
    let l = mul-le-mul_right n h in
    let half : (3 * (n * n) - 5 * n + 4) / 2 ≡ 3 * m - 4 * n + 2 = halved (3 * m - 4 * n + 2) (3 * (n * n) - 5 * n + 4) (omega arith) in
    let d : c ≡ 3 * m - 4 * n + 2 = e ∙ half in
    omega arith
  where
    halved : (y x : ℕ) → x ≡ 2 * y → x / 2 ≡ y
    halved y x e = omega arith

module _ (holds : RulesPresentHolds) (k : Kind) (n : ℕ) (low : least k ≤ n) where
  claim : RulesPresent k n
  claim = holds k n low

  complete : CompletePresentation k n (rules k n)
  complete = claim.complete

  -- ---- complete

  -- U2: no word of steps can be reduced for ever
  pub no_endless_chain : (f : ℕ → List ℕ) → wrong_letter n (f 0) ≡ false → ((t : ℕ) → Reduces (rules k n) (f t) (f (suc t))) → ⊥
  no_endless_chain = complete.terminating

  -- U2: for each word of steps there is a number that no chain of its reductions exceeds
  pub one_number : (u : List ℕ) → wrong_letter n u ≡ false → (most : ℕ) × ((t : ℕ) (v : List ℕ) → Reductions (rules k n) t u v → t ≤ most)
  one_number = complete.bounded

  -- U3: if a word of steps can be reduced to two words, both can be reduced to one
  pub common_descendant : (u v w : List ℕ) → wrong_letter n u ≡ false → ReducesTo (rules k n) u v → ReducesTo (rules k n) u w
      → (z : List ℕ) × ReducesTo (rules k n) v z × ReducesTo (rules k n) w z
  common_descendant = complete.confluent

  -- U4: the rules turn one word into another, each used in either direction, exactly if the relations do
  pub congruent_as_relations : (u v : List ℕ) → Congruent (Pair (rules k n)) u v ↔ Congruent (Relation k n) u v
  congruent_as_relations = complete.presenting

  -- ---- normalized

  module _ (x : Rule) (listed : Memᴰ x (rules k n)) where
    -- U5: the letters of both sides are steps
    pub letters_of_sides : (a : ℕ) → In a (x.left ++ x.right) → (1 ≤ a) × (a ≤ n)
    letters_of_sides a m =
        let s = complete.steps x listed in
        ⊎_elim (letters_of_accepted n x.left s.0 a) (letters_of_accepted n x.right s.1 a) (Memᴰ.append_cases x.left m)

    -- U5: the right side is shorter, or as long and earlier in the dictionary
    pub right_earlier : (length x.right < length x.left)
        ⊎ ((length x.right ≡ length x.left) × (before x.right x.left ≡ true))
    right_earlier = (shortlex_exactly x.right x.left).0 (complete.descending x listed)

    -- U6: no left side stands in the right side
    pub no_left_in_right : (y : Rule) → Memᴰ y (rules k n) → (front rest : List ℕ) → x.right ≡ front ++ (y.left ++ rest) → ⊥
    no_left_in_right = (irreducible_exactly (rules k n) x.right).0 (complete.right_irreducible x listed)

  -- U6: in a left side stands the left side of no other entry of the list
  pub no_other_left_in_left : (earlier : List Rule) (x : Rule) (later : List Rule) → rules k n ≡ earlier ++ (x ∷ later)
      → (y : Rule) → Memᴰ y (earlier ++ later) → (front rest : List ℕ) → x.left ≡ front ++ (y.left ++ rest) → ⊥
  no_other_left_in_left earlier x later e = (irreducible_exactly (earlier ++ later) x.left).0 (complete.left_irreducible earlier x later e)

  -- U6: no rule stands twice in the list
  pub no_rule_twice : Once (rules k n)
  no_rule_twice = once_of_others (rules k n) (λ front x rest e m.
      no_other_left_in_left front x rest e x m [] [] (sym (append-nil x.left)))

  -- ---- normal forms

  -- U7: among the descendants of a word of steps there is one irreducible word, and only one: its normal form
  pub one_irreducible_descendant : (u : List ℕ) → wrong_letter n u ≡ false
      → ReducesTo (rules k n) u (word_normal_form k n u) × Irreducible (rules k n) (word_normal_form k n u)
      × ((v : List ℕ) → ReducesTo (rules k n) u v → Irreducible (rules k n) v → v ≡ word_normal_form k n u)
  one_irreducible_descendant u e =
      let f = (claim.normal-form u (word_normal_form k n u) e).1 refl in
      (f.0, f.1, λ v p i. (claim.normal-form u v e).0 (p, i))

  -- U7, N9: a word of steps is irreducible exactly if it is made of one block for each level
  pub irreducible_exactly_blocks : (u : List ℕ) → wrong_letter n u ≡ false
      → Irreducible (rules k n) u ↔ ((js : List ℕ) × Indices k n 1 js × (u ≡ blocks k n 1 js))
  irreducible_exactly_blocks = claim.block_words

  -- U8, Y3: there are (n + 1)! irreducible words in kind A, 2ⁿ n! in B and half of that in D
  pub irreducible_words_counted : (ws : List (List ℕ)) × Once ws
      × ((u : List ℕ) → In u ws ↔ ((wrong_letter n u ≡ false) × Irreducible (rules k n) u)) × (length ws ≡ order k n)
  irreducible_words_counted = let w = claim.irreducible_words in (w.words, w.once, w.exactly, w.number)

  -- ---- no other list

  -- U10: every rule of a complete normalized presentation has the sides of one of these rules
  pub no_other-rule : (rs : List Rule) → CompletePresentation k n rs → (x : Rule) → Memᴰ x rs
      → (y : Rule) × Memᴰ y (rules k n) × (y.left ≡ x.left) × (y.right ≡ x.right)
  no_other-rule rs c x m = (pair_exactly (rules k n) x.left x.right).0 ((((claim.only rs).0 c).0 x.left x.right).0 (pair x m))

  -- U10: every one of these rules has its sides in each complete normalized presentation
  pub no_rule_missing : (rs : List Rule) → CompletePresentation k n rs → (x : Rule) → Memᴰ x (rules k n)
      → (y : Rule) × Memᴰ y rs × (y.left ≡ x.left) × (y.right ≡ x.right)
  no_rule_missing rs c x m = (pair_exactly rs x.left x.right).0 ((((claim.only rs).0 c).0 x.left x.right).1 (pair x m))

  -- U10: a list with the same sides and as many rules is a complete normalized presentation, in whatever order
  pub any_order : (rs : List Rule) → ((l r : List ℕ) → Pair rs l r ↔ Pair (rules k n) l r) → length rs ≡ length (rules k n)
      → CompletePresentation k n rs
  any_order rs same size = (claim.only rs).1 (same, size)

  -- ---- rewrites

  -- U11: one reduction is one rewrite at some place, by the rule that the call finds there
  pub reduction_is_rewrite : (u v : List ℕ) → Reduces (rules k n) u v
      ↔ ((p : ℕ) × (x : Rule) × (first_fitting (rules k n) u p ≡ some x) × (rewritten x u p ≡ v))
  reduction_is_rewrite = claim.rewrite

-- ---- how many rules

module _ (holds : RulesPresentHolds) (n : ℕ) where
  -- U9: kind A has n² − n + 1 rules
  pub rules_of_A : 1 ≤ n → length (rules A n) + n ≡ n * n + 1
  rules_of_A h = omega (arith, (holds A n h).count, mul-le-mul_right n h)

  -- U9: kind B has (3n² − 5n + 4) / 2 rules
  pub rules_of_B : 2 ≤ n → 2 * length (rules B n) + 5 * n ≡ 3 * (n * n) + 4
  rules_of_B h = whole n (length (rules B n)) h (holds B n h).count

  -- U9: kind D has (3n² − 5n + 4) / 2 rules
  pub rules_of_D : 4 ≤ n → 2 * length (rules D n) + 5 * n ≡ 3 * (n * n) + 4
  rules_of_D h = whole n (length (rules D n)) (omega arith) (holds D n h).count

-- J8, U9: D₄ has 16 rules
pub sixteen_rules : RulesPresentHolds → length (rules D 4) ≡ 16
sixteen_rules holds = (holds D 4 (omega arith)).count
