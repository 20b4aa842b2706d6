-- The rules are the one complete normalized presentation (section U of the specification), as one claim for every
-- kind and every rank from its lowest on, about words of any length. Its proof is `rules_present` of
-- proofs/Presentations.antt.
use Rattle.std.specs.Prelude.{◌≡◌, true, false, ◌↔◌, ℕ, suc, ◌+◌, ◌-◌, ◌*◌, ◌/◌, ◌≤◌, length}
use mathlib.Core.List.{List, ◌∷◌, ◌++◌, Memᴰ}
use Rattle.std.proofs.Math.Option.{some}
use Rattle.coxeter.specs.declared.Kind.{Kind}
use Rattle.coxeter.specs.declared.Kind.TheVariants.{A, B, D}
use Rattle.coxeter.specs.Kinds.{least}
use Rattle.coxeter.specs.Checks.{wrong_letter}
use Rattle.coxeter.specs.Dictionary.{shortlex}
use Rattle.coxeter.specs.Relations.{Relation, Congruent}
use Rattle.coxeter.specs.NormalForm.{blocks, Indices, word_normal_form}
use Rattle.rules.specs.Rules.{Rule, rules, first_fitting, rewritten, Irreducible}
use Rattle.distribution.specs.AllWindows.{In, Once}
use Rattle.distribution.specs.Distribution.{order}
use Rattle.presentation.specs.Reductions.{Pair, Reduces, Reductions, ReducesTo}

-- U2 to U6: the list is a complete normalized presentation of the group, for the order by length and dictionary
pub record CompletePresentation (k : Kind) (n : ℕ) (rs : List Rule) : Type 0 where
  -- U5, K6: the letters of both sides are steps
  pub steps : (x : Rule) → Memᴰ x rs → (wrong_letter n x.left ≡ false) × (wrong_letter n x.right ≡ false)
  -- U5: each right side is shorter than its left side, or as long and earlier in the dictionary
  pub descending : (x : Rule) → Memᴰ x rs → shortlex x.right x.left ≡ true
  -- U4: used in either direction, the rules turn a word into just those into which the relations turn it
  pub presenting : (u v : List ℕ) → Congruent (Pair rs) u v ↔ Congruent (Relation k n) u v
  -- U2: no chain of reductions of a word of steps goes on for ever
  pub terminating : (f : ℕ → List ℕ) → wrong_letter n (f 0) ≡ false → ((t : ℕ) → Reduces rs (f t) (f (suc t))) → ⊥
  -- U2: one number for each word, which no chain of its reductions exceeds
  pub bounded : (u : List ℕ) → wrong_letter n u ≡ false → (most : ℕ) × ((t : ℕ) (v : List ℕ) → Reductions rs t u v → t ≤ most)
  -- U3: two descendants of a word have a descendant in common
  pub confluent : (u v w : List ℕ) → wrong_letter n u ≡ false → ReducesTo rs u v → ReducesTo rs u w
      → (z : List ℕ) × ReducesTo rs v z × ReducesTo rs w z
  -- U6: no rule fits into a right side
  pub right_irreducible : (x : Rule) → Memᴰ x rs → Irreducible rs x.right
  -- U6: none of the other entries of the list fits into a left side, so that no rule stands twice either
  pub left_irreducible : (front : List Rule) (x : Rule) (rest : List Rule) → rs ≡ front ++ (x ∷ rest) → Irreducible (front ++ rest) x.left

-- U8: the irreducible words of a kind and rank as a list
pub record IrreducibleWords (k : Kind) (n : ℕ) : Type 0 where
  pub words : List (List ℕ)
  -- U8: none twice
  pub once : Once words
  -- U8: all of them, and nothing else
  pub exactly : (u : List ℕ) → In u words ↔ ((wrong_letter n u ≡ false) × Irreducible (rules k n) u)
  -- U8, Y3: as many as there are windows
  pub number : length words ≡ order k n

-- U9: how many rules there are: n² − n + 1 in A, (3n² − 5n + 4) / 2 in B and D
abbrev pub rule_count : Kind → ℕ → ℕ
rule_count A n = n * n - n + 1
rule_count B n = (3 * (n * n) - 5 * n + 4) / 2
rule_count D n = (3 * (n * n) - 5 * n + 4) / 2

-- U2 to U11: all that is claimed of the rules of one kind and rank
pub record RulesPresent (k : Kind) (n : ℕ) : Type 0 where
  -- U2 to U6
  pub complete : CompletePresentation k n (rules k n)
  -- U10: the only one, whatever the order and the numbers that its rules show: a list is a complete normalized
  -- presentation exactly if it has the sides of these rules, and as many rules
  pub only : (rs : List Rule) → CompletePresentation k n rs
      ↔ (((l r : List ℕ) → Pair rs l r ↔ Pair (rules k n) l r) × (length rs ≡ length (rules k n)))
  -- U7: of the descendants of a word just its normal form is irreducible
  pub normal-form : (u v : List ℕ) → wrong_letter n u ≡ false
      → (ReducesTo (rules k n) u v × Irreducible (rules k n) v) ↔ (v ≡ word_normal_form k n u)
  -- U7, N9: the irreducible words are those made of blocks
  pub block_words : (u : List ℕ) → wrong_letter n u ≡ false
      → Irreducible (rules k n) u ↔ ((js : List ℕ) × Indices k n 1 js × (u ≡ blocks k n 1 js))
  -- U8
  pub irreducible_words : IrreducibleWords k n
  -- U9
  pub count : length (rules k n) ≡ rule_count k n
  -- U11: one reduction is one rewrite at some place: the rule that the call finds there, and what it makes of the word
  pub rewrite : (u v : List ℕ) → Reduces (rules k n) u v
      ↔ ((p : ℕ) × (x : Rule) × (first_fitting (rules k n) u p ≡ some x) × (rewritten x u p ≡ v))

-- U12: the claim, for every kind and every rank from its lowest on
abbrev pub RulesPresentHolds : Type 0
RulesPresentHolds = (k : Kind) (n : ℕ) → least k ≤ n → RulesPresent k n
