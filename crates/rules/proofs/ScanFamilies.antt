-- The search finds every rule: each left side is [i,j] x with a letter x that leaves the way of the blocks of level i,
-- so the search of a word that begins with it ends there. LeavingLetters.antt has the rule of such a letter.
--
-- Sections: every rule ends so; what a rewrite shows of a rule; the search finds every rule.
-- Assumes nothing.
use mathlib.Core.Path.{◌≡◌, refl, sym, ap, ◌∙◌}
use mathlib.Core.Logic.{inl, inr}
use mathlib.Core.List.{List, [], ◌∷◌, ◌++◌, append_assoc}
use mathlib.Core.Option.{some}
use Prim.Native.Nat.{ℕ, suc, ◌+◌, ◌-◌, ◌*◌, ◌≤◌, ◌<◌}
use native.Mathlib.Decide.{ℕ_discrete}
use native.Mathlib.Omega.{arith}
use lib.ListN.{length, take, length-append, length-take}
use lib.Seq.{take-append_seam}
use borrow.Author.Tests.{eq-eqb, ne_eqb}
use Rattle.coxeter.specs.declared.Kind.{Kind}
use Rattle.coxeter.specs.declared.Kind.TheVariants.{A, B, D}
use Rattle.coxeter.specs.Kinds.{least}
use Rattle.coxeter.specs.NormalForm.{block, levels, last_index}
use Rattle.rules.specs.Rules.{Rule}
use Rattle.rules.proofs.Families.{Commutes, Carries, Turns, IsD}
use Rattle.rules.proofs.RuleList.{Listed, square, commutation, carry, turn, five, six, seven}
use Rattle.rules.proofs.Scan.{fork, family_at, shown_rule, right_length, rule_at, found}
use Rattle.rules.proofs.Scan.{walk, scan, Leaving, next_index_leave, Along, start, further, last_index-top, scan-block}
use Rattle.rules.proofs.LeavingLetters.{family_at_square, family_at_commute, family_at_carry, family_at_five, family_at_turn, family_at_six}
use Rattle.rules.proofs.LeavingLetters.{family_at_seven, rule_at_square, rule_at_commute, rule_at_carry, rule_at_turn, rule_at_five, rule_at_six}
use Rattle.rules.proofs.LeavingLetters.{rule_at_seven}

-- ---- every rule ends so

-- the rule's left side is [i,j] x with a letter that leaves, and the search knows it
pub record Ends (k : Kind) (n : ℕ) (r : Rule) : Type 0 where
  pub i : ℕ
  pub j : ℕ
  pub x : ℕ
  pub f : ℕ
  pub along : Along k n i j
  pub letter : x ≤ n
  pub leaving : Leaving n (levels k n) (last_index k n i) j x
  pub family : family_at n (fork k n) i j x ≡ f
  pub nonzero : f ≡ 0 → ⊥
  pub shape : r ≡ rule_at k n i j x f

commutes_numbers : (k : Kind) (n i j : ℕ) → j ≤ n → Commutes k n i j
    → (i < j) × (j < n → j ≡ suc i → ⊥) × (j ≡ n → suc i ≡ levels k n → ⊥)
commutes_numbers A n i j l g = omega arith
commutes_numbers B n i j l g = omega arith
commutes_numbers D n i j l (inl g) = omega arith
commutes_numbers D n i j l (inr (inl g)) = omega arith
commutes_numbers D n i j l (inr (inr g)) = omega arith

carries_numbers : (k : Kind) (n i j : ℕ) → 1 ≤ i → i < j → Carries k n i j
    → (i < levels k n) × (j ≤ last_index k n i) × (i + j < 2 * n) × (n ≤ j → j < last_index k n i → suc (i + j) ≡ 2 * n → ⊥) × (i ≡ fork k n → j ≡ n → ⊥)
carries_numbers A n i j o l g = omega arith
carries_numbers B n i j o l g = omega arith
carries_numbers D n i j o l (inl g) = omega arith
carries_numbers D n i j o l (inr g) = omega arith

turns_numbers : (k : Kind) (n i : ℕ) → 1 ≤ i → Turns k n i
    → (i < levels k n) × (i < n) × (last_index k n i ≡ 2 * n - i) × (i ≡ fork k n → ⊥)
turns_numbers A n i o g = absurd g
turns_numbers B n i o g = omega arith
turns_numbers D n i o g = omega arith

fork_numbers : (k : Kind) (n a : ℕ) → least k ≤ n → IsD k → a + 2 ≡ n → (1 ≤ a) × (a < levels k n) × (last_index k n a ≡ n + 2) × (a ≡ fork k n)
fork_numbers A n a h d e = absurd d
fork_numbers B n a h d e = absurd d
fork_numbers D n a h d e = omega arith

pub ends_of_listed : (k : Kind) (n : ℕ) {r : Rule} → least k ≤ n → Listed k n r → Ends k n r
ends_of_listed k n h (square {i} o l) = record {
  i = i;
  j = i;
  x = i;
  f = 1;
  along = start o l refl;
  letter = l;
  leaving = record { not_up = omega arith; not_top = omega arith; not_down = λ a b. omega (arith, last_index-top k n i (omega arith)) };
  family = family_at_square n (fork k n) i i i refl refl;
  nonzero = omega arith;
  shape = sym (rule_at_square k n i h l);
}
ends_of_listed k n h (commutation {i} {j} o l g) =
    let q = commutes_numbers k n i j l g in
    record {
      i = i;
      j = i;
      x = j;
      f = 2;
      along = start o (omega arith) refl;
      letter = l;
      leaving = record { not_up = λ a b. q.1 b; not_top = λ a b. q.2 b; not_down = λ a. omega arith };
      family = family_at_commute n (fork k n) i i j refl q.0;
      nonzero = omega arith;
      shape = sym (rule_at_commute k n i j h (omega arith));
    }
ends_of_listed k n h (carry {i} {j} o l g) =
    let q = carries_numbers k n i j o l g in
    record {
      i = i;
      j = j;
      x = i;
      f = 3;
      along = further o q.0 l q.1;
      letter = omega arith;
      leaving = record { not_up = omega arith; not_top = omega arith; not_down = q.3 };
      family = family_at_carry n (fork k n) i j i l (omega arith) refl q.4;
      nonzero = omega arith;
      shape = sym (rule_at_carry k n i j);
    }
ends_of_listed k n h (turn {i} o g) =
    let q = turns_numbers k n i o g in
    record {
      i = i;
      j = 2 * n - i;
      x = i + 1;
      f = 4;
      along = further o q.0 (omega arith) (omega arith);
      letter = omega arith;
      leaving = record { not_up = omega arith; not_top = omega arith; not_down = omega arith };
      family = family_at_turn n (fork k n) i (2 * n - i) (i + 1) (omega arith) (omega arith) q.3 refl;
      nonzero = omega arith;
      shape = sym (rule_at_turn k n i);
    }
ends_of_listed k n h (five {a} d e) =
    let q = fork_numbers k n a h d e in
    record {
      i = a;
      j = n;
      x = a;
      f = 5;
      along = further q.0 q.1 (omega arith) (omega arith);
      letter = omega arith;
      leaving = record { not_up = omega arith; not_top = omega arith; not_down = omega arith };
      family = family_at_five n (fork k n) a n a (omega arith) (omega arith) refl q.3 refl;
      nonzero = omega arith;
      shape = sym (rule_at_five k n a h d e);
    }
ends_of_listed k n h (six {a} d e) =
    let q = fork_numbers k n a h d e in
    record {
      i = a;
      j = n + 2;
      x = n;
      f = 6;
      along = further q.0 q.1 (omega arith) (omega arith);
      letter = omega arith;
      leaving = record { not_up = omega arith; not_top = omega arith; not_down = omega arith };
      family = family_at_six n (fork k n) a (n + 2) n (omega arith) (omega arith) q.3 refl;
      nonzero = omega arith;
      shape = sym (rule_at_six k n a h d e);
    }
ends_of_listed k n h (seven {a} d e) =
    let q = fork_numbers k n a h d e in
    record {
      i = a;
      j = n + 2;
      x = a + 1;
      f = 7;
      along = further q.0 q.1 (omega arith) (omega arith);
      letter = omega arith;
      leaving = record { not_up = omega arith; not_top = omega arith; not_down = omega arith };
      family = family_at_seven n (fork k n) a (n + 2) (a + 1) (omega arith) (omega arith) q.3 (omega arith) refl;
      nonzero = omega arith;
      shape = sym (rule_at_seven k n a h d e);
    }

-- ---- what a rewrite shows of a rule

take-front : (b : List ℕ) (x : ℕ) → take (length (b ++ (x ∷ [])) - 1) (b ++ (x ∷ [])) ≡ b
take-front b x =
    let e : length (b ++ (x ∷ [])) - 1 ≡ length b = omega (arith, length-append b (x ∷ [])) in
    rw e (take-append_seam b (x ∷ []))

-- a rule is known by its family, i, j and its left side
pub shown_of_listed : (k : Kind) (n : ℕ) (r : Rule) → least k ≤ n → Listed k n r → r ≡ shown_rule n r.family r.i r.j r.left
unfolding rule_at shown_rule
shown_of_listed k n r h w =
    let e = ends_of_listed k n h w in
    rw (e.shape, take-front (block k n e.i e.j) e.x)

pub length_right : (n f i j : ℕ) (s : List ℕ) → 1 ≤ length s → length (shown_rule n f i j s).right ≡ right_length f (length s)
unfolding shown_rule right_length
length_right n f i j s h = elim (ℕ_discrete f 1) [
  | yes e ↦ rw (eq-eqb f 1 e)
  | no e ↦ rw (ne_eqb f 1 e) (simp length-take (omega arith))
]

-- ---- the search finds every rule

pub left_of : (k : Kind) (n : ℕ) (r : Rule) (i j x f : ℕ) → r ≡ rule_at k n i j x f → r.left ≡ block k n i j ++ (x ∷ [])
unfolding rule_at
left_of k n r i j x f e = ap (λ (q : Rule). q.left) e

scan-ends : (k : Kind) (n : ℕ) (r : Rule) → least k ≤ n → Ends k n r → (y : List ℕ) → scan k n (r.left ++ y) ≡ some r
unfolding walk found
scan-ends k n r h w y =
    let i = w.i in
    let j = w.j in
    let x = w.x in
    let f = w.f in
    let b : r.left ≡ block k n i j ++ (x ∷ []) = left_of k n r i j x f w.shape in
    ap (λ (u : List ℕ). scan k n (u ++ y)) b
    ∙ ap (scan k n) (append_assoc (block k n i j) (x ∷ []) y)
    ∙ scan-block k n i j h w.along (x ∷ y)
    ∙ rw (next_index_leave n (levels k n) (last_index k n i) j x w.letter w.leaving, w.family, ne_eqb f 0 w.nonzero) (ap some (sym w.shape))

pub scan_left : (k : Kind) (n : ℕ) (r : Rule) → least k ≤ n → Listed k n r → (y : List ℕ) → scan k n (r.left ++ y) ≡ some r
scan_left k n r h w y = scan-ends k n r h (ends_of_listed k n h w) y
