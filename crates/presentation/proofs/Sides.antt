-- The sides of a rule of a kind and rank: both are made of steps, and the right side comes before the left one in the
-- order by length and dictionary.
-- Assumes nothing.
use mathlib.Core.Path.{◌≡◌, sym, ap, subst, subst₂, ◌∙◌}
use mathlib.Core.Bool.{true, false}
use mathlib.Core.List.{List, [], ◌∷◌, ◌++◌, append-nil, Memᴰ}
use Prim.Native.Nat.{ℕ, suc, ◌-◌, ◌≤◌}
use native.Mathlib.Omega.{arith}
use lib.ListN.{length, get_or, length-append, get_or-append}
use lib.Seq.{get_or-append_seam}
use Rattle.coxeter.specs.declared.Kind.{Kind}
use Rattle.coxeter.specs.Kinds.{least}
use Rattle.coxeter.specs.Checks.{wrong_letter}
use Rattle.coxeter.specs.Dictionary.{shortlex}
use Rattle.coxeter.specs.NormalForm.{block}
use Rattle.coxeter.proofs.NormalForms.{wrong_letter-block}
use Rattle.coxeter.proofs.Relations.{wrong_letter_nil, wrong_letter_cons, letters-append, congruent_letters}
use Rattle.rules.specs.Rules.{Rule, rules}
use Rattle.coxeter.proofs.CountedPairs.{mem_get_or}
use Rattle.rules.proofs.BlockWords.{along_nonempty}
use Rattle.rules.proofs.Ending.{letters_of_accepted, rule-shortlex}
use Rattle.rules.proofs.Letters.{block_one}
use Rattle.rules.proofs.RuleList.{rule_of_list, listed_of_mem}
use Rattle.rules.proofs.Scan.{Along, start, further}
use Rattle.rules.proofs.ScanFamilies.{Ends, ends_of_listed, left_of}
use Rattle.rules.proofs.Theorems.{rule_congruent}
use Rattle.traces.proofs.LeftSideShapes.{Shape}
use Rattle.traces.proofs.LeftSides.{shape_of_rule}
use Rattle.presentation.proofs.Normalized.{lower_le_right}

-- the block of a left side is made of steps
block-letters : (k : Kind) (n i j : ℕ) → least k ≤ n → Along k n i j → wrong_letter n (block k n i j) ≡ false
block-letters k n i j low (start o l q) = rw (q, block_one k n i low l) (wrong_letter_cons n i [] o l ∙ wrong_letter_nil n)
block-letters k n i j low (further o l g h) = wrong_letter-block k n i j o (omega arith) h

-- the last letter is not below the first, which is one of the others
last_letter : (k : Kind) (n : ℕ) (u : List ℕ) (z : ℕ) → Shape k n (u ++ (z ∷ [])) → 1 ≤ length u → wrong_letter n u ≡ false → 1 ≤ z
last_letter k n u z s long e =
    let l = u ++ (z ∷ []) in
    let t : ℕ = length s.tail - 1 in
    let size : length u ≡ suc t = omega (arith, ap length s.is, length-append u (z ∷ [])) in
    let first : s.first ≡ get_or u 0 0 = sym (ap (λ (w : List ℕ). get_or w 0 0) s.is) ∙ get_or-append u (z ∷ []) 0 0 long in
    let last : get_or l (suc t) 0 ≡ z = rw (← size) (get_or-append_seam u z [] 0) in
    let positive = (letters_of_accepted n u e (get_or u 0 0) (mem_get_or u 0 0 long)).0 in
    omega (arith, s.lowest t (omega (arith, s.long)), lower_le_right (get_or l t 0) (get_or l (suc t) 0))

left_letters : (k : Kind) (n : ℕ) (low : least k ≤ n) (x : Rule) → Ends k n x → Shape k n x.left → wrong_letter n x.left ≡ false
left_letters k n low x e s =
    let u = block k n e.i e.j in
    let is : x.left ≡ u ++ (e.x ∷ []) = left_of k n x e.i e.j e.x e.f e.shape in
    let front : wrong_letter n u ≡ false = block-letters k n e.i e.j low e.along in
    let last : 1 ≤ e.x = last_letter k n u e.x (subst (Shape k n) is s) (along_nonempty k n e.i e.j low e.along) front in
    ap (wrong_letter n) is ∙ letters-append n u (e.x ∷ []) front (wrong_letter_cons n e.x [] last e.letter ∙ wrong_letter_nil n)

module _ (k : Kind) (n : ℕ) (low : least k ≤ n) (x : Rule) (m : Memᴰ x (rules k n)) where
  -- U5: both sides are made of steps
  pub rule_steps : (wrong_letter n x.left ≡ false) × (wrong_letter n x.right ≡ false)
  rule_steps =
      let f = left_letters k n low x (ends_of_listed k n low (listed_of_mem k n low x m)) (shape_of_rule k n low x m) in
      (f, congruent_letters k n (rule_congruent k n low x m) f)

  -- U5: the right side comes before the left one
  pub rule_descending : shortlex x.right x.left ≡ true
  rule_descending =
      subst₂ (λ (r l : List ℕ). shortlex r l ≡ true) (append-nil x.right) (append-nil x.left)
      (rule-shortlex (rule_of_list k n low x m) [] [])
