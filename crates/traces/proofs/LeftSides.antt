-- The shape of a left side: without its first letter it is a letter or a word of two blocks, so that no rule fits
-- into it; the first letter is the lower of the last two; and there are at most 2n letters. And the two sides of a
-- rule: a letter twice and nothing, or a word and its last letter moved to the front and changed.
--
-- Sections: each left side has one; both sides.
-- Assumes nothing.
use mathlib.Core.Path.{◌≡◌, refl, sym, ap, ◌∙◌}
use mathlib.Core.Logic.{◌⊎◌, inl, inr, ⊎_elim}
use mathlib.Core.List.{List, [], ◌∷◌, ◌++◌, append_assoc, Memᴰ}
use Prim.Native.Nat.{ℕ, suc, ◌+◌, ◌-◌, ◌*◌, ◌≤◌, ◌<◌}
use native.Mathlib.Nat.{lt_of_not-le}
use native.Mathlib.Decide.{dec_le, ℕ_discrete}
use native.Mathlib.Omega.{arith}
use lib.Dec.{eqb}
use lib.ListN.{length, get_or}
use borrow.Author.Tests.{eq-eqb, ne_eqb}
use Rattle.coxeter.specs.declared.Kind.{Kind}
use Rattle.coxeter.specs.declared.Kind.TheVariants.{A, B, D}
use Rattle.coxeter.specs.Kinds.{pick, least}
use Rattle.coxeter.specs.NormalForm.{block, levels, last_index}
use Rattle.coxeter.proofs.KindLaws.{levels_le}
use Rattle.coxeter.proofs.LetterRuns.{span-one, IsBlock}
use Rattle.rules.specs.Rules.{Rule, rules}
use Rattle.rules.proofs.NextLetter.{le_last_index}
use Rattle.rules.proofs.Extending.{block_cut, block_climb, block-top, block-fall}
use Rattle.rules.proofs.Letters.{block_one}
use Rattle.rules.proofs.RuleList.{rule_of_list, listed_of_mem}
use Rattle.rules.proofs.Ending.{Lowered, dropped, raised, rule-lowered}
use Rattle.rules.proofs.Scan.{fork, family_at, shown_index, first_letter, rule_at, Along, start, further}
use Rattle.rules.proofs.LeavingLetters.{family_at-below, family_at_inside, family_at-after}
use Rattle.rules.proofs.ScanFamilies.{Ends, ends_of_listed, left_of}
use Rattle.rules.proofs.BlockWords.{along_nonempty}
use Rattle.traces.proofs.LeftSideShapes.{Shape, shape_pair, shape_closed, shape_turned}

-- ---- each left side has one

-- in the numbers of a left side [i,j] x: the block is not the longest of its level, or it is
below_last : (k : Kind) (n i j : ℕ) → j ≤ last_index k n i → (i + j ≡ 2 * n → ⊥) → j ≤ last_index k n (suc i)
below_last A n i j l f = l
below_last B n i j l f = omega arith
below_last D n i j l f = omega arith

last_turned : (k : Kind) (n i j : ℕ) → i < levels k n → j ≤ last_index k n i → i + j ≡ 2 * n → (n < j) × (j - 1 ≤ last_index k n (suc i))
last_turned A n i j g l e = omega arith
last_turned B n i j g l e = omega arith
last_turned D n i j g l e = omega arith

fork_level : (k : Kind) (n i : ℕ) → 1 ≤ i → i ≡ fork k n → suc i ≡ levels k n
fork_level A n i o e = omega arith
fork_level B n i o e = omega arith
fork_level D n i o e = omega arith

-- a block of two letters
block-two : (k : Kind) (n i x : ℕ) → least k ≤ n → 1 ≤ i → i < levels k n → (x ≡ suc i) ⊎ ((suc i ≡ levels k n) × (x ≡ n))
    → (z : ℕ) × (i ≤ z) × (z ≤ last_index k n i) × (block k n i z ≡ i ∷ x ∷ [])
block-two k n i x h o g w = elim (ℕ_discrete x n) [
  | yes e ↦ top e (⊎_elim (λ q. omega (arith, l)) (λ q. q.0) w)
  | no e ↦ up e (⊎_elim (λ q. q) (λ q. absurd (e q.1)) w)
]
  where
    l : levels k n ≤ n
    l = levels_le k n

    one : block k n i i ≡ i ∷ []
    one = block_one k n i h (omega (arith, l))

    up : (x ≡ n → ⊥) → x ≡ suc i → (z : ℕ) × (i ≤ z) × (z ≤ last_index k n i) × (block k n i z ≡ i ∷ x ∷ [])
    up e q = (
      x,
      omega arith,
      le_last_index k n i x (omega (arith, l)) (omega (arith, l)),
      block_climb k n i i x (omega arith) q (omega (arith, l)) ∙ ap (λ (u : List ℕ). u ++ (x ∷ [])) one,
    )

    top : x ≡ n → suc i ≡ levels k n → (z : ℕ) × (i ≤ z) × (z ≤ last_index k n i) × (block k n i z ≡ i ∷ x ∷ [])
    top e q = (
      n,
      omega (arith, l),
      le_last_index k n i n (omega (arith, l)) (omega arith),
      rw e (block-top k n o (omega arith) q ∙ ap (λ (u : List ℕ). u ++ (n ∷ [])) one),
    )

shape_of_ends : (k : Kind) (n : ℕ) (r : Rule) → least k ≤ n → Ends k n r → Shape k n r.left
shape_of_ends k n r h e =
    rw (left_of k n r e.i e.j e.x e.f e.shape) (shape_of_ends_by_cases e.i e.j e.x e.along (λ z. e.nonzero (sym e.family ∙ z)))
  where
    shape_of_ends_by_cases : (i j x : ℕ) → Along k n i j → (family_at n (fork k n) i j x ≡ 0 → ⊥) → Shape k n (block k n i j ++ (x ∷ []))
    shape_of_ends_by_cases i j x (start o l q) f =
        rw (q, block_one k n i h l)
        (shape_pair k n i x h (omega arith)
        (elim (dec_le i x) [ yes t ↦ t | no t ↦ absurd (f (family_at-below n (fork k n) i j x q (lt_of_not-le t))) ]))
    shape_of_ends_by_cases i j x (further o g q l) f = elim (ℕ_discrete (i + j) (2 * n)) [ yes t ↦ turned t | no t ↦ closed t ]
      where
        cut : (m : ℕ) → i ≤ m → m ≤ last_index k n (suc i) → block k n i m ≡ i ∷ block k n (suc i) m
        cut m a b =
            let c : IsBlock k n (suc i) m = omega arith in
            block_cut o (omega arith) c
            ∙ ap (λ (u : List ℕ). u ++ block k n (suc i) m) (span-one i (suc i) (omega arith))

        closed : (i + j ≡ 2 * n → ⊥) → Shape k n (block k n i j ++ (x ∷ []))
        closed t =
            let b = below_last k n i j l t in
            elim (ℕ_discrete x i) [
              | yes a ↦ rw (a, cut j (omega arith) b) (shape_closed k n i j h o g b q)
              | no a ↦ absurd (f (family_at_inside n (fork k n) i j x q t a))
            ]

        -- the letter after the longest block of the level
        after : i + j ≡ 2 * n → (x ≡ suc i) ⊎ ((suc i ≡ levels k n) × (x ≡ n))
        after t =
            elim (ℕ_discrete x (i + 1)) [
              | yes a ↦ inl (omega arith)
              | no a ↦ elim (ℕ_discrete i (fork k n)) [
                | yes b ↦ elim (ℕ_discrete x n) [
                  | yes c ↦ inr (fork_level k n i o b, c)
                  | no c ↦ absurd (f (family_at-after n (fork k n) i j x q t (λ z. c) a))
                ]
                | no b ↦ absurd (f (family_at-after n (fork k n) i j x q t (λ z. absurd (b z)) a))
              ]
            ]

        turned : i + j ≡ 2 * n → Shape k n (block k n i j ++ (x ∷ []))
        turned t =
            let b = last_turned k n i j g l t in
            let p : ℕ = j - 1 in
            let s : j ≡ suc p = omega arith in
            let w = block-two k n i x h o g (after t) in
            let y : IsBlock k n i (suc p) = omega arith in
            let d : block k n i j ≡ block k n i p ++ (i ∷ []) = ap (block k n i) s ∙ block-fall i y (omega arith) (omega arith) in
            let v : block k n i j ++ (x ∷ []) ≡ i ∷ (block k n (suc i) p ++ (i ∷ x ∷ [])) =
            rw (d, cut p (omega arith) b.1) (simp append_assoc) in
            let c = levels_le k n in
            let a : i < x = ⊎_elim (λ a. omega arith) (λ a. omega arith) (after t) in
            rw v (shape_turned k n i p h o g b.1 x w.0 a (omega arith) w.1 w.2 w.3)

pub shape_of_rule : (k : Kind) (n : ℕ) → least k ≤ n → (r : Rule) → Memᴰ r (rules k n) → Shape k n r.left
shape_of_rule k n h r m = shape_of_ends k n r h (ends_of_listed k n h (listed_of_mem k n h r m))

-- ---- both sides

-- family 1 drops a letter that stands twice; any other family puts a letter before the left side without its last,
-- higher than the first
pub data Sides (r : Rule) : Type 0 where
  drops : (x : ℕ) → r.family ≡ 1 → r.left ≡ x ∷ x ∷ [] → r.right ≡ [] → Sides r
  moves : (x y b : ℕ) (l : List ℕ) → (r.family ≡ 1 → ⊥) → r.left ≡ (b ∷ l) ++ (x ∷ []) → r.right ≡ y ∷ b ∷ l → b < y → Sides r

dropped_of : {l r : List ℕ} → Lowered l r → r ≡ [] → (x : ℕ) × (l ≡ x ∷ x ∷ [])
dropped_of (dropped {i}) e = (i, refl)
dropped_of (raised {a} {b} {s} {t} q g) e = let z : suc (length t) ≡ 0 = ap length e in absurd (omega arith)

raised_of : {l r : List ℕ} → Lowered l r → (y : ℕ) (v : List ℕ) → r ≡ y ∷ v → (c : ℕ) (u : List ℕ) → l ≡ c ∷ u → c < y
raised_of (dropped {i}) y v e c u f = let z : 0 ≡ suc (length v) = ap length e in absurd (omega arith)
raised_of (raised {a} {b} q g) y v e c u f =
    let z : b ≡ y = ap (λ (w : List ℕ). get_or w 0 0) e in
    let x : a ≡ c = ap (λ (w : List ℕ). get_or w 0 0) f in
    omega arith

pub sides_of_rule : (k : Kind) (n : ℕ) → least k ≤ n → (r : Rule) → Memᴰ r (rules k n) → Sides r
unfolding rule_at
sides_of_rule k n h r m = elim (ℕ_discrete e.f 1) [
  | yes z ↦
      let right : r.right ≡ [] = right_is ∙ rw (eq-eqb e.f 1 z) in
      let s = dropped_of low right in
      drops s.0 (ap (λ (q : Rule). q.family) e.shape ∙ family_of ∙ z) s.1 right
  | no z ↦
      moving (block k n e.i e.j) (along_nonempty k n e.i e.j h e.along)
      (λ q. z (sym family_of ∙ ap (λ (q : Rule). q.family) (sym e.shape) ∙ q)) left_is (right_is ∙ rw (ne_eqb e.f 1 z))
]
  where
    e : Ends k n r
    e = ends_of_listed k n h (listed_of_mem k n h r m)

    y : ℕ
    y = first_letter n e.f e.i (shown_index e.f e.j e.x)

    family_of : (rule_at k n e.i e.j e.x e.f).family ≡ e.f
    family_of = refl

    left_is : r.left ≡ block k n e.i e.j ++ (e.x ∷ [])
    left_is = left_of k n r e.i e.j e.x e.f e.shape

    right_is : r.right ≡ pick (eqb e.f 1) [] (y ∷ block k n e.i e.j)
    right_is = ap (λ (q : Rule). q.right) e.shape

    low : Lowered r.left r.right
    low = rule-lowered (rule_of_list k n h r m)

    moving : (w : List ℕ) → 1 ≤ length w → (r.family ≡ 1 → ⊥) → r.left ≡ w ++ (e.x ∷ []) → r.right ≡ y ∷ w → Sides r
    moving [] o f p q = absurd (omega arith)
    moving (b ∷ l) o f p q = moves e.x y b l f p q (raised_of low y (b ∷ l) q b (l ++ (e.x ∷ [])) p)
