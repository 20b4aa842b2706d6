-- Normal forms: the normal form of a window shows it, its letters are steps, it is the word of blocks that the
-- window's indices give, and a word of blocks is the normal form of its window. By the laws of indices.
-- Not here: the length of a normal form (Lengths).
-- Assumes nothing.
use mathlib.Core.Path.{◌≡◌, refl, sym, ap, ◌∙◌}
use mathlib.Core.Bool.{false}
use mathlib.Core.List.{List, [], ◌++◌, map}
use Prim.Native.Nat.{ℕ, zero, suc, ◌+◌, ◌-◌, ◌*◌, ◌≤◌, ◌<◌}
use native.Mathlib.Nat.{lt_of_not-le}
use native.Mathlib.Decide.{dec_le}
use native.Mathlib.Omega.{arith}
use lib.IntN.{ℤ, pos}
use borrow.Author.Tests.{eq-eqb}
use Rattle.coxeter.specs.declared.Kind.{Kind}
use Rattle.coxeter.specs.declared.Kind.TheVariants.{A, B, D}
use Rattle.coxeter.specs.Kinds.{lanes, up}
use Rattle.coxeter.specs.Windows.{identity, window, place_from, signed}
use Rattle.coxeter.specs.Checks.{wrong_letter}
use Rattle.coxeter.specs.NormalForm.{down, block, levels, last_index, blocks, Indices, none, level, without, index_of, rest_of, normal_from, normal_form}
use Rattle.coxeter.proofs.Relations.{wrong_letter-append, wrong_letter_cons}
use Rattle.coxeter.proofs.Levels.{Accepted}
use Rattle.coxeter.proofs.LetterRuns.{span, slide, span_nil, Corner, corner_le, IsBlock, block_up, block_turn}
use Rattle.coxeter.proofs.Peeling.{rest_of_positive, levels_le_lanes}
use Rattle.coxeter.proofs.KindLaws.{levels_le}
use Rattle.coxeter.proofs.Indices.{indices, window-indices, indices_in_range, indices-window}

-- ---- normal forms are words of blocks

normal_from_is_blocks : (k : Kind) (n t i : ℕ) (w : List ℤ) → normal_from k n t i w ≡ blocks k n i (indices k n t i w)
unfolding normal_from blocks indices
normal_from_is_blocks k n zero i w = refl
normal_from_is_blocks k n (suc t) i w =
    ap (λ (u : List ℕ). u ++ block k n i (index_of n (place_from i w i))) (normal_from_is_blocks k n t (suc i) (rest_of k (place_from i w i) (without i w)))

pub normal_form_is_blocks : (k : Kind) (n : ℕ) (w : List ℤ) → normal_form k n w ≡ blocks k n 1 (indices k n (levels k n) 1 w)
unfolding normal_form
normal_form_is_blocks k n w = normal_from_is_blocks k n (levels k n) 1 w

-- a word of blocks is the normal form of its window
pub normal_form-blocks : (k : Kind) (n : ℕ) (js : List ℕ) → Indices k n 1 js → normal_form k n (window k n (blocks k n 1 js)) ≡ blocks k n 1 js
normal_form-blocks k n js h = normal_form_is_blocks k n (window k n (blocks k n 1 js)) ∙ ap (blocks k n 1) (indices-window k n js h)

-- ---- the window of a normal form

pub window-normal_form : (k : Kind) (n : ℕ) (w : List ℤ) → Accepted k n w → window k n (normal_form k n w) ≡ w
window-normal_form k n w h = ap (window k n) (normal_form_is_blocks k n w) ∙ window-indices k n w h

pub normal_form_injective : (k : Kind) (n : ℕ) (v w : List ℤ) → Accepted k n v → Accepted k n w → normal_form k n v ≡ normal_form k n w → v ≡ w
normal_form_injective k n v w g h e = sym (window-normal_form k n v g) ∙ ap (window k n) e ∙ window-normal_form k n w h

-- ---- letters

wrong_letter-up : (n i m : ℕ) → 1 ≤ i → i + m ≤ suc n → wrong_letter n (up i m) ≡ false
unfolding up wrong_letter
wrong_letter-up n i zero o h = refl
wrong_letter-up n i (suc m) o h = wrong_letter_cons n i (up (suc i) m) o (omega arith) ∙ wrong_letter-up n (suc i) m (omega arith) (omega arith)

wrong_letter-down : (n i m : ℕ) → m ≤ i → i ≤ n → wrong_letter n (down i m) ≡ false
unfolding down wrong_letter
wrong_letter-down n i zero h l = refl
wrong_letter-down n i (suc m) h l = wrong_letter_cons n i (down (i - 1) m) (omega arith) l ∙ wrong_letter-down n (i - 1) m (omega arith) (omega arith)

wrong_letter-span : (n i c : ℕ) → 1 ≤ i → i ≤ suc n → c ≤ suc n → wrong_letter n (span i c) ≡ false
unfolding span
wrong_letter-span n i c o h l = wrong_letter-up n i (c - i) o (omega arith)

wrong_letter-slide : (n c i : ℕ) → 1 ≤ i → c ≤ suc n → wrong_letter n (slide c i) ≡ false
unfolding slide
wrong_letter-slide n c i o l = wrong_letter-down n (c - 1) (c - i) (omega arith) (omega arith)

index_le : (k : Kind) (n i j : ℕ) → i ≤ levels k n → j ≤ last_index k n i → i + j ≤ 2 * n
index_le A n i j l h = omega arith
index_le B n i j l h = omega arith
index_le D n i j l h = omega arith

levels_of_corner : (k : Kind) (n c : ℕ) → Corner k n c → levels k n ≡ c
levels_of_corner A n c e = omega arith
levels_of_corner B n c e = omega arith
levels_of_corner D n c e = omega arith

turned-letters : (k : Kind) (n i j c d : ℕ) → Corner k n c → i ≤ c → n ≤ j → j ≤ last_index k n i → d + j ≡ 2 * n → 1 ≤ i → 1 ≤ d
    → wrong_letter n (block k n i j) ≡ false
turned-letters k n i j c d e h g l q o f =
    let b : c ≤ n = corner_le k n c e in
    let a : levels k n ≡ c = levels_of_corner k n c e in
    let t : IsBlock k n i j = omega arith in
    rw (block_turn d t g q, a, wrong_letter-append n (span i c) (slide (suc n) d), wrong_letter-span n i c o (omega arith) (omega arith))
    (wrong_letter-slide n (suc n) d f (omega arith))

pub wrong_letter-block : (k : Kind) (n i j : ℕ) → 1 ≤ i → i ≤ levels k n → j ≤ last_index k n i → wrong_letter n (block k n i j) ≡ false
wrong_letter-block k n i j o l h = elim (dec_le n j) [ yes g ↦ turned g | no g ↦ risen (lt_of_not-le g) ]
  where
    c : levels k n ≤ n
    c = levels_le k n

    turned : n ≤ j → wrong_letter n (block k n i j) ≡ false
    turned g =
        let d : ℕ = 2 * n - j in
        let a : i + j ≤ 2 * n = index_le k n i j l h in
        let b : IsBlock k n i j = omega (arith, c) in
        rw (block_turn d b g (omega arith), wrong_letter-append n (span i (levels k n)) (slide (suc n) d))
        (rw (wrong_letter-span n i (levels k n) o (omega (arith, c)) (omega (arith, c))) (wrong_letter-slide n (suc n) d (omega arith) (omega arith)))

    risen : j < n → wrong_letter n (block k n i j) ≡ false
    risen g = ap (wrong_letter n) (block_up k n i j g) ∙ wrong_letter-span n i (suc j) o (omega (arith, c)) (omega arith)

wrong_letter-blocks : (k : Kind) (n : ℕ) {i : ℕ} {js : List ℕ} → 1 ≤ i → Indices k n i js → wrong_letter n (blocks k n i js) ≡ false
unfolding blocks wrong_letter
wrong_letter-blocks k n o (none q) = refl
wrong_letter-blocks k n o (level {i = i} {j = j} {js = js} a b c d) =
    rw (wrong_letter-append n (blocks k n (suc i) js) (block k n i j), wrong_letter-blocks k n {i = suc i} {js = js} (omega arith) d)
    (wrong_letter-block k n i j o a c)

-- the letters of a normal form are steps
pub normal_form-letters : (k : Kind) (n : ℕ) (w : List ℤ) → Accepted k n w → wrong_letter n (normal_form k n w) ≡ false
normal_form-letters k n w h = rw normal_form_is_blocks (wrong_letter-blocks k n (omega arith) (indices_in_range k n w h))

-- ---- the straight window

normal_from-identity : (k : Kind) (n t i c : ℕ) → 1 ≤ i → t ≤ c → t + i ≤ suc n → normal_from k n t i (map pos (up i c)) ≡ []
unfolding normal_from up place_from without signed index_of
normal_from-identity k n zero i c o l h = refl
normal_from-identity k n (suc t) i zero o l h = absurd (omega arith)
normal_from-identity k n (suc t) i (suc c) o l h =
    let b : block k n i (i - 1) ≡ [] = block_up k n i (i - 1) (omega arith) ∙ span_nil i (suc (i - 1)) (omega arith) in
    rw (eq-eqb i i refl, rest_of_positive k i (map pos (up (suc i) c)), b, normal_from-identity k n t (suc i) c (omega arith) (omega arith) (omega arith))

pub normal_form-identity : (k : Kind) (n : ℕ) → normal_form k n (identity (lanes k n)) ≡ []
unfolding normal_form identity
normal_form-identity k n = normal_from-identity k n (levels k n) 1 (lanes k n) (omega arith) (levels_le_lanes k n) (within k)
  where
    within : (k : Kind) → levels k n + 1 ≤ suc n
    within A = omega arith
    within B = omega arith
    within D = omega arith
