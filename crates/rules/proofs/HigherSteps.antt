-- N10, at each level: the normal forms over the steps i to n are exactly the words made of blocks of the levels
-- from i on, and of such a word the block of level i is peeled off at the end. By the laws on words of blocks
-- (BlockWords) and on words that no rule rewrites (Irreducible).
--
-- Sections: words of blocks; one level; block 1.
-- Assumes nothing.
use mathlib.Core.Path.{◌≡◌, refl, sym, ap, subst, ◌∙◌}
use mathlib.Core.Bool.{false}
use mathlib.Core.Logic.{⊎_elim}
use mathlib.Core.List.Memᴰ
use mathlib.Core.List.{List, [], ◌∷◌, ◌++◌, Memᴰ}
use Prim.Native.Nat.{ℕ, zero, suc, ◌≤◌}
use native.Mathlib.Decide.{dec_le}
use native.Mathlib.Omega.{arith}
use lib.IntN.{ℤ}
use Rattle.coxeter.specs.declared.Kind.{Kind}
use Rattle.coxeter.specs.declared.Kind.TheVariants.{A, B, D}
use Rattle.coxeter.specs.Kinds.{least}
use Rattle.coxeter.specs.Windows.{window}
use Rattle.coxeter.specs.Checks.{wrong_letter, WindowOf}
use Rattle.coxeter.specs.NormalForm.{block, blocks, Indices, none, level, levels, last_index, normal_form, IsNormalForm}
use Rattle.coxeter.proofs.KindLaws.{one_le_levels}
use Rattle.coxeter.proofs.LetterLaws.{letter_within_cons}
use Rattle.coxeter.proofs.NormalForms.{normal_form-blocks}
use Rattle.rules.proofs.Rewriting.{Rewrites}
use Rattle.rules.proofs.Ending.{letters_of_accepted}
use Rattle.rules.proofs.Irreducible.{letters-from, blocks-from_or_rewrites}
use Rattle.rules.proofs.Completeness.{normal_form_irreducible, normal_form-least-window, normal_form_only}
use Rattle.rules.proofs.Theorems.{normal_form-least}
use Rattle.rules.proofs.BlockWords.{lowered, block-at-least}

-- ---- words of blocks

blocks-at-least : (k : Kind) (n : ℕ) {i : ℕ} {js : List ℕ} → 1 ≤ i → Indices k n i js → (a : ℕ) → Memᴰ a (blocks k n i js) → i ≤ a
unfolding blocks
blocks-at-least k n o (none e) a m = absurd (Memᴰ.not-nil m)
blocks-at-least k n {i} o (level {j = j} {js = js} g b c d) a m =
    ⊎_elim (λ s. let t = blocks-at-least k n {i = suc i} (omega arith) d a s in omega arith) (λ s. block-at-least k n i j o g c a s)
    (Memᴰ.append_cases (blocks k n (suc i) js) m)

-- a word of blocks of the levels from i on is a normal form, over the steps i to n
pub blocks_normal : (k : Kind) (n i : ℕ) (js : List ℕ) → least k ≤ n → 1 ≤ i → i ≤ suc (levels k n) → Indices k n i js
    → IsNormalForm k n (window k n (blocks k n i js)) (blocks k n i js) × ((a : ℕ) → Memᴰ a (blocks k n i js) → (i ≤ a) × (a ≤ n))
blocks_normal k n zero js h o g x = absurd (omega arith)
blocks_normal k n (suc i) js h o g x =
    let r = lowered k n i js (omega arith) x in
    let f : IsNormalForm k n (window k n (blocks k n (suc i) js)) (blocks k n (suc i) js) =
    subst (λ (u : List ℕ). IsNormalForm k n (window k n u) u) r.2
    (subst (λ (u : List ℕ). IsNormalForm k n (window k n (blocks k n 1 r.0)) u) (normal_form-blocks k n r.0 r.1)
    (normal_form-least-window k n (blocks k n 1 r.0) h)) in
    (f, λ a m. (blocks-at-least k n o x a m, (letters_of_accepted n (blocks k n (suc i) js) f.steps a m).1))

-- and each normal form over the steps i to n is one
pub normal_blocks : {k : Kind} {n i : ℕ} {w : List ℤ} {u : List ℕ} → least k ≤ n → 1 ≤ i → i ≤ levels k n → IsNormalForm k n w u
    → ((a : ℕ) → Memᴰ a u → i ≤ a) → (js : List ℕ) × Indices k n i js × (u ≡ blocks k n i js)
normal_blocks {k} {n} {i} {w} {u} h o g m f =
    ⊎_elim (λ s. s) (λ s. absurd (stuck s.0 s.1)) (blocks-from_or_rewrites k n i h o g u (letters-from i n u m.steps f))
  where
    stuck : (v : List ℕ) → Rewrites k n u v → ⊥
    stuck v r =
        let e : u ≡ normal_form k n (window k n u) = normal_form_only k n w u h m ∙ ap (normal_form k n) (sym m.shows) in
        normal_form_irreducible k n u h (subst (λ (x : List ℕ). Rewrites k n x v) e r)

-- ---- one level

last_block : {k : Kind} {n i : ℕ} {u us : List ℕ} → least k ≤ n → 1 ≤ i → i ≤ levels k n → Indices k n i us → u ≡ blocks k n i us
    → (j : ℕ) × (v js : List ℕ) × (u ≡ v ++ block k n i j) × (i ≤ suc j) × (j ≤ last_index k n i)
    × IsNormalForm k n (window k n v) v × ((a : ℕ) → Memᴰ a v → (suc i ≤ a) × (a ≤ n))
    × (v ≡ blocks k n (suc i) js) × Indices k n (suc i) js
unfolding blocks
last_block {us = []} h o g (none e) q = absurd (omega arith)
last_block {k} {n} {i} {us = (j ∷ js)} h o g (level p b c d) q =
    let s = blocks_normal k n (suc i) js h (omega arith) (omega arith) d in
    (j, blocks k n (suc i) js, js, q, b, c, s.0, s.1, refl, d)

-- at each level: block i is peeled off a normal form over the steps from i on, and the rest is one over the higher
-- steps
pub level_peeled : {k : Kind} {n i : ℕ} {w : List ℤ} {u : List ℕ} → least k ≤ n → 1 ≤ i → i ≤ levels k n → IsNormalForm k n w u
    → ((a : ℕ) → Memᴰ a u → i ≤ a)
    → (j : ℕ) × (v js : List ℕ) × (u ≡ v ++ block k n i j) × (i ≤ suc j) × (j ≤ last_index k n i)
    × IsNormalForm k n (window k n v) v × ((a : ℕ) → Memᴰ a v → (suc i ≤ a) × (a ≤ n))
    × (v ≡ blocks k n (suc i) js) × Indices k n (suc i) js
level_peeled {k} {n} {i} {w} {u} h o g m f =
    let s = normal_blocks h o g m f in
    last_block h o g s.1 s.2

-- and put back on: below the last level every normal form over the higher steps, with any block of level i behind
-- it, is a normal form
pub level_put_back : {k : Kind} {n : ℕ} (i j : ℕ) {v : List ℕ} → least k ≤ n → 1 ≤ i → suc i ≤ levels k n → i ≤ suc j → j ≤ last_index k n i
    → IsNormalForm k n (window k n v) v → ((a : ℕ) → Memᴰ a v → suc i ≤ a)
    → IsNormalForm k n (window k n (v ++ block k n i j)) (v ++ block k n i j)
unfolding blocks
level_put_back {k} {n} i j {v} h o g b c m f =
    let s = normal_blocks h (omega arith) g m f in
    let x : Indices k n i (j ∷ s.0) = level {i = i} {j = j} (omega arith) b c s.1 in
    rw s.2 (blocks_normal k n i (j ∷ s.0) h o (omega arith) x).0

-- ---- block 1

-- the normal form of an accepted window is a normal form over the steps from 2 on, and then a block of level 1
pub block_1_peeled : (k : Kind) (n : ℕ) (w : List ℤ) → least k ≤ n → WindowOf k n w
    → (j : ℕ) × (v js : List ℕ) × (normal_form k n w ≡ v ++ block k n 1 j) × (j ≤ last_index k n 1)
    × IsNormalForm k n (window k n v) v × (v ≡ normal_form k n (window k n v)) × ((a : ℕ) → Memᴰ a v → (2 ≤ a) × (a ≤ n))
    × (v ≡ blocks k n 2 js) × Indices k n 2 js
block_1_peeled k n w h p =
    let m = normal_form-least k n w h p in
    let f = normal_form k n w in
    let s = level_peeled h (omega arith) (one_le_levels k n h) m (λ a i. (letters_of_accepted n f m.steps a i).0) in
    (s.0, s.1, s.2, s.3, s.5, s.6, normal_form_only k n (window k n s.1) s.1 h s.6, s.7, s.8, s.9)

-- the rank 1 of A is the only one with one level
one_level : (k : Kind) (n : ℕ) → least k ≤ n → levels k n ≤ 1 → n ≤ 1
one_level A n h g = g
one_level B n h g = g
one_level D n h g = absurd (omega arith)

-- and every such word is a normal form
pub block_1_put_back : (k : Kind) (n j : ℕ) (v : List ℕ) → least k ≤ n → j ≤ last_index k n 1 → IsNormalForm k n (window k n v) v
    → ((a : ℕ) → Memᴰ a v → 2 ≤ a) → IsNormalForm k n (window k n (v ++ block k n 1 j)) (v ++ block k n 1 j)
unfolding blocks
block_1_put_back k n j v h c m f = elim (dec_le 2 (levels k n)) [
  | yes g ↦ level_put_back 1 j h (omega arith) g (omega arith) c m f
  | no g ↦
      let l : n ≤ 1 = one_level k n h (omega arith) in
      let one = one_le_levels k n h in
      let x : Indices k n 1 (j ∷ []) = level {i = 1} {j = j} one (omega arith) c (none {i = 2} (omega arith)) in
      rw (none_left l v m.steps f) (blocks_normal k n 1 (j ∷ []) h (omega arith) (omega arith) x).0
]
  where
    none_left : n ≤ 1 → (u : List ℕ) → wrong_letter n u ≡ false → ((a : ℕ) → Memᴰ a u → 2 ≤ a) → u ≡ []
    none_left l [] e g = refl
    none_left l (s ∷ u) e g =
        let b = g s (Memᴰ.head refl) in
        absurd (omega (arith, (letter_within_cons n s u e).1))
