-- Words of two blocks of neighbouring levels are normal forms, so that no rule fits into them; and the letters and
-- the length of a block.
--
-- Sections: words of two blocks; letters of a block.
-- Assumes nothing.
use mathlib.Core.Path.{◌≡◌, refl, sym, ap, ap₂, subst, ◌∙◌}
use mathlib.Core.Logic.{⊎_elim}
use mathlib.Core.List.Memᴰ
use mathlib.Core.List.{List, [], ◌∷◌, ◌++◌, append-nil, Memᴰ}
use Prim.Native.Nat.{ℕ, zero, suc, ◌+◌, ◌-◌, ◌*◌, ◌≤◌, ◌<◌}
use native.Mathlib.Nat.{lt_of_not-le}
use native.Mathlib.Decide.{dec_le}
use native.Mathlib.Omega.{arith}
use lib.ListN.{length, get_or}
use borrow.Author.Tests.{lt-ltb, le-ltb}
use Rattle.coxeter.specs.declared.Kind.{Kind}
use Rattle.coxeter.specs.declared.Kind.TheVariants.{A, B, D}
use Rattle.coxeter.specs.Kinds.{least}
use Rattle.coxeter.specs.NormalForm.{block, blocks, Indices, none, level, levels, last_index}
use Rattle.coxeter.proofs.KindLaws.{levels_le}
use Rattle.coxeter.proofs.BlockEntries.{block_empty}
use Rattle.coxeter.proofs.LetterRuns.{span, IsBlock, block_up, block_turn}
use Rattle.coxeter.proofs.NormalForms.{normal_form-blocks}
use Rattle.coxeter.proofs.Lengths.{block_length, length-block}
use Rattle.rules.specs.Rules.{rules, Irreducible}
use Rattle.rules.proofs.NextLetter.{le_last_index, last_index_le, level_le_last}
use Rattle.rules.proofs.Letters.{mem_span, mem_slide, block_one}
use Rattle.rules.proofs.Completeness.{irreducible_of_not_rewritten, normal_form_irreducible}
use Rattle.rules.proofs.Scan.{Along, start, further}

-- ---- words of two blocks

-- a word of blocks from a higher level on is one from level 1 on
pub lowered : (k : Kind) (n i : ℕ) (js : List ℕ) → i ≤ levels k n → Indices k n (suc i) js
    → (ls : List ℕ) × Indices k n 1 ls × (blocks k n 1 ls ≡ blocks k n (suc i) js)
unfolding blocks
lowered k n zero js g x = (js, x, refl)
lowered k n (suc i) js g x =
    let l : suc i ≤ n = omega (arith, levels_le k n) in
    let r = lowered k n i (i ∷ js) (omega arith) (level g (omega arith) (le_last_index k n (suc i) i l (omega arith)) x) in
    (r.0, r.1, r.2 ∙ ap (λ (w : List ℕ). blocks k n (suc (suc i)) js ++ w) (block_empty k n (suc i) i (omega arith) (omega arith)) ∙ append-nil _)

-- no rule fits into a word of blocks
blocks_irreducible : (k : Kind) (n : ℕ) → least k ≤ n → (i : ℕ) (js : List ℕ) → i ≤ levels k n → Indices k n (suc i) js
    → Irreducible (rules k n) (blocks k n (suc i) js)
blocks_irreducible k n h i js g x =
    let r = lowered k n i js g x in
    let e : blocks k n (suc i) js ≡ _ = sym r.2 ∙ sym (normal_form-blocks k n r.0 r.1) in
    rw e (irreducible_of_not_rewritten k n _ h (λ v s. normal_form_irreducible k n (blocks k n 1 r.0) h s))

-- the levels above may be empty
empty_above : (k : Kind) (n t i : ℕ) → i + t ≡ levels k n → (js : List ℕ) × Indices k n (suc i) js × (blocks k n (suc i) js ≡ [])
unfolding blocks
empty_above k n zero i e = ([], none {i = suc i} (omega arith), refl)
empty_above k n (suc t) i e =
    let l = levels_le k n in
    let r = empty_above k n t (suc i) (omega arith) in
    let m = le_last_index k n (suc i) i (omega arith) (omega arith) in
    let x : Indices k n (suc i) (i ∷ r.0) = level {i = suc i} {j = i} (omega arith) (omega arith) m r.1 in
    (i ∷ r.0, x, ap₂ (λ (u v : List ℕ). u ++ v) r.2 (block_empty k n (suc i) i (omega arith) (omega arith)))

-- a block of the level after i, then one of level i
pub two_blocks : {k : Kind} {n i j m : ℕ} → least k ≤ n → IsBlock k n (suc i) j → IsBlock k n i m
    → Irreducible (rules k n) (block k n (suc i) j ++ block k n i m)
unfolding blocks
two_blocks {i = zero} h a b = absurd (omega arith)
two_blocks {k} {n} {i = suc i} {j} {m} h a b =
    let r = empty_above k n (levels k n - suc (suc i)) (suc (suc i)) (omega arith) in
    let x : Indices k n (suc (suc i)) (j ∷ r.0) = level a.level a.at_least a.at_most r.1 in
    let y : Indices k n (suc i) (m ∷ j ∷ r.0) = level b.level b.at_least b.at_most x in
    subst (λ (w : List ℕ). Irreducible (rules k n) ((w ++ block k n (suc (suc i)) j) ++ block k n (suc i) m)) r.2
    (blocks_irreducible k n h i (m ∷ j ∷ r.0) (omega arith) y)

-- ---- letters of a block

-- a block of level i has no letter below i
pub block-at-least : (k : Kind) (n i j : ℕ) → 1 ≤ i → i ≤ levels k n → j ≤ last_index k n i → (a : ℕ) → Memᴰ a (block k n i j) → i ≤ a
block-at-least k n i j o g l a m = elim (dec_le n j) [ yes t ↦ after t | no t ↦ before (lt_of_not-le t) ]
  where
    before : j < n → i ≤ a
    before t = (mem_span a i (suc j) (subst (Memᴰ a) (block_up k n i j t) m)).0

    after : n ≤ j → i ≤ a
    after t =
        let d : ℕ = 2 * n - j in
        let e : d + j ≡ 2 * n = omega (arith, last_index_le k n i) in
        let h : i ≤ n = omega (arith, levels_le k n) in
        let b : IsBlock k n i j = omega arith in
        let q = level_le_last k h l e in
        ⊎_elim (λ s. (mem_span a i (levels k n) s).0) (λ s. let r = mem_slide a (suc n) d s in omega arith)
        (Memᴰ.append_cases (span i (levels k n)) (subst (Memᴰ a) (block_turn d b t e) m))

pub mem_get_or : (l : List ℕ) (i : ℕ) → i < length l → Memᴰ (get_or l i 0) l
mem_get_or [] i h = absurd (omega arith)
mem_get_or (a ∷ l) zero h = Memᴰ.head refl
mem_get_or (a ∷ l) (suc i) h = Memᴰ.tail (mem_get_or l i (omega arith))

-- how long a block of level i can be
pub block-short : (k : Kind) (n i j : ℕ) → 1 ≤ i → i ≤ levels k n → j ≤ last_index k n i → length (block k n i j) + 2 * i ≤ 2 * n + 1
block-short k n i j o h l = rw (length-block k n i j o h l) (block-short_by_cases k l h)
  where
    block-short_by_cases : (k : Kind) → j ≤ last_index k n i → i ≤ levels k n → block_length k n i j + 2 * i ≤ 2 * n + 1
    block-short_by_cases A l h = omega arith
    block-short_by_cases B l h = omega arith
    block-short_by_cases D l h = elim (dec_le n j) [ yes t ↦ rw (le-ltb j n t) (omega arith) | no t ↦ rw (lt-ltb j n (lt_of_not-le t)) (omega arith) ]

pub block_nonempty : (k : Kind) (n i j : ℕ) → 1 ≤ i → i ≤ levels k n → i ≤ j → j ≤ last_index k n i → 1 ≤ length (block k n i j)
block_nonempty k n i j o h g l = rw (length-block k n i j o h l) (block_nonempty_by_cases k l h)
  where
    block_nonempty_by_cases : (k : Kind) → j ≤ last_index k n i → i ≤ levels k n → 1 ≤ block_length k n i j
    block_nonempty_by_cases A l h = omega arith
    block_nonempty_by_cases B l h = omega arith
    block_nonempty_by_cases D l h = elim (dec_le n j) [ yes t ↦ rw (le-ltb j n t) (omega arith) | no t ↦ rw (lt-ltb j n (lt_of_not-le t)) (omega arith) ]

pub along_nonempty : (k : Kind) (n i j : ℕ) → least k ≤ n → Along k n i j → 1 ≤ length (block k n i j)
along_nonempty k n i j h (start o l e) = rw (e, block_one k n i h l) (omega arith)
along_nonempty k n i j h (further o l g m) = block_nonempty k n i j o (omega arith) (omega arith) m
