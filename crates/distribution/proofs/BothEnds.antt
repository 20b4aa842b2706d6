-- The table is the same from both ends: a list of indices has an opposite one, whose blocks make up what its own
-- lack to the greatest length. (In the field's words, the Poincaré polynomial is palindromic.)
-- Sections: opposite indices; opposite lengths; the table.
-- Assumes nothing.
use mathlib.Core.Path.{◌≡◌, refl, sym, ap, ap₂, ◌∙◌}
use mathlib.Core.Bool.{Bool, true, false}
use mathlib.Core.List.{List, [], ◌∷◌, map, map-append, reverse, reverse-append}
use Prim.Native.Nat.{ℕ, zero, suc, ◌+◌, ◌-◌, ◌*◌, ◌≤◌}
use native.Mathlib.Omega.{arith}
use native.Mathlib.Nat.{le_antisymm}
use borrow.Author.Tests.{lt-ltb, le-ltb, ltb-true, ltb-false}
use lib.Dec.{ltb}
use lib.ListN.{length}
use Rattle.coxeter.specs.declared.Kind.{Kind}
use Rattle.coxeter.specs.declared.Kind.TheVariants.{A, B, D}
use Rattle.coxeter.specs.Kinds.{least, up}
use Rattle.coxeter.specs.Length.{greatest_length}
use Rattle.coxeter.specs.NormalForm.{levels, last_index, Indices, none, level}
use Rattle.coxeter.proofs.Lengths.{block_length}
use Rattle.coxeter.proofs.Indices.{length_of_indices}
use Rattle.coxeter.proofs.GreatestLengths.{greatest_indices, indices-greatest, length-blocks-greatest}
use Rattle.coxeter.proofs.FormLaws.{block_lengths, length-blocks}
use Rattle.distribution.specs.AllWindows.{keep}
use Rattle.distribution.specs.Distribution.{of_length, distribution}
use Rattle.distribution.proofs.Members.{length_le_of_map, once_keep}
use Rattle.distribution.proofs.Sums.{times_of, up_snoc}
use Rattle.distribution.proofs.IndexLists.{count_indices, once_index_lists, all, long_indices, of_long, in_long, of_length-indices}

-- ---- opposite indices

-- j counted from the other end of its range, at each level
unfoldable pub opposite : Kind → ℕ → ℕ → List ℕ → List ℕ
opposite k n i [] = []
opposite k n i (j ∷ js) = (i + last_index k n i - suc j) ∷ opposite k n (suc i) js

opposite_in_range : (k : Kind) (n : ℕ) {i : ℕ} {js : List ℕ} → Indices k n i js → Indices k n i (opposite k n i js)
unfolding opposite
opposite_in_range k n (none e) = none e
opposite_in_range k n {i} (level {j = j} a b c d) =
    level {i = i} {j = i + last_index k n i - suc j} a (omega arith) (omega arith) (opposite_in_range k n d)

opposite-opposite : (k : Kind) (n : ℕ) {i : ℕ} {js : List ℕ} → 1 ≤ i → Indices k n i js → opposite k n i (opposite k n i js) ≡ js
unfolding opposite
opposite-opposite k n o (none e) = refl
opposite-opposite k n o (level a b c d) = ap₂ (λ (x : ℕ) (l : List ℕ). x ∷ l) (omega arith) (opposite-opposite k n (omega arith) d)

-- ---- opposite lengths

pub block_length-opposite : (k : Kind) (n i j : ℕ) → 1 ≤ i → i ≤ levels k n → i ≤ suc j → j ≤ last_index k n i
    → block_length k n i (i + last_index k n i - suc j) + block_length k n i j ≡ block_length k n i (last_index k n i)
block_length-opposite A n i j o h a b = omega arith
block_length-opposite B n i j o h a b = omega arith
block_length-opposite D n i j o h a b = block_length-opposite_by_cases (ltb j n) refl
  where
    last : block_length D n i (2 * n - i) ≡ 2 * n - i - i
    last = rw (le-ltb (2 * n - i) n (omega arith))

    block_length-opposite_by_cases : (t : Bool) → ltb j n ≡ t → block_length D n i (i + (2 * n - i) - suc j) + block_length D n i j ≡ block_length D n i (2 * n - i)
    block_length-opposite_by_cases true e =
        let l = ltb-true j n e in
        rw (last, lt-ltb j n l, le-ltb (i + (2 * n - i) - suc j) n (omega arith)) (omega arith)
    block_length-opposite_by_cases false e =
        let l = ltb-false j n e in
        rw (last, le-ltb j n l, lt-ltb (i + (2 * n - i) - suc j) n (omega arith)) (omega arith)

-- the last index of each level
abbrev pub last_indices : Kind → ℕ → ℕ → ℕ → List ℕ
last_indices k n i t = map (last_index k n) (up i t)

pub block_lengths-opposite : (k : Kind) (n : ℕ) {i : ℕ} {js : List ℕ} → 1 ≤ i → Indices k n i js
    → block_lengths k n i (opposite k n i js) + block_lengths k n i js ≡ block_lengths k n i (last_indices k n i (length js))
unfolding block_lengths opposite up
block_lengths-opposite k n o (none e) = refl
block_lengths-opposite k n {i} o (level {j = j} {js = js} a b c d) =
    omega (arith, block_length-opposite k n i j o a b c, block_lengths-opposite k n (omega arith) d)

pub block_lengths-greatest : (k : Kind) (n : ℕ) → least k ≤ n → block_lengths k n 1 (greatest_indices k n) ≡ greatest_length k n
block_lengths-greatest k n h = sym (length-blocks k n (omega arith) (indices-greatest k n)) ∙ length-blocks-greatest k n h

module _ (k : Kind) (n : ℕ) (h : least k ≤ n) where
  opposite-length : (js : List ℕ) → Indices k n 1 js → block_lengths k n 1 (opposite k n 1 js) + block_lengths k n 1 js ≡ greatest_length k n
  unfolding greatest_indices
  opposite-length js d =
      let l : length js ≡ levels k n = omega (arith, length_of_indices k n d) in
      block_lengths-opposite k n (omega arith) d
      ∙ ap (λ (t : ℕ). block_lengths k n 1 (last_indices k n 1 t)) l
      ∙ block_lengths-greatest k n h

  count_le : (l m : ℕ) → l + m ≡ greatest_length k n → count_indices k n (levels k n) 1 l ≤ count_indices k n (levels k n) 1 m
  unfolding times_of
  count_le l m e =
      length_le_of_map (opposite k n 1) (keep (long_indices k n l) (all k n)) (keep (long_indices k n m) (all k n))
      (once_keep (long_indices k n l) (all k n) (once_index_lists k n (levels k n) 1))
      (λ is js i j q.
      sym (again (of_long k n l is i).0) ∙ ap (opposite k n 1) q ∙ again (of_long k n l js j).0)
      (λ js i.
      let d = of_long k n l js i in
      in_long k n m (opposite k n 1 js) (opposite_in_range k n d.0) (omega (arith, opposite-length js d.0)))
    where
      again : {js : List ℕ} → Indices k n 1 js → opposite k n 1 (opposite k n 1 js) ≡ js
      again d = opposite-opposite k n (omega arith) d

  -- as many windows lack l to the greatest length as have the length l
  of_length-ends : (l m : ℕ) → l + m ≡ greatest_length k n → of_length k n l ≡ of_length k n m
  of_length-ends l m e =
      of_length-indices k n l ∙ le_antisymm (count_le l m e) (count_le m l (omega arith)) ∙ sym (of_length-indices k n m)

-- ---- the table

map-up-suc : (f : ℕ → ℕ) (i m : ℕ) → map f (up (suc i) m) ≡ map (λ l. f (suc l)) (up i m)
unfolding up
map-up-suc f i zero = refl
map-up-suc f i (suc m) = ap (λ (l : List ℕ). f (suc i) ∷ l) (map-up-suc f (suc i) m)

reverse-map-up : (f g : ℕ → ℕ) (m : ℕ) → ((a b : ℕ) → a + suc b ≡ m → f a ≡ g b) → reverse (map f (up 0 m)) ≡ map g (up 0 m)
reverse-map-up f g zero h = unfold up in refl
reverse-map-up f g (suc m) h =
    ap (λ (l : List ℕ). reverse (map f l)) (up_snoc 0 m)
    ∙ ap reverse (map-append f (up 0 m) ((0 + m) ∷ []))
    ∙ reverse-append (map f (up 0 m)) (f (0 + m) ∷ [])
    ∙ ap₂ (λ (x : ℕ) (l : List ℕ). x ∷ l) (h (0 + m) 0 (omega arith))
    (reverse-map-up f (λ l. g (suc l)) m (λ a b e. h a (suc b) (omega arith)) ∙ sym (map-up-suc g 0 m))
    ∙ unfold up in refl

-- the table read from its end is the table
pub reverse-distribution : (k : Kind) (n : ℕ) → least k ≤ n → reverse (distribution k n) ≡ distribution k n
unfolding distribution
reverse-distribution k n h =
    reverse-map-up (of_length k n) (of_length k n) (greatest_length k n + 1) (λ a b e. of_length-ends k n h a b (omega arith))
