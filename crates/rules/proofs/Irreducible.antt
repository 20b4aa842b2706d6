-- A word of steps is a word of blocks, or a rule fits somewhere in it: level by level, each word cut at its first
-- letter i.
-- Assumes nothing.
use mathlib.Core.Path.{◌≡◌, refl, sym, ap, ap₂, ◌∙◌}
use mathlib.Core.Bool.{false}
use mathlib.Core.Logic.{◌⊎◌, inl, inr}
use mathlib.Core.List.{List, [], ◌∷◌, ◌++◌, append_assoc, append-nil, Memᴰ}
use Prim.Native.Nat.{ℕ, zero, suc, ◌+◌, ◌-◌, ◌≤◌, ◌<◌}
use native.Mathlib.Omega.{arith}
use Rattle.coxeter.specs.declared.Kind.{Kind}
use Rattle.coxeter.specs.Kinds.{least}
use Rattle.coxeter.specs.Checks.{wrong_letter}
use Rattle.coxeter.specs.NormalForm.{block, blocks, Indices, none, level, levels, last_index}
use Rattle.coxeter.proofs.KindLaws.{one_le_levels, levels_le}
use Rattle.coxeter.proofs.BlockEntries.{block_empty}
use Rattle.coxeter.proofs.LetterRuns.{span_nil, IsBlock, block_up}
use Rattle.rules.proofs.Rewriting.{Rewrites}
use Rattle.rules.proofs.Ending.{letters_of_accepted}
use Rattle.rules.proofs.NextLetter.{le_last_index}
use Rattle.rules.proofs.Extending.{Reducible, reducible_within, extended_letter}
use Rattle.coxeter.proofs.Order.{less, same, more, compared}
use Rattle.coxeter.proofs.LetterLaws.{letter_within_cons}
use Rattle.rules.proofs.Letters.{block_one}

-- ---- words over the letters of a level

-- every letter is from i to n
abbrev pub Letters : ℕ → ℕ → List ℕ → Type 0
Letters i n [] = Unit {0}
Letters i n (x ∷ u) = (i ≤ x) × (x ≤ n) × Letters i n u

pub letters-from : (i n : ℕ) (u : List ℕ) → wrong_letter n u ≡ false → ((a : ℕ) → Memᴰ a u → i ≤ a) → Letters i n u
letters-from i n [] e f = tt
letters-from i n (s ∷ u) e f =
    let h = letter_within_cons n s u e in
    (f s (Memᴰ.head refl), h.1, letters-from i n u h.2 (λ a m. f a (Memᴰ.tail m)))

letters_of_steps : (n : ℕ) (u : List ℕ) → wrong_letter n u ≡ false → Letters 1 n u
letters_of_steps n u e = letters-from 1 n u e (λ a m. (letters_of_accepted n u e a m).0)

-- u is a word over the letters above i, or such a word, then i, then the rest
data Cut (i n : ℕ) (u : List ℕ) : Type 0 where
  whole : Letters (suc i) n u → Cut i n u
  cut : (p s : List ℕ) → Letters (suc i) n p → Letters i n s → u ≡ p ++ (i ∷ s) → Cut i n u

cut_first : (i n : ℕ) (u : List ℕ) → Letters i n u → Cut i n u
cut_first i n [] h = whole tt
cut_first i n (x ∷ u) h =
    elim (compared i x) [
      | less t ↦
          elim (cut_first i n u h.2) [
            | whole l ↦ whole (t, h.1, l)
            | cut p s l m e ↦ cut (x ∷ p) s (t, h.1, l) m (ap (λ (w : List ℕ). x ∷ w) e)
          ]
      | same t ↦ cut [] u tt h.2 (ap (λ (y : ℕ). y ∷ u) (sym t))
      | more t ↦ absurd (omega (arith, h.0))
    ]

-- ---- one level

-- a block of level i, or reducible
abbrev OneBlock : Kind → ℕ → ℕ → List ℕ → Type 0
OneBlock k n i w = ((j : ℕ) × (i ≤ suc j) × (j ≤ last_index k n i) × (w ≡ block k n i j)) ⊎ Reducible k n w

extended_word : {k : Kind} {n i j : ℕ} (u : List ℕ) → IsBlock k n i j → (i ≤ j) ⊎ (suc j ≡ levels k n) → Letters i n u → OneBlock k n i (block k n i j ++ u)
extended_word {k} {n} {i} {j} [] b s t = inl (j, b.at_least, b.at_most, append-nil (block k n i j))
extended_word {k} {n} {i} {j} (x ∷ u) b s t =
    rw (← append_assoc (block k n i j) (x ∷ []) u)
    (elim (extended_letter b s t.0 t.1) [
      | inl r ↦ let c : IsBlock k n i r.0 = omega arith in rw r.3 (extended_word {j = r.0} u c (inl r.1) t.2)
      | inr r ↦ inr (reducible_within [] u r)
    ])

-- [i,i] is a block
pub block_first : (k : Kind) (n i : ℕ) → 1 ≤ i → i ≤ levels k n → IsBlock k n i i
block_first k n i o h = let l = levels_le k n in omega (arith, le_last_index k n i i (omega arith) (omega arith))

-- a word that begins with i and has no lower letter
pub one_block : (k : Kind) (n i : ℕ) (u : List ℕ) → least k ≤ n → 1 ≤ i → i ≤ levels k n → Letters i n u
    → ((j : ℕ) × (i ≤ suc j) × (j ≤ last_index k n i) × (i ∷ u ≡ block k n i j)) ⊎ Reducible k n (i ∷ u)
one_block k n i u h o g l =
    rw (block_one k n i h (omega (arith, levels_le k n))) at (extended_word u (block_first k n i o g) (inl (omega arith)) l)

-- ---- all levels

pub block_empty_landed : (k : Kind) (n i : ℕ) → i < n → block k n (suc i) i ≡ []
block_empty_landed k n i h = block_up k n (suc i) i h ∙ span_nil (suc i) (suc i) (omega arith)

-- a word of blocks of the levels from i on, or reducible
abbrev Settled : Kind → ℕ → ℕ → List ℕ → Type 0
Settled k n i u = ((js : List ℕ) × Indices k n i js × (u ≡ blocks k n i js)) ⊎ Reducible k n u

settled_level : (k : Kind) (n i : ℕ) (p w : List ℕ) → i ≤ levels k n → Settled k n (suc i) p → OneBlock k n i w → Settled k n i (p ++ w)
unfolding blocks
settled_level k n i p w h (inl s) (inl b) =
    inl (b.0 ∷ s.0, level h b.1 b.2 s.1, ap₂ (λ (x y : List ℕ). x ++ y) s.2 b.3)
settled_level k n i p w h (inl s) (inr b) = inr (rw append-nil at (reducible_within p [] b))
settled_level k n i p w h (inr s) (inl b) = inr (reducible_within [] w s)
settled_level k n i p w h (inr s) (inr b) = inr (reducible_within [] w s)

-- t levels after level suc i: the last level starts from the empty block, every other one from the first letter of
-- its own
settled_from : (k : Kind) (n : ℕ) → least k ≤ n → (t i : ℕ) → suc i + t ≡ levels k n → (u : List ℕ) → Letters (suc i) n u → Settled k n (suc i) u
unfolding blocks
settled_from k n h zero i e u l =
    let f = levels_le k n in
    let b : IsBlock k n (suc i) i = omega (arith, le_last_index k n (suc i) i (omega arith) (omega arith)) in
    rw (block_empty k n (suc i) i (omega arith) (omega arith)) at
    (settled_level k n (suc i) [] (block k n (suc i) i ++ u) (omega arith) (inl ([], none (omega arith), refl))
    (extended_word u b (inr (omega arith)) l))
settled_from k n h (suc t) i e u l =
    let f = levels_le k n in
    elim (cut_first (suc i) n u l) [
      | whole q ↦
          rw append-nil at
          (settled_level k n (suc i) u [] (omega arith) (settled_from k n h t (suc i) (omega arith) u q)
          (inl (i, omega arith, le_last_index k n (suc i) i (omega arith) (omega arith), sym (block_empty k n (suc i) i (omega arith) (omega arith)))))
      | cut p s q m z ↦
          rw z
          (rw (block_one k n (suc i) h (omega arith)) at
          (settled_level k n (suc i) p (block k n (suc i) (suc i) ++ s) (omega arith) (settled_from k n h t (suc i) (omega arith) p q)
          (extended_word s (block_first k n (suc i) (omega arith) (omega arith)) (inl (omega arith)) m)))
    ]

-- a word over the letters from i on
pub blocks-from_or_rewrites : (k : Kind) (n i : ℕ) → least k ≤ n → 1 ≤ i → i ≤ levels k n → (u : List ℕ) → Letters i n u
    → ((js : List ℕ) × Indices k n i js × (u ≡ blocks k n i js)) ⊎ ((v : List ℕ) × Rewrites k n u v)
blocks-from_or_rewrites k n zero h o g u l = absurd (omega arith)
blocks-from_or_rewrites k n (suc i) h o g u l = settled_from k n h (levels k n - suc i) i (omega arith) u l

pub blocks_or_rewrites : (k : Kind) (n : ℕ) → least k ≤ n → (u : List ℕ) → wrong_letter n u ≡ false
    → ((js : List ℕ) × Indices k n 1 js × (u ≡ blocks k n 1 js)) ⊎ ((v : List ℕ) × Rewrites k n u v)
blocks_or_rewrites k n h u w = settled_from k n h (levels k n - 1) 0 (omega (arith, one_le_levels k n h)) u (letters_of_steps n u w)
