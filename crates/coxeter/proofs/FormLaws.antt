-- Corollaries on normal forms: lengths, joined and reversed words, windows as lists of js.
-- Assumes nothing.
use mathlib.Core.Path.{◌≡◌, refl, sym, ap, ◌∙◌}
use mathlib.Core.Logic.{◌↔◌}
use mathlib.Core.List.{List, [], ◌∷◌, ◌++◌, reverse}
use Prim.Native.Nat.{ℕ, suc, ◌+◌, ◌≤◌}
use native.Mathlib.Omega.{arith}
use lib.IntN.{ℤ}
use lib.ListN.{length, length-append}
use borrow.Author.Tests.{eq-eqb}
use Rattle.coxeter.specs.answers.Answer.{Length}
use Rattle.coxeter.specs.answers.Counted as counted
use Rattle.coxeter.proofs.Levels.{Accepted, window_accepted, accepted_of_refusal}
use Rattle.coxeter.proofs.Products.{window-append}
use Rattle.coxeter.proofs.Inverses.{window-reverse}
use Rattle.coxeter.proofs.Indices.{indices, indices_in_range}
use Rattle.coxeter.proofs.NormalForms.{normal_form_is_blocks, normal_form-blocks, normal_form_injective}
use Rattle.coxeter.proofs.Lengths.{block_length, length-block, length-normal_form}
use Rattle.coxeter.proofs.GreatestLengths.{greatest_indices, indices-greatest, window_length_of_greatest}
use Rattle.coxeter.proofs.AnswersExactly.{counted_of_exactly}
use Rattle.coxeter.specs.declared.Kind.{Kind}
use Rattle.coxeter.specs.Kinds.{kind_of, least}
use Rattle.coxeter.specs.Windows.{window, product, inverse}
use Rattle.coxeter.specs.Length.{Crossings, total, window_length, greatest_length}
use Rattle.coxeter.specs.Checks.{rank_refusal, word_refusal, window_refusal, RankOf, WordOf, WindowOf}
use Rattle.coxeter.specs.NormalForm.{block, blocks, Indices, none, level, levels, normal_form, word_normal_form}
use Rattle.coxeter.specs.Calls.{answer_of, counted_of, length_of_window, length_of_word, crossings_of_window, crossings_of_word}

-- ---- lengths

-- the length calls answer the normal form's length
pub length_of_window-normal_form : (k n : ℕ) (w : List ℤ) → RankOf k n → WindowOf (kind_of k) n w
    → length_of_window k n w ≡ Length (length (normal_form (kind_of k) n w))
unfolding length_of_window answer_of
length_of_window-normal_form k n w h g =
    rw (eq-eqb (rank_refusal k n) 0 h, eq-eqb (window_refusal (kind_of k) n w) 0 g)
    (ap Length (sym (length-normal_form (kind_of k) n w (accepted_of_refusal (kind_of k) n w g))))

pub length_of_word-normal_form : (k n : ℕ) (u : List ℕ) → RankOf k n → WordOf n u
    → length_of_word k n u ≡ Length (length (word_normal_form (kind_of k) n u))
unfolding length_of_word answer_of
length_of_word-normal_form k n u h g =
    rw (eq-eqb (rank_refusal k n) 0 h, eq-eqb (word_refusal n u) 0 g)
    (ap Length (sym (length-normal_form (kind_of k) n (window (kind_of k) n u) (window_accepted (kind_of k) n u))))

-- the length is the total of the three counts
total_of : (r : ℕ) (s : Crossings) (a b c : ℕ) → counted_of r s ≡ counted.Crossings a b c → answer_of r (total s) ≡ Length (a + b + c)
unfolding answer_of total
total_of r s a b c e = let p = ((counted_of_exactly r s).1 a b c).0 e in rw (eq-eqb r 0 p.0, p.1, p.2, p.3)

pub crossings_of_window-total : (k n : ℕ) (w : List ℤ) (a b c : ℕ) → crossings_of_window k n w ≡ counted.Crossings a b c
    → length_of_window k n w ≡ Length (a + b + c)
unfolding crossings_of_window length_of_window window_length
crossings_of_window-total k n w a b c e = total_of _ _ a b c e

pub crossings_of_word-total : (k n : ℕ) (u : List ℕ) (a b c : ℕ) → crossings_of_word k n u ≡ counted.Crossings a b c
    → length_of_word k n u ≡ Length (a + b + c)
unfolding crossings_of_word length_of_word window_length
crossings_of_word-total k n u a b c e = total_of _ _ a b c e

-- the greatest length is reached
pub greatest-reached : (k : Kind) (n : ℕ) → least k ≤ n → window_length k (window k n (blocks k n 1 (greatest_indices k n))) ≡ greatest_length k n
greatest-reached k n r =
    window_length_of_greatest k n (window k n (blocks k n 1 (greatest_indices k n))) r (window_accepted k n _)
    (normal_form-blocks k n (greatest_indices k n) (indices-greatest k n))

-- ---- equal windows

pub normal_form_eq_iff : (k : Kind) (n : ℕ) (v w : List ℤ) → Accepted k n v → Accepted k n w
    → (normal_form k n v ≡ normal_form k n w) ↔ (v ≡ w)
normal_form_eq_iff k n v w a b = (normal_form_injective k n v w a b, λ e. ap (normal_form k n) e)

pub word_normal_form_eq_iff : (k : Kind) (n : ℕ) (u v : List ℕ) → (word_normal_form k n u ≡ word_normal_form k n v) ↔ (window k n u ≡ window k n v)
word_normal_form_eq_iff k n u v = normal_form_eq_iff k n (window k n u) (window k n v) (window_accepted k n u) (window_accepted k n v)

-- ---- products and inverses of words

pub normal_form-product : (k : Kind) (n : ℕ) (u v : List ℕ) → normal_form k n (product (window k n u) (window k n v)) ≡ word_normal_form k n (u ++ v)
normal_form-product k n u v = ap (normal_form k n) (sym (window-append k n u v))

pub normal_form-inverse : (k : Kind) (n : ℕ) (u : List ℕ) → normal_form k n (inverse (window k n u)) ≡ word_normal_form k n (reverse u)
normal_form-inverse k n u = ap (normal_form k n) (sym (window-reverse k n u))

-- ---- a window is its list of js

-- the sum of the blocks' lengths
unfoldable pub block_lengths : Kind → ℕ → ℕ → List ℕ → ℕ
block_lengths k n i [] = 0
block_lengths k n i (j ∷ js) = block_lengths k n (suc i) js + block_length k n i j

pub length-blocks : (k : Kind) (n : ℕ) {i : ℕ} {js : List ℕ} → 1 ≤ i → Indices k n i js → length (blocks k n i js) ≡ block_lengths k n i js
unfolding blocks block_lengths
length-blocks k n o (none e) = refl
length-blocks k n {i} o (level {j = j} {js = js} a b c d) =
    length-append (blocks k n (suc i) js) (block k n i j)
    ∙ ap (λ (x : ℕ). x + length (block k n i j)) (length-blocks k n (omega arith) d)
    ∙ ap (λ (x : ℕ). block_lengths k n (suc i) js + x) (length-block k n i j o a c)

-- the length of a window is the sum of its blocks' lengths
pub window_length-blocks : (k : Kind) (n : ℕ) (w : List ℤ) → Accepted k n w → window_length k w ≡ block_lengths k n 1 (indices k n (levels k n) 1 w)
window_length-blocks k n w a =
    sym (length-normal_form k n w a) ∙ ap length (normal_form_is_blocks k n w) ∙ length-blocks k n (omega arith) (indices_in_range k n w a)
