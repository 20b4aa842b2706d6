-- The exchange property. If a step at an end of a word makes its window's length smaller, a letter of the word can
-- be deleted instead: the step and a shortest word of the shorter window are together a shortest word of the
-- first window, and leaving out the step is carried to the word (Shortest). Of a shortest word there is just one
-- such letter, since two would leave a shorter word with the same window.
--
-- Sections: a step at an end; cancelling; exactly one letter.
-- Assumes nothing.
use mathlib.Core.Path.{◌≡◌, refl, sym, ap, subst, ◌∙◌}
use mathlib.Core.Bool.{false}
use mathlib.Core.List.{List, [], ◌∷◌, ◌++◌, append-nil}
use Prim.Native.Nat.{ℕ, zero, suc, ◌≤◌, ◌<◌}
use native.Mathlib.Omega.{arith}
use lib.IntN.{ℤ}
use lib.ListN.{length, length-append}
use Rattle.coxeter.specs.declared.Kind.{Kind}
use Rattle.coxeter.specs.Kinds.{least, lanes}
use Rattle.coxeter.specs.Windows.{act, window_from, identity, window, product}
use Rattle.coxeter.specs.Length.{window_length}
use Rattle.coxeter.specs.Checks.{wrong_letter}
use Rattle.coxeter.specs.NormalForm.{normal_form}
use Rattle.coxeter.proofs.Basics.{window_from-append}
use Rattle.coxeter.proofs.Levels.{Accepted, window_accepted}
use Rattle.coxeter.proofs.Steps.{act_involution}
use Rattle.coxeter.proofs.Relations.{congruent_window, wrong_letter_cons}
use Rattle.coxeter.proofs.Products.{window-append}
use Rattle.coxeter.proofs.Order.{less, same, more, compared}
use Rattle.coxeter.proofs.NormalForms.{window-normal_form, normal_form-letters}
use Rattle.coxeter.proofs.Lengths.{length-normal_form}
use Rattle.shortest_words.specs.OneLetter.{Shortest, drop_at, Removable, added, OneLetter}
use Rattle.shortest_words.proofs.Subwords.{Subword, leave, subword_whole, subword_append, none, subword_letters, subword_of_drop_at}
use Rattle.shortest_words.proofs.Subwords.{length-drop_at, drop_at_of_subword}
use Rattle.shortest_words.proofs.Carrying.{CarriedPart}
use Rattle.shortest_words.proofs.Shortest.{letters_snoc, window_length_le, length_of_shortest, shortest_of_length, shortest_carries}

-- ---- a step at an end

-- what leaves out one letter is carried to what leaves out one letter
removable_of_carried : (k : Kind) (n : ℕ) (z u v : List ℕ) → CarriedPart k n z u v → length z ≡ suc (length v)
    → (i : ℕ) × Removable k n u (window k n v) i
removable_of_carried k n z u v c l =
    let d = drop_at_of_subword c.is (omega (arith, c.count)) in
    (d.0, (d.1, sym (congruent_window k n c.link ∙ ap (window k n) d.2)))

-- z has the window of u, and is the normal form of a shorter window with one letter more
deleted : {k : Kind} {n : ℕ} (u : List ℕ) {z : List ℕ} {w : List ℤ} → least k ≤ n → wrong_letter n u ≡ false → Accepted k n w
    → window_length k w < window_length k (window k n u) → wrong_letter n z ≡ false → window k n z ≡ window k n u
    → Subword z (normal_form k n w) → length z ≡ suc (length (normal_form k n w)) → (i : ℕ) × Removable k n u w i
deleted {k} {n} u {z} {w} h e a g f q p l =
    let short : length z ≤ window_length k (window k n z) = omega (arith, length-normal_form k n w a, ap (window_length k) q) in
    let c = shortest_carries k n z u h (shortest_of_length k n z h f short) e q (normal_form k n w) p in
    subst (λ (x : List ℤ). (i : ℕ) × Removable k n u x i) (window-normal_form k n w a) (removable_of_carried k n z u (normal_form k n w) c l)

pub window_snoc : (k : Kind) (n : ℕ) (u : List ℕ) (s : ℕ) → window k n (u ++ (s ∷ [])) ≡ act k n s (window k n u)
unfolding window window_from
window_snoc k n u s = window_from-append k n (identity (lanes k n)) u (s ∷ [])

pub window_twice : (k : Kind) (n s : ℕ) (u : List ℕ) → window k n (s ∷ s ∷ u) ≡ window k n u
unfolding window window_from
window_twice k n s u = ap (λ (w : List ℤ). window_from k n w u) (act_involution k n s (identity (lanes k n)))

module _ (k : Kind) (n : ℕ) (u : List ℕ) (s : ℕ) (h : least k ≤ n) (e : wrong_letter n u ≡ false) (o : 1 ≤ s) (l : s ≤ n) where
  -- if the step at the end of a word, shortest or not, makes the window's length smaller, one letter of the word
  -- can be deleted instead
  pub exchange : window_length k (added k n u s) < window_length k (window k n u) → (i : ℕ) × Removable k n u (added k n u s) i
  exchange g =
      let w : List ℤ = added k n u s in
      let a = window_accepted k n (u ++ (s ∷ [])) in
      let v : List ℕ = normal_form k n w in
      let shows : window k n (v ++ (s ∷ [])) ≡ window k n u =
      window_snoc k n v s ∙ ap (act k n s) (window-normal_form k n w a ∙ window_snoc k n u s) ∙ act_involution k n s (window k n u) in
      deleted u h e a g (letters_snoc n v s (normal_form-letters k n w a) o l) shows
      (rw append-nil at (subword_append (subword_whole v) (leave {a = s} none))) (simp length-append (omega arith))

  -- the same for a step at the front
  pub exchange_front : window_length k (window k n (s ∷ u)) < window_length k (window k n u) → (i : ℕ) × Removable k n u (window k n (s ∷ u)) i
  exchange_front g =
      let w : List ℤ = window k n (s ∷ u) in
      let a = window_accepted k n (s ∷ u) in
      let v : List ℕ = normal_form k n w in
      let shows : window k n (s ∷ v) ≡ window k n u =
      window-append k n (s ∷ []) v ∙ ap (product (window k n (s ∷ []))) (window-normal_form k n w a)
      ∙ sym (window-append k n (s ∷ []) (s ∷ u)) ∙ window_twice k n s u in
      deleted u h e a g (wrong_letter_cons n s v o l ∙ normal_form-letters k n w a) shows (leave (subword_whole v)) refl

-- ---- cancelling

act_injective : (k : Kind) (n s : ℕ) (w x : List ℤ) → act k n s w ≡ act k n s x → w ≡ x
act_injective k n s w x e = sym (act_involution k n s w) ∙ ap (act k n s) e ∙ act_involution k n s x

pub window_from_injective : (k : Kind) (n : ℕ) (w x : List ℤ) (u : List ℕ) → window_from k n w u ≡ window_from k n x u → w ≡ x
unfolding window_from
window_from_injective k n w x [] e = e
window_from_injective k n w x (s ∷ u) e = act_injective k n s w x (window_from_injective k n (act k n s w) (act k n s x) u e)

-- where a letter stands for the difference of two windows, it does so either way
drop_at_across : (k : Kind) (n : ℕ) (w x : List ℤ) (j : ℕ) (u : List ℕ) → j < length u
    → window_from k n w u ≡ window_from k n x (drop_at j u) → window_from k n x u ≡ window_from k n w (drop_at j u)
unfolding window_from drop_at
drop_at_across k n w x j [] h e = absurd (omega arith)
drop_at_across k n w x zero (b ∷ u) h e =
    let f : act k n b w ≡ x = window_from_injective k n (act k n b w) x u e in
    ap (λ (y : List ℤ). window_from k n y u) (ap (act k n b) (sym f) ∙ act_involution k n b w)
drop_at_across k n w x (suc j) (c ∷ u) h e = drop_at_across k n (act k n c w) (act k n c x) j u (omega arith) e

-- two places whose letters do the same
drop_at-drop_at : (k : Kind) (n : ℕ) (w : List ℤ) (i j : ℕ) (u : List ℕ) → i < j → j < length u
    → window_from k n w (drop_at i u) ≡ window_from k n w (drop_at j u) → window_from k n w (drop_at i (drop_at j u)) ≡ window_from k n w u
unfolding window_from drop_at
drop_at-drop_at k n w i j [] g h e = absurd (omega arith)
drop_at-drop_at k n w i zero (a ∷ u) g h e = absurd (omega arith)
drop_at-drop_at k n w zero (suc j) (a ∷ u) g h e = sym (drop_at_across k n w (act k n a w) j u (omega arith) e)
drop_at-drop_at k n w (suc i) (suc j) (a ∷ u) g h e = drop_at-drop_at k n (act k n a w) i j u (omega arith) (omega arith) e

-- ---- exactly one letter

-- no two letters of a shortest word do the same
shortest_apart : (k : Kind) (n : ℕ) (u : List ℕ) (i j : ℕ) → Shortest k n u → i < j → j < length u
    → window k n (drop_at i u) ≡ window k n (drop_at j u) → ⊥
unfolding window
shortest_apart k n u i j s g h e =
    let one = length-drop_at j u h in
    let two = length-drop_at i (drop_at j u) (omega arith) in
    let letters = subword_letters n (subword_of_drop_at i (drop_at j u)) (subword_letters n (subword_of_drop_at j u) s.steps) in
    let l = s.none_shorter (drop_at i (drop_at j u)) letters (drop_at-drop_at k n (identity (lanes k n)) i j u g h e) in
    omega arith

-- X2, X3: of a word and a window, from a letter that can be removed if the window is shorter
one_letter_of : (k : Kind) (n : ℕ) (u : List ℕ) (w : List ℤ) → least k ≤ n → Shortest k n u
    → (window_length k w < window_length k (window k n u) → (i : ℕ) × Removable k n u w i) → OneLetter k n u w
one_letter_of k n u w h m f =
    record {
      some = f;
      only = λ i j p q.
          elim (compared i j) [
            | less g ↦ absurd (shortest_apart k n u i j m g q.0 (p.1 ∙ sym q.1))
            | same e ↦ e
            | more g ↦ absurd (shortest_apart k n u j i m g p.0 (q.1 ∙ sym p.1))
          ];
      none = λ g i p.
          let below = window_length_le k n (drop_at i u) h (subword_letters n (subword_of_drop_at i u) m.steps) in
          omega (arith, below, ap (window_length k) p.1, length-drop_at i u p.0, length_of_shortest k n u h m);
    }

-- X2, X3: for every rank from the kind's least on, a step at the end of a shortest word, and the same for a step at
-- its front
module _ (k : Kind) (n : ℕ) (u : List ℕ) (s : ℕ) (h : least k ≤ n) (m : Shortest k n u) (o : 1 ≤ s) (l : s ≤ n) where
  pub one_letter : OneLetter k n u (added k n u s)
  one_letter = one_letter_of k n u (added k n u s) h m (exchange k n u s h m.steps o l)

  pub one_letter_front : OneLetter k n u (window k n (s ∷ u))
  one_letter_front = one_letter_of k n u (window k n (s ∷ u)) h m (exchange_front k n u s h m.steps o l)
