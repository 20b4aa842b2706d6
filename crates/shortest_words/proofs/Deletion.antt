-- The deletion property: a word longer than its window's length has two letters that can both be removed. By the
-- first letter that makes the length of the window smaller, and the letter before it that can be deleted in its
-- place. And so every word has a part-list that is a shortest word with its window.
--
-- Sections: two letters; the first letter that lowers the length; shortest part-lists.
-- Assumes nothing.
use mathlib.Core.Path.{◌≡◌, refl, sym, ap, subst, ◌∙◌}
use mathlib.Core.Bool.{Bool, true, false, ◌||◌}
use mathlib.Core.List.{List, [], ◌∷◌, ◌++◌, append-nil}
use Prim.Native.Nat.{ℕ, zero, suc, ◌≤◌, ◌<◌}
use native.Mathlib.Nat.{lt_of_not-le}
use native.Mathlib.Decide.{dec_le}
use native.Mathlib.Omega.{arith}
use lib.IntN.{ℤ}
use lib.ListN.{length, length-append}
use lib.Seq.{append_snoc}
use Rattle.coxeter.specs.declared.Kind.{Kind}
use Rattle.coxeter.specs.Kinds.{least, lanes}
use Rattle.coxeter.specs.Windows.{window_from, identity, window}
use Rattle.coxeter.specs.Length.{window_length}
use Rattle.coxeter.specs.Checks.{wrong_letter}
use Rattle.coxeter.proofs.Basics.{window_from-append, or_false_left, or_false_right}
use Rattle.coxeter.proofs.LetterLaws.{letter_within_cons}
use Rattle.coxeter.proofs.Levels.{window_accepted}
use Rattle.coxeter.proofs.Relations.{wrong_letter-append}
use Rattle.coxeter.proofs.Descents.{crossed, length_of_crossed, length_of_uncrossed}
use Rattle.shortest_words.specs.OneLetter.{Shortest, drop_at, Removable, added}
use Rattle.shortest_words.proofs.Subwords.{Subword, subword_whole, subword_trans, subword_letters, subword_of_drop_at, length-drop_at}
use Rattle.shortest_words.proofs.Shortest.{window_length_le, shortest_of_length}
use Rattle.shortest_words.proofs.Exchange.{window_snoc, exchange}

-- ---- two letters

-- two places whose letters can both be removed so that the rest has the window of the word
pub record TwoLetters (k : Kind) (n : ℕ) (u : List ℕ) : Type 0 where
  pub first : ℕ
  pub second : ℕ
  pub below : first < second
  pub inside : second < length u
  pub shows : window k n (drop_at first (drop_at second u)) ≡ window k n u

pub drop_at-append : (i : ℕ) (x y : List ℕ) → i < length x → drop_at i (x ++ y) ≡ drop_at i x ++ y
unfolding drop_at
drop_at-append i [] y h = absurd (omega arith)
drop_at-append zero (a ∷ x) y h = refl
drop_at-append (suc i) (a ∷ x) y h = ap (λ (l : List ℕ). a ∷ l) (drop_at-append i x y (omega arith))

pub drop_at_seam : (x : List ℕ) (s : ℕ) (y : List ℕ) → drop_at (length x) (x ++ (s ∷ y)) ≡ x ++ y
unfolding drop_at
drop_at_seam [] s y = refl
drop_at_seam (a ∷ x) s y = ap (λ (l : List ℕ). a ∷ l) (drop_at_seam x s y)

pub window-from : (k : Kind) (n : ℕ) (u v : List ℕ) → window k n (u ++ v) ≡ window_from k n (window k n u) v
unfolding window
window-from k n u v = window_from-append k n (identity (lanes k n)) u v

-- a letter removed in place of a step, with more letters behind
exchange_within : (k : Kind) (n : ℕ) (x : List ℕ) (s : ℕ) (y : List ℕ) → (i : ℕ) × Removable k n x (added k n x s) i → TwoLetters k n (x ++ (s ∷ y))
exchange_within k n x s y (i, r) =
    record {
      first = i;
      second = length x;
      below = r.0;
      inside = simp length-append (omega arith);
      shows =
          ap (λ (u : List ℕ). window k n (drop_at i u)) (drop_at_seam x s y)
          ∙ ap (window k n) (drop_at-append i x y r.0)
          ∙ window-from k n (drop_at i x) y
          ∙ ap (λ (w : List ℤ). window_from k n w y) r.1
          ∙ sym (window-from k n (x ++ (s ∷ [])) y)
          ∙ ap (window k n) (append_snoc x s y);
    }

-- ---- the first letter that lowers the length

-- x is as long as its window's length, y what follows
deletion_from : (k : Kind) (n : ℕ) (x y : List ℕ) → least k ≤ n → wrong_letter n (x ++ y) ≡ false → length x ≡ window_length k (window k n x)
    → window_length k (window k n (x ++ y)) < length (x ++ y) → TwoLetters k n (x ++ y)
deletion_from k n x [] h e q g = let f = rw append-nil at g in absurd (omega arith)
deletion_from k n x (s ∷ y) h e q g =
    deletion_from_by_cases (crossed k n s (window k n x)) refl
    (λ longer.
    subst (TwoLetters k n) (append_snoc x s y)
    (deletion_from k n (x ++ (s ∷ [])) y h (ap (wrong_letter n) (append_snoc x s y) ∙ e) longer (rw append_snoc g)))
  where
    letters : (wrong_letter n x || wrong_letter n (s ∷ y)) ≡ false
    letters = sym (wrong_letter-append n x (s ∷ y)) ∙ e

    front : wrong_letter n x ≡ false
    front = or_false_left (wrong_letter n x) (wrong_letter n (s ∷ y)) letters

    here : (1 ≤ s) × (s ≤ n) × (wrong_letter n y ≡ false)
    here = letter_within_cons n s y (or_false_right (wrong_letter n x) (wrong_letter n (s ∷ y)) letters)

    deletion_from_by_cases : (t : Bool) → crossed k n s (window k n x) ≡ t
        → (length (x ++ (s ∷ [])) ≡ window_length k (added k n x s) → TwoLetters k n (x ++ (s ∷ y))) → TwoLetters k n (x ++ (s ∷ y))
    deletion_from_by_cases true d next =
        let lower = length_of_crossed k n s (window k n x) h here.0 here.1 (window_accepted k n x) d in
        exchange_within k n x s y (exchange k n x s h front here.0 here.1 (omega (arith, ap (window_length k) (window_snoc k n x s))))
    deletion_from_by_cases false d next =
        let higher = length_of_uncrossed k n s (window k n x) h here.0 here.1 (window_accepted k n x) d in
        next (length-append x (s ∷ []) ∙ omega (arith, ap (window_length k) (window_snoc k n x s)))

-- a word longer than its window's length has two letters that can both be removed
pub deletion : (k : Kind) (n : ℕ) (u : List ℕ) → least k ≤ n → wrong_letter n u ≡ false → window_length k (window k n u) < length u → TwoLetters k n u
unfolding wrong_letter
deletion k n u h e g = deletion_from k n [] u h e (let l = window_length_le k n [] h refl in omega arith) g

-- ---- shortest part-lists

-- a part-list of u that is a shortest word with the window of u
pub record Shortened (k : Kind) (n : ℕ) (u : List ℕ) : Type 0 where
  pub word : List ℕ
  pub subword : Subword u word
  pub shortest : Shortest k n word
  pub shows : window k n word ≡ window k n u

-- words of less than t letters
shortened_below : (k : Kind) (n t : ℕ) (u : List ℕ) → least k ≤ n → wrong_letter n u ≡ false → length u < t → Shortened k n u
shortened_below k n zero u h e l = absurd (omega arith)
shortened_below k n (suc t) u h e l =
    elim (dec_le (length u) (window_length k (window k n u))) [
      | yes g ↦ record { word = u; subword = subword_whole u; shortest = shortest_of_length k n u h e g; shows = refl }
      | no g ↦
          let d = deletion k n u h e (lt_of_not-le g) in
          let p = subword_trans (subword_of_drop_at d.second u) (subword_of_drop_at d.first (drop_at d.second u)) in
          let one = length-drop_at d.second u d.inside in
          let two = length-drop_at d.first (drop_at d.second u) (omega (arith, d.below, d.inside)) in
          let r = shortened_below k n t (drop_at d.first (drop_at d.second u)) h (subword_letters n p e) (omega arith) in
          record { word = r.word; subword = subword_trans p r.subword; shortest = r.shortest; shows = r.shows ∙ d.shows }
    ]

pub shortened : (k : Kind) (n : ℕ) (u : List ℕ) → least k ≤ n → wrong_letter n u ≡ false → Shortened k n u
shortened k n u h e = shortened_below k n (suc (length u)) u h e (omega arith)
