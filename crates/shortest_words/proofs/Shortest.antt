-- Shortest words: they are the words as long as their window's length, and every part-list of one is carried to
-- every word with its window; by the rewriting of both words to their normal form. And a window and its inverse
-- have the same length.
--
-- Sections: letters; lengths; normal forms; part-lists; inverses.
-- Assumes nothing.
use mathlib.Core.Path.{◌≡◌, sym, ap, subst, ◌∙◌}
use mathlib.Core.Bool.{false}
use mathlib.Core.List.{List, [], ◌∷◌, ◌++◌, reverse, reverse-cons}
use Prim.Native.Nat.{ℕ, ◌≤◌}
use native.Mathlib.Omega.{arith}
use lib.IntN.{ℤ}
use lib.ListN.{length, length-reverse}
use Rattle.coxeter.specs.declared.Kind.{Kind}
use Rattle.coxeter.specs.Kinds.{least}
use Rattle.coxeter.specs.Windows.{window, inverse}
use Rattle.coxeter.specs.Length.{window_length}
use Rattle.coxeter.specs.Checks.{wrong_letter}
use Rattle.coxeter.specs.NormalForm.{normal_form, word_normal_form, IsNormalForm}
use Rattle.coxeter.proofs.LetterLaws.{letter_within_cons}
use Rattle.coxeter.proofs.Levels.{Accepted, window_accepted}
use Rattle.coxeter.proofs.Relations.{wrong_letter-append, wrong_letter_cons}
use Rattle.coxeter.proofs.Inverses.{inverse_accepted, inverse-inverse, window-reverse}
use Rattle.coxeter.proofs.NormalForms.{window-normal_form, normal_form-letters}
use Rattle.coxeter.proofs.Lengths.{length-normal_form}
use Rattle.rules.proofs.Completeness.{RewritesTo, rewrites_to_normal_form, normal_form-least, normal_form_only}
use Rattle.shortest_words.specs.OneLetter.{Shortest}
use Rattle.shortest_words.proofs.Carrying.{CarriesParts, carries_trans, rewrites_to_length, rewrites_to_carries, rewrites_to_carries_back}

-- ---- letters

pub letters_snoc : (n : ℕ) (u : List ℕ) (s : ℕ) → wrong_letter n u ≡ false → 1 ≤ s → s ≤ n → wrong_letter n (u ++ (s ∷ [])) ≡ false
unfolding wrong_letter
letters_snoc n u s e o l = rw (wrong_letter-append, e) (wrong_letter_cons n s [] o l)

pub letters-reverse : (n : ℕ) (u : List ℕ) → wrong_letter n u ≡ false → wrong_letter n (reverse u) ≡ false
letters-reverse n [] e = e
letters-reverse n (s ∷ u) e =
    let h = letter_within_cons n s u e in
    ap (wrong_letter n) (reverse-cons s u) ∙ letters_snoc n (reverse u) s (letters-reverse n u h.2) h.0 h.1

-- ---- lengths

-- no word is shorter than its window's length
pub window_length_le : (k : Kind) (n : ℕ) (u : List ℕ) → least k ≤ n → wrong_letter n u ≡ false → window_length k (window k n u) ≤ length u
window_length_le k n u h e =
    omega (arith, rewrites_to_length (rewrites_to_normal_form k n u h e), length-normal_form k n (window k n u) (window_accepted k n u))

pub length_of_shortest : (k : Kind) (n : ℕ) (u : List ℕ) → least k ≤ n → Shortest k n u → length u ≡ window_length k (window k n u)
length_of_shortest k n u h s =
    let a = window_accepted k n u in
    let above = s.none_shorter (normal_form k n (window k n u)) (normal_form-letters k n (window k n u) a) (window-normal_form k n (window k n u) a) in
    omega (arith, window_length_le k n u h s.steps, length-normal_form k n (window k n u) a)

pub shortest_of_length : (k : Kind) (n : ℕ) (u : List ℕ) → least k ≤ n → wrong_letter n u ≡ false → length u ≤ window_length k (window k n u)
    → Shortest k n u
shortest_of_length k n u h e l =
    record { steps = e; none_shorter = λ v f q. omega (arith, window_length_le k n v h f, ap (window_length k) q) }

pub shortest_normal_form : (k : Kind) (n : ℕ) (w : List ℤ) → least k ≤ n → Accepted k n w → Shortest k n (normal_form k n w)
shortest_normal_form k n w h a =
    shortest_of_length k n (normal_form k n w) h (normal_form-letters k n w a)
    (rw (window-normal_form k n w a) (omega (arith, length-normal_form k n w a)))

-- ---- normal forms

-- the normal form of a window is the least word with its window
pub normal_form_normal : (k : Kind) (n : ℕ) (w : List ℤ) → least k ≤ n → Accepted k n w
    → IsNormalForm k n (window k n (normal_form k n w)) (normal_form k n w)
normal_form_normal k n w h a = rw (window-normal_form k n w a) (normal_form-least k n w h a)

-- and the only one
pub normal_is : (k : Kind) (n : ℕ) (u : List ℕ) → least k ≤ n → IsNormalForm k n (window k n u) u → u ≡ word_normal_form k n u
normal_is k n u h m = normal_form_only k n (window k n u) u h m

pub shortest_normal : (k : Kind) (n : ℕ) (u : List ℕ) → least k ≤ n → IsNormalForm k n (window k n u) u → Shortest k n u
shortest_normal k n u h m = rw (normal_is k n u h m) (shortest_normal_form k n (window k n u) h (window_accepted k n u))

-- ---- part-lists

-- the part-lists of a shortest word are carried to every word with its window
pub shortest_carries : (k : Kind) (n : ℕ) (z u : List ℕ) → least k ≤ n → Shortest k n z → wrong_letter n u ≡ false → window k n z ≡ window k n u
    → CarriesParts k n z u
shortest_carries k n z u h s e q =
    let there : RewritesTo k n z (normal_form k n (window k n u)) =
    subst (λ (w : List ℤ). RewritesTo k n z (normal_form k n w)) q (rewrites_to_normal_form k n z h s.steps) in
    let same : length z ≡ length (normal_form k n (window k n u)) =
    length_of_shortest k n z h s ∙ ap (window_length k) q ∙ sym (length-normal_form k n (window k n u) (window_accepted k n u)) in
    carries_trans k n z (normal_form k n (window k n u)) u (rewrites_to_carries k n h there same)
    (rewrites_to_carries_back k n h (rewrites_to_normal_form k n u h e))

-- ---- inverses

inverse_le : (k : Kind) (n : ℕ) (w : List ℤ) → least k ≤ n → Accepted k n w → window_length k (inverse w) ≤ window_length k w
inverse_le k n w h a =
    let u : List ℕ = normal_form k n w in
    let shows : window k n (reverse u) ≡ inverse w = window-reverse k n u ∙ ap inverse (window-normal_form k n w a) in
    let below = window_length_le k n (reverse u) h (letters-reverse n u (normal_form-letters k n w a)) in
    omega (arith, ap (window_length k) shows, below, length-reverse u, length-normal_form k n w a)

pub window_length-inverse : (k : Kind) (n : ℕ) (w : List ℤ) → least k ≤ n → Accepted k n w → window_length k (inverse w) ≡ window_length k w
window_length-inverse k n w h a =
    let back = inverse_le k n (inverse w) h (inverse_accepted k n w a) in
    omega (arith, inverse_le k n w h a, ap (window_length k) (inverse-inverse k n w a))
