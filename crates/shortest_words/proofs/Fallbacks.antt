-- The verdict on a fallback (section F of the specification): the same from every shortest word of the present
-- window, reflexive and transitive, with the empty word below all and no window longer than the present one. By
-- carrying the part-lists of a shortest word to every word with its window (Shortest).
--
-- Sections: fallbacks of a word; the verdict.
-- Assumes nothing.
use mathlib.Core.Path.{◌≡◌, refl, sym, subst, ◌∙◌}
use mathlib.Core.Bool.{true, false}
use mathlib.Core.Logic.{◌↔◌}
use mathlib.Core.List.{List, []}
use Prim.Native.Nat.{ℕ, ◌≤◌}
use native.Mathlib.Omega.{arith}
use lib.IntN.{ℤ}
use lib.ListN.{length}
use Rattle.coxeter.specs.declared.Kind.{Kind}
use Rattle.coxeter.specs.Kinds.{least, lanes}
use Rattle.coxeter.specs.Windows.{window_from, identity, window}
use Rattle.coxeter.specs.Length.{window_length}
use Rattle.coxeter.specs.Checks.{wrong_letter}
use Rattle.coxeter.specs.NormalForm.{word_normal_form}
use Rattle.coxeter.proofs.Levels.{window_accepted}
use Rattle.coxeter.proofs.Relations.{congruent_window}
use Rattle.coxeter.proofs.NormalForms.{window-normal_form}
use Rattle.coxeter.proofs.Lengths.{length-normal_form}
use Rattle.shortest_words.specs.OneLetter.{Shortest}
use Rattle.shortest_words.specs.Fallback.{HasSubword, FallbackOf, is_fallback}
use Rattle.shortest_words.proofs.Subwords.{subword_whole, subword_trans, subword_length, subword_letters}
use Rattle.shortest_words.proofs.Shortest.{window_length_le, shortest_normal_form, shortest_carries}
use Rattle.shortest_words.proofs.Places.{subword_nothing, subword_of_fallback, fallback_of_subword, some_subword_exactly}

-- ---- fallbacks of a word

-- the straight window is a fallback of every word, and so is its own window
fallback_identity : (k : Kind) (n : ℕ) (u : List ℕ) → HasSubword k n u (identity (lanes k n))
unfolding window window_from
fallback_identity k n u = fallback_of_subword k n u [] (identity (lanes k n)) (subword_nothing u) refl

fallback_whole : (k : Kind) (n : ℕ) (u : List ℕ) → HasSubword k n u (window k n u)
fallback_whole k n u = fallback_of_subword k n u u (window k n u) (subword_whole u) refl

-- no fallback is longer than the word
fallback_length : (k : Kind) (n : ℕ) (u : List ℕ) (w : List ℤ) → least k ≤ n → wrong_letter n u ≡ false → HasSubword k n u w
    → window_length k w ≤ length u
fallback_length k n u w h e f =
    let p = subword_of_fallback k n u w f in
    rw (← p.shows) (omega (arith, window_length_le k n p.word h (subword_letters n p.subword e), subword_length p.subword))

-- the fallbacks of a shortest word are fallbacks of every word that has its window as one
fallback_through : {k : Kind} {n : ℕ} (u : List ℕ) {z : List ℕ} (w : List ℤ) → least k ≤ n → wrong_letter n u ≡ false → Shortest k n z
    → HasSubword k n u (window k n z) → HasSubword k n z w → HasSubword k n u w
fallback_through {k} {n} u {z} w h e s f g =
    let p = subword_of_fallback k n u (window k n z) f in
    let q = subword_of_fallback k n z w g in
    let c = shortest_carries k n z p.word h s (subword_letters n p.subword e) (sym p.shows) q.word q.subword in
    fallback_of_subword k n u c.subword w (subword_trans p.subword c.is) (sym (congruent_window k n c.link) ∙ q.shows)

-- two shortest words of one window have the same fallbacks
fallback_shortest : (k : Kind) (n : ℕ) (u v : List ℕ) (w : List ℤ) → least k ≤ n → Shortest k n u → Shortest k n v → window k n u ≡ window k n v
    → HasSubword k n u w ↔ HasSubword k n v w
fallback_shortest k n u v w h s t e = (
  fallback_through v w h t.steps s (rw e (fallback_whole k n v)),
  fallback_through u w h s.steps t (rw (← e) (fallback_whole k n u)),
)

-- ---- the verdict

module _ (k : Kind) (n : ℕ) (h : least k ≤ n) where
  normal_shortest : (u : List ℕ) → Shortest k n (word_normal_form k n u)
  normal_shortest u = shortest_normal_form k n (window k n u) h (window_accepted k n u)

  normal_window : (u : List ℕ) → window k n (word_normal_form k n u) ≡ window k n u
  normal_window u = window-normal_form k n (window k n u) (window_accepted k n u)

  -- F2
  pub verdict_exactly : (u v : List ℕ) → (is_fallback k n u v ≡ true) ↔ FallbackOf k n u v
  unfolding is_fallback
  verdict_exactly u v = some_subword_exactly k n (word_normal_form k n u) (window k n v)

  -- F6
  pub verdict_same : (u v z : List ℕ) → Shortest k n z → window k n z ≡ window k n u → FallbackOf k n u v ↔ HasSubword k n z (window k n v)
  verdict_same u v z s e = fallback_shortest k n (word_normal_form k n u) z (window k n v) h (normal_shortest u) s (normal_window u ∙ sym e)

  -- F7
  pub verdict_empty : (u : List ℕ) → FallbackOf k n u []
  unfolding window window_from
  verdict_empty u = fallback_identity k n (word_normal_form k n u)

  -- every word is one for itself
  pub verdict_refl : (u : List ℕ) → FallbackOf k n u u
  verdict_refl u = subst (HasSubword k n (word_normal_form k n u)) (normal_window u) (fallback_whole k n (word_normal_form k n u))

  -- a fallback of a fallback is a fallback
  pub verdict_trans : (z y x : List ℕ) → FallbackOf k n z y → FallbackOf k n y x → FallbackOf k n z x
  verdict_trans z y x f g =
      fallback_through (word_normal_form k n z) (window k n x) h (normal_shortest z).steps (normal_shortest y)
      (rw (normal_window y) f) g

  -- a fallback is at most as long
  pub verdict_length : (u v : List ℕ) → FallbackOf k n u v → window_length k (window k n v) ≤ window_length k (window k n u)
  verdict_length u v f =
      let l = fallback_length k n (word_normal_form k n u) (window k n v) h (normal_shortest u).steps f in
      omega (arith, l, length-normal_form k n (window k n u) (window_accepted k n u))
