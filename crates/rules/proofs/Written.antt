-- What the calls that write a word have left is the normal form of N1: of all words of any length with its window
-- the shortest, and among those the first in the dictionary. From the answer and the bytes alone, as in coxeter's
-- Written, and by `normal_form-least`; and the normal form is the only word of which this can be said, so that no
-- other bytes would do.
--
-- Sections: normal forms; products and inverses; no other bytes.
-- Assumes nothing.
use mathlib.Core.Path.{◌≡◌, refl, sym, ap, ◌∙◌}
use mathlib.Core.Bool.{true}
use mathlib.Core.List.{List, [], ◌∷◌, ◌++◌, reverse}
use Prim.Native.Nat.{ℕ}
use native.Mathlib.Omega.{arith}
use lib.IntN.{ℤ}
use lib.ListN.{length, take, drop}
use Rattle.coxeter.specs.answers.Answer.{Length}
use Rattle.coxeter.specs.Kinds.{kind_of}
use Rattle.coxeter.specs.Windows.{window_from, window, product, inverse}
use Rattle.coxeter.specs.Dictionary.{shortlex}
use Rattle.coxeter.specs.Checks.{wrong_letter, RankOf, WordOf}
use Rattle.coxeter.specs.NormalForm.{word_normal_form, IsNormalForm}
use Rattle.coxeter.specs.Calls.{Yields, writes, normal_form_of_window, normal_form_of_word, product_of_words, inverse_of_word}
use Rattle.coxeter.proofs.Acceptance.{rank_within}
use Rattle.coxeter.proofs.Products.{window-append}
use Rattle.coxeter.proofs.Inverses.{window-reverse}
use Rattle.coxeter.proofs.Order.{shortlex_shorter}
use Rattle.coxeter.proofs.Theorems.{window_passes, product-inverse, inverse-product, normal_form-fits}
use Rattle.coxeter.proofs.ChainedCalls.{product-of-words}
use Rattle.coxeter.proofs.Written.{normal_form_of_word_accepted, normal_form_of_word_wrote, normal_form_of_window_accepted, normal_form_of_window_wrote}
use Rattle.coxeter.proofs.Written.{product_of_words_accepted, product_of_words_wrote, inverse_of_word_accepted, inverse_of_word_wrote}
use Rattle.rules.proofs.Completeness.{normal_form_only}
use Rattle.rules.proofs.Theorems.{normal_form-least, word_normal_form-least}

-- ---- normal forms

-- the normal form of a word, at a rank that passes checks 5 and 6
form_least : (k n : ℕ) (u : List ℕ) → RankOf k n → IsNormalForm (kind_of k) n (window (kind_of k) n u) (word_normal_form (kind_of k) n u)
form_least k n u h = word_normal_form-least (kind_of k) n u (rank_within k n h).0

-- normal_form_of_word: as long as was answered, and the rest of the output as it was lent
module _ (k n : ℕ) (u before after : List ℕ) (l : ℕ) (left : Yields (normal_form_of_word k n u before) (Length l) after) where
  pub normal_form_of_word_normal : IsNormalForm (kind_of k) n (window (kind_of k) n u) (take l after)
      × (length (take l after) ≡ l) × (drop l after ≡ drop l before)
  normal_form_of_word_normal =
      let b = normal_form_of_word_wrote k n u before after l left in
      (rw b.0 (form_least k n u (normal_form_of_word_accepted k n u before after l left).0), b.1, b.2)

-- normal_form_of_window
module _ (k n : ℕ) (w : List ℤ) (before after : List ℕ) (l : ℕ) (left : Yields (normal_form_of_window k n w before) (Length l) after) where
  pub normal_form_of_window_normal : IsNormalForm (kind_of k) n w (take l after) × (length (take l after) ≡ l) × (drop l after ≡ drop l before)
  normal_form_of_window_normal =
      let a = normal_form_of_window_accepted k n w before after l left in
      let b = normal_form_of_window_wrote k n w before after l left in
      (rw b.0 (normal_form-least (kind_of k) n w (rank_within k n a.0).0 a.1), b.1, b.2)

-- ---- products and inverses

-- product_of_words: the normal form of the product of the two windows, and of the window of the two words joined
module _ (k n : ℕ) (u v before after : List ℕ) (l : ℕ) (left : Yields (product_of_words k n u v before) (Length l) after) where
  pub product_of_words-joined_normal : IsNormalForm (kind_of k) n (window (kind_of k) n (u ++ v)) (take l after)
  product_of_words-joined_normal =
      rw (product_of_words_wrote k n u v before after l left).0 (form_least k n (u ++ v) (product_of_words_accepted k n u v before after l left).0)

  pub product_of_words_normal : IsNormalForm (kind_of k) n (product (window (kind_of k) n u) (window (kind_of k) n v)) (take l after)
      × (length (take l after) ≡ l) × (drop l after ≡ drop l before)
  product_of_words_normal =
      let b = product_of_words_wrote k n u v before after l left in
      (rw (← window-append (kind_of k) n u v) product_of_words-joined_normal, b.1, b.2)

-- inverse_of_word: the normal form of the inverse of the window, and of the window of the word reversed
module _ (k n : ℕ) (u before after : List ℕ) (l : ℕ) (left : Yields (inverse_of_word k n u before) (Length l) after) where
  pub inverse_of_word_reversed_normal : IsNormalForm (kind_of k) n (window (kind_of k) n (reverse u)) (take l after)
  inverse_of_word_reversed_normal =
      rw (inverse_of_word_wrote k n u before after l left).0 (form_least k n (reverse u) (inverse_of_word_accepted k n u before after l left).0)

  pub inverse_of_word_normal : IsNormalForm (kind_of k) n (inverse (window (kind_of k) n u)) (take l after)
      × (length (take l after) ≡ l) × (drop l after ≡ drop l before)
  inverse_of_word_normal =
      let b = inverse_of_word_wrote k n u before after l left in
      (rw (← window-reverse (kind_of k) n u) inverse_of_word_reversed_normal, b.1, b.2)

-- the empty word is a normal form
empty_form : (k n : ℕ) → RankOf k n → word_normal_form (kind_of k) n [] ≡ []
unfolding wrong_letter
empty_form k n h =
    sym (normal_form_only (kind_of k) n (window (kind_of k) n []) [] (rank_within k n h).0
    (record { steps = refl; shows = refl; least = λ v e q d. first v d }))
  where
    first : (v : List ℕ) → (v ≡ [] → ⊥) → shortlex [] v ≡ true
    first [] d = absurd (d refl)
    first (s ∷ v) d = shortlex_shorter [] (s ∷ v) (omega arith)

-- inverse_of_word, then product_of_words with the word, either way round: the empty word, into an output of any length
module _ (k n : ℕ) (u before after : List ℕ) (l : ℕ) (left : Yields (inverse_of_word k n u before) (Length l) after) where
  pub inverse_of_word_then_product : (out : List ℕ)
      → (product_of_words k n u (take l after) out ≡ writes 0 [] out) × (product_of_words k n (take l after) u out ≡ writes 0 [] out)
  unfolding window window_from
  inverse_of_word_then_product out =
      let a = inverse_of_word_accepted k n u before after l left in
      let w = window (kind_of k) n u in
      let v = take l after in
      let i : window (kind_of k) n v ≡ inverse w = (inverse_of_word_normal k n u before after l left).0.shows in
      let p = window_passes (kind_of k) n u in
      let f : WordOf n v =
      rw (inverse_of_word_wrote k n u before after l left).0
      (normal_form-fits k n (window (kind_of k) n (reverse u)) a.0 (window_passes (kind_of k) n (reverse u))) in
      let there : window (kind_of k) n (u ++ v) ≡ window (kind_of k) n [] =
      window-append (kind_of k) n u v ∙ ap (product w) i ∙ product-inverse (kind_of k) n w p in
      let back : window (kind_of k) n (v ++ u) ≡ window (kind_of k) n [] =
      window-append (kind_of k) n v u ∙ ap (λ (x : List ℤ). product x w) i ∙ inverse-product (kind_of k) n w p in (
        product-of-words k n a.0 u v out a.1 f ∙ rw (there, empty_form k n a.0),
        product-of-words k n a.0 v u out f a.1 ∙ rw (back, empty_form k n a.0),
      )

-- ---- no other bytes

-- N1, N3: a word that is the normal form of the window asked for is what the call wrote
module _ (k n : ℕ) (u before after : List ℕ) (l : ℕ) (left : Yields (normal_form_of_word k n u before) (Length l) after) where
  pub normal_form_of_word_only : (v : List ℕ) → IsNormalForm (kind_of k) n (window (kind_of k) n u) v → v ≡ take l after
  normal_form_of_word_only v m =
      normal_form_only (kind_of k) n (window (kind_of k) n u) v (rank_within k n (normal_form_of_word_accepted k n u before after l left).0).0 m
      ∙ sym (normal_form_of_word_wrote k n u before after l left).0

module _ (k n : ℕ) (w : List ℤ) (before after : List ℕ) (l : ℕ) (left : Yields (normal_form_of_window k n w before) (Length l) after) where
  pub normal_form_of_window_only : (v : List ℕ) → IsNormalForm (kind_of k) n w v → v ≡ take l after
  normal_form_of_window_only v m =
      normal_form_only (kind_of k) n w v (rank_within k n (normal_form_of_window_accepted k n w before after l left).0).0 m
      ∙ sym (normal_form_of_window_wrote k n w before after l left).0
