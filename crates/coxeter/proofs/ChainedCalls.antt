-- From call to call: what one call wrote, lent to the next as its word or window. Most laws are equations between
-- outcomes, so that the answer, every byte of the output and refusal 14 are the same; the output of the next call
-- is any. A hypothesis `Yields (call ..) (Length l) after` says that the call was accepted, and `take l after` is
-- what it wrote (Written).
--
-- Sections: outcomes; from a word's window; from a normal form. ChainedProducts.antt has products and inverses.
-- Assumes nothing.
use mathlib.Core.Path.{◌≡◌, refl, sym, ◌∙◌}
use mathlib.Core.List.{List, ◌++◌, reverse}
use Prim.Native.Nat.{ℕ, ◌≤◌, ◌<◌}
use lib.IntN.{ℤ}
use lib.ListN.{length, take, drop}
use Rattle.coxeter.specs.answers.Answer.{Length, Refused}
use Rattle.coxeter.specs.Kinds.{kind_of, lanes}
use Rattle.coxeter.specs.Windows.{window, product, inverse}
use Rattle.coxeter.specs.Checks.{RankOf, WordOf, WindowOf}
use Rattle.coxeter.specs.NormalForm.{normal_form, word_normal_form}
use Rattle.coxeter.specs.Calls.{Yields, writes, window_of_word, product_of_windows, inverse_of_window, normal_form_of_window, normal_form_of_word}
use Rattle.coxeter.specs.Calls.{product_of_words, inverse_of_word, length_of_window, length_of_word, crossings_of_window, crossings_of_word}
use Rattle.coxeter.proofs.Basics.{length-window}
use Rattle.coxeter.proofs.Levels.{accepted_of_refusal}
use Rattle.coxeter.proofs.Products.{window-append}
use Rattle.coxeter.proofs.Outcomes.{writes_short, writes_done}
use Rattle.coxeter.proofs.FormLaws.{normal_form-product, normal_form-inverse}
use Rattle.coxeter.proofs.Theorems.{window_passes, window-normal_form, normal_form-fits}
use Rattle.coxeter.proofs.Written.{window_of_word_accepted, window_of_word_wrote}
use Rattle.coxeter.proofs.Written.{normal_form_of_word_accepted, normal_form_of_word_wrote, normal_form_of_window_accepted}
use Rattle.coxeter.proofs.Written.{normal_form_of_window_wrote}

-- ---- outcomes

-- the calls where no check before check 14 refuses
module _ (k n : ℕ) (rank : RankOf k n) where
  pub window_of : (u : List ℕ) (out : List ℤ) → WordOf n u → window_of_word k n u out ≡ writes 0 (window (kind_of k) n u) out
  unfolding window_of_word
  window_of u out h = rw (rank, h)

  pub form_of_word : (u out : List ℕ) → WordOf n u → normal_form_of_word k n u out ≡ writes 0 (word_normal_form (kind_of k) n u) out
  unfolding normal_form_of_word
  form_of_word u out h = rw (rank, h)

  pub form_of_window : (w : List ℤ) (out : List ℕ) → WindowOf (kind_of k) n w
      → normal_form_of_window k n w out ≡ writes 0 (normal_form (kind_of k) n w) out
  unfolding normal_form_of_window
  form_of_window w out h = rw (rank, h)

  pub product-of-windows : (v w out : List ℤ) → WindowOf (kind_of k) n v → WindowOf (kind_of k) n w
      → product_of_windows k n v w out ≡ writes 0 (product v w) out
  unfolding product_of_windows
  product-of-windows v w out h g = rw (rank, h, g)

  pub inverse-of-window : (w out : List ℤ) → WindowOf (kind_of k) n w → inverse_of_window k n w out ≡ writes 0 (inverse w) out
  unfolding inverse_of_window
  inverse-of-window w out h = rw (rank, h)

  pub product-of-words : (u v out : List ℕ) → WordOf n u → WordOf n v
      → product_of_words k n u v out ≡ writes 0 (word_normal_form (kind_of k) n (u ++ v)) out
  unfolding product_of_words
  product-of-words u v out h g = rw (rank, h, g, normal_form-product (kind_of k) n u v)

  pub inverse-of-word : (u out : List ℕ) → WordOf n u → inverse_of_word k n u out ≡ writes 0 (word_normal_form (kind_of k) n (reverse u)) out
  unfolding inverse_of_word
  inverse-of-word u out h = rw (rank, h, normal_form-inverse (kind_of k) n u)

  pub product_of_words_windows : (u v : List ℕ) (out : List ℤ)
      → product_of_windows k n (window (kind_of k) n u) (window (kind_of k) n v) out ≡ writes 0 (window (kind_of k) n (u ++ v)) out
  product_of_words_windows u v out =
      product-of-windows (window (kind_of k) n u) (window (kind_of k) n v) out (window_passes (kind_of k) n u) (window_passes (kind_of k) n v)
      ∙ rw (← window-append (kind_of k) n u v)

-- ---- from a word's window

module _ (k n : ℕ) (u : List ℕ) (before after : List ℤ) (l : ℕ) (left : Yields (window_of_word k n u before) (Length l) after) where
  -- window_of_word, then normal_form_of_window: as normal_form_of_word
  pub window_of_word_then_normal_form : (out : List ℕ) → normal_form_of_window k n (take l after) out ≡ normal_form_of_word k n u out
  window_of_word_then_normal_form out =
      let a = window_of_word_accepted k n u before after l left in
      rw (window_of_word_wrote k n u before after l left).0
      (form_of_window k n a.0 (window (kind_of k) n u) out (window_passes (kind_of k) n u) ∙ sym (form_of_word k n a.0 u out a.1))

  -- the lengths are those of the word
  pub window_of_word_then_length : length_of_window k n (take l after) ≡ length_of_word k n u
  unfolding length_of_window length_of_word
  window_of_word_then_length =
      let a = window_of_word_accepted k n u before after l left in
      rw ((window_of_word_wrote k n u before after l left).0, a.0, a.1, window_passes (kind_of k) n u)

  pub window_of_word_then_crossings : crossings_of_window k n (take l after) ≡ crossings_of_word k n u
  unfolding crossings_of_window crossings_of_word
  window_of_word_then_crossings =
      let a = window_of_word_accepted k n u before after l left in
      rw ((window_of_word_wrote k n u before after l left).0, a.0, a.1, window_passes (kind_of k) n u)

-- ---- from a normal form

-- a normal form is accepted as a word
pub form_fits : (k n : ℕ) (u : List ℕ) → RankOf k n → WordOf n (word_normal_form (kind_of k) n u)
form_fits k n u h = normal_form-fits k n (window (kind_of k) n u) h (window_passes (kind_of k) n u)

pub form_window : (k n : ℕ) (u : List ℕ) → window (kind_of k) n (word_normal_form (kind_of k) n u) ≡ window (kind_of k) n u
form_window k n u = window-normal_form (kind_of k) n (window (kind_of k) n u) (window_passes (kind_of k) n u)

module _ (k n : ℕ) (u before after : List ℕ) (l : ℕ) (left : Yields (normal_form_of_word k n u before) (Length l) after) where
  -- normal_form_of_word, then window_of_word: the window of the first word
  pub normal_form_of_word_then_window : (out : List ℤ) → window_of_word k n (take l after) out ≡ window_of_word k n u out
  normal_form_of_word_then_window out =
      let a = normal_form_of_word_accepted k n u before after l left in
      rw (normal_form_of_word_wrote k n u before after l left).0
      (window_of k n a.0 (word_normal_form (kind_of k) n u) out (form_fits k n u a.0)
      ∙ rw (form_window k n u) (sym (window_of k n a.0 u out a.1)))

  pub normal_form_of_word_then_window-written : (out : List ℤ) → lanes (kind_of k) n ≤ length out
      → Yields (window_of_word k n (take l after) out) (Length (lanes (kind_of k) n)) (window (kind_of k) n u ++ drop (lanes (kind_of k) n) out)
  normal_form_of_word_then_window-written out h =
      let a = normal_form_of_word_accepted k n u before after l left in
      writes_done _ 0 0 (window (kind_of k) n u) out (normal_form_of_word_then_window out ∙ window_of k n a.0 u out a.1) refl
      (lanes (kind_of k) n) (window (kind_of k) n u) refl (length-window (kind_of k) n u) h refl

  -- and its normal form again is the same word
  pub normal_form_of_word_then_normal_form : (out : List ℕ) → normal_form_of_word k n (take l after) out ≡ normal_form_of_word k n u out
  normal_form_of_word_then_normal_form out =
      let a = normal_form_of_word_accepted k n u before after l left in
      rw (normal_form_of_word_wrote k n u before after l left).0
      (form_of_word k n a.0 (word_normal_form (kind_of k) n u) out (form_fits k n u a.0)
      ∙ rw (form_window k n u) (sym (form_of_word k n a.0 u out a.1)))

module _ (k n : ℕ) (w : List ℤ) (before after : List ℕ) (l : ℕ) (left : Yields (normal_form_of_window k n w before) (Length l) after) where
  -- normal_form_of_window, then window_of_word: the window asked for, unless the output is too short for it
  pub normal_form_of_window_then_window : (out : List ℤ) → window_of_word k n (take l after) out ≡ writes 0 w out
  normal_form_of_window_then_window out =
      let a = normal_form_of_window_accepted k n w before after l left in
      rw (normal_form_of_window_wrote k n w before after l left).0
      (window_of k n a.0 (normal_form (kind_of k) n w) out (normal_form-fits k n w a.0 a.1) ∙ rw (window-normal_form (kind_of k) n w a.1))

  pub normal_form_of_window_then_window-written : (out : List ℤ) → lanes (kind_of k) n ≤ length out
      → Yields (window_of_word k n (take l after) out) (Length (lanes (kind_of k) n)) (w ++ drop (lanes (kind_of k) n) out)
  normal_form_of_window_then_window-written out h =
      writes_done _ 0 0 w out (normal_form_of_window_then_window out) refl (lanes (kind_of k) n) w refl
      (accepted_of_refusal (kind_of k) n w (normal_form_of_window_accepted k n w before after l left).1).size h refl

  pub normal_form_of_window_then_window-short : (out : List ℤ) → length out < lanes (kind_of k) n
      → Yields (window_of_word k n (take l after) out) (Refused 14) out
  normal_form_of_window_then_window-short out h =
      writes_short _ 0 0 w out (normal_form_of_window_then_window out) refl (lanes (kind_of k) n) refl
      (accepted_of_refusal (kind_of k) n w (normal_form_of_window_accepted k n w before after l left).1).size h

  -- and its normal form again is the same word
  pub normal_form_of_window_then_normal_form : (out : List ℕ) → normal_form_of_word k n (take l after) out ≡ normal_form_of_window k n w out
  normal_form_of_window_then_normal_form out =
      let a = normal_form_of_window_accepted k n w before after l left in
      rw (normal_form_of_window_wrote k n w before after l left).0
      (form_of_word k n a.0 (normal_form (kind_of k) n w) out (normal_form-fits k n w a.0 a.1)
      ∙ rw (window-normal_form (kind_of k) n w a.1) (sym (form_of_window k n a.0 w out a.1)))
