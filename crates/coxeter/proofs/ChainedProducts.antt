-- Products and inverses of what a call wrote. Most laws are equations between outcomes, as in ChainedCalls.antt.
--
-- Sections: products; inverses.
-- Assumes nothing.
use mathlib.Core.Path.{◌≡◌, refl, sym, ap, ap₂, ◌∙◌}
use mathlib.Core.Bool.{Bool, true, false, ◌||◌}
use mathlib.Core.List.{List, [], ◌∷◌, ◌++◌, reverse, reverse-cons}
use Prim.Native.Nat.{ℕ, ◌≤◌}
use native.Mathlib.Omega.{arith}
use lib.Dec.{eqb, ltb}
use lib.IntN.{ℤ}
use lib.ListN.{length, take, length-append, length-reverse}
use borrow.Author.Tests.{le-ltb}
use Rattle.coxeter.specs.answers.Answer.{Length}
use Rattle.coxeter.specs.Kinds.{kind_of, lanes}
use Rattle.coxeter.specs.Windows.{identity, window, product, inverse}
use Rattle.coxeter.specs.Checks.{check, ◌then◌, too_long, wrong_letter, word_refusal}
use Rattle.coxeter.specs.NormalForm.{word_normal_form}
use Rattle.coxeter.specs.Calls.{Yields, writes, window_of_word, product_of_windows, inverse_of_window, normal_form_of_window, normal_form_of_word}
use Rattle.coxeter.specs.Calls.{product_of_words, inverse_of_word}
use Rattle.coxeter.proofs.Relations.{wrong_letter-append}
use Rattle.coxeter.proofs.Products.{window-append}
use Rattle.coxeter.proofs.Inverses.{window-reverse}
use Rattle.coxeter.proofs.FormLaws.{normal_form-product, normal_form-inverse}
use Rattle.coxeter.proofs.Theorems.{window_passes, product-inverse, inverse-product, inverse-inverse, inverse_passes}
use Rattle.coxeter.proofs.Written.{window_of_word_accepted, window_of_word_wrote, product_of_windows_wrote, inverse_of_window_accepted}
use Rattle.coxeter.proofs.Written.{inverse_of_window_wrote, normal_form_of_word_accepted, normal_form_of_word_wrote}
use Rattle.coxeter.proofs.Written.{product_of_words_accepted, product_of_words_wrote, inverse_of_word_accepted}
use Rattle.coxeter.proofs.Written.{inverse_of_word_wrote}
use Rattle.coxeter.proofs.ChainedCalls.{window_of, form_of_word, form_of_window, product-of-windows, inverse-of-window, product-of-words}
use Rattle.coxeter.proofs.ChainedCalls.{inverse-of-word, product_of_words_windows, form_fits, form_window}

-- ---- products

-- the checks of two words are those of the words joined, where these have at most 4,096 letters
joined-refusal : (n : ℕ) (u v : List ℕ) → length (u ++ v) ≤ 4096 → (word_refusal n u then word_refusal n v) ≡ word_refusal n (u ++ v)
unfolding word_refusal too_long
joined-refusal n u v h =
    let s = length-append u v in
    let a : length u ≤ 4096 = omega arith in
    let b : length v ≤ 4096 = omega arith in
    rw (le-ltb 4096 (length u) a, le-ltb 4096 (length v) b, le-ltb 4096 (length (u ++ v)) h, wrong_letter-append n u v)
    (either (wrong_letter n u) (wrong_letter n v))
  where
    either : (s t : Bool) → (check 8 s then check 8 t) ≡ check 8 (s || t)
    either true t = refl
    either false t = refl

-- for every input: product_of_words is as normal_form_of_word of the two words joined
pub product_of_words-joined : (k n : ℕ) (u v out : List ℕ) → length (u ++ v) ≤ 4096 → product_of_words k n u v out ≡ normal_form_of_word k n (u ++ v) out
unfolding product_of_words normal_form_of_word
product_of_words-joined k n u v out h = rw (joined-refusal n u v h, normal_form-product (kind_of k) n u v)

-- window_of_word of each of two words
module _ (k n : ℕ) (u v : List ℕ)
    (before after : List ℤ) (l : ℕ) (left : Yields (window_of_word k n u before) (Length l) after)
    (before' after' : List ℤ) (l' : ℕ) (left' : Yields (window_of_word k n v before') (Length l') after') where
  -- then product_of_windows: the window of the words joined, unless the output is too short for it
  pub windows_of_words_then_product : (out : List ℤ)
      → product_of_windows k n (take l after) (take l' after') out ≡ writes 0 (window (kind_of k) n (u ++ v)) out
  windows_of_words_then_product out =
      let a = window_of_word_accepted k n u before after l left in
      rw ((window_of_word_wrote k n u before after l left).0, (window_of_word_wrote k n v before' after' l' left').0)
      (product_of_words_windows k n a.0 u v out)

  -- then normal_form_of_window of that: as product_of_words
  module _ (space filled : List ℤ) (m : ℕ) (made : Yields (product_of_windows k n (take l after) (take l' after') space) (Length m) filled) where
    pub windows_of_words_product-normal_form : (out : List ℕ) → normal_form_of_window k n (take m filled) out ≡ product_of_words k n u v out
    windows_of_words_product-normal_form out =
        let a = window_of_word_accepted k n u before after l left in
        let b = window_of_word_accepted k n v before' after' l' left' in
        let e : take m filled ≡ window (kind_of k) n (u ++ v) =
        (product_of_windows_wrote k n (take l after) (take l' after') space filled m made).0
        ∙ ap₂ product (window_of_word_wrote k n u before after l left).0 (window_of_word_wrote k n v before' after' l' left').0
        ∙ sym (window-append (kind_of k) n u v) in
        rw e
        (form_of_window k n a.0 (window (kind_of k) n (u ++ v)) out (window_passes (kind_of k) n (u ++ v))
        ∙ sym (product-of-words k n a.0 u v out a.1 b.1))

-- product_of_words, then window_of_word: the product of the two windows
module _ (k n : ℕ) (u v before after : List ℕ) (l : ℕ) (left : Yields (product_of_words k n u v before) (Length l) after) where
  pub product_of_words_then_window : (out : List ℤ)
      → window_of_word k n (take l after) out ≡ product_of_windows k n (window (kind_of k) n u) (window (kind_of k) n v) out
  product_of_words_then_window out =
      let a = product_of_words_accepted k n u v before after l left in
      rw (product_of_words_wrote k n u v before after l left).0
      (window_of k n a.0 (word_normal_form (kind_of k) n (u ++ v)) out (form_fits k n (u ++ v) a.0)
      ∙ rw (form_window k n (u ++ v)) (sym (product_of_words_windows k n a.0 u v out)))

-- normal_form_of_word of each of two words, then product_of_words: as product_of_words of the words themselves
module _ (k n : ℕ) (u v : List ℕ)
    (before after : List ℕ) (l : ℕ) (left : Yields (normal_form_of_word k n u before) (Length l) after)
    (before' after' : List ℕ) (l' : ℕ) (left' : Yields (normal_form_of_word k n v before') (Length l') after') where
  pub normal_forms_then_product_of_words : (out : List ℕ) → product_of_words k n (take l after) (take l' after') out ≡ product_of_words k n u v out
  normal_forms_then_product_of_words out =
      let a = normal_form_of_word_accepted k n u before after l left in
      let b = normal_form_of_word_accepted k n v before' after' l' left' in
      let f = word_normal_form (kind_of k) n u in
      let g = word_normal_form (kind_of k) n v in
      let e : window (kind_of k) n (f ++ g) ≡ window (kind_of k) n (u ++ v) =
      window-append (kind_of k) n f g ∙ ap₂ product (form_window k n u) (form_window k n v) ∙ sym (window-append (kind_of k) n u v) in
      rw ((normal_form_of_word_wrote k n u before after l left).0, (normal_form_of_word_wrote k n v before' after' l' left').0)
      (product-of-words k n a.0 f g out (form_fits k n u a.0) (form_fits k n v a.0)
      ∙ rw e (sym (product-of-words k n a.0 u v out a.1 b.1)))

-- ---- inverses

letters_reversed : (n : ℕ) (u : List ℕ) → wrong_letter n (reverse u) ≡ wrong_letter n u
unfolding wrong_letter
letters_reversed n [] = refl
letters_reversed n (s ∷ u) =
    ap (wrong_letter n) (reverse-cons s u) ∙ wrong_letter-append n (reverse u) (s ∷ [])
    ∙ ap (λ (t : Bool). t || ((eqb s 0 || ltb n s) || false)) (letters_reversed n u)
    ∙ turned (wrong_letter n u) (eqb s 0 || ltb n s)
  where
    turned : (s t : Bool) → (s || (t || false)) ≡ (t || s)
    turned true true = refl
    turned true false = refl
    turned false true = refl
    turned false false = refl

-- the checks of a word are those of the word reversed
reversed_refusal : (n : ℕ) (u : List ℕ) → word_refusal n (reverse u) ≡ word_refusal n u
unfolding word_refusal too_long
reversed_refusal n u = rw (length-reverse u, letters_reversed n u)

-- for every input: inverse_of_word is as normal_form_of_word of the word reversed
pub inverse_of_word_reversed : (k n : ℕ) (u out : List ℕ) → inverse_of_word k n u out ≡ normal_form_of_word k n (reverse u) out
unfolding inverse_of_word normal_form_of_word
inverse_of_word_reversed k n u out = rw (reversed_refusal n u, normal_form-inverse (kind_of k) n u)

-- window_of_word, then inverse_of_window
module _ (k n : ℕ) (u : List ℕ) (before after : List ℤ) (l : ℕ) (left : Yields (window_of_word k n u before) (Length l) after) where
  -- the window of the word reversed
  pub window_of_word_then_inverse : (out : List ℤ) → inverse_of_window k n (take l after) out ≡ window_of_word k n (reverse u) out
  window_of_word_then_inverse out =
      let a = window_of_word_accepted k n u before after l left in
      rw (window_of_word_wrote k n u before after l left).0
      (inverse-of-window k n a.0 (window (kind_of k) n u) out (window_passes (kind_of k) n u)
      ∙ rw (← window-reverse (kind_of k) n u) (sym (window_of k n a.0 (reverse u) out (reversed_refusal n u ∙ a.1))))

  -- then normal_form_of_window of that: as inverse_of_word
  module _ (space filled : List ℤ) (m : ℕ) (made : Yields (inverse_of_window k n (take l after) space) (Length m) filled) where
    pub window_of_word-inverse-normal_form : (out : List ℕ) → normal_form_of_window k n (take m filled) out ≡ inverse_of_word k n u out
    window_of_word-inverse-normal_form out =
        let a = window_of_word_accepted k n u before after l left in
        let e : take m filled ≡ window (kind_of k) n (reverse u) =
        (inverse_of_window_wrote k n (take l after) space filled m made).0
        ∙ ap inverse (window_of_word_wrote k n u before after l left).0 ∙ sym (window-reverse (kind_of k) n u) in
        rw e
        (form_of_window k n a.0 (window (kind_of k) n (reverse u)) out (window_passes (kind_of k) n (reverse u))
        ∙ sym (inverse-of-word k n a.0 u out a.1))

-- inverse_of_window twice is the window; the product with what it wrote is straight, both ways round; unless the
-- output is too short for it
module _ (k n : ℕ) (w before after : List ℤ) (l : ℕ) (left : Yields (inverse_of_window k n w before) (Length l) after) where
  pub inverse_of_window_then_inverse : (out : List ℤ) → inverse_of_window k n (take l after) out ≡ writes 0 w out
  inverse_of_window_then_inverse out =
      let a = inverse_of_window_accepted k n w before after l left in
      rw (inverse_of_window_wrote k n w before after l left).0
      (inverse-of-window k n a.0 (inverse w) out (inverse_passes (kind_of k) n w a.1) ∙ rw (inverse-inverse (kind_of k) n w a.1))

  pub inverse_of_window_then_product : (out : List ℤ)
      → (product_of_windows k n w (take l after) out ≡ writes 0 (identity (lanes (kind_of k) n)) out)
      × (product_of_windows k n (take l after) w out ≡ writes 0 (identity (lanes (kind_of k) n)) out)
  inverse_of_window_then_product out =
      let a = inverse_of_window_accepted k n w before after l left in
      let b = inverse_passes (kind_of k) n w a.1 in
      rw (inverse_of_window_wrote k n w before after l left).0 (
        product-of-windows k n a.0 w (inverse w) out a.1 b ∙ rw (product-inverse (kind_of k) n w a.1),
        product-of-windows k n a.0 (inverse w) w out b a.1 ∙ rw (inverse-product (kind_of k) n w a.1),
      )

module _ (k n : ℕ) (u before after : List ℕ) (l : ℕ) (left : Yields (inverse_of_word k n u before) (Length l) after) where
  -- inverse_of_word, then window_of_word: the inverse of the word's window
  pub inverse_of_word_then_window : (out : List ℤ) → window_of_word k n (take l after) out ≡ inverse_of_window k n (window (kind_of k) n u) out
  inverse_of_word_then_window out =
      let a = inverse_of_word_accepted k n u before after l left in
      rw (inverse_of_word_wrote k n u before after l left).0
      (window_of k n a.0 (word_normal_form (kind_of k) n (reverse u)) out (form_fits k n (reverse u) a.0)
      ∙ rw (form_window k n (reverse u), window-reverse (kind_of k) n u)
      (sym (inverse-of-window k n a.0 (window (kind_of k) n u) out (window_passes (kind_of k) n u))))

  -- inverse_of_word twice: as normal_form_of_word
  pub inverse_of_word_then_inverse : (out : List ℕ) → inverse_of_word k n (take l after) out ≡ normal_form_of_word k n u out
  inverse_of_word_then_inverse out =
      let a = inverse_of_word_accepted k n u before after l left in
      let f = word_normal_form (kind_of k) n (reverse u) in
      let e : window (kind_of k) n (reverse f) ≡ window (kind_of k) n u =
      window-reverse (kind_of k) n f ∙ ap inverse (form_window k n (reverse u) ∙ window-reverse (kind_of k) n u)
      ∙ inverse-inverse (kind_of k) n (window (kind_of k) n u) (window_passes (kind_of k) n u) in
      rw (inverse_of_word_wrote k n u before after l left).0
      (inverse-of-word k n a.0 f out (form_fits k n (reverse u) a.0) ∙ rw e (sym (form_of_word k n a.0 u out a.1)))
