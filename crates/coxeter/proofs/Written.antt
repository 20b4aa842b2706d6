-- What each call that writes has left, told from its answer and its output alone: `take l after` are the bytes that
-- a call wrote which answered `Length l` and left `after` of the output `before`. Such an answer says that no check
-- refused, so the laws ask for nothing else. By one law about `writes` (Writes). That what the normal form calls
-- write is the least word with its window is in the crate rules (Written).
--
-- Sections: any call that writes; windows; words.
-- Not here: the lengths (Room), and what a call left as the next call's input (ChainedCalls).
-- Assumes nothing.
use mathlib.Core.Path.{◌≡◌, refl, sym, ap, ◌∙◌}
use mathlib.Core.List.{List, ◌++◌, reverse}
use Prim.Native.Nat.{ℕ}
use lib.IntN.{ℤ}
use lib.ListN.{length, take, drop}
use Rattle.coxeter.specs.answers.Answer.{Length}
use Rattle.coxeter.specs.Kinds.{kind_of, lanes}
use Rattle.coxeter.specs.Windows.{identity, window, product, inverse}
use Rattle.coxeter.specs.Checks.{rank_refusal, word_refusal, window_refusal, RankOf, WordOf, WindowOf}
use Rattle.coxeter.specs.NormalForm.{normal_form, word_normal_form}
use Rattle.coxeter.specs.Calls.{Yields, writes, window_of_word, product_of_windows, inverse_of_window}
use Rattle.coxeter.specs.Calls.{normal_form_of_window, normal_form_of_word, product_of_words, inverse_of_word}
use Rattle.coxeter.proofs.Refusals.{then_zero}
use Rattle.coxeter.proofs.Acceptance.{words_accepted, windows_accepted}
use Rattle.coxeter.proofs.Levels.{accepted_of_refusal}
use Rattle.coxeter.proofs.Writes.{wrote}
use Rattle.coxeter.proofs.Theorems.{window_passes, product_passes, inverse_passes, product-inverse, inverse-product}
use Rattle.coxeter.proofs.FormLaws.{normal_form-product, normal_form-inverse}

-- ---- any call that writes

module _ {X : Type 0} (q : ℕ) (w before after : List X) (l : ℕ) (left : Yields (writes q w before) (Length l) after) where
  pub writes_accepted : q ≡ 0
  writes_accepted = (wrote q w before after l left).unrefused

  -- the answer is the front of the output, as long as was answered, and the rest is as it was lent
  pub writes_wrote : (take l after ≡ w) × (length (take l after) ≡ l) × (drop l after ≡ drop l before)
  writes_wrote = let t = wrote q w before after l left in (t.front, ap length t.front ∙ sym t.size, t.behind)

-- ---- windows

-- window_of_word
module _ (k n : ℕ) (u : List ℕ) (before after : List ℤ) (l : ℕ) (left : Yields (window_of_word k n u before) (Length l) after) where
  pub window_of_word_accepted : RankOf k n × WordOf n u
  unfolding window_of_word
  window_of_word_accepted = then_zero (rank_refusal k n) (word_refusal n u) (writes_accepted _ _ before after l left)

  pub window_of_word_wrote : (take l after ≡ window (kind_of k) n u) × (length (take l after) ≡ l) × (drop l after ≡ drop l before)
  unfolding window_of_word
  window_of_word_wrote = writes_wrote _ _ before after l left

  -- what was written passes checks 9 to 11
  pub window_of_word_passes : WindowOf (kind_of k) n (take l after)
  window_of_word_passes = rw window_of_word_wrote.0 (window_passes (kind_of k) n u)

  -- and has an entry for each lane
  pub window_of_word-lanes : l ≡ lanes (kind_of k) n
  window_of_word-lanes = sym window_of_word_wrote.1 ∙ (accepted_of_refusal (kind_of k) n (take l after) window_of_word_passes).size

-- product_of_windows
module _ (k n : ℕ) (v w before after : List ℤ) (l : ℕ) (left : Yields (product_of_windows k n v w before) (Length l) after) where
  pub product_of_windows_accepted : RankOf k n × WindowOf (kind_of k) n v × WindowOf (kind_of k) n w
  unfolding product_of_windows
  product_of_windows_accepted =
      let a = windows_accepted k n v w _ refl (writes_accepted _ _ before after l left) in
      (a.0, a.1.0, a.1.1)

  pub product_of_windows_wrote : (take l after ≡ product v w) × (length (take l after) ≡ l) × (drop l after ≡ drop l before)
  unfolding product_of_windows
  product_of_windows_wrote = writes_wrote _ _ before after l left

  pub product_of_windows_passes : WindowOf (kind_of k) n (take l after)
  product_of_windows_passes =
      let a = product_of_windows_accepted in
      rw product_of_windows_wrote.0 (product_passes (kind_of k) n v w a.1 a.2)

  pub product_of_windows-lanes : l ≡ lanes (kind_of k) n
  product_of_windows-lanes = sym product_of_windows_wrote.1 ∙ (accepted_of_refusal (kind_of k) n (take l after) product_of_windows_passes).size

-- inverse_of_window
module _ (k n : ℕ) (w before after : List ℤ) (l : ℕ) (left : Yields (inverse_of_window k n w before) (Length l) after) where
  pub inverse_of_window_accepted : RankOf k n × WindowOf (kind_of k) n w
  unfolding inverse_of_window
  inverse_of_window_accepted = then_zero (rank_refusal k n) (window_refusal (kind_of k) n w) (writes_accepted _ _ before after l left)

  pub inverse_of_window_wrote : (take l after ≡ inverse w) × (length (take l after) ≡ l) × (drop l after ≡ drop l before)
  unfolding inverse_of_window
  inverse_of_window_wrote = writes_wrote _ _ before after l left

  pub inverse_of_window_passes : WindowOf (kind_of k) n (take l after)
  inverse_of_window_passes = rw inverse_of_window_wrote.0 (inverse_passes (kind_of k) n w inverse_of_window_accepted.1)

  pub inverse_of_window-lanes : l ≡ lanes (kind_of k) n
  inverse_of_window-lanes = sym inverse_of_window_wrote.1 ∙ (accepted_of_refusal (kind_of k) n (take l after) inverse_of_window_passes).size

  -- the product with what was written is straight, both ways round
  pub inverse_of_window_cancels :
      (product w (take l after) ≡ identity (lanes (kind_of k) n)) × (product (take l after) w ≡ identity (lanes (kind_of k) n))
  inverse_of_window_cancels =
      let a = inverse_of_window_accepted.1 in
      rw inverse_of_window_wrote.0 (product-inverse (kind_of k) n w a, inverse-product (kind_of k) n w a)

-- ---- words

-- normal_form_of_word
module _ (k n : ℕ) (u before after : List ℕ) (l : ℕ) (left : Yields (normal_form_of_word k n u before) (Length l) after) where
  pub normal_form_of_word_accepted : RankOf k n × WordOf n u
  unfolding normal_form_of_word
  normal_form_of_word_accepted = then_zero (rank_refusal k n) (word_refusal n u) (writes_accepted _ _ before after l left)

  pub normal_form_of_word_wrote : (take l after ≡ word_normal_form (kind_of k) n u) × (length (take l after) ≡ l) × (drop l after ≡ drop l before)
  unfolding normal_form_of_word
  normal_form_of_word_wrote = writes_wrote _ _ before after l left

-- normal_form_of_window
module _ (k n : ℕ) (w : List ℤ) (before after : List ℕ) (l : ℕ) (left : Yields (normal_form_of_window k n w before) (Length l) after) where
  pub normal_form_of_window_accepted : RankOf k n × WindowOf (kind_of k) n w
  unfolding normal_form_of_window
  normal_form_of_window_accepted = then_zero (rank_refusal k n) (window_refusal (kind_of k) n w) (writes_accepted _ _ before after l left)

  pub normal_form_of_window_wrote : (take l after ≡ normal_form (kind_of k) n w) × (length (take l after) ≡ l) × (drop l after ≡ drop l before)
  unfolding normal_form_of_window
  normal_form_of_window_wrote = writes_wrote _ _ before after l left

-- product_of_words
module _ (k n : ℕ) (u v before after : List ℕ) (l : ℕ) (left : Yields (product_of_words k n u v before) (Length l) after) where
  pub product_of_words_accepted : RankOf k n × WordOf n u × WordOf n v
  unfolding product_of_words
  product_of_words_accepted =
      let a = words_accepted k n u v _ refl (writes_accepted _ _ before after l left) in
      (a.0, a.1.0, a.1.1)

  -- the normal form of the two words joined, which may have more than 4,096 letters together
  pub product_of_words_wrote : (take l after ≡ word_normal_form (kind_of k) n (u ++ v)) × (length (take l after) ≡ l) × (drop l after ≡ drop l before)
  unfolding product_of_words
  product_of_words_wrote =
      let a = writes_wrote _ _ before after l left in
      (a.0 ∙ normal_form-product (kind_of k) n u v, a.1, a.2)

-- inverse_of_word
module _ (k n : ℕ) (u before after : List ℕ) (l : ℕ) (left : Yields (inverse_of_word k n u before) (Length l) after) where
  pub inverse_of_word_accepted : RankOf k n × WordOf n u
  unfolding inverse_of_word
  inverse_of_word_accepted = then_zero (rank_refusal k n) (word_refusal n u) (writes_accepted _ _ before after l left)

  -- the normal form of the word reversed
  pub inverse_of_word_wrote : (take l after ≡ word_normal_form (kind_of k) n (reverse u)) × (length (take l after) ≡ l) × (drop l after ≡ drop l before)
  unfolding inverse_of_word
  inverse_of_word_wrote =
      let a = writes_wrote _ _ before after l left in
      (a.0 ∙ normal_form-inverse (kind_of k) n u, a.1, a.2)
