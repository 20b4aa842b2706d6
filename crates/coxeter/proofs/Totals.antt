-- A length from its three counts: the total, or the same refusal. The total is at most 65,535.
--
-- Sections: the answer; what bounds the total.
-- Assumes nothing.
use mathlib.Core.Path.{◌≡◌, refl}
use mathlib.Core.Bool.{Bool, true, false}
use mathlib.Core.List.{List}
use Prim.Native.Nat.{ℕ, ◌+◌, ◌≤◌}
use native.Mathlib.Nat.{le_trans}
use native.Mathlib.Omega.{arith}
use lib.Dec.{eqb}
use lib.IntN.{ℤ}
use Rattle.coxeter.specs.answers.Answer.{Answer}
use Rattle.coxeter.specs.answers.Answer as answer
use Rattle.coxeter.specs.answers.Counted.{Counted}
use Rattle.coxeter.specs.answers.Counted as counted
use Rattle.coxeter.specs.Kinds.{pick, kind_of}
use Rattle.coxeter.specs.Windows.{window}
use Rattle.coxeter.specs.Length.{Crossings, crossings, total, window_length}
use Rattle.coxeter.specs.Checks.{◌then◌, rank_refusal, word_refusal, window_refusal}
use Rattle.coxeter.specs.Calls.{answer_of, counted_of, length_of_window, length_of_word, crossings_of_window, crossings_of_word}
use Rattle.coxeter.proofs.Acceptance.{lanes_le}
use Rattle.coxeter.proofs.Levels.{Accepted, accepted_of_refusal, window_accepted}
use Rattle.coxeter.proofs.PairWeights.{window_length_le_4096}
use Rattle.coxeter.proofs.Refusals.{then_zero}
use Rattle.coxeter.proofs.AnswersExactly.{counted_of_exactly}

-- ---- the answer

abbrev pub totalled : Counted → Answer
totalled (counted.Crossings a b c) = answer.Length (a + b + c)
totalled (counted.Refused r) = answer.Refused r

totalled-counted_of : (r : ℕ) (c : Crossings) → totalled (counted_of r c) ≡ answer_of r (total c)
unfolding counted_of answer_of total
totalled-counted_of r c = totalled-counted_of_by_cases (eqb r 0)
  where
    totalled-counted_of_by_cases : (t : Bool)
        → totalled (pick t (counted.Crossings c.inversions c.negative_sum_pairs c.negatives) (counted.Refused r))
        ≡ pick t (answer.Length (c.inversions + c.negative_sum_pairs + c.negatives)) (answer.Refused r)
    totalled-counted_of_by_cases true = refl
    totalled-counted_of_by_cases false = refl

pub totalled-window : (k n : ℕ) (w : List ℤ) → totalled (crossings_of_window k n w) ≡ length_of_window k n w
unfolding crossings_of_window length_of_window window_length
totalled-window k n w = totalled-counted_of (rank_refusal k n then window_refusal (kind_of k) n w) (crossings (kind_of k) w)

pub totalled_word : (k n : ℕ) (u : List ℕ) → totalled (crossings_of_word k n u) ≡ length_of_word k n u
unfolding crossings_of_word length_of_word window_length
totalled_word k n u = totalled-counted_of (rank_refusal k n then word_refusal n u) (crossings (kind_of k) (window (kind_of k) n u))

-- ---- what bounds the total

abbrev pub SmallTotal : Counted → Type 0
SmallTotal x = (a b c : ℕ) → x ≡ counted.Crossings a b c → a + b + c ≤ 65535

counted_of_small : (r : ℕ) (s : Crossings) → (r ≡ 0 → total s ≤ 65535) → SmallTotal (counted_of r s)
unfolding total
counted_of_small r s h a b c e = let p = ((counted_of_exactly r s).1 a b c).0 e in omega (arith, h p.0, p.1, p.2, p.3)

module _ (k n : ℕ) where
  -- s are the checks after those of kind and rank
  crossings_small : (s : ℕ) (w : List ℤ) → (s ≡ 0 → Accepted (kind_of k) n w)
      → SmallTotal (counted_of (rank_refusal k n then s) (crossings (kind_of k) w))
  unfolding window_length
  crossings_small s w a = counted_of_small (rank_refusal k n then s) (crossings (kind_of k) w) small
    where
      small : (rank_refusal k n then s) ≡ 0 → window_length (kind_of k) w ≤ 65535
      small z =
          let h = then_zero (rank_refusal k n) s z in
          le_trans (window_length_le_4096 (kind_of k) n w (a h.1) (lanes_le k n _ h.0 (a h.1).size)) (omega arith)

  pub crossings_of_window_small : (w : List ℤ) → SmallTotal (crossings_of_window k n w)
  unfolding crossings_of_window
  crossings_of_window_small w = crossings_small (window_refusal (kind_of k) n w) w (accepted_of_refusal (kind_of k) n w)

  pub crossings_of_word_small : (u : List ℕ) → SmallTotal (crossings_of_word k n u)
  unfolding crossings_of_word
  crossings_of_word_small u = crossings_small (word_refusal n u) (window (kind_of k) n u) (λ z. window_accepted (kind_of k) n u)
