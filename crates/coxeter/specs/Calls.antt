-- What each call on words and windows returns and writes, for every input (section I of the specification, I4 to
-- I17). The order of the checks is that of CO2 and CO4.
use Rattle.std.specs.Prelude.{◌≡◌, Bool, true, false, ◌&&◌, List, [], ◌∷◌, ◌++◌, ℕ, eqb, ℤ, pos, negsuc, length, drop}
use Rattle.std.specs.Borrow.{Bor}
use Rattle.coxeter.specs.answers.Answer.{Answer}
use Rattle.coxeter.specs.answers.Answer.{Length, Refused}
use Rattle.coxeter.specs.answers.Lanes.{Lanes}
use Rattle.coxeter.specs.answers.Lanes as lane_count
use Rattle.coxeter.specs.answers.Verdict.{Verdict}
use Rattle.coxeter.specs.answers.Verdict as verdict
use Rattle.coxeter.specs.answers.Choice.{Choice}
use Rattle.coxeter.specs.answers.Choice as choices
use Rattle.coxeter.specs.answers.Counted.{Counted}
use Rattle.coxeter.specs.answers.Counted as counted
use Rattle.coxeter.specs.declared.Kind.{Kind}
use Rattle.coxeter.specs.Kinds.{pick, kind_of, lanes}
use Rattle.coxeter.specs.Windows.{window, product, inverse}
use Rattle.coxeter.specs.Length.{Crossings, crossings, window_length}
use Rattle.coxeter.specs.NormalForm.{normal_form, word_normal_form}
use Rattle.coxeter.specs.Checks.{check, ◌then◌, too_short, rank_refusal, word_refusal, window_refusal}

-- I1, G17: the number and the value of each case of `Answer`: its refusal, or with none the length
unfoldable pub answer_of : ℕ → ℕ → Answer
answer_of r l = pick (eqb r 0) (Length l) (Refused r)

-- K3, I33, G17: the number and the value of each case of `Lanes`: its refusal, or with none the lane count
unfoldable pub lanes_of : ℕ → ℕ → Lanes
lanes_of r m = pick (eqb r 0) (lane_count.Count m) (lane_count.Refused r)

-- V1, G17: the number and the value of each case of `Verdict`: its refusal, or with none yes or no
unfoldable pub verdict_of : ℕ → Bool → Verdict
verdict_of r t = pick (eqb r 0) (pick t verdict.Yes verdict.No) (verdict.Refused r)

-- L2, L3, L4, G17: the number and the values of each case of `Counted`: its refusal, or with none the three counts
unfoldable pub counted_of : ℕ → Crossings → Counted
counted_of r c = pick (eqb r 0) (counted.Crossings c.inversions c.negative_sum_pairs c.negatives) (counted.Refused r)

-- CO7, I2: `out` with `l` written to its front; what lies behind `l` stays
unfoldable pub front : {X : Type 0} → List X → List X → List X
front l out = l ++ drop (length l) out

-- CO6, CO7, I2: `out` after a call that writes `l` to its front unless r refuses it
unfoldable pub written : {X : Type 0} → ℕ → List X → List X → List X
written r l out = pick (eqb r 0) (front l out) out

-- G1: the answer of a call that writes, and the bytes of its output afterwards
pub record Outcome (X : Type 0) : Type 0 where
  pub answer : Answer
  pub bytes : List X

-- G1: a call returns a and leaves `after` in its output, as the outcome o says
abbrev pub Yields : {X : Type 0} → Outcome X → Answer → List X → Type 0
Yields o a after = (a ≡ o.answer) × (after ≡ o.bytes)

-- I1, C14, CO3: refused with r, or else 14 if the output is too short, or else `l` is written
unfoldable pub writes : {X : Type 0} → ℕ → List X → List X → Outcome X
writes r l out =
    let s = r then check 14 (too_short (length l) out) in
    record { answer = answer_of s (length l); bytes = written s l out }

-- I4
unfoldable pub window_of_word : ℕ → ℕ → List ℕ → List ℤ → Outcome ℤ
window_of_word k n u out = writes (rank_refusal k n then word_refusal n u) (window (kind_of k) n u) out

-- I9; the first window's checks come before the second's (CO4)
unfoldable pub product_of_windows : ℕ → ℕ → List ℤ → List ℤ → List ℤ → Outcome ℤ
product_of_windows k n u v out =
    writes (rank_refusal k n then window_refusal (kind_of k) n u then window_refusal (kind_of k) n v) (product u v) out

-- I10
unfoldable pub inverse_of_window : ℕ → ℕ → List ℤ → List ℤ → Outcome ℤ
inverse_of_window k n w out = writes (rank_refusal k n then window_refusal (kind_of k) n w) (inverse w) out

-- I5
unfoldable pub normal_form_of_window : ℕ → ℕ → List ℤ → List ℕ → Outcome ℕ
normal_form_of_window k n w out = writes (rank_refusal k n then window_refusal (kind_of k) n w) (normal_form (kind_of k) n w) out

-- I6, T17
unfoldable pub normal_form_of_word : ℕ → ℕ → List ℕ → List ℕ → Outcome ℕ
normal_form_of_word k n u out = writes (rank_refusal k n then word_refusal n u) (word_normal_form (kind_of k) n u) out

-- I7. The window of u followed by v is the product (W8), so this is the normal form of W10.
unfoldable pub product_of_words : ℕ → ℕ → List ℕ → List ℕ → List ℕ → Outcome ℕ
product_of_words k n u v out =
    writes (rank_refusal k n then word_refusal n u then word_refusal n v)
    (normal_form (kind_of k) n (product (window (kind_of k) n u) (window (kind_of k) n v))) out

-- I8. The window of the word read backwards is the inverse (W9), so this is the normal form of W10.
unfoldable pub inverse_of_word : ℕ → ℕ → List ℕ → List ℕ → Outcome ℕ
inverse_of_word k n u out =
    writes (rank_refusal k n then word_refusal n u) (normal_form (kind_of k) n (inverse (window (kind_of k) n u))) out

-- I12
unfoldable pub length_of_window : ℕ → ℕ → List ℤ → Answer
length_of_window k n w = answer_of (rank_refusal k n then window_refusal (kind_of k) n w) (window_length (kind_of k) w)

-- I11
unfoldable pub length_of_word : ℕ → ℕ → List ℕ → Answer
length_of_word k n u =
    answer_of (rank_refusal k n then word_refusal n u) (window_length (kind_of k) (window (kind_of k) n u))

-- I14
unfoldable pub crossings_of_window : ℕ → ℕ → List ℤ → Counted
crossings_of_window k n w = counted_of (rank_refusal k n then window_refusal (kind_of k) n w) (crossings (kind_of k) w)

-- I13
unfoldable pub crossings_of_word : ℕ → ℕ → List ℕ → Counted
crossings_of_word k n u =
    counted_of (rank_refusal k n then word_refusal n u) (crossings (kind_of k) (window (kind_of k) n u))

-- Helper of V1: two entries are equal.
unfoldable pub same_entry : ℤ → ℤ → Bool
same_entry (pos a) (pos b) = eqb a b
same_entry (pos a) (negsuc b) = false
same_entry (negsuc a) (pos b) = false
same_entry (negsuc a) (negsuc b) = eqb a b

-- V1: two windows are equal
unfoldable pub same_window : List ℤ → List ℤ → Bool
same_window [] [] = true
same_window [] (y ∷ v) = false
same_window (x ∷ u) [] = false
same_window (x ∷ u) (y ∷ v) = same_entry x y && same_window u v

-- V3: two words of one kind and rank have one window
unfoldable pub equal_words : Kind → ℕ → List ℕ → List ℕ → Bool
equal_words k n u v = same_window (window k n u) (window k n v)

-- V1: the kinds play no part beyond lanes and windows
unfoldable pub same_presets : ℕ → ℕ → List ℕ → ℕ → ℕ → List ℕ → Bool
same_presets k₁ n₁ u₁ k₂ n₂ u₂ =
    eqb (lanes (kind_of k₁) n₁) (lanes (kind_of k₂) n₂) && same_window (window (kind_of k₁) n₁ u₁) (window (kind_of k₂) n₂ u₂)

-- I15: the first preset's checks come before the second's (CO4)
unfoldable pub presets_equal : ℕ → ℕ → List ℕ → ℕ → ℕ → List ℕ → Verdict
presets_equal k₁ n₁ u₁ k₂ n₂ u₂ =
    verdict_of (rank_refusal k₁ n₁ then word_refusal n₁ u₁ then rank_refusal k₂ n₂ then word_refusal n₂ u₂)
    (same_presets k₁ n₁ u₁ k₂ n₂ u₂)

-- V3, V5: one of the two words is handed back: no check refuses, and the windows are equal
unfoldable pub hands_back : ℕ → ℕ → List ℕ → List ℕ → Bool
hands_back k n u v = eqb (rank_refusal k n then word_refusal n u then word_refusal n v) 0 && equal_words (kind_of k) n u v

-- I17, G17: the value of each case of `Choice`: neither, or the second, or the first
unfoldable pub choice : Bool → Bool → Choice
choice hands second = pick hands (pick second choices.Second choices.First) choices.Neither

-- I16: what is handed back, as a slice. `second` says that v is the better one.
pub record Better (hands second : Bool) (u v r : Bor (List ℕ)) : Type 0 where
  -- V3, V4: the lent slice itself, and not a copy
  pub whole : hands ≡ true → r ≡ pick second v u
  -- V5, V6: of length 0, at the start of the first word
  pub empty : hands ≡ false → (r.now ≡ []) × (r.ref_ptr ≡ u.ref_ptr)
