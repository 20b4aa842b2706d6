-- The length calls beside the calls that write a normal form: both are refused alike but for the room of the
-- output, the length that the one answers is the number of letters that the other writes, and the three counts add
-- up to it. For every input and every output. By the ways in which a call that writes can end (Writes).
--
-- Sections: a length and what is written; from a word; from a window.
-- Assumes nothing.
use mathlib.Core.Path.{◌≡◌, refl, sym, ap, ◌∙◌}
use mathlib.Core.Logic.{◌↔◌}
use mathlib.Core.List.{List}
use Prim.Native.Nat.{ℕ, ◌+◌, ◌≤◌, ◌<◌}
use native.Mathlib.Omega.{arith}
use lib.IntN.{ℤ}
use lib.ListN.{length}
use borrow.Author.Tests.{eq-eqb, ne_eqb}
use Rattle.coxeter.specs.answers.Answer.{Length, Refused}
use Rattle.coxeter.specs.answers.Counted as counted
use Rattle.coxeter.specs.Kinds.{kind_of}
use Rattle.coxeter.specs.Windows.{window}
use Rattle.coxeter.specs.Length.{window_length}
use Rattle.coxeter.specs.Checks.{◌then◌, rank_refusal, word_refusal, window_refusal}
use Rattle.coxeter.specs.NormalForm.{normal_form, word_normal_form}
use Rattle.coxeter.specs.Calls.{Yields, answer_of, writes, normal_form_of_window, normal_form_of_word}
use Rattle.coxeter.specs.Calls.{length_of_window, length_of_word, crossings_of_window, crossings_of_word}
use Rattle.coxeter.proofs.Refusals.{then_zero, then_le, rank_refusal_le, word_refusal_le, window_refusal_le}
use Rattle.coxeter.proofs.FormLaws.{length_of_word-normal_form, length_of_window-normal_form, crossings_of_word-total, crossings_of_window-total}
use Rattle.coxeter.proofs.Theorems.{window_passes, length-normal_form}
use Rattle.coxeter.proofs.Writes.{ended, refused, short, made, length_or_refused}
use Rattle.coxeter.proofs.Written.{normal_form_of_word_accepted, normal_form_of_word_wrote, normal_form_of_window_accepted, normal_form_of_window_wrote}

-- ---- a length and what is written

-- a length call beside the call that writes w: both make the same checks, whose refusals are below 14
module _ {X : Type 0} (q m : ℕ) (w before : List X) (same : q ≡ 0 → length w ≡ m) where
  length-refused : q < 14 → (r : ℕ) → (answer_of q m ≡ Refused r) ↔ (((writes q w before).answer ≡ Refused r) × (r ≡ 14 → ⊥))
  unfolding answer_of
  length-refused below r = elim (ended q w before) [
    | refused f e ↦ rw (ne_eqb q 0 f) (
      λ h. let s : q ≡ r = cc in (sym e.0 ∙ h, λ z. omega arith),
      λ h. e.0 ∙ h.0,
    )
    | short z g e ↦ rw (eq-eqb q 0 z) (
      λ h. absurd (length_or_refused refl h),
      λ h. let c : Refused 14 ≡ Refused r = e.0 ∙ h.0 in let s : r ≡ 14 = cc in absurd (h.1 s),
    )
    | made z g e ↦ rw (eq-eqb q 0 z) (λ h. absurd (length_or_refused refl h), λ h. absurd (length_or_refused (sym e.0) h.0))
  ]

  length_room : (l : ℕ) → answer_of q m ≡ Length l
      → (((writes q w before).answer ≡ Length l) ↔ (l ≤ length before)) × (((writes q w before).answer ≡ Refused 14) ↔ (length before < l))
  unfolding answer_of
  length_room l h = elim (ended q w before) [
    | refused f e ↦ let c : Refused q ≡ Length l = rw (ne_eqb q 0 f) at h in absurd (length_or_refused c refl)
    | short z g e ↦
        let c : Length m ≡ Length l = rw (eq-eqb q 0 z) at h in
        let s : m ≡ l = cc in
        let t = same z in
        ((λ a. absurd (length_or_refused a (sym e.0)), λ a. absurd (omega arith)), (λ a. omega arith, λ a. sym e.0))
    | made z g e ↦
        let c : Length m ≡ Length l = rw (eq-eqb q 0 z) at h in
        let s : m ≡ l = cc in
        let t = same z in (
          (λ a. omega arith, λ a. sym e.0 ∙ ap Length (same z ∙ s)),
          (λ a. absurd (length_or_refused (sym e.0) a), λ a. absurd (omega arith)),
        )
  ]

-- ---- from a word

module _ (k n : ℕ) (u before : List ℕ) where
  form_size : (rank_refusal k n then word_refusal n u) ≡ 0 → length (word_normal_form (kind_of k) n u) ≡ window_length (kind_of k) (window (kind_of k) n u)
  form_size z = length-normal_form (kind_of k) n (window (kind_of k) n u) (window_passes (kind_of k) n u)

  -- the length call is refused exactly where the normal form call is, but for the room of its output
  pub length_of_word-refused : (r : ℕ) → (length_of_word k n u ≡ Refused r) ↔ (((normal_form_of_word k n u before).answer ≡ Refused r) × (r ≡ 14 → ⊥))
  unfolding length_of_word normal_form_of_word
  length_of_word-refused =
      length-refused _ _ _ before form_size (omega (
        arith,
        then_le (rank_refusal k n) (word_refusal n u) 8 (omega (arith, rank_refusal_le k n)) (word_refusal_le n u),
      ))

  -- and its length is the room that the normal form call asks for
  pub length_of_word_room : (l : ℕ) → length_of_word k n u ≡ Length l
      → (((normal_form_of_word k n u before).answer ≡ Length l) ↔ (l ≤ length before))
      × (((normal_form_of_word k n u before).answer ≡ Refused 14) ↔ (length before < l))
  unfolding length_of_word normal_form_of_word
  length_of_word_room = length_room _ _ _ before form_size

  -- the number of letters written is what the length call answers, and the sum of the three counts
  module _ (after : List ℕ) (l : ℕ) (left : Yields (normal_form_of_word k n u before) (Length l) after) where
    pub length_of_word-written : length_of_word k n u ≡ Length l
    length_of_word-written =
        let a = normal_form_of_word_accepted k n u before after l left in
        let b = normal_form_of_word_wrote k n u before after l left in
        length_of_word-normal_form k n u a.0 a.1 ∙ ap Length (sym (ap length b.0) ∙ b.1)

    pub crossings_of_word-written : (p q r : ℕ) → crossings_of_word k n u ≡ counted.Crossings p q r → l ≡ p + q + r
    crossings_of_word-written p q r e =
        let c : Length l ≡ Length (p + q + r) = sym length_of_word-written ∙ crossings_of_word-total k n u p q r e in
        cc

-- ---- from a window

module _ (k n : ℕ) (w : List ℤ) (before : List ℕ) where
  window_form_size : (rank_refusal k n then window_refusal (kind_of k) n w) ≡ 0 → length (normal_form (kind_of k) n w) ≡ window_length (kind_of k) w
  window_form_size z = length-normal_form (kind_of k) n w (then_zero (rank_refusal k n) (window_refusal (kind_of k) n w) z).1

  pub length_of_window-refused : (r : ℕ) → (length_of_window k n w ≡ Refused r) ↔ (((normal_form_of_window k n w before).answer ≡ Refused r) × (r ≡ 14 → ⊥))
  unfolding length_of_window normal_form_of_window
  length_of_window-refused =
      length-refused _ _ _ before window_form_size (omega (
        arith,
        then_le (rank_refusal k n) (window_refusal (kind_of k) n w) 11 (omega (arith, rank_refusal_le k n)) (window_refusal_le (kind_of k) n w),
      ))

  pub length_of_window_room : (l : ℕ) → length_of_window k n w ≡ Length l
      → (((normal_form_of_window k n w before).answer ≡ Length l) ↔ (l ≤ length before))
      × (((normal_form_of_window k n w before).answer ≡ Refused 14) ↔ (length before < l))
  unfolding length_of_window normal_form_of_window
  length_of_window_room = length_room _ _ _ before window_form_size

  module _ (after : List ℕ) (l : ℕ) (left : Yields (normal_form_of_window k n w before) (Length l) after) where
    pub length_of_window-written : length_of_window k n w ≡ Length l
    length_of_window-written =
        let a = normal_form_of_window_accepted k n w before after l left in
        let b = normal_form_of_window_wrote k n w before after l left in
        length_of_window-normal_form k n w a.0 a.1 ∙ ap Length (sym (ap length b.0) ∙ b.1)

    pub crossings_of_window-written : (p q r : ℕ) → crossings_of_window k n w ≡ counted.Crossings p q r → l ≡ p + q + r
    crossings_of_window-written p q r e =
        let c : Length l ≡ Length (p + q + r) = sym length_of_window-written ∙ crossings_of_window-total k n w p q r e in
        cc
