-- When each check of a kind, a word and an output fails (K2, K6, W2, C7, C8 and C14 of the specification), by the
-- letters at their places and the lengths.
--
-- Sections: kinds and outputs; words.
-- Not here: ranks (Sentences), windows (WindowsExactly), which of several checks is first (FirstRefusals).
-- Assumes nothing.
use mathlib.Core.Path.{◌≡◌, refl, sym, ◌∙◌}
use mathlib.Core.Bool.{Bool, true, false, ◌||◌, true≢false, false≢true}
use mathlib.Core.Logic.Iff
use mathlib.Core.Logic.{◌↔◌, ◌⊎◌, inl, inr}
use mathlib.Core.List.{List, [], ◌∷◌}
use Prim.Native.Nat.{ℕ, ◌≤◌, ◌<◌}
use native.Mathlib.Decide.{dec_le}
use native.Mathlib.Nat.{lt_of_not-le}
use native.Mathlib.Omega.{arith}
use lib.Dec.{eqb, ltb}
use lib.ListN.{length, get_or}
use borrow.Author.Tests.{le-ltb, ltb-false}
use Rattle.coxeter.specs.declared.Kind.TheVariants.{A, B, D}
use Rattle.coxeter.specs.Kinds.{kind_of}
use Rattle.coxeter.specs.Checks.{check, ◌then◌, too_long, wrong_letter, too_short, word_refusal, WordOf}
use Rattle.coxeter.proofs.TestLaws.{not_true_false, eqb_exactly, ltb_exactly, or_exactly, some_place}
use Rattle.coxeter.proofs.Acceptance.{length_accepted, letters_accepted}

-- ---- kinds and outputs

-- K2: the numbers 1, 2 and 3 name the kinds A, B and D
pub kinds_numbered : (kind_of 1 ≡ A) × (kind_of 2 ≡ B) × (kind_of 3 ≡ D)
unfolding kind_of
kinds_numbered = (refl, refl, refl)

-- C14: an output is too short exactly when it has fewer than the l elements to be written
pub short_exactly : {X : Type 0} (l : ℕ) (out : List X) → (too_short l out ≡ true) ↔ (length out < l)
unfolding too_short
short_exactly l out = ltb_exactly (length out) l

-- ---- words

-- C8: a word fails check 8 exactly when a letter is 0 or above the rank
pub wrong_letter_exactly : (n : ℕ) (u : List ℕ)
    → (wrong_letter n u ≡ true) ↔ ((i : ℕ) × (i < length u) × ((get_or u i 0 ≡ 0) ⊎ (n < get_or u i 0)))
unfolding wrong_letter
wrong_letter_exactly n [] = (λ e. absurd (false≢true e), λ h. absurd (omega (arith, h.1)))
wrong_letter_exactly n (s ∷ u) =
    let first = or_exactly (eqb s 0) (ltb n s) (eqb_exactly s 0) (ltb_exactly n s) in
    Iff.trans (or_exactly (eqb s 0 || ltb n s) (wrong_letter n u) first (wrong_letter_exactly n u))
    (Iff.symm (some_place (λ i. (get_or (s ∷ u) i 0 ≡ 0) ⊎ (n < get_or (s ∷ u) i 0)) (length u)))

-- K6, W1: a word of any length passes check 8 exactly when each of its letters is a step, from 1 to the rank
pub letters_exactly : (n : ℕ) (u : List ℕ)
    → (wrong_letter n u ≡ false) ↔ ((i : ℕ) → i < length u → (1 ≤ get_or u i 0) × (get_or u i 0 ≤ n))
letters_exactly n u = (
  λ e i h. right i h (λ b. true≢false (sym ((wrong_letter_exactly n u).1 (i, h, b)) ∙ e)),
  λ g. not_true_false (wrong_letter n u) (λ e. let w = (wrong_letter_exactly n u).0 e in wrong (g w.0 w.1) w.2),
)
  where
    right : (i : ℕ) → i < length u → ((get_or u i 0 ≡ 0) ⊎ (n < get_or u i 0) → ⊥) → (1 ≤ get_or u i 0) × (get_or u i 0 ≤ n)
    right i h f = (
      elim (dec_le 1 (get_or u i 0)) [ yes l ↦ l | no g ↦ absurd (f (inl (omega (arith, lt_of_not-le g)))) ],
      elim (dec_le (get_or u i 0) n) [ yes l ↦ l | no g ↦ absurd (f (inr (lt_of_not-le g))) ],
    )

    wrong : {s : ℕ} → (1 ≤ s) × (s ≤ n) → (s ≡ 0) ⊎ (n < s) → ⊥
    wrong g (inl z) = omega (arith, g.0)
    wrong g (inr l) = omega (arith, g.1)

two_checks : (a b : Bool)
    → (((check 7 a then check 8 b) ≡ 7) ↔ (a ≡ true)) × (((check 7 a then check 8 b) ≡ 8) ↔ ((a ≡ false) × (b ≡ true)))
two_checks true b = ((λ e. refl, λ e. refl), (λ e. absurd (omega arith), λ p. absurd (true≢false p.0)))
two_checks false true = ((λ e. absurd (omega arith), λ e. cc), (λ e. (refl, refl), λ p. refl))
two_checks false false = ((λ e. absurd (omega arith), λ e. cc), (λ e. absurd (omega arith), λ p. absurd (false≢true p.1)))

-- C7, J11: a word is refused 7 exactly when it has more than 4,096 letters
pub refused_7_exactly : (n : ℕ) (u : List ℕ) → (word_refusal n u ≡ 7) ↔ (4096 < length u)
unfolding word_refusal too_long
refused_7_exactly n u = Iff.trans (two_checks (too_long u) (wrong_letter n u)).0 (ltb_exactly 4096 (length u))

-- C8, J12: a word is refused 8 exactly when it has at most 4,096 letters and one of them is 0 or above the rank
pub refused_8_exactly : (n : ℕ) (u : List ℕ) → (word_refusal n u ≡ 8)
    ↔ ((length u ≤ 4096) × ((i : ℕ) × (i < length u) × ((get_or u i 0 ≡ 0) ⊎ (n < get_or u i 0))))
unfolding word_refusal too_long
refused_8_exactly n u =
    Iff.trans (two_checks (too_long u) (wrong_letter n u)).1
    (Iff.and (ltb-false 4096 (length u), le-ltb 4096 (length u)) (wrong_letter_exactly n u))

-- W2, C7, C8, J11, J12: a word passes exactly when it has at most 4,096 letters and each of them is a step
pub word_exactly : (n : ℕ) (u : List ℕ) → WordOf n u
    ↔ ((length u ≤ 4096) × ((i : ℕ) → i < length u → (1 ≤ get_or u i 0) × (get_or u i 0 ≤ n)))
unfolding word_refusal too_long
word_exactly n u = (
  λ h. (length_accepted n u h, (letters_exactly n u).0 (letters_accepted n u h)),
  λ p. rw (le-ltb 4096 (length u) p.0, (letters_exactly n u).1 p.1),
)
