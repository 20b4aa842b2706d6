-- The first check of a list that fails (CO3 of the specification), and how the refusals of a kind and rank, of a word
-- and of a window, followed by others, are such a list.
--
-- Sections: the first check that fails; checks one after another.
-- Not here: the calls' own lists of checks (FirstRefusals).
-- Assumes nothing.
use mathlib.Core.Path.{◌≡◌, refl, sym, ap, ◌∙◌}
use mathlib.Core.Bool.{Bool, true, false, ◌||◌, false≢true, true≢false}
use mathlib.Core.Logic.{◌↔◌}
use mathlib.Core.List.{List, [], ◌∷◌}
use Prim.Native.Nat.{ℕ, zero, suc, ◌<◌}
use native.Mathlib.Omega.{arith}
use lib.Dec.{eqb, eqb-suc-zero}
use lib.IntN.{ℤ}
use lib.ListN.{length, get_or}
use borrow.Author.Tests.{eq-eqb}
use Rattle.coxeter.specs.declared.Kind.{Kind}
use Rattle.coxeter.specs.Kinds.{pick, kind_of, lanes}
use Rattle.coxeter.specs.Checks.{check, ◌then◌, first_of, wrong_kind, wrong_rank, too_long, wrong_letter, wrong_lanes, wrong_entry}
use Rattle.coxeter.specs.Checks.{odd_negatives, rank_refusal, word_refusal, window_refusal}
use Rattle.coxeter.proofs.Basics.{or_false_left, or_false_right}
use Rattle.coxeter.proofs.Refusals.{then_assoc}

-- ---- the first check that fails

-- the checks before the place i do not fail
abbrev NoneFails : List (ℕ × Bool) → ℕ → Type 0
NoneFails fs i = (j : ℕ) → j < i → (get_or fs j (0, false)).1 ≡ false

-- those before the next place, with one more in front that does not
none_fails_cons : (m : ℕ) (fs : List (ℕ × Bool)) (i : ℕ) → NoneFails fs i → NoneFails ((m, false) ∷ fs) (suc i)
none_fails_cons m fs i g zero h = refl
none_fails_cons m fs i g (suc j) h = g j (omega arith)

-- CO3: a number other than 0 is the refusal of a list of checks exactly when a check with that number fails and none
-- before it does
pub first_failing : (fs : List (ℕ × Bool)) (r : ℕ) → (r ≡ 0 → ⊥) → (first_of fs ≡ r)
    ↔ ((i : ℕ) × (i < length fs) × (get_or fs i (0, false) ≡ (r, true)) × ((j : ℕ) → j < i → (get_or fs j (0, false)).1 ≡ false))
first_failing [] r f = (λ e. absurd (f (sym e)), λ h. absurd (omega (arith, h.1)))
first_failing ((m, true) ∷ fs) r f = (
  λ e. (0, omega arith, ap (λ (x : ℕ). (x, true)) e, λ j h. absurd (omega arith)),
  λ h. here h.0 h.2 h.3,
)
  where
    here : (i : ℕ) → get_or ((m, true) ∷ fs) i (0, false) ≡ (r, true) → NoneFails ((m, true) ∷ fs) i → m ≡ r
    here zero e g = ap (λ (x : ℕ × Bool). x.0) e
    here (suc i) e g = absurd (true≢false (g 0 (omega arith)))
first_failing ((m, false) ∷ fs) r f =
    let ih = first_failing fs r f in (
      λ e. let h = ih.0 e in (suc h.0, omega (arith, h.1), h.2, none_fails_cons m fs h.0 h.3),
      λ h. further (λ i l e g. ih.1 (i, l, e, g)) h.0 h.1 h.2 h.3,
    )
  where
    further : ((i : ℕ) → i < length fs → get_or fs i (0, false) ≡ (r, true) → NoneFails fs i → first_of fs ≡ r)
        → (i : ℕ) → i < suc (length fs) → get_or ((m, false) ∷ fs) i (0, false) ≡ (r, true) → NoneFails ((m, false) ∷ fs) i → first_of fs ≡ r
    further ih zero l e g = absurd (false≢true (ap (λ (x : ℕ × Bool). x.1) e))
    further ih (suc i) l e g = ih i (omega arith) e (λ j h. g (suc j) (omega arith))

-- CO3: where no check has the number 0, there is no refusal exactly when no check fails
pub none_failing : (fs : List (ℕ × Bool)) → ((i : ℕ) → i < length fs → (get_or fs i (0, false)).0 ≡ 0 → ⊥)
    → (first_of fs ≡ 0) ↔ ((i : ℕ) → i < length fs → (get_or fs i (0, false)).1 ≡ false)
none_failing [] n = (λ e i h. absurd (omega arith), λ h. refl)
none_failing ((m, true) ∷ fs) n = (λ e. absurd (n 0 (omega arith) e), λ h. absurd (true≢false (h 0 (omega arith))))
none_failing ((m, false) ∷ fs) n =
    let ih = none_failing fs (λ i h. n (suc i) (omega arith)) in
    (λ e. none_fails_cons m fs (length fs) (ih.0 e), λ h. ih.1 (λ i l. h (suc i) (omega arith)))

-- a check of the list has this number
abbrev pub named : ℕ → List (ℕ × Bool) → Bool
named c [] = false
named c (f ∷ fs) = eqb f.0 c || named c fs

-- only such a number can come
pub first_of-named : (c : ℕ) (fs : List (ℕ × Bool)) → named (suc c) fs ≡ false → first_of fs ≡ suc c → ⊥
first_of-named c [] h e = omega arith
first_of-named c ((r, true) ∷ fs) h e = true≢false (sym (eq-eqb r (suc c) e) ∙ or_false_left (eqb r (suc c)) (named (suc c) fs) h)
first_of-named c ((r, false) ∷ fs) h e = first_of-named c fs (or_false_right (eqb r (suc c)) (named (suc c) fs) h) e

-- ---- checks one after another

-- Each law takes an equation s ≡ t about the checks that follow, so that a list of several groups is made by nesting
-- them, as in `rank_then k n (word_then n u refl)`. If several groups are followed as one, `rw then_assoc` or
-- `simp then_assoc` goes first. On the right stands `first_of` of the list, written out.

-- one check; the number is not 0
pub check_then : (r : ℕ) (b : Bool) {s t : ℕ} → s ≡ t → (check (suc r) b then s) ≡ pick b (suc r) t
check_then r true e = rw (eqb-suc-zero r)
check_then r false e = e

both_then : (p q : ℕ) (a b : Bool) {s t : ℕ} → s ≡ t
    → ((check (suc p) a then check (suc q) b) then s) ≡ pick a (suc p) (pick b (suc q) t)
both_then p q true b e = simp eqb-suc-zero
both_then p q false b e = check_then q b e

-- C5, C6: a kind and a rank
pub rank_then : (k n : ℕ) {s t : ℕ} → s ≡ t
    → (rank_refusal k n then s) ≡ pick (wrong_kind k) 5 (pick (wrong_rank (kind_of k) n) 6 t)
unfolding rank_refusal
rank_then k n e = both_then 4 5 (wrong_kind k) (wrong_rank (kind_of k) n) e

-- C7, C8: a word
pub word_then : (n : ℕ) (u : List ℕ) {s t : ℕ} → s ≡ t
    → (word_refusal n u then s) ≡ pick (too_long u) 7 (pick (wrong_letter n u) 8 t)
unfolding word_refusal
word_then n u e = both_then 6 7 (too_long u) (wrong_letter n u) e

-- C9, C10, C11: a window
pub window_then : (k : Kind) (n : ℕ) (w : List ℤ) {s t : ℕ} → s ≡ t
    → (window_refusal k n w then s) ≡ pick (wrong_lanes k n w) 9 (pick (wrong_entry k (lanes k n) w) 10 (pick (odd_negatives k w) 11 t))
unfolding window_refusal
window_then k n w e = rw then_assoc (check_then 8 (wrong_lanes k n w) (both_then 9 10 (wrong_entry k (lanes k n) w) (odd_negatives k w) e))
