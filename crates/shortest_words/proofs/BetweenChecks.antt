-- The checks of the call from one window to another, in their order, and what an answer says of them.
--
-- Sections: checks one after another; the call's checks; what an answer says.
-- Assumes nothing.
use mathlib.Core.Path.{◌≡◌, refl, sym, ◌∙◌}
use mathlib.Core.Bool.{Bool, true, false}
use mathlib.Core.List.{List, ◌++◌}
use mathlib.Core.Logic.{⊎_elim}
use Prim.Native.Nat.{ℕ, ◌≤◌}
use native.Mathlib.Decide.{ℕ_discrete}
use native.Mathlib.Omega.{arith}
use lib.IntN.{ℤ}
use borrow.Author.Tests.{ne_eqb}
use lib.ListN.{length, drop, take-append-drop}
use Rattle.coxeter.specs.answers.Answer.{Length, Refused}
use Rattle.coxeter.specs.Kinds.{kind_of}
use Rattle.coxeter.specs.Checks.{check, ◌then◌, too_short, rank_refusal, window_refusal, WindowOf}
use Rattle.coxeter.specs.Calls.{answer_of, written, writes}
use Rattle.coxeter.proofs.Refusals.{then_zero, then_none, then_some, check_le, then_le, rank_refusal_le, window_refusal_le, check_avoids, then_exactly}
use Rattle.coxeter.proofs.Writes.{wrote}
use Rattle.coxeter.proofs.AnswersExactly.{answer_of_exactly}
use Rattle.shortest_words.specs.Allowed.{wrong_set, set_refusal}
use Rattle.shortest_words.specs.BetweenCalls.{unreachable, between_refusal, between_windows}

-- ---- checks one after another

-- no check before 19 has its number
set_le : (k n set : ℕ) → set_refusal k n set ≤ 16
unfolding set_refusal
set_le k n set = then_le (rank_refusal k n) _ 16 (omega (arith, rank_refusal_le k n)) (check_le 16 (wrong_set n set) 16 (omega arith))

-- so a 19 comes from the last check, and all before it passed
then_late : (p q : ℕ) → p ≤ 16 → (p then q) ≡ 19 → (p ≡ 0) × (q ≡ 19)
then_late p q h e = elim (ℕ_discrete p 0) [
  | yes z ↦ (z, sym (then_none p q z) ∙ e)
  | no f ↦ let q : p ≡ 19 = sym (then_some p q f) ∙ e in absurd (omega arith)
]

check_late : (t : Bool) → check 19 t ≡ 19 → t ≡ true
check_late true e = refl
check_late false e = absurd (omega arith)

-- ---- the call's checks

module _ (k n set : ℕ) (v w : List ℤ) where
  -- what the last check finds decides
  pub last : set_refusal k n set ≡ 0 → WindowOf (kind_of k) n v → WindowOf (kind_of k) n w
      → between_refusal k n set v w ≡ check 19 (unreachable (kind_of k) n set v w)
  unfolding between_refusal
  last a b c = then_none _ _ a ∙ then_none _ _ b ∙ then_none _ _ c

  pub all_passed : between_refusal k n set v w ≡ 0
      → (set_refusal k n set ≡ 0) × WindowOf (kind_of k) n v × WindowOf (kind_of k) n w × (check 19 (unreachable (kind_of k) n set v w) ≡ 0)
  unfolding between_refusal
  all_passed e =
      let a = then_zero (set_refusal k n set) _ e in
      let b = then_zero (window_refusal (kind_of k) n v) _ a.1 in
      let c = then_zero (window_refusal (kind_of k) n w) _ b.1 in
      (a.0, b.0, c.0, c.1)

  pub all_passed_19 : between_refusal k n set v w ≡ 19
      → (set_refusal k n set ≡ 0) × WindowOf (kind_of k) n v × WindowOf (kind_of k) n w × (unreachable (kind_of k) n set v w ≡ true)
  unfolding between_refusal
  all_passed_19 e =
      let a = then_late (set_refusal k n set) _ (set_le k n set) e in
      let b = then_late (window_refusal (kind_of k) n v) _ (omega (arith, window_refusal_le (kind_of k) n v)) a.1 in
      let c = then_late (window_refusal (kind_of k) n w) _ (omega (arith, window_refusal_le (kind_of k) n w)) b.1 in
      (a.0, b.0, c.0, check_late (unreachable (kind_of k) n set v w) c.1)

-- ---- what an answer says

-- of a call that writes l
pub writes_19 : (q : ℕ) (l out : List ℕ) → (writes q l out).answer ≡ Refused 19 → q ≡ 19
unfolding writes
writes_19 q l out e =
    let t = too_short (length l) out in
    ⊎_elim (λ z. z) (λ z. absurd (check_avoids 14 18 t (λ a. omega arith) z.1))
    ((then_exactly q (check 14 t) 18).0 (((answer_of_exactly (q then check 14 t) (length l)).0 19).0 e).0)

pub writes-length : (q : ℕ) (l out : List ℕ) (m : ℕ) → (writes q l out).answer ≡ Length m → (q ≡ 0) × (m ≡ length l) × ((writes q l out).bytes ≡ l ++ drop m out)
writes-length q l out m e =
    let w = wrote q l out (writes q l out).bytes m (sym e, refl) in
    (w.unrefused, w.size, sym (take-append-drop m (writes q l out).bytes) ∙ rw (w.front, w.behind))

-- ---- kinds and ranks that are refused

-- a call that checks 5 and 6 refuse depends on nothing else of its kind and rank
pub between_alike : (k n l m set : ℕ) (v w : List ℤ) (out : List ℕ) → rank_refusal l m ≡ rank_refusal k n → (rank_refusal k n ≡ 0 → ⊥)
    → between_windows l m set v w out ≡ between_windows k n set v w out
unfolding between_windows between_refusal set_refusal writes answer_of written
between_alike k n l m set v w out e f = simp (e, ne_eqb (rank_refusal k n) 0 f)
