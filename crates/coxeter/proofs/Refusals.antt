-- The first refusal of two, case by case; the greatest number that each group of checks gives; when a check among
-- others gives its number; when an answer does.
-- Assumes nothing.
use mathlib.Core.Path.{◌≡◌, refl, sym, ap, ◌∙◌}
use mathlib.Core.Bool.{Bool, true, false, true≢false}
use mathlib.Core.List.{List}
use mathlib.Core.Logic.{◌⊎◌, inl, inr, ⊎_elim, ◌↔◌}
use Prim.Native.Nat.{ℕ, zero, suc, ◌≤◌, ◌<◌}
use native.Mathlib.Decide.{ℕ_discrete}
use native.Mathlib.Omega.{arith}
use lib.Dec.{eqb, eqb-suc-zero}
use lib.IntN.{ℤ}
use borrow.Author.Tests.{eq-eqb, ne_eqb}
use Rattle.coxeter.specs.declared.Kind.{Kind}
use Rattle.coxeter.specs.Kinds.{pick, kind_of, lanes}
use Rattle.coxeter.specs.Checks.{check, ◌then◌, wrong_kind, wrong_rank, too_long, wrong_letter}
use Rattle.coxeter.specs.Checks.{wrong_lanes, wrong_entry, odd_negatives, rank_refusal, word_refusal, window_refusal}
use Rattle.coxeter.proofs.TestLaws.{impossible, Apart}

pub then_zero : (r s : ℕ) → (r then s) ≡ 0 → (r ≡ 0) × (s ≡ 0)
then_zero zero s h = (refl, h)
then_zero (suc r) s h = let z : suc r ≡ 0 = rw eqb-suc-zero at h in let f : ⊥ = omega arith in absurd f

-- check r, one of the numbers from 1 on, found nothing wrong
pub check_zero : (r : ℕ) (t : Bool) → eqb r 0 ≡ false → check r t ≡ 0 → t ≡ false
check_zero r true e h = absurd (true≢false (sym (eq-eqb r 0 h) ∙ e))
check_zero r false e h = refl

-- none, and then the other; some, and then whatever
pub then_none : (r s : ℕ) → r ≡ 0 → (r then s) ≡ s
then_none r s e = rw (eq-eqb r 0 e)

pub then_some : (r s : ℕ) → (r ≡ 0 → ⊥) → (r then s) ≡ r
then_some r s f = rw (ne_eqb r 0 f)

pub then_assoc : (r s t : ℕ) → ((r then s) then t) ≡ (r then (s then t))
then_assoc r s t = then_assoc_by_cases (eqb r 0) refl
  where
    then_assoc_by_cases : (b : Bool) → eqb r 0 ≡ b → ((r then s) then t) ≡ (r then (s then t))
    then_assoc_by_cases true e = rw e
    then_assoc_by_cases false e = rw e (rw e)

-- the same as code meets them: r is the refusal that was computed
pub then_refused : (q r s : ℕ) → r ≡ q → (r ≡ 0 → ⊥) → r ≡ (q then s)
then_refused q r s e f = e ∙ sym (then_some q s (λ z. f (e ∙ z)))

pub then_next : (q r s t : ℕ) → r ≡ q → r ≡ 0 → t ≡ s → t ≡ (q then s)
then_next q r s t e z h = h ∙ sym (then_none q s (sym e ∙ z))

-- p and q were made together, and gave r
pub pair_refused : (p q s r : ℕ) → r ≡ (p then q) → (r ≡ 0 → ⊥) → r ≡ (p then (q then s))
pair_refused p q s r e f = then_refused (p then q) r s e f ∙ then_assoc p q s

pub pair_next : (p q : ℕ) {s r t : ℕ} → r ≡ (p then q) → r ≡ 0 → t ≡ s → t ≡ (p then (q then s))
pair_next p q {s} {r} {t} e z h = then_next (p then q) r s t e z h ∙ then_assoc p q s

-- ---- the greatest number

pub check_le : (r : ℕ) (t : Bool) (m : ℕ) → r ≤ m → check r t ≤ m
check_le r true m h = h
check_le r false m h = omega arith

pub then_le : (p q m : ℕ) → p ≤ m → q ≤ m → (p then q) ≤ m
then_le p q m h g = elim (ℕ_discrete p 0) [ yes z ↦ rw (then_none p q z) g | no f ↦ rw (then_some p q f) h ]

pub wrong_kind-above : (k : ℕ) → 3 < k → wrong_kind k ≡ true
unfolding wrong_kind
wrong_kind-above k h = rw (ne_eqb k 1 (omega arith), ne_eqb k 2 (omega arith), ne_eqb k 3 (omega arith))

pub rank_refusal_le : (k n : ℕ) → rank_refusal k n ≤ 6
unfolding rank_refusal
rank_refusal_le k n = then_le _ _ 6 (check_le 5 (wrong_kind k) 6 (omega arith)) (check_le 6 (wrong_rank (kind_of k) n) 6 (omega arith))

pub word_refusal_le : (n : ℕ) (u : List ℕ) → word_refusal n u ≤ 8
unfolding word_refusal
word_refusal_le n u = then_le _ _ 8 (check_le 7 (too_long u) 8 (omega arith)) (check_le 8 (wrong_letter n u) 8 (omega arith))

pub window_refusal_le : (k : Kind) (n : ℕ) (w : List ℤ) → window_refusal k n w ≤ 11
unfolding window_refusal
window_refusal_le k n w =
    then_le _ _ 11 (check_le 9 (wrong_lanes k n w) 11 (omega arith))
    (then_le _ _ 11 (check_le 10 (wrong_entry k (lanes k n) w) 11 (omega arith)) (check_le 11 (odd_negatives k w) 11 (omega arith)))

-- ---- a check among others

-- a number is the first refusal of two exactly when it is the first one, or the second and the first passes
pub then_exactly : (p q c : ℕ) → ((p then q) ≡ suc c) ↔ ((p ≡ suc c) ⊎ ((p ≡ 0) × (q ≡ suc c)))
then_exactly p q c = (
  λ e. elim (ℕ_discrete p 0) [ yes z ↦ inr (z, sym (then_none p q z) ∙ e) | no f ↦ inl (sym (then_some p q f) ∙ e) ],
  λ h. elim h [ inl e ↦ then_some p q (λ z. omega arith) ∙ e | inr e ↦ then_none p q e.0 ∙ e.1 ],
)

pub then_avoids : (p q c : ℕ) → (p ≡ suc c → ⊥) → (q ≡ suc c → ⊥) → (p then q) ≡ suc c → ⊥
then_avoids p q c f g e = ⊎_elim f (λ h. g h.1) ((then_exactly p q c).0 e)

pub check_avoids : (r c : ℕ) (t : Bool) → (r ≡ suc c → ⊥) → check r t ≡ suc c → ⊥
check_avoids r c true f e = f e
check_avoids r c false f e = omega arith

pub check-number : (c : ℕ) (t : Bool) → (check (suc c) t ≡ suc c) ↔ (t ≡ true)
check-number c true = (λ e. refl, λ e. refl)
check-number c false = (λ e. absurd (omega arith), λ e. absurd (true≢false (sym e)))

-- where neither the checks p before it nor the checks q after it have its number, it comes exactly when those
-- before it pass and its test holds
pub check_exactly : (p c : ℕ) (t : Bool) (q : ℕ) → (p ≡ suc c → ⊥) → (q ≡ suc c → ⊥)
    → ((p then check (suc c) t then q) ≡ suc c) ↔ ((p ≡ 0) × (t ≡ true))
check_exactly p c t q f g = (
  λ e. ⊎_elim (λ x. absurd (f x)) (λ x. (x.0, own x)) ((then_exactly p (check (suc c) t then q) c).0 e),
  λ h. (then_exactly p (check (suc c) t then q) c).1 (inr (h.0, (then_exactly (check (suc c) t) q c).1 (inl ((check-number c t).1 h.1)))),
)
  where
    own : (p ≡ 0) × ((check (suc c) t then q) ≡ suc c) → t ≡ true
    own x = ⊎_elim (check-number c t).0 (λ y. absurd (g y.1)) ((then_exactly (check (suc c) t) q c).0 x.1)

-- ---- an answer

-- an answer that is good, or names the refusal r if that is not 0
module _ {X : Type 0} (refused : ℕ → X) (good : X) (r c : ℕ) (same : refused r ≡ refused c → r ≡ c) (apart : Apart good (refused c)) where
  pub refused_exactly : (pick (eqb r 0) good (refused r) ≡ refused c) ↔ ((r ≡ c) × (c ≡ 0 → ⊥))
  refused_exactly = elim (ℕ_discrete r 0) [
    | yes z ↦ rw (eq-eqb r 0 z) (λ e. impossible (apart e), λ p. absurd (p.1 (sym p.0 ∙ z)))
    | no f ↦ rw (ne_eqb r 0 f) (λ e. (same e, λ z. f (same e ∙ z)), λ p. ap refused p.0)
  ]

-- the answer a, which is not the refusal r, is given exactly when r is 0 and a is the good one
pub good_exactly : {X : Type 0} (refused : ℕ → X) (good : X) (r : ℕ) (a : X) → Apart (refused r) a
    → (pick (eqb r 0) good (refused r) ≡ a) ↔ ((r ≡ 0) × (good ≡ a))
good_exactly refused good r a apart = elim (ℕ_discrete r 0) [
  | yes z ↦ rw (eq-eqb r 0 z) (λ e. (z, e), λ p. p.1)
  | no f ↦ rw (ne_eqb r 0 f) (λ e. impossible (apart e), λ p. absurd (f p.0))
]
