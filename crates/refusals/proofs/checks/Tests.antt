-- The checks' definitions, one element at a time and one case at a time, in the form in which the code meets them.
--
-- Sections: kinds and ranks; letters; entries; signs; windows.
-- Assumes nothing.
use mathlib.Core.Path.{◌≡◌, refl, sym, ◌∙◌}
use mathlib.Core.Bool.{Bool, true, false, not, ◌||◌, ◌&&◌, or-true, or-false}
use mathlib.Core.List.{List, [], ◌∷◌}
use Prim.Native.Nat.{ℕ, ◌+◌, ◌≤◌, ◌<◌, max}
use native.Mathlib.Decide.{ℕ_discrete, dec_le}
use native.Mathlib.Omega.{arith}
use lib.Dec.{eqb, ltb, leb}
use lib.IntN.{ℤ, pos, nat_abs}
use lib.ListN.{length, get_or, take, drop, drop_of_length-le}
use borrow.Author.Tests.{eq-eqb, ne_eqb, lt-ltb, le-ltb, le-leb, lt-leb}
use Rattle.coxeter.specs.declared.Kind.{Kind}
use Rattle.coxeter.specs.Kinds.{pick, lanes}
use Rattle.coxeter.specs.Length.{negative}
use Rattle.coxeter.specs.Checks.{wrong_kind, wrong_letter, wrong_at, wrong_entry, has_size, negative_in_A}
use Rattle.coxeter.specs.Checks.{odd_negatives, wrong_lanes, window_refusal}
use Rattle.coxeter.specs.Parity.{flag_after}
use Rattle.coxeter.proofs.Parity.{flag_next}
use Rattle.coxeter.proofs.Lists.{drop_next}

-- ---- kinds and ranks

pub wrong_kind_zero : (k : ℕ) → k ≡ 0 → wrong_kind k ≡ true
unfolding wrong_kind
wrong_kind_zero k e = rw (ne_eqb k 1 (omega arith), ne_eqb k 2 (omega arith), ne_eqb k 3 (omega arith))

pub wrong_kind_within : (k : ℕ) → (k ≡ 0 → ⊥) → k ≤ 3 → wrong_kind k ≡ false
unfolding wrong_kind
wrong_kind_within k f h = elim (ℕ_discrete k 1) [ yes e ↦ rw (eq-eqb k 1 e) | no g ↦ rw (ne_eqb k 1 g) (two g) ]
  where
    two : (k ≡ 1 → ⊥) → not (eqb k 2 || eqb k 3) ≡ false
    two g = elim (ℕ_discrete k 2) [ yes e ↦ rw (eq-eqb k 2 e) | no s ↦ rw (ne_eqb k 2 s, eq-eqb k 3 (omega arith)) ]

-- ---- letters

-- a letter s less one is r, or 255 for 0: it is wrong if the rank n is not above r
wrong_reaches : (n h s r : ℕ) → n ≤ 255 → h < n → (s ≡ 0 → r ≡ 255) → (1 ≤ s → s ≡ r + 1) → leb n (max h r) ≡ (eqb s 0 || ltb n s)
wrong_reaches n h s r b g z p = elim (ℕ_discrete s 0) [
  | yes e ↦ let q : r ≡ 255 = z e in rw (eq-eqb s 0 e, le-leb n (max h r) (omega arith))
  | no f ↦ rw (ne_eqb s 0 f) (let q : s ≡ r + 1 = p (omega arith) in above q)
]
  where
    above : s ≡ r + 1 → leb n (max h r) ≡ ltb n s
    above q = elim (dec_le n r) [
      | yes l ↦ rw (le-leb n (max h r) (omega arith), lt-ltb n s (omega arith))
      | no l ↦ rw (lt-leb n (max h r) (omega arith), le-ltb n s (omega arith))
    ]

-- the rank is not above the greatest so far, h, or the letter s is wrong
greater_reaches : (n h s r : ℕ) → n ≤ 255 → (s ≡ 0 → r ≡ 255) → (1 ≤ s → s ≡ r + 1) → (w : Bool)
    → (leb n h || ((eqb s 0 || ltb n s) || w)) ≡ (leb n (max h r) || w)
greater_reaches n h s r b z p w = elim (dec_le n h) [
  | yes l ↦ rw (le-leb n h l, le-leb n (max h r) (omega arith))
  | no g ↦ rw (lt-leb n h (omega arith), wrong_reaches n h s r b (omega arith) z p)
]

-- h is the greatest of the letters before the place i, each less one
pub wrong_letter_next : (n : ℕ) (u : List ℕ) (i h r : ℕ) → n ≤ 255 → i < length u → (get_or u i 0 ≡ 0 → r ≡ 255) → (1 ≤ get_or u i 0 → get_or u i 0 ≡ r + 1)
    → (leb n h || wrong_letter n (drop i u)) ≡ (leb n (max h r) || wrong_letter n (drop (i + 1) u))
unfolding wrong_letter
wrong_letter_next n u i h r b l z p = rw (drop_next u i 0 l) (greater_reaches n h (get_or u i 0) r b z p (wrong_letter n (drop (i + 1) u)))

-- at rank 0 every letter is wrong
reaches_none : (n s : ℕ) (u : List ℕ) → (leb n 0 || wrong_letter n (s ∷ u)) ≡ wrong_letter n (s ∷ u)
unfolding wrong_letter
reaches_none n s u = elim (ℕ_discrete n 0) [
  | no f ↦ rw (lt-leb n 0 (omega arith))
  | yes e ↦ rw (le-leb n 0 (omega arith)) (elim (ℕ_discrete s 0) [ yes z ↦ rw (eq-eqb s 0 z) | no f ↦ rw (ne_eqb s 0 f, lt-ltb n s (omega arith)) ])
]

pub wrong_letter_end : (n : ℕ) (u : List ℕ) (i h : ℕ) → length u ≤ i → (leb n 0 || wrong_letter n u) ≡ (leb n h || wrong_letter n (drop i u))
    → (not (eqb (length u) 0) && leb n h) ≡ wrong_letter n u
unfolding wrong_letter
wrong_letter_end n [] i h l e = refl
wrong_letter_end n (s ∷ u) i h l e =
    rw (ne_eqb (length (s ∷ u)) 0 (omega arith)) (sym (or-false (leb n h)) ∙ sym (rw (drop_of_length-le (s ∷ u) l) at e) ∙ reaches_none n s u)

-- ---- entries

-- the tests of check 10 at the entry e, in the order of the code: its sign, and then its size s
pub wrong_at-negative : (k : Kind) (m : ℕ) (e : ℤ) (w : List ℤ) → negative_in_A k e ≡ true → wrong_at k m e w ≡ true
unfolding wrong_at
wrong_at-negative k m e w n =
    rw (n, or-true (has_size (nat_abs e) w), or-true (ltb m (nat_abs e)), or-true (eqb (nat_abs e) 0))

pub wrong_at_zero : (k : Kind) (m s : ℕ) (e : ℤ) (w : List ℤ) → s ≡ nat_abs e → s ≡ 0 → wrong_at k m e w ≡ true
unfolding wrong_at
wrong_at_zero k m s e w q z = rw (← q, eq-eqb s 0 z)

pub wrong_at-above : (k : Kind) (m s : ℕ) (e : ℤ) (w : List ℤ) → s ≡ nat_abs e → (s ≡ 0 → ⊥) → m < s → wrong_at k m e w ≡ true
unfolding wrong_at
wrong_at-above k m s e w q f h = rw (← q, ne_eqb s 0 f, lt-ltb m s h)

pub wrong_at_repeats : (k : Kind) (m s : ℕ) (e : ℤ) (w : List ℤ) → s ≡ nat_abs e → (s ≡ 0 → ⊥) → s ≤ m → has_size s w ≡ true → wrong_at k m e w ≡ true
unfolding wrong_at
wrong_at_repeats k m s e w q f h t = rw (← q, ne_eqb s 0 f, le-ltb m s h, t)

pub wrong_at_else : (k : Kind) (m s : ℕ) (e : ℤ) (w : List ℤ) → s ≡ nat_abs e → (s ≡ 0 → ⊥) → s ≤ m → has_size s w ≡ false
    → wrong_at k m e w ≡ negative_in_A k e
unfolding wrong_at
wrong_at_else k m s e w q f h t = rw (← q, ne_eqb s 0 f, le-ltb m s h, t)

-- ---- signs

-- `next` is the flag after one entry more if it is right in the four cases of the flag and of `minus`, which says
-- whether the entry is negative
pub flag_flipped : (w : List ℤ) (i : ℕ) {flag minus : Bool} {next : Bool} → i < length w
    → flag ≡ flag_after (take i w) → negative (get_or w i (pos 0)) ≡ minus
    → (flag ≡ true → minus ≡ true → next ≡ false) → (flag ≡ true → minus ≡ false → next ≡ true)
    → (flag ≡ false → minus ≡ true → next ≡ true) → (flag ≡ false → minus ≡ false → next ≡ false)
    → next ≡ flag_after (take (i + 1) w)
flag_flipped w i {flag} {minus} {next} h e q yes-flips yes-stays no-flips no-stays =
    flag_flipped_by_cases flag minus refl refl ∙ sym (flag_next w i h ∙ rw (q, ← e))
  where
    flag_flipped_by_cases : (t s : Bool) → flag ≡ t → minus ≡ s → next ≡ pick s (not t) t
    flag_flipped_by_cases true true = yes-flips
    flag_flipped_by_cases true false = yes-stays
    flag_flipped_by_cases false true = no-flips
    flag_flipped_by_cases false false = no-stays

-- ---- windows

-- checks 9 to 11 of a window of m lanes, in the order of the code: t and o are what the tests of its entries and of
-- its signs gave
module _ (k : Kind) (n m : ℕ) (w : List ℤ) where
  pub window_refusal-lanes : m ≡ lanes k n → (length w ≡ m → ⊥) → 9 ≡ window_refusal k n w
  unfolding window_refusal wrong_lanes
  window_refusal-lanes q f = rw (← q, ne_eqb (length w) m f)

  pub window_refusal-entry : (t : Bool) → m ≡ lanes k n → length w ≡ m → t ≡ wrong_entry k m w → t ≡ true → 10 ≡ window_refusal k n w
  unfolding window_refusal wrong_lanes
  window_refusal-entry t q l e h = rw (← q, eq-eqb (length w) m l, ← e, h)

  pub window_refusal-odd : {t o : Bool} → m ≡ lanes k n → length w ≡ m → t ≡ wrong_entry k m w → t ≡ false → o ≡ odd_negatives k w → o ≡ true
      → 11 ≡ window_refusal k n w
  unfolding window_refusal wrong_lanes
  window_refusal-odd q l e h f g = rw (← q, eq-eqb (length w) m l, ← e, h, ← f, g)

  pub window_refusal_none : {t o : Bool} → m ≡ lanes k n → length w ≡ m → t ≡ wrong_entry k m w → t ≡ false → o ≡ odd_negatives k w → o ≡ false
      → 0 ≡ window_refusal k n w
  unfolding window_refusal wrong_lanes
  window_refusal_none q l e h f g = rw (← q, eq-eqb (length w) m l, ← e, h, ← f, g)
