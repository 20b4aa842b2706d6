-- A flag that is flipped at each negative entry of a window is set, after each part of the window from the left,
-- exactly when an odd number of the part's entries are negative. By induction on the part; `odd` of specs/ and
-- 'there is m with 2 m + 1 of them' agree by induction on the number.
-- Assumes nothing.
use mathlib.Core.Path.{◌≡◌, refl, sym, ◌∙◌}
use mathlib.Core.Bool.{Bool, true, false, not, not-not, false≢true}
use mathlib.Core.Logic.{◌↔◌}
use mathlib.Core.List.{List, [], ◌∷◌, ◌++◌}
use Prim.Native.Nat.{ℕ, zero, suc, ◌+◌, ◌*◌, ◌<◌}
use native.Mathlib.Nat.{zero-add}
use native.Mathlib.Numerals.{add-one, one-add}
use native.Mathlib.Omega.{arith}
use lib.IntN.{ℤ, pos}
use lib.ListN.{length, get_or, take}
use lib.Seq.{take-suc}
use Rattle.coxeter.specs.Kinds.{pick}
use Rattle.coxeter.specs.Length.{negative, one, negatives}
use Rattle.coxeter.specs.Checks.{odd}
use Rattle.coxeter.specs.Parity.{flipped, flag_after, Odd}

-- ---- one entry more

pub flipped_snoc : (t : Bool) (w : List ℤ) (e : ℤ) → flipped t (w ++ (e ∷ [])) ≡ pick (negative e) (not (flipped t w)) (flipped t w)
unfolding flipped
flipped_snoc t [] e = refl
flipped_snoc t (x ∷ w) e = flipped_snoc (pick (negative x) (not t) t) w e

pub flag_next : (w : List ℤ) (i : ℕ) → i < length w
    → flag_after (take (i + 1) w) ≡ pick (negative (get_or w i (pos 0))) (not (flag_after (take i w))) (flag_after (take i w))
flag_next w i h = rw (add-one, take-suc w i (pos 0) h) (flipped_snoc false (take i w) (get_or w i (pos 0)))

-- ---- odd numbers

-- flipping counts modulo two
flipped-odd : (t : Bool) (w : List ℤ) → flipped t w ≡ pick t (not (odd (negatives w))) (odd (negatives w))
unfolding flipped odd negatives one
flipped-odd true [] = refl
flipped-odd false [] = refl
flipped-odd t (e ∷ w) = step (λ b. flipped-odd b w) t (negative e)
  where
    step : ((b : Bool) → flipped b w ≡ pick b (not (odd (negatives w))) (odd (negatives w))) → (t s : Bool)
        → flipped (pick s (not t) t) w ≡ pick t (not (odd (pick s 1 0 + negatives w))) (odd (pick s 1 0 + negatives w))
    step ih true true = ih false ∙ rw (one-add (negatives w)) (sym (not-not (odd (negatives w))))
    step ih true false = ih true ∙ rw (zero-add (negatives w))
    step ih false true = ih true ∙ rw (one-add (negatives w))
    step ih false false = ih false ∙ rw (zero-add (negatives w))

pub flag_is_odd : (w : List ℤ) → flag_after w ≡ odd (negatives w)
flag_is_odd w = flipped-odd false w

-- a number is even or odd, and `odd` tells which
data Parity (c : ℕ) : Type 0 where
  even : (m : ℕ) → c ≡ 2 * m → odd c ≡ false → Parity c
  uneven : (m : ℕ) → c ≡ 2 * m + 1 → odd c ≡ true → Parity c

parity : (c : ℕ) → Parity c
unfolding odd
parity zero = even 0 refl refl
parity (suc c) = elim (parity c) [
  | even m e o ↦ uneven m (omega arith) (rw o)
  | uneven m e o ↦ even (suc m) (omega arith) (rw o)
]

pub odd_exactly : (c : ℕ) → (odd c ≡ true) ↔ Odd c
odd_exactly c = (
  λ h. elim (parity c) [ even m e o ↦ absurd (false≢true (sym o ∙ h)) | uneven m e o ↦ (m, e) ],
  λ h. elim (parity c) [ even m e o ↦ absurd (omega (arith, h.1)) | uneven m e o ↦ o ],
)

-- ---- each part of a window

-- CP2
pub flag_exactly : (w : List ℤ) (i : ℕ) → (flag_after (take i w) ≡ true) ↔ Odd (negatives (take i w))
flag_exactly w i =
    let same = flag_is_odd (take i w) in
    let o = odd_exactly (negatives (take i w)) in
    (λ h. o.0 (sym same ∙ h), λ h. same ∙ o.1 h)
