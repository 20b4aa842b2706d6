-- The entries of the longest window one by one, as code writes them, and its normal form as another call writes it.
-- Sections: the last entry; odd ranks; the longest window, entry by entry, by cases as code has them; the
-- normal form.
-- Assumes nothing.
use mathlib.Core.Path.{◌≡◌, refl, sym, ap, ◌∙◌}
use mathlib.Core.Bool.{Bool, true, false, not}
use mathlib.Core.List.{List, [], ◌∷◌, map}
use Prim.Native.Nat.{ℕ, zero, suc, ◌+◌, ◌-◌, ◌%◌, ◌≤◌, ◌<◌}
use native.Mathlib.Omega.{arith}
use native.Mathlib.Nat.{add-zero}
use native.Mathlib.Numerals.{add-one}
use borrow.Author.Tests.{le-ltb}
use lib.IntN.{ℤ, pos, negsuc, neg_ℤ, ◌-ℤ◌}
use lib.ListN.{length, get_or, set, take}
use lib.Seq.{take_all, get_or-set_same, get_or-set_other}
use mir.Syntax.{w8}
use mir.Val.{to_z, of_z}
use Rattle.coxeter.specs.declared.Kind.{Kind}
use Rattle.coxeter.specs.declared.Kind.TheVariants.{A, B, D}
use Rattle.coxeter.specs.Kinds.{pick, lanes, least, up}
use Rattle.coxeter.specs.Windows.{from, negate_first}
use Rattle.coxeter.specs.Length.{greatest_length}
use Rattle.coxeter.specs.Checks.{odd, too_short}
use Rattle.coxeter.specs.NormalForm.{normal_form}
use Rattle.coxeter.specs.Calls.{front, written, writes}
use Rattle.coxeter.proofs.Groups.{InRange, group_lanes_le}
use Rattle.coxeter.proofs.Lists.{written_next}
use Rattle.coxeter.proofs.FrontLaws.{length-take-front}
use Rattle.refusals.proofs.Bytes.{cast_back, minus_cast_back}
use Rattle.distribution.specs.Longest.{all_negative, longest}
use Rattle.distribution.proofs.Longest.{length-all_negative}
use Rattle.distribution.proofs.LongestEntries.{falling_at, all_negative-at}
use Rattle.distribution.proofs.Tables.{length-longest, length-longest_form}

-- ---- the last entry

negated_last : (j m : ℕ) → set (map negsuc (up j (suc m))) m (pos (suc (j + m))) ≡ from m negate_first (map negsuc (up j (suc m)))
unfolding up from negate_first
negated_last j zero = ap (λ (x : ℕ). pos (suc x) ∷ []) (add-zero j)
negated_last j (suc m) =
    let e : j + suc m ≡ suc j + m = omega arith in
    ap (λ (w : List ℤ). negsuc j ∷ w)
    (ap (λ (x : ℕ). set (map negsuc (up (suc j) (suc m))) m (pos (suc x))) e ∙ negated_last (suc j) m)

-- the last entry changed is the last position
last_positive : (n : ℕ) → 1 ≤ n → from (n - 1) negate_first (all_negative n) ≡ set (all_negative n) (n - 1) (pos n)
unfolding all_negative
last_positive zero h = absurd (omega arith)
last_positive (suc m) h =
    let d : suc m - 1 ≡ m = omega arith in
    let z : 0 + m ≡ m = omega arith in
    rw d (sym (rw z at (negated_last 0 m)))

-- ---- odd ranks

odd_mod : (n : ℕ) → pick (odd n) 1 0 ≡ n % 2
unfolding odd
odd_mod zero = refl
odd_mod (suc n) = odd_mod_by_cases (odd n) (odd_mod n)
  where
    odd_mod_by_cases : (t : Bool) → pick t 1 0 ≡ n % 2 → pick (not t) 1 0 ≡ suc n % 2
    odd_mod_by_cases true e = omega arith
    odd_mod_by_cases false e = omega arith

even_of_zero : (n : ℕ) → n % 2 ≡ 0 → odd n ≡ false
even_of_zero n e = even_of_zero_by_cases (odd n) (odd_mod n)
  where
    even_of_zero_by_cases : (t : Bool) → pick t 1 0 ≡ n % 2 → t ≡ false
    even_of_zero_by_cases true h = absurd (omega arith)
    even_of_zero_by_cases false h = refl

odd_of_other : (n : ℕ) → (n % 2 ≡ 0 → ⊥) → odd n ≡ true
odd_of_other n f = odd_of_other_by_cases (odd n) (odd_mod n)
  where
    odd_of_other_by_cases : (t : Bool) → pick t 1 0 ≡ n % 2 → t ≡ true
    odd_of_other_by_cases true h = refl
    odd_of_other_by_cases false h = absurd (f (sym h))

-- ---- the longest window, entry by entry, by cases as code has them

module _ (k : Kind) (n i : ℕ) (h : InRange k n) (o : i < lanes k n) where
  abbrev IsEntry : ℤ → Type 0
  IsEntry z = z ≡ get_or (longest k n) i (pos 0)

  small : lanes k n ≤ 64
  small = group_lanes_le k n h

  -- m is the number of lanes
  pub entry-A : (m : ℕ) → m ≡ lanes k n → k ≡ A → IsEntry (to_z w8 (m - i))
  unfolding longest
  entry-A m e q = rw (e, q) (rw q at (cast_back (lanes k n - i) (omega (arith, small)) ∙ sym (falling_at (lanes k n) i o)))

  negative_is : to_z w8 (of_z w8 (pos 0 -ℤ to_z w8 (i + 1))) ≡ get_or (all_negative (lanes k n)) i (pos 0)
  negative_is = minus_cast_back (i + 1) (omega (arith, small)) ∙ ap (λ (x : ℕ). neg_ℤ (pos x)) (add-one i) ∙ sym (all_negative-at (lanes k n) i o)

  pub entry-B : k ≡ B → IsEntry (to_z w8 (of_z w8 (pos 0 -ℤ to_z w8 (i + 1))))
  unfolding longest
  entry-B q = rw q (rw q at negative_is)

  module _ (q : k ≡ D) where
    below : i < n
    below = rw q at o

    pub entry_even : n % 2 ≡ 0 → IsEntry (to_z w8 (of_z w8 (pos 0 -ℤ to_z w8 (i + 1))))
    unfolding longest
    entry_even t = rw (q, even_of_zero n t) (rw q at negative_is)

    pub entry_last : (n % 2 ≡ 0 → ⊥) → i + 1 ≡ n → IsEntry (to_z w8 (i + 1))
    unfolding longest
    entry_last t l =
        let p : n - 1 ≡ i = omega arith in
        let inside : i < length (all_negative (i + 1)) = omega (arith, length-all_negative (i + 1)) in
        rw (q, odd_of_other n t, last_positive n (omega arith), p, ← l)
        (cast_back (i + 1) (omega (arith, small)) ∙ sym (get_or-set_same (all_negative (i + 1)) i (pos (i + 1)) (pos 0) inside))

    pub entry-odd : (n % 2 ≡ 0 → ⊥) → (i + 1 ≡ n → ⊥) → IsEntry (to_z w8 (of_z w8 (pos 0 -ℤ to_z w8 (i + 1))))
    unfolding longest
    entry-odd t l =
        rw (q, odd_of_other n t, last_positive n (omega (arith, below)))
        (rw q at negative_is ∙ sym (get_or-set_other (all_negative n) (n - 1) i (pos n) (pos 0) (λ z. l (omega (arith, below)))))

-- the next entry is written, and all are
pub longest_next : (k : Kind) (n i : ℕ) {z : ℤ} (w : List ℤ) → least k ≤ n → i < length w → length w ≡ lanes k n → z ≡ get_or (longest k n) i (pos 0)
    → take i w ≡ take i (longest k n) → take (i + 1) (set w i z) ≡ take (i + 1) (longest k n)
longest_next k n i {z} w r o s e t = written_next i z (pos 0) (longest k n) w (omega (arith, length-longest k n r)) o e t

pub longest_all : (k : Kind) (n i : ℕ) (w : List ℤ) → least k ≤ n → length w ≤ i → length w ≡ lanes k n → take i w ≡ take i (longest k n) → w ≡ longest k n
longest_all k n i w r h s t = sym (take_all i w h) ∙ t ∙ take_all i (longest k n) (omega (arith, length-longest k n r))

-- ---- the normal form

-- the front of what the longest window was written to is that window, which passes
pub longest_front : (k : Kind) (n : ℕ) (entries : List ℤ) {v : List ℤ} {m : ℕ} → InRange k n → m ≡ lanes k n → m ≤ length entries
    → v ≡ front (longest k n) entries → (length v ≡ length entries) × (take m v ≡ longest k n)
longest_front k n entries {v} {m} h c g e = length-take-front m (longest k n) entries v (length-longest k n h.0 ∙ sym c) g e

pub form_written : (k : Kind) (n : ℕ) {v : List ℤ} (out : List ℕ) → InRange k n → v ≡ longest k n → greatest_length k n ≤ length out
    → (writes 0 (normal_form k n v) out).bytes ≡ front (normal_form k n (longest k n)) out
unfolding writes written too_short
form_written k n out h e l =
    let form = length-longest_form k n h.0 in
    rw (e, le-ltb (length out) (length (normal_form k n (longest k n))) (omega arith))
