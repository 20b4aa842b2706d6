-- The longest window entry by entry (Y5 of the specification), in each of the three kinds and at every rank, and that
-- it is the window that the delay table writes.
--
-- Sections: entries by their places; the three kinds; the call.
-- Assumes nothing.
use mathlib.Core.Path.{◌≡◌, refl, sym, ap, ◌∙◌}
use mathlib.Core.Bool.{Bool, true, false}
use mathlib.Core.List.{List, [], ◌∷◌, map}
use Prim.Native.Nat.{ℕ, zero, suc, ◌+◌, ◌-◌, ◌≤◌, ◌<◌}
use native.Mathlib.Nat.{zero-add}
use native.Mathlib.Omega.{arith}
use lib.IntN.{ℤ, pos, negsuc, neg_ℤ}
use lib.ListN.{length, get_or, take}
use Rattle.coxeter.specs.declared.Kind.TheVariants.{A, B, D}
use Rattle.coxeter.specs.Kinds.{pick, kind_of, up}
use Rattle.coxeter.specs.Windows.{from, negate_first}
use Rattle.coxeter.specs.Parity.{Odd}
use Rattle.coxeter.specs.Checks.{odd}
use Rattle.coxeter.specs.NormalForm.{down}
use Rattle.coxeter.proofs.Basics.{length_from, length-negate_first}
use Rattle.coxeter.proofs.Parity.{odd_exactly}
use Rattle.coxeter.proofs.Acceptance.{rank_within}
use Rattle.distribution.specs.answers.Table.{Written}
use Rattle.distribution.specs.Longest.{all_negative, longest}
use Rattle.distribution.specs.Calls.{TableYields, delay_table}
use Rattle.distribution.proofs.Longest.{falling_suc, length_falling, length-all_negative, longest_is}
use Rattle.distribution.proofs.Sentences.{one-longest}
use Rattle.distribution.proofs.RefusalSentences.{table_exactly}

-- ---- entries by their places

pub falling_at : (m i : ℕ) → i < m → get_or (map pos (down m m)) i (pos 0) ≡ pos (m - i)
falling_at zero i h = absurd (omega arith)
falling_at (suc m) zero h = let e : suc m - 0 ≡ suc m = omega arith in rw (falling_suc m, e)
falling_at (suc m) (suc i) h = let e : suc m - suc i ≡ m - i = omega arith in rw (falling_suc m, e) (falling_at m i (omega arith))

negative-at : (s m i : ℕ) → i < m → get_or (map negsuc (up s m)) i (pos 0) ≡ negsuc (s + i)
unfolding up
negative-at s zero i h = absurd (omega arith)
negative-at s (suc m) zero h = let e : s + 0 ≡ s = omega arith in rw e
negative-at s (suc m) (suc i) h = let e : s + suc i ≡ suc s + i = omega arith in rw e (negative-at (suc s) m i (omega arith))

pub all_negative-at : (n i : ℕ) → i < n → get_or (all_negative n) i (pos 0) ≡ negsuc i
unfolding all_negative
all_negative-at n i h = negative-at 0 n i h ∙ ap negsuc (zero-add i)

-- the entry at place p turned
turned-before : (p : ℕ) (w : List ℤ) (i : ℕ) → i < p → get_or (from p negate_first w) i (pos 0) ≡ get_or w i (pos 0)
unfolding from
turned-before zero w i h = absurd (omega arith)
turned-before (suc p) [] i h = refl
turned-before (suc p) (x ∷ w) zero h = refl
turned-before (suc p) (x ∷ w) (suc i) h = turned-before p w i (omega arith)

turned-at : (p : ℕ) (w : List ℤ) → p < length w → get_or (from p negate_first w) p (pos 0) ≡ neg_ℤ (get_or w p (pos 0))
unfolding from negate_first
turned-at p [] h = absurd (omega arith)
turned-at zero (x ∷ w) h = refl
turned-at (suc p) (x ∷ w) h = turned-at p w (omega arith)

-- ---- the three kinds

-- Y5: in kind A the longest window is n + 1, n, .., 1
pub longest_in_A : (n : ℕ) → (length (longest A n) ≡ n + 1) × ((i : ℕ) → i ≤ n → get_or (longest A n) i (pos 0) ≡ pos (n + 1 - i))
unfolding longest
longest_in_A n = (length_falling (n + 1), λ i h. falling_at (n + 1) i (omega arith))

-- Y5: in kind B it is −1, −2, .., −n; `negsuc i` is −(i + 1)
pub longest_in_B : (n : ℕ) → (length (longest B n) ≡ n) × ((i : ℕ) → i < n → get_or (longest B n) i (pos 0) ≡ negsuc i)
unfolding longest
longest_in_B n = (length-all_negative n, all_negative-at n)

-- Y5: in kind D it is −1, −2, .., −n if n is even, and the same with the last entry n if n is odd
pub longest_in_D : (n : ℕ) → (length (longest D n) ≡ n)
    × ((Odd n → ⊥) → (i : ℕ) → i < n → get_or (longest D n) i (pos 0) ≡ negsuc i)
    × (Odd n → (i : ℕ) → (i + 1 < n → get_or (longest D n) i (pos 0) ≡ negsuc i) × (i + 1 ≡ n → get_or (longest D n) i (pos 0) ≡ pos n))
unfolding longest
longest_in_D n = (many (odd n), even (odd n) refl, λ o i. rw ((odd_exactly n).1 o) (before i, last i))
  where
    many : (t : Bool) → length (pick t (from (n - 1) negate_first (all_negative n)) (all_negative n)) ≡ n
    many true = length_from negate_first length-negate_first (n - 1) (all_negative n) ∙ length-all_negative n
    many false = length-all_negative n

    even : (t : Bool) → odd n ≡ t → (Odd n → ⊥) → (i : ℕ) → i < n
        → get_or (pick t (from (n - 1) negate_first (all_negative n)) (all_negative n)) i (pos 0) ≡ negsuc i
    even true e f = absurd (f ((odd_exactly n).0 e))
    even false e f = all_negative-at n

    before : (i : ℕ) → i + 1 < n → get_or (from (n - 1) negate_first (all_negative n)) i (pos 0) ≡ negsuc i
    before i h = turned-before (n - 1) (all_negative n) i (omega arith) ∙ all_negative-at n i (omega arith)

    last : (i : ℕ) → i + 1 ≡ n → get_or (from (n - 1) negate_first (all_negative n)) i (pos 0) ≡ pos n
    last i h =
        let e : n - 1 ≡ i = omega arith in
        let s : suc i ≡ n = omega arith in
        rw e (turned-at i (all_negative n) (omega (arith, length-all_negative n)) ∙ ap neg_ℤ (all_negative-at n i (omega arith)) ∙ ap pos s)

-- ---- the call

-- Y5, I24: it is what the call writes
pub longest-written : (k n : ℕ) (counts : List ℕ) (entries : List ℤ) (letters : List ℕ) {c e l : ℕ} {x : List ℕ} {y : List ℤ} {z : List ℕ}
    → TableYields (delay_table k n counts entries letters) (Written c e l) x y z → take e y ≡ longest (kind_of k) n
longest-written k n counts entries letters {c} {e} {l} {x} {y} {z} h =
    let r = ((table_exactly k n counts entries letters (Written c e l) x y z h).0 (c, e, l, refl)).0 in
    let m = longest_is (kind_of k) n (rank_within k n r).0 in
    sym (one-longest k n counts entries letters c e l x y z h (longest (kind_of k) n) m.passes m.greatest)
