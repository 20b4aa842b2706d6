-- What stands where in a table: its entries by their places, and that the longest window's length is the last of them.
-- Assumes nothing.
use mathlib.Core.Path.{◌≡◌, sym, ap, ◌∙◌}
use mathlib.Core.List.{map}
use Prim.Native.Nat.{ℕ, zero, suc, ◌+◌, ◌≤◌, ◌<◌}
use native.Mathlib.Nat.{add-zero, add-suc, suc-add, zero-add}
use native.Mathlib.Omega.{arith}
use lib.ListN.{length, get_or, length-map}
use Rattle.coxeter.specs.declared.Kind.{Kind}
use Rattle.coxeter.specs.Kinds.{lanes, least, up}
use Rattle.coxeter.specs.Length.{window_length, greatest_length}
use Rattle.coxeter.specs.NormalForm.{normal_form}
use Rattle.coxeter.proofs.Basics.{length_up}
use Rattle.distribution.specs.Distribution.{of_length, distribution}
use Rattle.distribution.specs.Longest.{longest}
use Rattle.distribution.proofs.Longest.{longest_accepted, window_length-longest, longest_is}

pub length-distribution : (k : Kind) (n : ℕ) → length (distribution k n) ≡ greatest_length k n + 1
unfolding distribution
length-distribution k n = length-map (up 0 (greatest_length k n + 1)) (of_length k n) ∙ length_up 0 (greatest_length k n + 1)

pub get_or-map-up : (f : ℕ → ℕ) (i m l : ℕ) → l < m → get_or (map f (up i m)) l 0 ≡ f (i + l)
unfolding up
get_or-map-up f i zero l h = absurd (omega arith)
get_or-map-up f i (suc m) zero h = ap f (sym (add-zero i))
get_or-map-up f i (suc m) (suc l) h = get_or-map-up f (suc i) m l (omega arith) ∙ ap f (suc-add i l ∙ sym (add-suc i l))

-- Y1
pub entry_of_length : (k : Kind) (n l : ℕ) → l ≤ greatest_length k n → get_or (distribution k n) l 0 ≡ of_length k n l
unfolding distribution
entry_of_length k n l h = get_or-map-up (of_length k n) 0 (greatest_length k n + 1) l (omega arith) ∙ ap (of_length k n) (zero-add l)

-- the longest window's length is the last place, counted from 0
pub longest_last : (k : Kind) (n : ℕ) → least k ≤ n → window_length k (longest k n) + 1 ≡ length (distribution k n)
longest_last k n h = rw (window_length-longest k n h) (sym (length-distribution k n))

-- the lengths of the other two parts of the answer
pub length-longest : (k : Kind) (n : ℕ) → least k ≤ n → length (longest k n) ≡ lanes k n
length-longest k n h = (longest_accepted k n h).size

pub length-longest_form : (k : Kind) (n : ℕ) → least k ≤ n → length (normal_form k n (longest k n)) ≡ greatest_length k n
length-longest_form k n h = (longest_is k n h).form
