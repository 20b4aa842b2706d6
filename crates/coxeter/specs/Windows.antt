-- One step on a window, the window of a word, product and inverse (sections K and W of the specification).
-- Positions count from 1 there and from 0 here.
use Rattle.std.specs.Prelude.{List, [], ◌∷◌, map, ℕ, zero, suc, ◌-◌, eqb, ℤ, pos, negsuc, neg_ℤ, nat_abs, length, get_or}
use Rattle.coxeter.specs.declared.Kind.{Kind}
use Rattle.coxeter.specs.declared.Kind.TheVariants.{A, B, D}
use Rattle.coxeter.specs.Kinds.{pick, lanes, up}

-- Helper of K7 to K9: f applied to what stands from position p on.
unfoldable pub from : ℕ → (List ℤ → List ℤ) → List ℤ → List ℤ
from zero f w = f w
from (suc p) f [] = []
from (suc p) f (x ∷ w) = x ∷ from p f w

-- K7: the first two entries swapped; document 01 calls it an exchange
unfoldable pub swap : List ℤ → List ℤ
swap [] = []
swap (x ∷ []) = x ∷ []
swap (x ∷ y ∷ w) = y ∷ x ∷ w

-- K8: the first entry with its sign changed
unfoldable pub negate_first : List ℤ → List ℤ
negate_first [] = []
negate_first (x ∷ w) = neg_ℤ x ∷ w

-- K9: the first two entries swapped, both with their signs changed
unfoldable pub swap_negate : List ℤ → List ℤ
swap_negate [] = []
swap_negate (x ∷ []) = x ∷ []
swap_negate (x ∷ y ∷ w) = neg_ℤ y ∷ neg_ℤ x ∷ w

-- K7, K8, K9: step s on a window, by positions and not by values (Q7). It is document 01's step.
unfoldable pub act : Kind → ℕ → ℕ → List ℤ → List ℤ
act A n s = from (s - 1) swap
act B n s = pick (eqb s n) (from (n - 1) negate_first) (from (s - 1) swap)
act D n s = pick (eqb s n) (from (n - 2) swap_negate) (from (s - 1) swap)

-- W1, A2: the steps of a word, from the left, from any window on
unfoldable pub window_from : Kind → ℕ → List ℤ → List ℕ → List ℤ
window_from k n w [] = w
window_from k n w (s ∷ u) = window_from k n (act k n s w) u

-- W3: the identity of m lanes, 1, .., m: document 01's straight window
unfoldable pub identity : ℕ → List ℤ
identity m = map pos (up 1 m)

-- W4, W6: the window of a word, which may have any length
unfoldable pub window : Kind → ℕ → List ℕ → List ℤ
window k n u = window_from k n (identity (lanes k n)) u

-- W7: u(i), also for a negative i; u(0) is 0 and never asked for
unfoldable pub at : List ℤ → ℤ → ℤ
at u (pos zero) = pos 0
at u (pos (suc p)) = get_or u p (pos 0)
at u (negsuc p) = neg_ℤ (get_or u p (pos 0))

-- W7: u(v(i)) for each entry v(i) of v
unfoldable pub product : List ℤ → List ℤ → List ℤ
product u v = map (at u) v

-- Helper of W9: k with the sign of e.
unfoldable pub signed : ℤ → ℕ → ℤ
signed (pos e) k = pos k
signed (negsuc e) k = neg_ℤ (pos k)

-- W9: the j with u(j) = i, if u's entries stand at positions k, k + 1, ..; 0 if no entry has the size i
unfoldable pub place_from : ℕ → List ℤ → ℕ → ℤ
place_from k [] i = pos 0
place_from k (e ∷ u) i = pick (eqb (nat_abs e) i) (signed e k) (place_from (suc k) u i)

-- W9: entry by entry, the j with u(j) = i
unfoldable pub inverse : List ℤ → List ℤ
inverse u = map (place_from 1 u) (up 1 (length u))
