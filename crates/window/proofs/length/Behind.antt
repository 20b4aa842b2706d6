-- A pass from the last entry to the first, with the set of the sizes behind: the set is that of the entries gone
-- through, and its digits from an entry's size on count the larger sizes behind it.
-- Assumes nothing.
use mathlib.Core.Path.{◌≡◌, sym, ap, ◌∙◌}
use mathlib.Core.List.{List, ◌∷◌}
use Prim.Native.Nat.{ℕ, ◌+◌, ◌-◌, ◌/◌, ◌^◌, ◌≤◌, ◌<◌}
use native.Mathlib.Omega.{arith}
use lib.Bits.{bit_or}
use lib.Count.{ones}
use lib.IntN.{ℤ, pos, nat_abs}
use lib.ListN.{length, get_or, drop}
use Rattle.coxeter.specs.declared.Kind.TheVariants.{B}
use Rattle.coxeter.specs.Checks.{WindowOf}
use Rattle.coxeter.proofs.Lists.{drop_next}
use Rattle.coxeter.proofs.Levels.{Level, accepted_of_refusal}
use Rattle.coxeter.proofs.Places.{between-get_or}
use Rattle.window.proofs.length.SizeSets.{size_set, size_set_lt, size_set_cons, from_size}

-- the entries from j on were gone through
pub record Behind (w : List ℤ) (set j : ℕ) : Type 0 where
  pub inside : j ≤ length w
  pub set_is : set ≡ size_set (length w) 1 (drop j w)

-- one entry further to the front: the entry at j - 1, of size s
module _ (w : List ℤ) (set j s : ℕ) (h : Behind w set j) (p : 0 < j) (g : WindowOf B (length w) w)
    (q : s ≡ nat_abs (get_or w (j - 1) (pos 0))) where
  abbrev e : ℤ
  e = get_or w (j - 1) (pos 0)

  abbrev m : ℕ
  m = length w

  own : Level 1 w
  own = (accepted_of_refusal B m w g).level

  pub next : drop (j - 1) w ≡ e ∷ drop j w
  next =
      let i : j - 1 + 1 ≡ j = omega arith in
      drop_next w (j - 1) (pos 0) (omega (arith, h.inside)) ∙ ap (λ (x : ℕ). e ∷ drop x w) i

  pub size_bounds : (1 ≤ s) × (s ≤ m)
  size_bounds =
      let b = between-get_or 1 (1 + m) w (j - 1) own.between (omega (arith, h.inside)) in
      (omega (arith, b.0), omega (arith, b.1))

  pub set_fits : set < 2 ^ m
  set_fits = rw h.set_is (size_set_lt m 1 (drop j w))

  pub behind_next : Behind w (bit_or set (2 ^ (s - 1))) (j - 1)
  behind_next =
      record {
        inside = omega (arith, h.inside);
        set_is = sym
            (rw (next, h.set_is) (size_set_cons m 1 (s - 1) e (drop j w) (omega (arith, q, size_bounds.0)) (omega (arith, size_bounds))));
      }

  module _ (l : ℕ) (r : l ≡ ones (set / 2 ^ (s - 1))) where
    pub larger_is : l ≡ from_size m (nat_abs e) (drop j w)
    unfolding from_size
    larger_is = r ∙ rw (h.set_is, q)
