-- The order of words of one length against that of slices, which puts the lower letter first.
-- Assumes nothing.
use mathlib.Core.Path.{◌≡◌, refl, sym}
use mathlib.Core.List.{List, [], ◌∷◌}
use Prim.Native.Nat.{ℕ}
use native.Mathlib.Omega.{arith}
use lib.ListN.{length}
use borrow.Author.Tests.{lt-ltb, le-ltb, eq-eqb, ne_eqb}
use Rattle.std.specs.Cmp.Lexicographic.{slice_cmp}
use Rattle.std.specs.Ordering.{is_lt, nat_cmp}
use Rattle.coxeter.specs.Dictionary.{before}
use Rattle.coxeter.proofs.Order.{less, same, more, compared}

pub is_lt-before : (u v : List ℕ) → length u ≡ length v → is_lt (slice_cmp nat_cmp v u) ≡ before u v
unfolding before
is_lt-before [] [] e = refl
is_lt-before [] (b ∷ v) e = absurd (omega arith)
is_lt-before (a ∷ u) [] e = absurd (omega arith)
is_lt-before (a ∷ u) (b ∷ v) e =
    elim (compared a b) [
      | less l ↦ rw (le-ltb b a (omega arith), ne_eqb b a (omega arith), ne_eqb a b (omega arith))
      | same q ↦ rw (le-ltb b a (omega arith), eq-eqb b a (sym q), eq-eqb a b q) (is_lt-before u v (omega arith))
      | more l ↦ rw (lt-ltb b a l, ne_eqb a b (omega arith))
    ]
