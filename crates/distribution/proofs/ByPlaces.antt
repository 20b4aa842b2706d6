-- Membership in a list, and a list in which nothing stands twice, both by places: the first as a place that holds the
-- element, the second as places that hold different ones. d is what a place past the end would hold; none is asked.
-- Assumes nothing.
use mathlib.Core.Path.{◌≡◌, sym}
use mathlib.Core.Logic.{◌↔◌}
use mathlib.Core.List.Memᴰ
use mathlib.Core.List.{List, [], ◌∷◌}
use Prim.Native.Nat.{ℕ, zero, suc, ◌<◌}
use native.Mathlib.Omega.{arith}
use lib.ListN.{length, get_or}
use Rattle.distribution.specs.AllWindows.{In, Once}

module _ {X : Type 0} (d : X) where
  at_place : {x : X} {l : List X} → In x l → (i : ℕ) × (i < length l) × (get_or l i d ≡ x)
  at_place (Memᴰ.head e) = (0, omega arith, sym e)
  at_place (Memᴰ.tail m) = let p = at_place m in (suc p.0, omega (arith, p.1), p.2)

  in_by_place : (l : List X) (i : ℕ) → i < length l → {x : X} → get_or l i d ≡ x → In x l
  in_by_place [] i h e = absurd (omega arith)
  in_by_place (y ∷ l) zero h e = Memᴰ.head (sym e)
  in_by_place (y ∷ l) (suc i) h e = Memᴰ.tail (in_by_place l i (omega arith) e)

  -- Y2: an element is in a list exactly when one of the list's places holds it
  pub in_exactly : (x : X) (l : List X) → In x l ↔ ((i : ℕ) × (i < length l) × (get_or l i d ≡ x))
  in_exactly x l = (at_place, λ p. in_by_place l p.0 p.1 p.2)

  apart : (l : List X) → Once l → (i j : ℕ) → i < j → j < length l → get_or l i d ≡ get_or l j d → ⊥
  apart [] o i j h g e = omega arith
  apart (x ∷ l) o i zero h g e = omega arith
  apart (x ∷ l) o zero (suc j) h g e = o.0 (in_by_place l j (omega arith) (sym e))
  apart (x ∷ l) o (suc i) (suc j) h g e = apart l o.1 i j (omega arith) (omega arith) e

  once_by_places : (l : List X) → ((i j : ℕ) → i < j → j < length l → get_or l i d ≡ get_or l j d → ⊥) → Once l
  once_by_places [] f = tt
  once_by_places (x ∷ l) f = (
    λ m. let p = at_place m in f 0 (suc p.0) (omega arith) (omega (arith, p.1)) (sym p.2),
    once_by_places l (λ i j h g. f (suc i) (suc j) (omega arith) (omega arith)),
  )

  -- Y2: nothing is in a list twice exactly when no two of its places hold the same
  pub once_exactly : (l : List X) → Once l ↔ ((i j : ℕ) → i < j → j < length l → get_or l i d ≡ get_or l j d → ⊥)
  once_exactly l = (apart l, once_by_places l)
