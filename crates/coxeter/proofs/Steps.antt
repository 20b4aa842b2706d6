-- What the steps are as maps of lists, and what they do to each other, by recursion on the position and by looking
-- at the first three entries.
--
-- Sections: from a position on; the first entries; at any position; the steps.
-- Not here: the relations between the steps of a kind (Relations).
-- Assumes nothing.
use mathlib.Core.Path.{◌≡◌, refl, ap, fun_ext, ◌∙◌}
use mathlib.Core.List.{List, [], ◌∷◌}
use Prim.Native.Nat.{ℕ, zero, suc, ◌+◌, ◌-◌, ◌≤◌, ◌<◌}
use native.Mathlib.Nat.{suc-add, zero-add}
use native.Mathlib.Omega.{arith}
use lib.Dec.{eqb}
use lib.IntN.{ℤ, neg_ℤ-neg_ℤ}
use lib.ListN.{length}
use borrow.Author.Tests.{eq-eqb, ne_eqb}
use Rattle.coxeter.specs.declared.Kind.{Kind}
use Rattle.coxeter.specs.declared.Kind.TheVariants.{A, B, D}
use Rattle.coxeter.specs.Kinds.{lanes}
use Rattle.coxeter.specs.Windows.{from, swap, negate_first, swap_negate, act}
use Rattle.coxeter.proofs.Basics.{by_pick}

-- ---- from a position on

from_add : (p q : ℕ) (f : List ℤ → List ℤ) (w : List ℤ) → from (p + q) f w ≡ from p (from q f) w
unfolding from
from_add zero q f w = rw zero-add
from_add (suc p) q f [] = rw suc-add
from_add (suc p) q f (x ∷ w) = rw suc-add (ap (λ (l : List ℤ). x ∷ l) (from_add p q f w))

from-from : (p : ℕ) (f g : List ℤ → List ℤ) (w : List ℤ) → from p f (from p g w) ≡ from p (λ v. f (g v)) w
unfolding from
from-from zero f g w = refl
from-from (suc p) f g [] = refl
from-from (suc p) f g (x ∷ w) = ap (λ (l : List ℤ). x ∷ l) (from-from p f g w)

-- maps that agree on m entries or more agree where that many are left
from_congr : (m : ℕ) {f g : List ℤ → List ℤ} → ((v : List ℤ) → m ≤ length v → f v ≡ g v)
    → (p : ℕ) (w : List ℤ) → p + m ≤ length w → from p f w ≡ from p g w
unfolding from
from_congr m e zero w h = e w (omega arith)
from_congr m e (suc p) [] h = refl
from_congr m e (suc p) (x ∷ w) h = ap (λ (l : List ℤ). x ∷ l) (from_congr m e p w (omega arith))

from_fixed : (f : List ℤ → List ℤ) → ((v : List ℤ) → f v ≡ v) → (p : ℕ) (w : List ℤ) → from p f w ≡ w
unfolding from
from_fixed f e zero w = e w
from_fixed f e (suc p) [] = refl
from_fixed f e (suc p) (x ∷ w) = ap (λ (l : List ℤ). x ∷ l) (from_fixed f e p w)

pub from_involution : (f : List ℤ → List ℤ) → ((v : List ℤ) → f (f v) ≡ v) → (p : ℕ) (w : List ℤ) → from p f (from p f w) ≡ w
from_involution f e p w = from-from p f f w ∙ from_fixed (λ v. f (f v)) e p w

-- ---- the first entries

swap_involution : (w : List ℤ) → swap (swap w) ≡ w
unfolding swap
swap_involution [] = refl
swap_involution (x ∷ []) = refl
swap_involution (x ∷ y ∷ w) = refl

pub negate_first_involution : (w : List ℤ) → negate_first (negate_first w) ≡ w
unfolding negate_first
negate_first_involution [] = refl
negate_first_involution (x ∷ w) = rw neg_ℤ-neg_ℤ

swap_negate_involution : (w : List ℤ) → swap_negate (swap_negate w) ≡ w
unfolding swap_negate
swap_negate_involution [] = refl
swap_negate_involution (x ∷ []) = refl
swap_negate_involution (x ∷ y ∷ w) = rw (neg_ℤ-neg_ℤ x, neg_ℤ-neg_ℤ y)

swap-swap_negate : (w : List ℤ) → swap (swap_negate w) ≡ swap_negate (swap w)
unfolding swap swap_negate
swap-swap_negate [] = refl
swap-swap_negate (x ∷ []) = refl
swap-swap_negate (x ∷ y ∷ w) = refl

-- a swap and whatever happens behind it
swap-from : (g : List ℤ → List ℤ) (w : List ℤ) → swap (from 2 g w) ≡ from 2 g (swap w)
unfolding swap from
swap-from g [] = refl
swap-from g (x ∷ []) = refl
swap-from g (x ∷ y ∷ w) = refl

swap_threefold : (w : List ℤ) → 3 ≤ length w
    → swap (from 1 swap (swap w)) ≡ from 1 swap (swap (from 1 swap w))
unfolding swap from
swap_threefold [] h = absurd (omega arith)
swap_threefold (x ∷ []) h = absurd (omega arith)
swap_threefold (x ∷ y ∷ []) h = absurd (omega arith)
swap_threefold (x ∷ y ∷ z ∷ w) h = refl

swap_negate_threefold : (w : List ℤ) → 3 ≤ length w
    → swap (from 1 swap_negate (swap w)) ≡ from 1 swap_negate (swap (from 1 swap_negate w))
unfolding swap swap_negate from
swap_negate_threefold [] h = absurd (omega arith)
swap_negate_threefold (x ∷ []) h = absurd (omega arith)
swap_negate_threefold (x ∷ y ∷ []) h = absurd (omega arith)
swap_negate_threefold (x ∷ y ∷ z ∷ w) h = rw (neg_ℤ-neg_ℤ y)

negate_first_fourfold : (w : List ℤ) → 2 ≤ length w
    → from 1 negate_first (swap (from 1 negate_first (swap w))) ≡ swap (from 1 negate_first (swap (from 1 negate_first w)))
unfolding swap negate_first from
negate_first_fourfold [] h = absurd (omega arith)
negate_first_fourfold (x ∷ []) h = absurd (omega arith)
negate_first_fourfold (x ∷ y ∷ w) h = refl

-- ---- at any position

-- a swap and whatever happens two positions further on or more
pub from_commute : (g : List ℤ → List ℤ) (p q : ℕ) → p + 2 ≤ q → (w : List ℤ) → from p swap (from q g w) ≡ from q g (from p swap w)
from_commute g p q h w =
    let r : ℕ = q - (p + 2) in
    let e : q ≡ p + (2 + r) = omega arith in
    rw e (simp (from_add, from-from) (ap (λ f. from p f w) (fun_ext (swap-from (from r g)))))

pub from-swap-swap_negate : (p : ℕ) (w : List ℤ) → from p swap (from p swap_negate w) ≡ from p swap_negate (from p swap w)
from-swap-swap_negate p w = simp from-from (ap (λ f. from p f w) (fun_ext swap-swap_negate))

from_threefold : (g : List ℤ → List ℤ)
    → ((v : List ℤ) → 3 ≤ length v → swap (from 1 g (swap v)) ≡ from 1 g (swap (from 1 g v)))
    → (p : ℕ) (w : List ℤ) → p + 3 ≤ length w
    → from p swap (from (p + 1) g (from p swap w)) ≡ from (p + 1) g (from p swap (from (p + 1) g w))
from_threefold g e p w h = simp (from_add, from-from) (from_congr 3 e p w h)

pub from-swap_threefold : (p : ℕ) (w : List ℤ) → p + 3 ≤ length w
    → from p swap (from (p + 1) swap (from p swap w)) ≡ from (p + 1) swap (from p swap (from (p + 1) swap w))
from-swap_threefold = from_threefold swap swap_threefold

pub from-swap_negate_threefold : (p : ℕ) (w : List ℤ) → p + 3 ≤ length w
    → from p swap (from (p + 1) swap_negate (from p swap w)) ≡ from (p + 1) swap_negate (from p swap (from (p + 1) swap_negate w))
from-swap_negate_threefold = from_threefold swap_negate swap_negate_threefold

pub from-negate_first_fourfold : (p : ℕ) (w : List ℤ) → p + 2 ≤ length w
    → from (p + 1) negate_first (from p swap (from (p + 1) negate_first (from p swap w)))
    ≡ from p swap (from (p + 1) negate_first (from p swap (from (p + 1) negate_first w)))
from-negate_first_fourfold p w h = simp (from_add, from-from) (from_congr 2 negate_first_fourfold p w h)

-- ---- the steps (step p + 1 works from position p on)

-- in A every step swaps
act-A : (n p : ℕ) → act A n (suc p) ≡ from p swap
unfolding act
act-A n p = let e : suc p - 1 ≡ p = omega arith in rw e

-- in each kind every step but the last
act_ne : (k : Kind) (n p : ℕ) → (suc p ≡ n → ⊥) → act k n (suc p) ≡ from p swap
unfolding act
act_ne A n p h = act-A n p
act_ne B n p h = let e : suc p - 1 ≡ p = omega arith in rw (ne_eqb (suc p) n h, e)
act_ne D n p h = let e : suc p - 1 ≡ p = omega arith in rw (ne_eqb (suc p) n h, e)

-- both at once: every step that has a lane behind its own
pub act-swap : (k : Kind) (n p : ℕ) → suc p < lanes k n → act k n (suc p) ≡ from p swap
act-swap A n p h = act-A n p
act-swap B n p h = act_ne B n p (omega arith)
act-swap D n p h = act_ne D n p (omega arith)

pub act-B_last : (n p : ℕ) → p + 1 ≡ n → act B n n ≡ from p negate_first
unfolding act
act-B_last n p h = let e : n - 1 ≡ p = omega arith in rw (eq-eqb n n refl, e)

pub act-D_last : (n p : ℕ) → p + 2 ≡ n → act D n n ≡ from p swap_negate
unfolding act
act-D_last n p h = let e : n - 2 ≡ p = omega arith in rw (eq-eqb n n refl, e)

-- a step undoes itself
pub act_involution : (k : Kind) (n s : ℕ) (w : List ℤ) → act k n s (act k n s w) ≡ w
unfolding act
act_involution A n s w = from_involution swap swap_involution (s - 1) w
act_involution B n s w =
    by_pick (λ f. f (f w) ≡ w) (eqb s n) (from (n - 1) negate_first) (from (s - 1) swap)
    (from_involution negate_first negate_first_involution (n - 1) w)
    (from_involution swap swap_involution (s - 1) w)
act_involution D n s w =
    by_pick (λ f. f (f w) ≡ w) (eqb s n) (from (n - 2) swap_negate) (from (s - 1) swap)
    (from_involution swap_negate swap_negate_involution (n - 2) w)
    (from_involution swap swap_involution (s - 1) w)
