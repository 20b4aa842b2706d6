-- Lengths of runs and windows, and the window of a joined word.
--
-- Sections: tests and cases; runs of numbers; lengths; words.
-- Not here: what the steps do to each other (Relations), products and inverses (Products, Inverses).
-- Assumes nothing.
use mathlib.Core.Path.{◌≡◌, refl, ap, ◌∙◌}
use mathlib.Core.Bool.{Bool, true, false, ◌||◌}
use mathlib.Core.List.{List, [], ◌∷◌, ◌++◌}
use Prim.Native.Nat.{ℕ, zero, suc, ◌+◌, ◌-◌}
use native.Mathlib.Nat.{add-suc, suc-add, add-zero, zero-add}
use lib.Dec.{eqb}
use lib.IntN.{ℤ, pos}
use lib.ListN.{length, length-map}
use Rattle.coxeter.specs.declared.Kind.{Kind}
use Rattle.coxeter.specs.declared.Kind.TheVariants.{A, B, D}
use Rattle.coxeter.specs.Kinds.{pick, lanes, up}
use Rattle.coxeter.specs.Windows.{from, swap, negate_first, swap_negate, act, window_from, identity, window}

-- ---- tests and cases

pub pick_same : {X : Type 0} (t : Bool) (x : X) → pick t x x ≡ x
pick_same true x = refl
pick_same false x = refl

-- what holds of both holds of the one picked
pub by_pick : {X : Type 0} (P : X → Type 0) (t : Bool) (x y : X) → P x → P y → P (pick t x y)
by_pick P true x y p q = p
by_pick P false x y p q = q

pub or_false_left : (a b : Bool) → (a || b) ≡ false → a ≡ false
or_false_left true b e = e
or_false_left false b e = refl

pub or_false_right : (a b : Bool) → (a || b) ≡ false → b ≡ false
or_false_right true b e = let z : true ≡ false = e in cc
or_false_right false b e = e

-- ---- runs of numbers

pub length_up : (i k : ℕ) → length (up i k) ≡ k
unfolding up
length_up i zero = refl
length_up i (suc k) = ap suc (length_up (suc i) k)

pub up-append : (i a b : ℕ) → up i (a + b) ≡ up i a ++ up (i + a) b
unfolding up
up-append i zero b = simp (zero-add, add-zero)
up-append i (suc a) b = rw (suc-add, add-suc) (ap (λ (l : List ℕ). i ∷ l) (up-append (suc i) a b ∙ rw suc-add))

-- ---- lengths

pub length_from : (f : List ℤ → List ℤ) → ((w : List ℤ) → length (f w) ≡ length w) → (p : ℕ) (w : List ℤ) → length (from p f w) ≡ length w
unfolding from
length_from f h zero w = h w
length_from f h (suc p) [] = refl
length_from f h (suc p) (x ∷ w) = ap suc (length_from f h p w)

length-swap : (w : List ℤ) → length (swap w) ≡ length w
unfolding swap
length-swap [] = refl
length-swap (x ∷ []) = refl
length-swap (x ∷ y ∷ w) = refl

pub length-negate_first : (w : List ℤ) → length (negate_first w) ≡ length w
unfolding negate_first
length-negate_first [] = refl
length-negate_first (x ∷ w) = refl

length-swap_negate : (w : List ℤ) → length (swap_negate w) ≡ length w
unfolding swap_negate
length-swap_negate [] = refl
length-swap_negate (x ∷ []) = refl
length-swap_negate (x ∷ y ∷ w) = refl

-- a step changes no length
pub length-act : (k : Kind) (n s : ℕ) (w : List ℤ) → length (act k n s w) ≡ length w
unfolding act
length-act A n s w = length_from swap length-swap (s - 1) w
length-act B n s w =
    by_pick (λ f. length (f w) ≡ length w) (eqb s n) (from (n - 1) negate_first) (from (s - 1) swap)
    (length_from negate_first length-negate_first (n - 1) w)
    (length_from swap length-swap (s - 1) w)
length-act D n s w =
    by_pick (λ f. length (f w) ≡ length w) (eqb s n) (from (n - 2) swap_negate) (from (s - 1) swap)
    (length_from swap_negate length-swap_negate (n - 2) w)
    (length_from swap length-swap (s - 1) w)

pub length-window_from : (k : Kind) (n : ℕ) (w : List ℤ) (u : List ℕ) → length (window_from k n w u) ≡ length w
unfolding window_from
length-window_from k n w [] = refl
length-window_from k n w (s ∷ u) = length-window_from k n (act k n s w) u ∙ length-act k n s w

pub length-identity : (m : ℕ) → length (identity m) ≡ m
unfolding identity
length-identity m = length-map (up 1 m) pos ∙ length_up 1 m

-- a word's window has an entry for each lane
pub length-window : (k : Kind) (n : ℕ) (u : List ℕ) → length (window k n u) ≡ lanes k n
unfolding window
length-window k n u = length-window_from k n (identity (lanes k n)) u ∙ length-identity (lanes k n)

-- ---- words

-- a word is applied from the left, part by part
pub window_from-append : (k : Kind) (n : ℕ) (w : List ℤ) (u v : List ℕ) → window_from k n w (u ++ v) ≡ window_from k n (window_from k n w u) v
unfolding window_from
window_from-append k n w [] v = refl
window_from-append k n w (s ∷ u) v = window_from-append k n (act k n s w) u v
