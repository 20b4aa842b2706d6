-- Products of windows: the product composes, the straight window is its unit, and the window of a joined word is
-- the product of the parts' windows, by the law that a step commutes with every map that respects signs.
--
-- Sections: elements of lists; composing; units; steps and words.
-- Not here: inverses (Inverses).
-- Assumes nothing.
use mathlib.Core.Path.{◌≡◌, refl, sym, ap, ap₂, ◌∙◌}
use mathlib.Core.List.{List, [], ◌∷◌, ◌++◌, map}
use Prim.Native.Nat.{ℕ, zero, suc, ◌+◌, ◌-◌, ◌≤◌, ◌<◌}
use native.Mathlib.Nat.{add-zero}
use native.Mathlib.Omega.{arith}
use lib.Dec.{eqb}
use lib.IntN.{ℤ, pos, negsuc, neg_ℤ, nat_abs, neg_ℤ-neg_ℤ}
use lib.ListN.{length, get_or, length-map, get_or-map}
use lib.Seq.{ext_get_or}
use Rattle.coxeter.specs.declared.Kind.{Kind}
use Rattle.coxeter.specs.declared.Kind.TheVariants.{A, B, D}
use Rattle.coxeter.specs.Kinds.{lanes, up}
use Rattle.coxeter.specs.Windows.{from, swap, negate_first, swap_negate, act, window_from, identity, window, at, product}
use Rattle.coxeter.proofs.Basics.{length-identity, length-window, window_from-append, by_pick}
use Rattle.coxeter.proofs.Levels.{Between}

-- ---- elements of lists

pub get_or-up : (i k p d : ℕ) → p < k → get_or (up i k) p d ≡ i + p
unfolding up
get_or-up i zero p d h = omega arith
get_or-up i (suc k) zero d h = sym (add-zero i)
get_or-up i (suc k) (suc p) d h = let e : get_or (up (suc i) k) p d ≡ suc i + p = get_or-up (suc i) k p d (omega arith) in omega arith

pub get_d_map : {X Y : Type 0} (f : X → Y) (l : List X) (p : ℕ) (d : Y) (c : X) → p < length l → get_or (map f l) p d ≡ f (get_or l p c)
get_d_map f [] p d c h = absurd (omega arith)
get_d_map f (x ∷ l) zero d c h = refl
get_d_map f (x ∷ l) (suc p) d c h = get_d_map f l p d c (omega arith)

-- two maps that agree on a run
pub map-up : {X : Type 0} (f g : ℕ → X) (i k : ℕ) → ((j : ℕ) → i ≤ j → j < i + k → f j ≡ g j) → map f (up i k) ≡ map g (up i k)
unfolding up
map-up f g i zero h = refl
map-up f g i (suc k) h = ap₂ ◌∷◌ (h i (omega arith) (omega arith)) (map-up f g (suc i) k (λ j a b. h j (omega arith) (omega arith)))

pub get_or-identity : (m p : ℕ) → p < m → get_or (identity m) p (pos 0) ≡ pos (suc p)
unfolding identity
get_or-identity m p h = get_or-map pos (up 1 m) p 0 ∙ ap pos (get_or-up 1 m p 0 h ∙ omega arith)

pub length-product : (u v : List ℤ) → length (product u v) ≡ length v
unfolding product
length-product u v = length-map v (at u)

pub get_or-product : (u v : List ℤ) (p : ℕ) → get_or (product u v) p (pos 0) ≡ at u (get_or v p (pos 0))
unfolding product at
get_or-product u v p = get_or-map (at u) v p (pos 0)

-- ---- composing

pub at_negate : (u : List ℤ) (x : ℤ) → at u (neg_ℤ x) ≡ neg_ℤ (at u x)
unfolding at
at_negate u (pos zero) = refl
at_negate u (pos (suc p)) = refl
at_negate u (negsuc p) = sym (neg_ℤ-neg_ℤ (get_or u p (pos 0)))

pub at-product : (u v : List ℤ) (x : ℤ) → at (product u v) x ≡ at u (at v x)
unfolding at
at-product u v (pos zero) = refl
at-product u v (pos (suc p)) = get_or-product u v p
at-product u v (negsuc p) = ap neg_ℤ (get_or-product u v p) ∙ sym (at_negate u (get_or v p (pos 0)))

pub product_assoc : (u v w : List ℤ) → product (product u v) w ≡ product u (product v w)
unfolding product
product_assoc u v [] = refl
product_assoc u v (x ∷ w) = ap₂ ◌∷◌ (at-product u v x) (product_assoc u v w)

-- ---- units

pub product-identity : (w : List ℤ) → product w (identity (length w)) ≡ w
unfolding at
product-identity w =
    ext_get_or (pos 0) (product w (identity (length w))) w (length-product w (identity (length w)) ∙ length-identity (length w))
    (λ p h. get_or-product w (identity (length w)) p ∙ ap (at w) (get_or-identity (length w) p (rw (length-product, length-identity) at h)))

at-identity : (m : ℕ) (x : ℤ) → nat_abs x ≤ m → at (identity m) x ≡ x
unfolding at
at-identity m (pos zero) h = refl
at-identity m (pos (suc p)) h = get_or-identity m p h
at-identity m (negsuc p) h = ap neg_ℤ (get_or-identity m p h)

-- entries of size at most m stay
pub identity-product : (m : ℕ) (w : List ℤ) → Between 0 (suc m) w → product (identity m) w ≡ w
unfolding product
identity-product m [] h = refl
identity-product m (e ∷ w) h = ap₂ ◌∷◌ (at-identity m e (omega arith)) (identity-product m w h.2)

-- ---- steps and words

map-from : (f : ℤ → ℤ) (g : List ℤ → List ℤ) → ((w : List ℤ) → map f (g w) ≡ g (map f w)) → (p : ℕ) (w : List ℤ) → map f (from p g w) ≡ from p g (map f w)
unfolding from
map-from f g h zero w = h w
map-from f g h (suc p) [] = refl
map-from f g h (suc p) (x ∷ w) = ap (λ (l : List ℤ). f x ∷ l) (map-from f g h p w)

map-swap : (f : ℤ → ℤ) (w : List ℤ) → map f (swap w) ≡ swap (map f w)
unfolding swap
map-swap f [] = refl
map-swap f (x ∷ []) = refl
map-swap f (x ∷ y ∷ w) = refl

map-negate_first : (f : ℤ → ℤ) → ((x : ℤ) → f (neg_ℤ x) ≡ neg_ℤ (f x)) → (w : List ℤ) → map f (negate_first w) ≡ negate_first (map f w)
unfolding negate_first
map-negate_first f h [] = refl
map-negate_first f h (x ∷ w) = rw h

map-swap_negate : (f : ℤ → ℤ) → ((x : ℤ) → f (neg_ℤ x) ≡ neg_ℤ (f x)) → (w : List ℤ) → map f (swap_negate w) ≡ swap_negate (map f w)
unfolding swap_negate
map-swap_negate f h [] = refl
map-swap_negate f h (x ∷ []) = refl
map-swap_negate f h (x ∷ y ∷ w) = rw (h x, h y)

-- a step commutes with every map that respects signs
map-act : (f : ℤ → ℤ) → ((x : ℤ) → f (neg_ℤ x) ≡ neg_ℤ (f x)) → (k : Kind) (n s : ℕ) (w : List ℤ) → map f (act k n s w) ≡ act k n s (map f w)
unfolding act
map-act f h A n s w = map-from f swap (map-swap f) (s - 1) w
map-act f h B n s w =
    by_pick (λ g. map f (g w) ≡ g (map f w)) (eqb s n) (from (n - 1) negate_first) (from (s - 1) swap)
    (map-from f negate_first (map-negate_first f h) (n - 1) w)
    (map-from f swap (map-swap f) (s - 1) w)
map-act f h D n s w =
    by_pick (λ g. map f (g w) ≡ g (map f w)) (eqb s n) (from (n - 2) swap_negate) (from (s - 1) swap)
    (map-from f swap_negate (map-swap_negate f h) (n - 2) w)
    (map-from f swap (map-swap f) (s - 1) w)

product-act : (k : Kind) (n s : ℕ) (w x : List ℤ) → product w (act k n s x) ≡ act k n s (product w x)
unfolding product
product-act k n s w x = map-act (at w) (at_negate w) k n s x

product-window_from : (k : Kind) (n : ℕ) (w x : List ℤ) (u : List ℕ) → product w (window_from k n x u) ≡ window_from k n (product w x) u
unfolding window_from
product-window_from k n w x [] = refl
product-window_from k n w x (s ∷ u) = product-window_from k n w (act k n s x) u ∙ ap (λ (l : List ℤ). window_from k n l u) (product-act k n s w x)

pub window_from-product : (k : Kind) (n : ℕ) (w : List ℤ) (u : List ℕ) → length w ≡ lanes k n → window_from k n w u ≡ product w (window k n u)
unfolding window
window_from-product k n w u h =
    sym (product-window_from k n w (identity (lanes k n)) u
    ∙ ap (λ (l : List ℤ). window_from k n l u) (ap (λ (m : ℕ). product w (identity m)) (sym h) ∙ product-identity w))

-- the window of a joined word is the product of the parts' windows
pub window-append : (k : Kind) (n : ℕ) (u v : List ℕ) → window k n (u ++ v) ≡ product (window k n u) (window k n v)
unfolding window
window-append k n u v = window_from-append k n (identity (lanes k n)) u v ∙ window_from-product k n (window k n u) v (length-window k n u)
