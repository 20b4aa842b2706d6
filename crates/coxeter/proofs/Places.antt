-- The places of a window's entries: an entry of size i stands at the place of i, the place of an entry's size is
-- that entry's position, and the places have the positions for sizes and as many negatives as the entries. By
-- induction on the list; where `at` looks at the whole window, the entries in front are a parameter.
--
-- Sections: entries; places; lists made over a run; signs.
-- Assumes nothing.
use mathlib.Core.Path.{◌≡◌, refl, sym, ap, ap₂, ◌∙◌}
use mathlib.Core.Bool.{Bool, true, false, ◌||◌, true≢false}
use mathlib.Core.List.{List, [], ◌∷◌, ◌++◌, map}
use Prim.Native.Nat.{ℕ, zero, suc, ◌+◌, ◌≤◌, ◌<◌}
use native.Mathlib.Nat.{add-zero}
use native.Mathlib.Numerals.{add-one}
use native.Mathlib.Omega.{arith}
use lib.Dec.{eqb}
use lib.IntN.{ℤ, pos, negsuc, neg_ℤ, nat_abs}
use lib.ListN.{length, get_or, length-append}
use lib.Seq.{append_snoc, get_or-append_seam}
use borrow.Author.Tests.{eqb-true, eqb-false, eq-eqb, ne_eqb}
use Rattle.coxeter.specs.Kinds.{pick, up}
use Rattle.coxeter.specs.Windows.{at, signed, place_from}
use Rattle.coxeter.specs.Length.{negative, negatives, one}
use Rattle.coxeter.specs.Checks.{has_size}
use Rattle.coxeter.proofs.Sizes.{nat_abs-neg_ℤ, has_size-head, has_size-tail}
use Rattle.coxeter.proofs.Levels.{Between, Distinct}
use Rattle.coxeter.proofs.Products.{map-up}

-- ---- entries

pub between_mono : (i c j d : ℕ) (w : List ℤ) → j ≤ i → c ≤ d → Between i c w → Between j d w
between_mono i c j d [] l r b = tt
between_mono i c j d (e ∷ w) l r b = (omega arith, omega arith, between_mono i c j d w l r b.2)

pub between-get_or : (i c : ℕ) (w : List ℤ) (p : ℕ) → Between i c w → p < length w → (i ≤ nat_abs (get_or w p (pos 0))) × (nat_abs (get_or w p (pos 0)) < c)
between-get_or i c [] p b h = absurd (omega arith)
between-get_or i c (e ∷ w) zero b h = (b.0, b.1)
between-get_or i c (e ∷ w) (suc p) b h = between-get_or i c w p b.2 (omega arith)

-- a size above all sizes is not there
pub has_size_beyond : (i c s : ℕ) (w : List ℤ) → c ≤ s → Between i c w → has_size s w ≡ false
unfolding has_size
has_size_beyond i c s [] l b = refl
has_size_beyond i c s (e ∷ w) l b = rw (ne_eqb (nat_abs e) s (λ q. omega arith)) (has_size_beyond i c s w l b.2)

-- the size of w(x) hangs on the size of x alone
pub nat_abs-at : (w : List ℤ) (x : ℤ) → nat_abs (at w (pos (nat_abs x))) ≡ nat_abs (at w x)
unfolding at
nat_abs-at w (pos p) = refl
nat_abs-at w (negsuc p) = sym (nat_abs-neg_ℤ (get_or w p (pos 0)))

-- ---- places

at-signed : (q w : List ℤ) (e : ℤ) → at (q ++ e ∷ w) (signed e (suc (length q))) ≡ pos (nat_abs e)
unfolding at signed
at-signed q w (pos a) = get_or-append_seam q (pos a) w (pos 0)
at-signed q w (negsuc a) = ap neg_ℤ (get_or-append_seam q (negsuc a) w (pos 0))

at-pick : (l : List ℤ) (t b : Bool) (x y z : ℤ) → (t || b) ≡ true → (t ≡ true → at l x ≡ z) → (b ≡ true → at l y ≡ z) → at l (pick t x y) ≡ z
at-pick l true b x y z h f g = f refl
at-pick l false b x y z h f g = g h

at-append-place_from : (q w : List ℤ) (i : ℕ) → has_size i w ≡ true → at (q ++ w) (place_from (suc (length q)) w i) ≡ pos i
unfolding has_size place_from
at-append-place_from q [] i h = absurd (true≢false (sym h))
at-append-place_from q (e ∷ w) i h =
    at-pick (q ++ e ∷ w) (eqb (nat_abs e) i) (has_size i w) (signed e (suc (length q))) (place_from (suc (suc (length q))) w i) (pos i) h
    (λ t. at-signed q w e ∙ ap pos (eqb-true (nat_abs e) i t))
    (λ t. rw (append_snoc, length-append, add-one) at (at-append-place_from (q ++ (e ∷ [])) w i t))

-- an entry of size i stands at the place of i
pub at-place_from : (w : List ℤ) (i : ℕ) → has_size i w ≡ true → at w (place_from 1 w i) ≡ pos i
at-place_from w i h = at-append-place_from [] w i h

-- where no entry has size i, its place is 0
place_from_missing : (q : ℕ) (w : List ℤ) (i : ℕ) → has_size i w ≡ false → place_from q w i ≡ pos 0
unfolding has_size place_from
place_from_missing q [] i h = refl
place_from_missing q (e ∷ w) i h =
    rw (has_size-head i e w h) (place_from_missing (suc q) w i (has_size-tail i e w h))

get_or_missing : (w : List ℤ) (p i : ℕ) → has_size i w ≡ false → p < length w → eqb i (nat_abs (get_or w p (pos 0))) ≡ false
unfolding has_size
get_or_missing [] p i h l = absurd (omega arith)
get_or_missing (e ∷ w) zero i h l = ne_eqb i (nat_abs e) (λ x. eqb-false (nat_abs e) i (has_size-head i e w h) (sym x))
get_or_missing (e ∷ w) (suc p) i h l = get_or_missing w p i (has_size-tail i e w h) (omega arith)

-- the place of an entry's size is the entry's position, with its sign
pub place_from-get_or : (q : ℕ) (w : List ℤ) (p : ℕ) → Distinct w → p < length w
    → place_from q w (nat_abs (get_or w p (pos 0))) ≡ signed (get_or w p (pos 0)) (q + p)
unfolding place_from
place_from-get_or q [] p d h = absurd (omega arith)
place_from-get_or q (e ∷ w) zero d h = rw (eq-eqb (nat_abs e) (nat_abs e) refl) (ap (signed e) (sym (add-zero q)))
place_from-get_or q (e ∷ w) (suc p) d h =
    rw (get_or_missing w p (nat_abs e) d.0 (omega arith))
    (place_from-get_or (suc q) w p d.1 (omega arith) ∙ ap (signed (get_or w p (pos 0))) (omega arith))

nat_abs-signed : (e : ℤ) (k : ℕ) → nat_abs (signed e k) ≡ k
unfolding signed
nat_abs-signed (pos a) k = refl
nat_abs-signed (negsuc a) zero = refl
nat_abs-signed (negsuc a) (suc k) = refl

nat_abs-pick : (t b : Bool) (x y : ℤ) (q c : ℕ) → (t || b) ≡ true → (q ≤ nat_abs x) × (nat_abs x < c) → (b ≡ true → (suc q ≤ nat_abs y) × (nat_abs y < c))
    → (q ≤ nat_abs (pick t x y)) × (nat_abs (pick t x y) < c)
nat_abs-pick true b x y q c h f g = f
nat_abs-pick false b x y q c h f g = let z : (suc q ≤ nat_abs y) × (nat_abs y < c) = g h in omega arith

-- the place of a size that is there is a position
pub nat_abs-place_from : (q : ℕ) (w : List ℤ) (i : ℕ) → has_size i w ≡ true → (q ≤ nat_abs (place_from q w i)) × (nat_abs (place_from q w i) < q + length w)
unfolding has_size place_from
nat_abs-place_from q [] i h = absurd (true≢false (sym h))
nat_abs-place_from q (e ∷ w) i h =
    nat_abs-pick (eqb (nat_abs e) i) (has_size i w) (signed e q) (place_from (suc q) w i) q (q + suc (length w)) h
    (omega (arith, nat_abs-signed e q))
    (λ t. omega (arith, nat_abs-place_from (suc q) w i t))

-- ---- lists made over a run

pub between-map-up : (b c : ℕ) (f : ℕ → ℤ) (i k : ℕ) → ((j : ℕ) → i ≤ j → j < i + k → (b ≤ nat_abs (f j)) × (nat_abs (f j) < c)) → Between b c (map f (up i k))
unfolding up
between-map-up b c f i zero h = tt
between-map-up b c f i (suc k) h =
    let z : (b ≤ nat_abs (f i)) × (nat_abs (f i) < c) = h i (omega arith) (omega arith) in
    (z.0, z.1, between-map-up b c f (suc i) k (λ j x y. h j (omega arith) (omega arith)))

has_size-map-up : (g : ℕ → ℕ) (f : ℕ → ℤ) (s i k : ℕ) → g s < i → ((j : ℕ) → i ≤ j → j < i + k → g (nat_abs (f j)) ≡ j) → has_size s (map f (up i k)) ≡ false
unfolding up has_size
has_size-map-up g f s i zero l h = refl
has_size-map-up g f s i (suc k) l h =
    let e : g (nat_abs (f i)) ≡ i = h i (omega arith) (omega arith) in
    rw (ne_eqb (nat_abs (f i)) s (λ q. omega (arith, ap g q)))
    (has_size-map-up g f s (suc i) k (omega arith) (λ j x y. h j (omega arith) (omega arith)))

-- sizes from which a function tells the positions are distinct
pub distinct_map-up : (g : ℕ → ℕ) (f : ℕ → ℤ) (i k : ℕ) → ((j : ℕ) → i ≤ j → j < i + k → g (nat_abs (f j)) ≡ j) → Distinct (map f (up i k))
unfolding up
distinct_map-up g f i zero h = tt
distinct_map-up g f i (suc k) h =
    let e : g (nat_abs (f i)) ≡ i = h i (omega arith) (omega arith) in (
      has_size-map-up g f (nat_abs (f i)) (suc i) k (omega arith) (λ j x y. h j (omega arith) (omega arith)),
      distinct_map-up g f (suc i) k (λ j x y. h j (omega arith) (omega arith)),
    )

-- ---- signs

-- one value that was not negative is replaced
negatives-map-pick : (g : ℕ → ℤ) (s : ℕ) (x : ℤ) (i k : ℕ) → negative (g s) ≡ false → i ≤ s → s < i + k
    → negatives (map (λ (j : ℕ). pick (eqb s j) x (g j)) (up i k)) ≡ one (negative x) + negatives (map g (up i k))
unfolding up negatives one
negatives-map-pick g s x i zero h a b = omega arith
negatives-map-pick g s x i (suc k) h a b = negatives-map-pick_by_cases (eqb s i) refl (λ l. negatives-map-pick g s x (suc i) k h l (omega arith))
  where
    rest : ℕ
    rest = negatives (map (λ (j : ℕ). pick (eqb s j) x (g j)) (up (suc i) k))

    negatives-map-pick_by_cases : (t : Bool) → eqb s i ≡ t → (suc i ≤ s → rest ≡ one (negative x) + negatives (map g (up (suc i) k)))
        → one (negative (pick t x (g i))) + rest ≡ one (negative x) + (one (negative (g i)) + negatives (map g (up (suc i) k)))
    negatives-map-pick_by_cases true q r =
        let e : s ≡ i = eqb-true s i q in
        let z : one (negative (g i)) ≡ 0 = ap one (rw e at h) in
        let m : rest ≡ negatives (map g (up (suc i) k)) =
        ap negatives (map-up (λ (j : ℕ). pick (eqb s j) x (g j)) g (suc i) k (λ j c d. rw (ne_eqb s j (λ p. omega arith)))) in
        omega arith
    negatives-map-pick_by_cases false q r =
        let ne : s ≡ i → ⊥ = eqb-false s i q in
        omega (arith, r (omega arith))

negative-signed : (e : ℤ) (q : ℕ) → negative (signed e (suc q)) ≡ negative e
unfolding signed negative
negative-signed (pos a) q = refl
negative-signed (negsuc a) q = refl

negatives-map_nil : (q i k : ℕ) → negatives (map (place_from q []) (up i k)) ≡ 0
unfolding up negatives place_from negative one
negatives-map_nil q i zero = refl
negatives-map_nil q i (suc k) = omega (arith, negatives-map_nil q (suc i) k)

pub negatives-place_from : (m q : ℕ) (w : List ℤ) → Between 1 (1 + m) w → Distinct w → negatives (map (place_from (suc q) w) (up 1 m)) ≡ negatives w
unfolding negatives place_from negative
negatives-place_from m q [] b d = negatives-map_nil (suc q) 1 m
negatives-place_from m q (e ∷ w) b d =
    negatives-map-pick (place_from (suc (suc q)) w) (nat_abs e) (signed e (suc q)) 1 m
    (ap negative (place_from_missing (suc (suc q)) w (nat_abs e) d.0)) b.0 b.1
    ∙ ap₂ ◌+◌ (ap one (negative-signed e q)) (negatives-place_from m (suc q) w b.2 d.1)
