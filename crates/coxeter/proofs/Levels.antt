-- Windows by the sizes of their entries: what checks 9 to 11 say as facts, and the pigeonhole principle. A level i
-- is a list whose entries have the sizes i, i + 1, .., each once; an accepted window is a level 1 with its kind's
-- signs.
-- Assumes nothing.
use mathlib.Core.Path.{◌≡◌, refl, sym, ap, ◌∙◌}
use mathlib.Core.Bool.{Bool, true, false}
use mathlib.Core.List.{List, [], ◌∷◌, map}
use Prim.Native.Nat.{ℕ, zero, suc, ◌+◌, ◌-◌, ◌≤◌, ◌<◌}
use native.Mathlib.Omega.{arith}
use lib.Dec.{eqb, ltb}
use lib.IntN.{ℤ, pos, neg_ℤ, nat_abs}
use lib.ListN.{length}
use borrow.Author.Tests.{eqb-true, eqb-false, eq-eqb, ne_eqb, ltb-false, le-ltb, not-false}
use Rattle.coxeter.specs.declared.Kind.{Kind}
use Rattle.coxeter.specs.declared.Kind.TheVariants.{A, B, D}
use Rattle.coxeter.specs.Kinds.{pick, lanes, up}
use Rattle.coxeter.specs.Windows.{from, swap, negate_first, swap_negate, act, window_from, identity, window}
use Rattle.coxeter.specs.Length.{negatives}
use Rattle.coxeter.specs.Checks.{check, ◌then◌, has_size, wrong_lanes, wrong_at, wrong_entry, odd, odd_negatives, window_refusal, WindowOf}
use Rattle.coxeter.specs.NormalForm.{without}
use Rattle.coxeter.proofs.Basics.{length-identity, by_pick}
use Rattle.coxeter.proofs.Sizes.{or_left_comm, has_size-without, length_le_without, wrong_entry_cons, has_size-head}
use Rattle.coxeter.proofs.Sizes.{has_size-tail, PositiveInA, positive_in_A_nil, positive_in_A_cons, positive_in_A_head}
use Rattle.coxeter.proofs.Sizes.{positive_in_A_tail, nat_abs-neg_ℤ, negatives-from-swap, odd-from-swap_negate, negatives-map_pos}
use Rattle.coxeter.proofs.Refusals.{then_zero, check_zero}

-- every size is at least i and below c
abbrev pub Between : ℕ → ℕ → List ℤ → Type 0
Between i c [] = Unit {0}
Between i c (e ∷ w) = (i ≤ nat_abs e) × (nat_abs e < c) × Between i c w

-- no size stands twice
abbrev pub Distinct : List ℤ → Type 0
Distinct [] = Unit {0}
Distinct (e ∷ w) = (has_size (nat_abs e) w ≡ false) × Distinct w

-- the sizes are i, .., i + length w − 1, each once
pub record Level (i : ℕ) (w : List ℤ) : Type 0 where
  pub between : Between i (i + length w) w
  pub distinct : Distinct w

-- A has no negative entry, D an even number of them
abbrev pub Signs : Kind → List ℤ → Type 0
Signs A w = negatives w ≡ 0
Signs B w = Unit {0}
Signs D w = odd (negatives w) ≡ false

-- the window passes checks 9 to 11
pub record Accepted (k : Kind) (n : ℕ) (w : List ℤ) : Type 0 where
  pub size : length w ≡ lanes k n
  pub level : Level 1 w
  pub signs : Signs k w

-- ---- the pigeonhole principle

distinct_without : (c : ℕ) (w : List ℤ) → Distinct w → Distinct (without c w)
unfolding without
distinct_without c [] d = tt
distinct_without c (e ∷ w) d = distinct_without_by_cases (eqb (nat_abs e) c) (distinct_without c w d.1)
  where
    distinct_without_by_cases : (t : Bool) → Distinct (without c w) → Distinct (pick t w (e ∷ without c w))
    distinct_without_by_cases true r = d.1
    distinct_without_by_cases false r = (has_size-without (nat_abs e) c w d.0, r)

-- the greatest size is not there
between-below : (i c : ℕ) (w : List ℤ) → Between i (suc c) w → has_size c w ≡ false → Between i c w
unfolding has_size
between-below i c [] b h = tt
between-below i c (e ∷ w) b h =
    let ne : nat_abs e ≡ c → ⊥ = eqb-false (nat_abs e) c (has_size-head c e w h) in
    (b.0, omega arith, between-below i c w b.2 (has_size-tail c e w h))

-- the greatest size is taken out
between-without : (i c : ℕ) (w : List ℤ) → Between i (suc c) w → Distinct w → Between i c (without c w)
unfolding without
between-without i c [] b d = tt
between-without i c (e ∷ w) b d = between-without_by_cases (eqb (nat_abs e) c) refl (between-without i c w b.2 d.1)
  where
    between-without_by_cases : (t : Bool) → eqb (nat_abs e) c ≡ t → Between i c (without c w) → Between i c (pick t w (e ∷ without c w))
    between-without_by_cases true q r = between-below i c w b.2 (rw (eqb-true (nat_abs e) c q) at d.0)
    between-without_by_cases false q r = let ne : nat_abs e ≡ c → ⊥ = eqb-false (nat_abs e) c q in (b.0, omega arith, r)

-- distinct sizes out of m values are at most m
pub length_le_of_distinct : (i m c : ℕ) (w : List ℤ) → i + m ≡ c → Between i c w → Distinct w → length w ≤ m
length_le_of_distinct i zero c [] q b d = omega arith
length_le_of_distinct i zero c (e ∷ w) q b d = omega arith
length_le_of_distinct i (suc m) c w q b d =
    let p : c ≡ suc (i + m) = omega arith in
    let r : length (without (i + m) w) ≤ m =
    length_le_of_distinct i m (i + m) (without (i + m) w) refl
    (between-without i (i + m) w (rw p at b) d)
    (distinct_without (i + m) w d) in
    omega (arith, length_le_without (i + m) w)

-- each size of a level is there
pub level_has_size : (i s : ℕ) (w : List ℤ) → Level i w → i ≤ s → s < i + length w → has_size s w ≡ true
level_has_size i s w h a b = level_has_size_by_cases (has_size s w) refl
  where
    level_has_size_by_cases : (t : Bool) → has_size s w ≡ t → t ≡ true
    level_has_size_by_cases true q = refl
    level_has_size_by_cases false q =
        let l : suc (length w) ≤ length w =
        length_le_of_distinct i (length w) (i + length w) (pos s ∷ w) refl (a, b, h.between) (q, h.distinct) in
        let z : ⊥ = omega arith in
        absurd z

-- ---- checks 9 to 11 as facts

facts_of_wrong_entry : (k : Kind) (m : ℕ) (w : List ℤ) → wrong_entry k m w ≡ false → Between 1 (1 + m) w × Distinct w × PositiveInA k w
facts_of_wrong_entry k m [] h = (tt, tt, positive_in_A_nil k)
facts_of_wrong_entry k m (e ∷ w) h =
    let f = wrong_entry_cons k m e w h in
    let r = facts_of_wrong_entry k m w f.4 in
    let z : nat_abs e ≡ 0 → ⊥ = eqb-false (nat_abs e) 0 f.0 in
    let l : nat_abs e ≤ m = ltb-false m (nat_abs e) f.1 in
    ((omega arith, omega arith, r.0), (f.2, r.1), positive_in_A_cons k e w f.3 r.2)

wrong_entry_false : (k : Kind) (m : ℕ) (w : List ℤ) → Between 1 (1 + m) w → Distinct w → PositiveInA k w → wrong_entry k m w ≡ false
unfolding wrong_entry wrong_at
wrong_entry_false k m [] b d p = refl
wrong_entry_false k m (e ∷ w) b d p =
    let z : eqb (nat_abs e) 0 ≡ false = ne_eqb (nat_abs e) 0 (λ q. omega arith) in
    let l : ltb m (nat_abs e) ≡ false = le-ltb m (nat_abs e) (omega arith) in
    rw (z, l, d.0, positive_in_A_head k e w p) (wrong_entry_false k m w b.2 d.1 (positive_in_A_tail k e w p))

signs_of_checks : (k : Kind) (w : List ℤ) → PositiveInA k w → odd_negatives k w ≡ false → Signs k w
unfolding odd_negatives
signs_of_checks A w p o = p
signs_of_checks B w p o = tt
signs_of_checks D w p o = o

checks_of_signs : (k : Kind) (w : List ℤ) → Signs k w → PositiveInA k w × (odd_negatives k w ≡ false)
unfolding odd_negatives
checks_of_signs A w s = (s, refl)
checks_of_signs B w s = (tt, refl)
checks_of_signs D w s = (tt, s)

pub accepted_of_refusal : (k : Kind) (n : ℕ) (w : List ℤ) → WindowOf k n w → Accepted k n w
unfolding window_refusal wrong_lanes
accepted_of_refusal k n w h =
    let m : ℕ = lanes k n in
    let a = then_zero (check 9 (wrong_lanes k n w)) (check 10 (wrong_entry k m w) then check 11 (odd_negatives k w)) h in
    let b = then_zero (check 10 (wrong_entry k m w)) (check 11 (odd_negatives k w)) a.1 in
    let q : length w ≡ m = eqb-true (length w) m (not-false (eqb (length w) m) (check_zero 9 (wrong_lanes k n w) refl a.0)) in
    let f = facts_of_wrong_entry k m w (check_zero 10 (wrong_entry k m w) refl b.0) in
    let o : odd_negatives k w ≡ false = check_zero 11 (odd_negatives k w) refl b.1 in
    record {
      size = q;
      level = record { between = rw q f.0; distinct = f.1 };
      signs = signs_of_checks k w f.2 o;
    }

pub refusal_of_accepted : (k : Kind) (n : ℕ) (w : List ℤ) → Accepted k n w → WindowOf k n w
unfolding window_refusal wrong_lanes
refusal_of_accepted k n w h =
    let f = checks_of_signs k w h.signs in
    let e : wrong_entry k (lanes k n) w ≡ false =
    wrong_entry_false k (lanes k n) w (rw h.size at h.level.between) h.level.distinct f.0 in
    rw (eq-eqb (length w) (lanes k n) h.size, e, f.1)

-- ---- lists with the same sizes

-- the entries of v have the sizes of those of w, in any order and with any signs
pub record SameSizes (v w : List ℤ) : Type 0 where
  pub count : length v ≡ length w
  pub sizes : (s : ℕ) → has_size s v ≡ has_size s w
  pub between : (i c : ℕ) → Between i c w → Between i c v
  pub distinct : Distinct w → Distinct v

pub level_of_same_sizes : (i : ℕ) (v w : List ℤ) → SameSizes v w → Level i w → Level i v
level_of_same_sizes i v w h l =
    record { between = rw h.count (h.between i (i + length w) l.between); distinct = h.distinct l.distinct }

pub same_sizes_refl : (w : List ℤ) → SameSizes w w
same_sizes_refl w = record { count = refl; sizes = λ s. refl; between = λ i c b. b; distinct = λ d. d }

same_sizes_cons : (y x : ℤ) (v w : List ℤ) → nat_abs y ≡ nat_abs x → SameSizes v w → SameSizes (y ∷ v) (x ∷ w)
unfolding has_size
same_sizes_cons y x v w q h =
    record {
      count = ap suc h.count;
      sizes = λ s. rw (q, h.sizes s);
      between = λ i c b. rw q (b.0, b.1, h.between i c b.2);
      distinct = λ d. rw q (h.sizes (nat_abs x) ∙ d.0, h.distinct d.1);
    }

same_sizes_pair : (x y x' y' : ℤ) (w : List ℤ) → nat_abs x' ≡ nat_abs x → nat_abs y' ≡ nat_abs y → SameSizes (y' ∷ x' ∷ w) (x ∷ y ∷ w)
unfolding has_size
same_sizes_pair x y x' y' w p q =
    record {
      count = refl;
      sizes = λ s. rw (p, q) (or_left_comm (eqb (nat_abs y) s) (eqb (nat_abs x) s) (has_size s w));
      between = λ i c b. rw (p, q) (b.2.0, b.2.1, (b.0, b.1, b.2.2));
      distinct = λ d.
          rw (p, q, apart d)
          (ap (λ s. has_size s w) q ∙ d.1.0, (has_size-tail (nat_abs x) y w d.0, d.1.1));
    }
  where
    apart : Distinct (x ∷ y ∷ w) → eqb (nat_abs x) (nat_abs y) ≡ false
    apart d =
        let ne : nat_abs y ≡ nat_abs x → ⊥ =
        eqb-false (nat_abs y) (nat_abs x) (has_size-head (nat_abs x) y w d.0) in
        ne_eqb (nat_abs x) (nat_abs y) (λ e. ne (sym e))

same_sizes_swap : (w : List ℤ) → SameSizes (swap w) w
unfolding swap
same_sizes_swap [] = same_sizes_refl []
same_sizes_swap (x ∷ []) = same_sizes_refl (x ∷ [])
same_sizes_swap (x ∷ y ∷ w) = same_sizes_pair x y x y w refl refl

pub same_sizes_negate_first : (w : List ℤ) → SameSizes (negate_first w) w
unfolding negate_first
same_sizes_negate_first [] = same_sizes_refl []
same_sizes_negate_first (x ∷ w) = same_sizes_cons (neg_ℤ x) x w w (nat_abs-neg_ℤ x) (same_sizes_refl w)

same_sizes_swap_negate : (w : List ℤ) → SameSizes (swap_negate w) w
unfolding swap_negate
same_sizes_swap_negate [] = same_sizes_refl []
same_sizes_swap_negate (x ∷ []) = same_sizes_refl (x ∷ [])
same_sizes_swap_negate (x ∷ y ∷ w) = same_sizes_pair x y (neg_ℤ x) (neg_ℤ y) w (nat_abs-neg_ℤ x) (nat_abs-neg_ℤ y)

pub same_sizes_from : (f : List ℤ → List ℤ) → ((w : List ℤ) → SameSizes (f w) w) → (p : ℕ) (w : List ℤ) → SameSizes (from p f w) w
unfolding from
same_sizes_from f h zero w = h w
same_sizes_from f h (suc p) [] = same_sizes_refl []
same_sizes_from f h (suc p) (x ∷ w) = same_sizes_cons x x (from p f w) w refl (same_sizes_from f h p w)

pub same_sizes_act : (k : Kind) (n s : ℕ) (w : List ℤ) → SameSizes (act k n s w) w
unfolding act
same_sizes_act A n s w = same_sizes_from swap same_sizes_swap (s - 1) w
same_sizes_act B n s w =
    by_pick (λ f. SameSizes (f w) w) (eqb s n) (from (n - 1) negate_first) (from (s - 1) swap)
    (same_sizes_from negate_first same_sizes_negate_first (n - 1) w)
    (same_sizes_from swap same_sizes_swap (s - 1) w)
same_sizes_act D n s w =
    by_pick (λ f. SameSizes (f w) w) (eqb s n) (from (n - 2) swap_negate) (from (s - 1) swap)
    (same_sizes_from swap_negate same_sizes_swap_negate (n - 2) w)
    (same_sizes_from swap same_sizes_swap (s - 1) w)

-- ---- the windows of words

-- a size below the range is not there
pub has_size-below : (i c s : ℕ) (w : List ℤ) → s < i → Between i c w → has_size s w ≡ false
unfolding has_size
has_size-below i c s [] l b = refl
has_size-below i c s (e ∷ w) l b = rw (ne_eqb (nat_abs e) s (λ q. omega arith)) (has_size-below i c s w l b.2)

between-up : (j i k c : ℕ) → j ≤ i → i + k ≤ c → Between j c (map pos (up i k))
unfolding up
between-up j i zero c h g = tt
between-up j i (suc k) c h g = (h, omega arith, between-up j (suc i) k c (omega arith) (omega arith))

distinct_up : (i k : ℕ) → Distinct (map pos (up i k))
unfolding up
distinct_up i zero = tt
distinct_up i (suc k) = (
  has_size-below (suc i) (suc i + k) i (map pos (up (suc i) k)) (omega arith) (between-up (suc i) (suc i) k (suc i + k) (omega arith) (omega arith)),
  distinct_up (suc i) k,
)

signs_of_negatives : (k : Kind) (w : List ℤ) → negatives w ≡ 0 → Signs k w
unfolding odd
signs_of_negatives A w h = h
signs_of_negatives B w h = tt
signs_of_negatives D w h = rw h

pub identity_accepted : (k : Kind) (n : ℕ) → Accepted k n (identity (lanes k n))
unfolding identity
identity_accepted k n =
    let m : ℕ = lanes k n in
    record {
      size = length-identity m;
      level = record { between = between-up 1 1 m (1 + length (identity m)) (omega arith) (omega (arith, length-identity m)); distinct = distinct_up 1 m };
      signs = signs_of_negatives k (identity m) (negatives-map_pos (up 1 m));
    }

signs_act : (k : Kind) (n s c : ℕ) (w : List ℤ) → Between 1 c w → Signs k w → Signs k (act k n s w)
unfolding act
signs_act A n s c w b h = negatives-from-swap (s - 1) w ∙ h
signs_act B n s c w b h = tt
signs_act D n s c w b h =
    by_pick (λ f. odd (negatives (f w)) ≡ false) (eqb s n) (from (n - 2) swap_negate) (from (s - 1) swap)
    (odd-from-swap_negate (n - 2) w (has_size-below 1 c 0 w (omega arith) b) ∙ h)
    (rw negatives-from-swap h)

pub act_accepted : (k : Kind) (n s : ℕ) (w : List ℤ) → Accepted k n w → Accepted k n (act k n s w)
act_accepted k n s w h =
    record {
      size = (same_sizes_act k n s w).count ∙ h.size;
      level = level_of_same_sizes 1 (act k n s w) w (same_sizes_act k n s w) h.level;
      signs = signs_act k n s (1 + length w) w h.level.between h.signs;
    }

pub window_from_accepted : (k : Kind) (n : ℕ) (w : List ℤ) (u : List ℕ) → Accepted k n w → Accepted k n (window_from k n w u)
unfolding window_from
window_from_accepted k n w [] h = h
window_from_accepted k n w (s ∷ u) h = window_from_accepted k n (act k n s w) u (act_accepted k n s w h)

-- a word's window passes checks 9 to 11
pub window_accepted : (k : Kind) (n : ℕ) (u : List ℕ) → Accepted k n (window k n u)
unfolding window
window_accepted k n u = window_from_accepted k n (identity (lanes k n)) u (identity_accepted k n)
