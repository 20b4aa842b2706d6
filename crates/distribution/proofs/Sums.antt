-- How often a measure has each value on a list, and sums of such numbers: together they are the list's length.
-- Sections: sums; how often.
-- Assumes nothing.
use mathlib.Core.Path.{◌≡◌, refl, sym, ap, ◌∙◌}
use mathlib.Core.Bool.{Bool, true, false}
use mathlib.Core.List.Memᴰ
use mathlib.Core.List.{List, [], ◌∷◌, ◌++◌, map, map-append}
use Prim.Native.Nat.{ℕ, zero, suc, ◌+◌, ◌≤◌, ◌<◌}
use native.Mathlib.Omega.{arith}
use native.Mathlib.Nat.{zero-add, le_refl}
use native.Mathlib.Decide.{le_ind}
use native.Mathlib.Numerals.{add-one}
use borrow.Author.Tests.{lt-ltb, le-ltb, eqb-true, eqb-false, ltb-true, ltb-false}
use lib.Dec.{eqb, ltb}
use lib.ListN.{length}
use Rattle.coxeter.specs.Kinds.{pick, up}
use Rattle.coxeter.specs.Length.{one}
use Rattle.coxeter.proofs.Basics.{up-append}
use Rattle.coxeter.proofs.PairWeights.{one_le}
use Rattle.distribution.specs.AllWindows.{In, keep}
use Rattle.distribution.specs.Distribution.{sum}

-- ---- sums

-- f 0 + .. + f (m − 1)
unfoldable pub below : (ℕ → ℕ) → ℕ → ℕ
below f zero = 0
below f (suc m) = below f m + f m

pub sum-append : (a b : List ℕ) → sum (a ++ b) ≡ sum a + sum b
unfolding sum
sum-append [] b = sym (zero-add (sum b))
sum-append (x ∷ a) b = omega (arith, sum-append a b)

-- one number more
pub up_snoc : (i m : ℕ) → up i (suc m) ≡ up i m ++ ((i + m) ∷ [])
up_snoc i m = ap (up i) (sym (add-one m)) ∙ up-append i m 1 ∙ ap (λ (l : List ℕ). up i m ++ l) (unfold up in refl)

pub sum_below : (f : ℕ → ℕ) (m : ℕ) → sum (map f (up 0 m)) ≡ below f m
unfolding below
sum_below f zero = unfold sum up in refl
sum_below f (suc m) =
    rw (up_snoc 0 m, zero-add m, map-append f (up 0 m) (m ∷ []), sum-append (map f (up 0 m)) (f m ∷ []), sum_below f m)
    (unfold sum in omega arith)

below_add : (f g : ℕ → ℕ) (m : ℕ) → below (λ l. f l + g l) m ≡ below f m + below g m
unfolding below
below_add f g zero = refl
below_add f g (suc m) = omega (arith, below_add f g m)

pub below_same : (f g : ℕ → ℕ) (m : ℕ) → ((l : ℕ) → l < m → f l ≡ g l) → below f m ≡ below g m
unfolding below
below_same f g zero h = refl
below_same f g (suc m) h = omega (arith, below_same f g m (λ l o. h l (omega arith)), h m (omega arith))

pub below_le : (f : ℕ → ℕ) (l m : ℕ) → l ≤ m → below f l ≤ below f m
unfolding below
below_le f l m h = le_ind (λ (x : ℕ). below f l ≤ below f x) (le_refl (below f l)) (λ x g p. omega arith) m h

pub le_below : (f : ℕ → ℕ) (m l : ℕ) → l < m → f l ≤ below f m
unfolding below
le_below f zero l o = absurd (omega arith)
le_below f (suc m) l o = le_below_by_cases (ltb l m) refl (le_below f m l)
  where
    le_below_by_cases : (t : Bool) → ltb l m ≡ t → (l < m → f l ≤ below f m) → f l ≤ below f m + f m
    le_below_by_cases true e ih = omega (arith, ih (ltb-true l m e))
    le_below_by_cases false e ih = let q : l ≡ m = omega (arith, ltb-false l m e) in rw q (omega arith)

-- ---- how often

-- how often the measure f is l on the list
unfoldable pub times_of : {X : Type 0} → (X → ℕ) → List X → ℕ → ℕ
times_of f xs l = length (keep (λ x. eqb (f x) l) xs)

pub times_of_cons : {X : Type 0} (f : X → ℕ) (x : X) (xs : List X) (l : ℕ) → times_of f (x ∷ xs) l ≡ one (eqb (f x) l) + times_of f xs l
unfolding times_of keep one
times_of_cons f x xs l = times_of_cons_by_cases (eqb (f x) l)
  where
    times_of_cons_by_cases : (t : Bool)
        → length (pick t (x ∷ keep (λ x. eqb (f x) l) xs) (keep (λ x. eqb (f x) l) xs)) ≡ pick t 1 0 + length (keep (λ x. eqb (f x) l) xs)
    times_of_cons_by_cases true = omega arith
    times_of_cons_by_cases false = omega arith

below_one : (c m : ℕ) → below (λ l. one (eqb c l)) m ≡ one (ltb c m)
unfolding below one
below_one c zero = rw (le-ltb c 0 (omega arith))
below_one c (suc m) = below-one_by_cases (eqb c m) refl (ltb c m) refl (below_one c m)
  where
    below-one_by_cases : (s : Bool) → eqb c m ≡ s → (t : Bool) → ltb c m ≡ t → below (λ l. pick (eqb c l) 1 0) m ≡ pick t 1 0
        → below (λ l. pick (eqb c l) 1 0) m + pick s 1 0 ≡ pick (ltb c (suc m)) 1 0
    below-one_by_cases true p true q h = absurd (omega (arith, eqb-true c m p, ltb-true c m q))
    below-one_by_cases true p false q h = rw (lt-ltb c (suc m) (omega (arith, eqb-true c m p))) (omega arith)
    below-one_by_cases false p true q h = rw (lt-ltb c (suc m) (omega (arith, ltb-true c m q))) (omega arith)
    below-one_by_cases false p false q h =
        let ne = eqb-false c m p in
        rw (le-ltb c (suc m) (omega (arith, ltb-false c m q))) (omega arith)

below-times_of_cons : {X : Type 0} (f : X → ℕ) (x : X) (xs : List X) (m : ℕ)
    → below (times_of f (x ∷ xs)) m ≡ one (ltb (f x) m) + below (times_of f xs) m
below-times_of_cons f x xs m =
    below_same (times_of f (x ∷ xs)) (λ l. one (eqb (f x) l) + times_of f xs l) m (λ l o. times_of_cons f x xs l)
    ∙ below_add (λ l. one (eqb (f x) l)) (times_of f xs) m
    ∙ ap (λ (s : ℕ). s + below (times_of f xs) m) (below_one (f x) m)

below-times_of_nil : {X : Type 0} (f : X → ℕ) (m : ℕ) → below (times_of f []) m ≡ 0
unfolding below times_of keep
below-times_of_nil f zero = refl
below-times_of_nil f (suc m) = omega (arith, below-times_of_nil f m)

-- no more than the list is long
pub below-times_of_le : {X : Type 0} (f : X → ℕ) (xs : List X) (m : ℕ) → below (times_of f xs) m ≤ length xs
below-times_of_le f [] m = omega (arith, below-times_of_nil f m)
below-times_of_le f (x ∷ xs) m = omega (arith, below-times_of_cons f x xs m, one_le (ltb (f x) m), below-times_of_le f xs m)

-- and just as many where the measure is below m on the whole list
pub below-times_of : {X : Type 0} (f : X → ℕ) (xs : List X) (m : ℕ) → ((x : X) → In x xs → f x < m) → below (times_of f xs) m ≡ length xs
unfolding one
below-times_of f [] m h = below-times_of_nil f m
below-times_of f (x ∷ xs) m h =
    let first = lt-ltb (f x) m (h x (Memᴰ.head refl)) in
    rw (below-times_of_cons f x xs m, first, below-times_of f xs m (λ y i. h y (Memᴰ.tail i))) (omega arith)
