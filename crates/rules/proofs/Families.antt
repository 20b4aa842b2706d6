-- The rules as a relation with one constructor a family; the kinds differ only in the side conditions.
-- Assumes nothing.
use mathlib.Core.Path.{◌≡◌}
use mathlib.Core.Logic.{◌⊎◌}
use mathlib.Core.List.{List, [], ◌∷◌, ◌++◌}
use Prim.Native.Nat.{ℕ, ◌+◌, ◌-◌, ◌*◌, ◌≤◌, ◌<◌}
use Rattle.coxeter.specs.declared.Kind.{Kind}
use Rattle.coxeter.specs.declared.Kind.TheVariants.{A, B, D}
use Rattle.coxeter.specs.NormalForm.{block}
use Rattle.coxeter.proofs.Relations.{Apart}

-- family 2, for pairs that commute: i j → j i
abbrev pub Commutes : Kind → ℕ → ℕ → ℕ → Type 0
Commutes k n i j = Apart k n i j

-- family 3: [i,j] i → (i+1) [i,j]
abbrev pub Carries : Kind → ℕ → ℕ → ℕ → Type 0
Carries A n i j = j ≤ n
Carries B n i j = i + j + 2 ≤ 2 * n
Carries D n i j = ((i + 3 ≤ n) × (i + j + 2 ≤ 2 * n)) ⊎ ((i + 2 ≡ n) × (j + 1 ≡ n))

-- family 4: [i,2n−i] (i+1) → (i+1) [i,2n−i]
abbrev pub Turns : Kind → ℕ → ℕ → Type 0
Turns A n i = ⊥
Turns B n i = i + 1 ≤ n
Turns D n i = i + 3 ≤ n

-- families 5 to 7 are kind D's
abbrev pub IsD : Kind → Type 0
IsD A = ⊥
IsD B = ⊥
IsD D = Unit {0}

pub data RuleOf (k : Kind) (n : ℕ) : List ℕ → List ℕ → Type 0 where
  square : {i : ℕ} → 1 ≤ i → i ≤ n → RuleOf k n (i ∷ i ∷ []) []
  commutation : {i j : ℕ} → 1 ≤ i → j ≤ n → Commutes k n i j → RuleOf k n (i ∷ j ∷ []) (j ∷ i ∷ [])
  carry : {i j : ℕ} → 1 ≤ i → i < j → Carries k n i j → RuleOf k n (block k n i j ++ (i ∷ [])) ((i + 1) ∷ block k n i j)
  turn : {i : ℕ} → 1 ≤ i → Turns k n i → RuleOf k n (block k n i (2 * n - i) ++ ((i + 1) ∷ [])) ((i + 1) ∷ block k n i (2 * n - i))
  five : {a : ℕ} → IsD k → a + 2 ≡ n → RuleOf k n (a ∷ n ∷ a ∷ []) (n ∷ a ∷ n ∷ [])
  six : {a : ℕ} → IsD k → a + 2 ≡ n → RuleOf k n (a ∷ n ∷ (a + 1) ∷ a ∷ n ∷ []) ((a + 1) ∷ a ∷ n ∷ (a + 1) ∷ a ∷ [])
  seven : {a : ℕ} → IsD k → a + 2 ≡ n → RuleOf k n (a ∷ n ∷ (a + 1) ∷ a ∷ (a + 1) ∷ []) (n ∷ a ∷ n ∷ (a + 1) ∷ a ∷ [])
