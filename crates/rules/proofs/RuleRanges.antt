-- Which rules the list of a kind and rank has (R2 to R12 of the specification): a rule of each family for exactly the i
-- and j of its clause. From the entries of the list (RuleList). What the rules of the list look like is in RuleFields.
--
-- Sections: from the list; family by family.
-- Assumes nothing.
use mathlib.Core.Path.{◌≡◌, refl}
use mathlib.Core.Logic.{◌↔◌, ◌⊎◌, ⊎_elim}
use mathlib.Core.List.{[], ◌∷◌, ◌++◌, Memᴰ}
use Prim.Native.Nat.{ℕ, ◌+◌, ◌-◌, ◌*◌, ◌≤◌, ◌<◌}
use native.Mathlib.Omega.{arith}
use Rattle.coxeter.specs.declared.Kind.{Kind}
use Rattle.coxeter.specs.declared.Kind.TheVariants.{A, B, D}
use Rattle.coxeter.specs.Kinds.{least}
use Rattle.coxeter.specs.NormalForm.{block}
use Rattle.rules.specs.Rules.{Rule, rule, rules}
use Rattle.rules.proofs.Families.{Commutes, Carries, Turns}
use Rattle.rules.proofs.Letters.{block-fork}
use Rattle.rules.proofs.RuleList.{Listed, square, commutation, carry, turn, five, six, seven, listed_of_mem, mem_of_listed}

-- ---- from the list

-- the conditions of families 1 to 4
abbrev Ranges : Kind → ℕ → Rule → Type 0
Ranges k n x =
    (x.family ≡ 1 → (1 ≤ x.i) × (x.i ≤ n))
    × (x.family ≡ 2 → (1 ≤ x.i) × (x.j ≤ n) × Commutes k n x.i x.j)
    × (x.family ≡ 3 → (1 ≤ x.i) × (x.i < x.j) × Carries k n x.i x.j)
    × (x.family ≡ 4 → (1 ≤ x.i) × Turns k n x.i)

ranges : (k : Kind) (n : ℕ) {x : Rule} → Listed k n x → Ranges k n x
ranges k n (square o l) = (λ t. (o, l), λ t. absurd (omega arith), λ t. absurd (omega arith), λ t. absurd (omega arith))
ranges k n (commutation o l g) = (λ t. absurd (omega arith), λ t. (o, l, g), λ t. absurd (omega arith), λ t. absurd (omega arith))
ranges k n (carry {i} {j} o l g) = (λ t. absurd (omega arith), λ t. absurd (omega arith), λ t. (o, l, g), λ t. absurd (omega arith))
ranges k n (turn {i} o g) = (λ t. absurd (omega arith), λ t. absurd (omega arith), λ t. absurd (omega arith), λ t. (o, g))
ranges k n (five d e) = (λ t. absurd (omega arith), λ t. absurd (omega arith), λ t. absurd (omega arith), λ t. absurd (omega arith))
ranges k n (six d e) = (λ t. absurd (omega arith), λ t. absurd (omega arith), λ t. absurd (omega arith), λ t. absurd (omega arith))
ranges k n (seven d e) = (λ t. absurd (omega arith), λ t. absurd (omega arith), λ t. absurd (omega arith), λ t. absurd (omega arith))

of_mem : (k : Kind) (n : ℕ) → least k ≤ n → (x : Rule) → Memᴰ x (rules k n) → Ranges k n x
of_mem k n low x m = ranges k n (listed_of_mem k n low x m)

-- ---- family by family

-- R2: i i → empty for each step
pub squares_exactly : (k : Kind) (n i : ℕ) → least k ≤ n → Memᴰ (rule 1 i 0 (i ∷ i ∷ []) []) (rules k n) ↔ ((1 ≤ i) × (i ≤ n))
squares_exactly k n i low = (λ m. (of_mem k n low _ m).0 refl, λ c. mem_of_listed k n low (square c.0 c.1))

-- R3: i j → j i for j ≥ i + 2
pub commuting_in_A : (n i j : ℕ) → 1 ≤ n → Memᴰ (rule 2 i j (i ∷ j ∷ []) (j ∷ i ∷ [])) (rules A n) ↔ ((1 ≤ i) × (i + 2 ≤ j) × (j ≤ n))
commuting_in_A n i j low = (
  λ m. let r = (of_mem A n low _ m).1 refl in (r.0, r.2, r.1),
  λ c. mem_of_listed A n low (commutation c.0 c.2 c.1),
)

-- R3
pub commuting_in_B : (n i j : ℕ) → 2 ≤ n → Memᴰ (rule 2 i j (i ∷ j ∷ []) (j ∷ i ∷ [])) (rules B n) ↔ ((1 ≤ i) × (i + 2 ≤ j) × (j ≤ n))
commuting_in_B n i j low = (
  λ m. let r = (of_mem B n low _ m).1 refl in (r.0, r.2, r.1),
  λ c. mem_of_listed B n low (commutation c.0 c.2 c.1),
)

-- R4: the same but not for n − 2 and n, and also for n − 1 and n
pub commuting_in_D : (n i j : ℕ) → 4 ≤ n → Memᴰ (rule 2 i j (i ∷ j ∷ []) (j ∷ i ∷ [])) (rules D n)
    ↔ ((1 ≤ i) × (((i + 2 ≤ j) × (j < n)) ⊎ (((i + 3 ≤ j) × (j ≡ n)) ⊎ ((i + 1 ≡ j) × (j ≡ n)))))
commuting_in_D n i j low = (
  λ m. let r = (of_mem D n low _ m).1 refl in (r.0, r.2),
  λ c.
      let within : j ≤ n = ⊎_elim (λ (h : (i + 2 ≤ j) × (j < n)). omega arith) (⊎_elim (λ (h : (i + 3 ≤ j) × (j ≡ n)). omega arith)
      (λ (h : (i + 1 ≡ j) × (j ≡ n)). omega arith)) c.1 in
      mem_of_listed D n low (commutation c.0 within c.1),
)

-- R5: [i,j] i → (i + 1) [i,j] for i < j ≤ n
pub carrying_in_A : (n i j : ℕ) → 1 ≤ n
    → Memᴰ (rule 3 i j (block A n i j ++ (i ∷ [])) ((i + 1) ∷ block A n i j)) (rules A n) ↔ ((1 ≤ i) × (i < j) × (j ≤ n))
carrying_in_A n i j low = (λ m. (of_mem A n low _ m).2 refl, λ c. mem_of_listed A n low (carry {i = i} {j = j} c.0 c.1 c.2))

-- R6: for i < j ≤ 2n − i − 2
pub carrying_in_B : (n i j : ℕ) → 2 ≤ n
    → Memᴰ (rule 3 i j (block B n i j ++ (i ∷ [])) ((i + 1) ∷ block B n i j)) (rules B n) ↔ ((1 ≤ i) × (i < j) × (i + j + 2 ≤ 2 * n))
carrying_in_B n i j low = (λ m. (of_mem B n low _ m).2 refl, λ c. mem_of_listed B n low (carry {i = i} {j = j} c.0 c.1 c.2))

-- R7: for i ≤ n − 3 and i < j ≤ 2n − i − 2, and for i = n − 2 and j = n − 1
pub carrying_in_D : (n i j : ℕ) → 4 ≤ n
    → Memᴰ (rule 3 i j (block D n i j ++ (i ∷ [])) ((i + 1) ∷ block D n i j)) (rules D n)
    ↔ ((1 ≤ i) × (i < j) × (((i + 3 ≤ n) × (i + j + 2 ≤ 2 * n)) ⊎ ((i + 2 ≡ n) × (j + 1 ≡ n))))
carrying_in_D n i j low = (λ m. (of_mem D n low _ m).2 refl, λ c. mem_of_listed D n low (carry {i = i} {j = j} c.0 c.1 c.2))

-- R8: [i,2n−i] (i + 1) → (i + 1) [i,2n−i] for i ≤ n − 1
pub turning_in_B : (n i : ℕ) → 2 ≤ n
    → Memᴰ (rule 4 i 0 (block B n i (2 * n - i) ++ ((i + 1) ∷ [])) ((i + 1) ∷ block B n i (2 * n - i))) (rules B n) ↔ ((1 ≤ i) × (i + 1 ≤ n))
turning_in_B n i low = (λ m. (of_mem B n low _ m).3 refl, λ c. mem_of_listed B n low (turn {i = i} c.0 c.1))

-- R9: for i ≤ n − 3
pub turning_in_D : (n i : ℕ) → 4 ≤ n
    → Memᴰ (rule 4 i 0 (block D n i (2 * n - i) ++ ((i + 1) ∷ [])) ((i + 1) ∷ block D n i (2 * n - i))) (rules D n) ↔ ((1 ≤ i) × (i + 3 ≤ n))
turning_in_D n i low = (λ m. (of_mem D n low _ m).3 refl, λ c. mem_of_listed D n low (turn {i = i} c.0 c.1))

-- R10, R11, R12: the three rules of families 5 to 7
pub last_three_in_D : (n : ℕ) → 4 ≤ n
    → Memᴰ (rule 5 (n - 2) 0 ((n - 2) ∷ n ∷ (n - 2) ∷ []) (n ∷ (n - 2) ∷ n ∷ [])) (rules D n)
    × Memᴰ (rule 6 (n - 2) 0 (block D n (n - 2) (n + 2) ++ (n ∷ [])) ((n - 1) ∷ block D n (n - 2) (n + 2))) (rules D n)
    × Memᴰ (rule 7 (n - 2) 0 (block D n (n - 2) (n + 2) ++ ((n - 1) ∷ [])) (n ∷ block D n (n - 2) (n + 2))) (rules D n)
last_three_in_D n low =
    let e : n - 2 + 2 ≡ n = omega arith in
    let b : n - 1 ≡ n - 2 + 1 = omega arith in
    let f = block-fork n (n - 2) (omega arith) e in
    (mem_of_listed D n low (five tt e), rw (f, b) (mem_of_listed D n low (six tt e)), rw (f, b) (mem_of_listed D n low (seven tt e)))

-- R2 to R12: which families a kind has
pub families_in_A : (n : ℕ) (x : Rule) → 1 ≤ n → Memᴰ x (rules A n) → x.family ≤ 3
families_in_A n x low m = of_A (listed_of_mem A n low x m)
  where
    of_A : {y : Rule} → Listed A n y → y.family ≤ 3
    of_A (square o l) = omega arith
    of_A (commutation o l g) = omega arith
    of_A (carry {i} {j} o l g) = omega arith
    of_A (turn {i} o g) = absurd g
    of_A (five d e) = absurd d
    of_A (six d e) = absurd d
    of_A (seven d e) = absurd d

pub families_in_B : (n : ℕ) (x : Rule) → 2 ≤ n → Memᴰ x (rules B n) → x.family ≤ 4
families_in_B n x low m = of_B (listed_of_mem B n low x m)
  where
    of_B : {y : Rule} → Listed B n y → y.family ≤ 4
    of_B (square o l) = omega arith
    of_B (commutation o l g) = omega arith
    of_B (carry {i} {j} o l g) = omega arith
    of_B (turn {i} o g) = omega arith
    of_B (five d e) = absurd d
    of_B (six d e) = absurd d
    of_B (seven d e) = absurd d
