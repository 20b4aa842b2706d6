-- The rules of the list, field by field: for each family what i and j are and what the two sides are. From the
-- entries of the list (RuleList), and by `fitting_unique` for the last two steps of kind D.
--
-- Sections: each family; every rule; equal left sides.
-- Assumes nothing.
use mathlib.Core.Path.{◌≡◌, refl, sym, ap}
use mathlib.Core.List.{List, [], ◌∷◌, ◌++◌, cons-ne-nil, Memᴰ}
use Prim.Native.Nat.{ℕ, ◌+◌, ◌-◌, ◌*◌, ◌≤◌, ◌<◌}
use mathlib.Core.Logic.{inr}
use native.Mathlib.Omega.{arith}
use Rattle.coxeter.specs.declared.Kind.{Kind}
use Rattle.coxeter.specs.declared.Kind.TheVariants.{A, B, D}
use Rattle.coxeter.specs.Kinds.{least}
use Rattle.coxeter.specs.Relations.{Commuting}
use Rattle.coxeter.specs.NormalForm.{block}
use Rattle.coxeter.proofs.Relations.{apart_commuting, commuting_apart}
use Rattle.rules.specs.Rules.{Rule, commuted, rules}
use Rattle.rules.proofs.Families.{IsD}
use Rattle.rules.proofs.Letters.{carries_carried, turns_turned, wide, narrow, block-fork}
use Rattle.rules.proofs.RuleList.{Listed, square, commutation, carry, turn, five, six, seven, listed_of_mem, mem_of_listed}
use Rattle.rules.proofs.Fits.{fits-at}
use Rattle.rules.proofs.ScanRules.{fitting_unique}

-- ---- each family

-- families 5 to 7 are kind D's, at n − 2
record ForkFields (k : Kind) (n a : ℕ) : Type 0 where
  kind : k ≡ D
  place : n - 2 ≡ a
  next : n - 1 ≡ a + 1
  shape : block D n (n - 2) (n + 2) ≡ a ∷ n ∷ (a + 1) ∷ a ∷ []

fork : (k : Kind) (n a : ℕ) → least k ≤ n → IsD k → a + 2 ≡ n → ForkFields k n a
fork A n a low d e = absurd d
fork B n a low d e = absurd d
fork D n a low d e =
    let p : n - 2 ≡ a = omega arith in
    record { kind = refl; place = p; next = omega arith; shape = rw p (block-fork n a (omega arith) e) }

-- the left side begins with i
begun : (k : Kind) (n : ℕ) {x : Rule} → Listed k n x → (rest : List ℕ) × (x.left ≡ x.i ∷ rest)
begun k n (square {i} o l) = (i ∷ [], refl)
begun k n (commutation {i} {j} o l g) = (j ∷ [], refl)
begun k n (carry {i} {j} o l g) =
    let c = carries_carried k n i j o l g in
    ((i + 1) ∷ (c.rest ++ (i ∷ [])), ap (λ (u : List ℕ). u ++ (i ∷ [])) c.shape)
begun k n (turn {i} o g) = elim (turns_turned k n i o g) [
  | wide u e c h l ↦ ((i + 1) ∷ ((u ++ ((i + 1) ∷ i ∷ [])) ++ ((i + 1) ∷ [])), ap (λ (v : List ℕ). v ++ ((i + 1) ∷ [])) e)
  | narrow e h l ↦ ((i + 1) ∷ i ∷ (i + 1) ∷ [], ap (λ (v : List ℕ). v ++ ((i + 1) ∷ [])) e)
]
begun k n (five {a} d e) = (n ∷ a ∷ [], refl)
begun k n (six {a} d e) = (n ∷ (a + 1) ∷ a ∷ n ∷ [], refl)
begun k n (seven {a} d e) = (n ∷ (a + 1) ∷ a ∷ (a + 1) ∷ [], refl)

between : (k : Kind) (n : ℕ) {x : Rule} → Listed k n x → (1 ≤ x.family) × (x.family ≤ 7)
between k n (square o l) = omega arith
between k n (commutation o l g) = omega arith
between k n (carry {i} {j} o l g) = omega arith
between k n (turn {i} o g) = omega arith
between k n (five d e) = omega arith
between k n (six d e) = omega arith
between k n (seven d e) = omega arith

no_j : (k : Kind) (n : ℕ) {x : Rule} → Listed k n x → (x.family ≡ 2 → ⊥) → (x.family ≡ 3 → ⊥) → x.j ≡ 0
no_j k n (square o l) p q = refl
no_j k n (commutation o l g) p q = absurd (p refl)
no_j k n (carry {i} {j} o l g) p q = absurd (q refl)
no_j k n (turn {i} o g) p q = refl
no_j k n (five d e) p q = refl
no_j k n (six d e) p q = refl
no_j k n (seven d e) p q = refl

-- only family 1 has an empty right side
empty_right : (k : Kind) (n : ℕ) {x : Rule} → Listed k n x → x.right ≡ [] → x.family ≡ 1
empty_right k n (square o l) q = refl
empty_right k n (commutation {i} {j} o l g) q = absurd (cons-ne-nil j (i ∷ []) q)
empty_right k n (carry {i} {j} o l g) q = absurd (cons-ne-nil (i + 1) (block k n i j) q)
empty_right k n (turn {i} o g) q = absurd (cons-ne-nil (i + 1) (block k n i (2 * n - i)) q)
empty_right k n (five {a} d e) q = absurd (cons-ne-nil n (a ∷ n ∷ []) q)
empty_right k n (six {a} d e) q = absurd (cons-ne-nil (a + 1) (a ∷ n ∷ (a + 1) ∷ a ∷ []) q)
empty_right k n (seven {a} d e) q = absurd (cons-ne-nil n (a ∷ n ∷ (a + 1) ∷ a ∷ []) q)

-- the sides
abbrev SidesByFamily : Kind → ℕ → Rule → Type 0
SidesByFamily k n x =
    (x.family ≡ 1 → (x.left ≡ x.i ∷ x.i ∷ []) × (x.right ≡ []))
    × (x.family ≡ 2 → (x.left ≡ x.i ∷ x.j ∷ []) × (x.right ≡ x.j ∷ x.i ∷ []) × Commuting k n x.i x.j)
    × (x.family ≡ 3 → (x.left ≡ block k n x.i x.j ++ (x.i ∷ []))
    × (x.right ≡ (x.i + 1) ∷ block k n x.i x.j) × (x.i < x.j))
    × (x.family ≡ 4 → (x.left ≡ block k n x.i (2 * n - x.i) ++ ((x.i + 1) ∷ []))
    × (x.right ≡ (x.i + 1) ∷ block k n x.i (2 * n - x.i)))
    × (x.family ≡ 5 → (k ≡ D) × (x.i ≡ n - 2) × (x.left ≡ (n - 2) ∷ n ∷ (n - 2) ∷ []) × (x.right ≡ n ∷ (n - 2) ∷ n ∷ []))
    × (x.family ≡ 6 → (k ≡ D) × (x.i ≡ n - 2)
    × (x.left ≡ block D n (n - 2) (n + 2) ++ (n ∷ [])) × (x.right ≡ (n - 1) ∷ block D n (n - 2) (n + 2)))
    × (x.family ≡ 7 → (k ≡ D) × (x.i ≡ n - 2)
    × (x.left ≡ block D n (n - 2) (n + 2) ++ ((n - 1) ∷ [])) × (x.right ≡ n ∷ block D n (n - 2) (n + 2)))

sides : (k : Kind) (n : ℕ) {x : Rule} → least k ≤ n → Listed k n x → SidesByFamily k n x
sides k n low (square {i} o l) = (
  λ t. (refl, refl),
  λ t. absurd (omega arith),
  λ t. absurd (omega arith),
  λ t. absurd (omega arith),
  λ t. absurd (omega arith),
  λ t. absurd (omega arith),
  λ t. absurd (omega arith),
)
sides k n low (commutation {i} {j} o l g) = (
  λ t. absurd (omega arith),
  λ t. (refl, refl, apart_commuting k n i j g),
  λ t. absurd (omega arith),
  λ t. absurd (omega arith),
  λ t. absurd (omega arith),
  λ t. absurd (omega arith),
  λ t. absurd (omega arith),
)
sides k n low (carry {i} {j} o l g) = (
  λ t. absurd (omega arith),
  λ t. absurd (omega arith),
  λ t. (refl, refl, l),
  λ t. absurd (omega arith),
  λ t. absurd (omega arith),
  λ t. absurd (omega arith),
  λ t. absurd (omega arith),
)
sides k n low (turn {i} o g) = (
  λ t. absurd (omega arith),
  λ t. absurd (omega arith),
  λ t. absurd (omega arith),
  λ t. (refl, refl),
  λ t. absurd (omega arith),
  λ t. absurd (omega arith),
  λ t. absurd (omega arith),
)
sides k n low (five {a} d e) =
    let f = fork k n a low d e in (
      λ t. absurd (omega arith),
      λ t. absurd (omega arith),
      λ t. absurd (omega arith),
      λ t. absurd (omega arith),
      λ t. (f.kind, sym f.place, rw f.place, rw f.place),
      λ t. absurd (omega arith),
      λ t. absurd (omega arith),
    )
sides k n low (six {a} d e) =
    let f = fork k n a low d e in (
      λ t. absurd (omega arith),
      λ t. absurd (omega arith),
      λ t. absurd (omega arith),
      λ t. absurd (omega arith),
      λ t. absurd (omega arith),
      λ t. (f.kind, sym f.place, rw f.shape, rw (f.shape, f.next)),
      λ t. absurd (omega arith),
    )
sides k n low (seven {a} d e) =
    let f = fork k n a low d e in (
      λ t. absurd (omega arith),
      λ t. absurd (omega arith),
      λ t. absurd (omega arith),
      λ t. absurd (omega arith),
      λ t. absurd (omega arith),
      λ t. absurd (omega arith),
      λ t. (f.kind, sym f.place, rw (f.shape, f.next), rw f.shape),
    )

-- ---- every rule

module _ (k : Kind) (n : ℕ) (low : least k ≤ n) (x : Rule) (listed : Memᴰ x (rules k n)) where
  entry : Listed k n x
  entry = listed_of_mem k n low x listed

  -- the families are 1 to 7
  pub family_between : (1 ≤ x.family) × (x.family ≤ 7)
  family_between = between k n entry

  -- R18: i is the first step of the left side, in every family
  pub left_begins : (rest : List ℕ) × (x.left ≡ x.i ∷ rest)
  left_begins = begun k n entry

  -- R18
  pub j_zero : (x.family ≡ 2 → ⊥) → (x.family ≡ 3 → ⊥) → x.j ≡ 0
  j_zero = no_j k n entry

  -- only family 1 has an empty right side
  pub right_empty : x.right ≡ [] → x.family ≡ 1
  right_empty = empty_right k n entry

  -- R2
  pub sides_1 : x.family ≡ 1 → (x.left ≡ x.i ∷ x.i ∷ []) × (x.right ≡ [])
  sides_1 = (sides k n low entry).0

  -- R3, R4, R19
  pub sides_2 : x.family ≡ 2 → (x.left ≡ x.i ∷ x.j ∷ []) × (x.right ≡ x.j ∷ x.i ∷ []) × Commuting k n x.i x.j
  sides_2 = (sides k n low entry).1

  -- R5, R6, R7, R19
  pub sides_3 : x.family ≡ 3 → (x.left ≡ block k n x.i x.j ++ (x.i ∷ []))
      × (x.right ≡ (x.i + 1) ∷ block k n x.i x.j) × (x.i < x.j)
  sides_3 = (sides k n low entry).2

  -- R8, R9
  pub sides_4 : x.family ≡ 4 → (x.left ≡ block k n x.i (2 * n - x.i) ++ ((x.i + 1) ∷ []))
      × (x.right ≡ (x.i + 1) ∷ block k n x.i (2 * n - x.i))
  sides_4 = (sides k n low entry).3

  -- R10
  pub sides_5 : x.family ≡ 5 → (k ≡ D) × (x.i ≡ n - 2) × (x.left ≡ (n - 2) ∷ n ∷ (n - 2) ∷ []) × (x.right ≡ n ∷ (n - 2) ∷ n ∷ [])
  sides_5 = (sides k n low entry).4

  -- R11
  pub sides_6 : x.family ≡ 6 → (k ≡ D) × (x.i ≡ n - 2)
      × (x.left ≡ block D n (n - 2) (n + 2) ++ (n ∷ [])) × (x.right ≡ (n - 1) ∷ block D n (n - 2) (n + 2))
  sides_6 = (sides k n low entry).5

  -- R12
  pub sides_7 : x.family ≡ 7 → (k ≡ D) × (x.i ≡ n - 2)
      × (x.left ≡ block D n (n - 2) (n + 2) ++ ((n - 1) ∷ [])) × (x.right ≡ n ∷ block D n (n - 2) (n + 2))
  sides_7 = (sides k n low entry).6

-- each pair of steps that commute has its rule of family 2
pub commuting-listed : (k : Kind) (n i j : ℕ) → least k ≤ n → 1 ≤ i → j ≤ n → Commuting k n i j → Memᴰ (commuted i j) (rules k n)
commuting-listed k n i j low o l c = mem_of_listed k n low (commutation o l (commuting_apart k n i j l c))

-- ---- equal left sides

-- two rules with one left side are the same rule
pub left_determines : (k : Kind) (n : ℕ) (x y : Rule) → least k ≤ n → Memᴰ x (rules k n) → Memᴰ y (rules k n) → x.left ≡ y.left → x ≡ y
left_determines k n x y low p q e =
    fitting_unique k n (x.left ++ []) 0 low p q (fits-at x [] [])
    (rw e (fits-at y [] []))

-- R4: (n − 1) n is in D's list
pub last_pair_listed : (n : ℕ) → 4 ≤ n → Memᴰ (commuted (n - 1) n) (rules D n)
last_pair_listed n low = mem_of_listed D n low (commutation {i = n - 1} {j = n} (omega arith) (omega arith) (inr (inr (omega arith))))

-- R19: for (n − 1) n
pub last_pair : (n : ℕ) (x : Rule) → 4 ≤ n → Memᴰ x (rules D n) → x.left ≡ (n - 1) ∷ n ∷ [] → (x.family ≡ 2) × (x.i ≡ n - 1) × (x.j ≡ n)
last_pair n x low p e =
    let s : x ≡ commuted (n - 1) n = left_determines D n x (commuted (n - 1) n) low p (last_pair_listed n low) e in
    rw s (refl, refl, refl)
