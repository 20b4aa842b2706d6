-- The Coxeter relations and the congruence that they generate (section E of the specification).
use Rattle.std.specs.Prelude.{◌≡◌, ◌⊎◌, List, [], ◌∷◌, ◌++◌, ℕ, ◌+◌, ◌≤◌, ◌<◌}
use Rattle.coxeter.specs.declared.Kind.{Kind}
use Rattle.coxeter.specs.declared.Kind.TheVariants.{A, B, D}

-- E2, E5: a < b satisfy a b a = b a b. Document 01's neighbours, without the pair of E4.
abbrev pub Neighbours : Kind → ℕ → ℕ → ℕ → Type 0
Neighbours A n a b = a + 1 ≡ b
Neighbours B n a b = (a + 1 ≡ b) × (b < n)
Neighbours D n a b = ((a + 1 ≡ b) × (b < n)) ⊎ ((a + 2 ≡ b) × (b ≡ n))

-- E4: a < b satisfy a b a b = b a b a
abbrev pub FourfoldPair : Kind → ℕ → ℕ → ℕ → Type 0
FourfoldPair A n a b = ⊥
FourfoldPair B n a b = (a + 1 ≡ b) × (b ≡ n)
FourfoldPair D n a b = ⊥

-- E3: a < b satisfy a b = b a; in kind D n − 1 and n are such a pair (E5)
abbrev pub Commuting : Kind → ℕ → ℕ → ℕ → Type 0
Commuting k n a b = (a < b) × (Neighbours k n a b → ⊥) × (FourfoldPair k n a b → ⊥)

-- E2, E3, E4: the relations with sides of equal length, for steps a < b from 1 to n
pub data Braid (k : Kind) (n : ℕ) : List ℕ → List ℕ → Type 0 where
  threefold : {a b : ℕ} → 1 ≤ a → b ≤ n → Neighbours k n a b → Braid k n (a ∷ b ∷ a ∷ []) (b ∷ a ∷ b ∷ [])
  fourfold : {a b : ℕ} → 1 ≤ a → b ≤ n → FourfoldPair k n a b → Braid k n (a ∷ b ∷ a ∷ b ∷ []) (b ∷ a ∷ b ∷ a ∷ [])
  commute : {a b : ℕ} → 1 ≤ a → b ≤ n → Commuting k n a b → Braid k n (a ∷ b ∷ []) (b ∷ a ∷ [])

-- E1, and the relations above: document 01's defining relations
pub data Relation (k : Kind) (n : ℕ) : List ℕ → List ℕ → Type 0 where
  twice : {a : ℕ} → 1 ≤ a → a ≤ n → Relation k n (a ∷ a ∷ []) []
  braid : {l r : List ℕ} → Braid k n l r → Relation k n l r

-- E6: one application of a relation, in either direction; x and y may be empty
pub data Application (R : List ℕ → List ℕ → Type 0) : List ℕ → List ℕ → Type 0 where
  forth : (x y : List ℕ) {l r : List ℕ} → R l r → Application R (x ++ (l ++ y)) (x ++ (r ++ y))
  back : (x y : List ℕ) {l r : List ℕ} → R l r → Application R (x ++ (r ++ y)) (x ++ (l ++ y))

-- E7, E8: R turns one word into the other, by a list of applications that may be empty
pub data Congruent (R : List ℕ → List ℕ → Type 0) : List ℕ → List ℕ → Type 0 where
  alone : {u : List ℕ} → Congruent R u u
  next : {u v w : List ℕ} → Application R u v → Congruent R v w → Congruent R u w
