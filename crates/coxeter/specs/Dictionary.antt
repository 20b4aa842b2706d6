-- The order of words (section O of the specification).
use Rattle.std.specs.Prelude.{Bool, true, false, List, [], ◌∷◌, ℕ, eqb, ltb, length}
use Rattle.coxeter.specs.Kinds.{pick}

-- O1, O2: u comes before v in the dictionary, document 01's order. The HIGHER step comes first.
unfoldable pub before : List ℕ → List ℕ → Bool
before [] [] = false
before [] (b ∷ v) = true
before (a ∷ u) [] = false
before (a ∷ u) (b ∷ v) = pick (eqb a b) (before u v) (ltb b a)

-- N1, V3: u is shorter than v, or as long and earlier in the dictionary
unfoldable pub shortlex : List ℕ → List ℕ → Bool
shortlex u v = pick (eqb (length u) (length v)) (before u v) (ltb (length u) (length v))
