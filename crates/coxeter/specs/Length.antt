-- The length of a window as three counts (section L of the specification). A plain pair is an inversion here, a
-- pair against a mirrored lane a negative sum pair, a mirrored lane a negative entry.
use Rattle.std.specs.Prelude.{Bool, true, false, List, [], ◌∷◌, map, ℕ, ◌+◌, ◌-◌, ◌*◌, ◌/◌, ltb, ℤ, pos, negsuc, neg_ℤ}
use Rattle.coxeter.specs.declared.Kind.{Kind}
use Rattle.coxeter.specs.declared.Kind.TheVariants.{A, B, D}
use Rattle.coxeter.specs.Kinds.{pick}

-- L1: x stands later than y in the order 1, 2, .., m, −m, .., −2, −1; `negsuc s` is −(s + 1)
unfoldable pub later : ℤ → ℤ → Bool
later (pos a) (pos b) = ltb b a
later (pos a) (negsuc b) = false
later (negsuc a) (pos b) = true
later (negsuc a) (negsuc b) = ltb a b

-- L4: a negative entry, the specification's mirrored lane
unfoldable pub negative : ℤ → Bool
negative (pos a) = false
negative (negsuc a) = true

-- Helper of L2 to L4: 1 if the test holds, else 0.
unfoldable pub one : Bool → ℕ
one t = pick t 1 0

-- L2, L3: how many entries of w the entry x stands later than
unfoldable pub later_than : ℤ → List ℤ → ℕ
later_than x [] = 0
later_than x (y ∷ w) = one (later x y) + later_than x w

-- L2: the plain pairs
unfoldable pub inversions : List ℤ → ℕ
inversions [] = 0
inversions (x ∷ w) = later_than x w + inversions w

-- L3: the pairs against a mirrored lane
unfoldable pub negative_sum_pairs : List ℤ → ℕ
negative_sum_pairs [] = 0
negative_sum_pairs (x ∷ w) = later_than x (map neg_ℤ w) + negative_sum_pairs w

-- L4: the mirrored lanes
unfoldable pub negatives : List ℤ → ℕ
negatives [] = 0
negatives (x ∷ w) = one (negative x) + negatives w

-- L2, L3, L4: the three counts of a length, in this order
pub record Crossings : Type 0 where
  pub inversions : ℕ
  pub negative_sum_pairs : ℕ
  pub negatives : ℕ

-- L2, L3, L4: the counts that the kind has, with 0 for the others
unfoldable pub crossings : Kind → List ℤ → Crossings
crossings A w = record { inversions = inversions w; negative_sum_pairs = 0; negatives = 0 }
crossings B w = record { inversions = inversions w; negative_sum_pairs = negative_sum_pairs w; negatives = negatives w }
crossings D w = record { inversions = inversions w; negative_sum_pairs = negative_sum_pairs w; negatives = 0 }

-- L5: the three together
unfoldable pub total : Crossings → ℕ
total c = c.inversions + c.negative_sum_pairs + c.negatives

-- L5: the length of a window, which is that of its normal form (`length-normal_form`)
unfoldable pub window_length : Kind → List ℤ → ℕ
window_length k w = total (crossings k w)

-- L6: the greatest length of a kind and rank
abbrev pub greatest_length : Kind → ℕ → ℕ
greatest_length A n = n * (n + 1) / 2
greatest_length B n = n * n
greatest_length D n = n * (n - 1)
