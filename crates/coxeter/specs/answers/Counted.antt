-- A length as its three counts (L2, L3 and L4 of the specification).
use Rattle.std.specs.Prelude.{ℕ, Result, Ok, Err}
use Rattle.coxeter.specs.declared.LengthCounts.{LengthCounts}
use Rattle.coxeter.specs.declared.Refusal.{Refusal}
use Rattle.coxeter.specs.Refusals.{number}

-- L2, L3, L4: the inversions, the negative sum pairs and the negative entries, or the refusal
pub data Counted : Type 0 where
  Crossings : ℕ → ℕ → ℕ → Counted
  Refused : ℕ → Counted

-- L2, L3, L4, G17: the number and the values of each case of the code's result
abbrev pub as_counted : Result LengthCounts Refusal → Counted
as_counted (Ok c) = Crossings c.inversions c.negative_sum_pairs c.negatives
as_counted (Err r) = Refused (number r)
