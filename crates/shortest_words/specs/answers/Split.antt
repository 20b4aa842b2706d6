-- The answer of a split (I22 of the specification).
use Rattle.std.specs.Prelude.{ℕ, Result, Ok, Err}
use Rattle.coxeter.specs.declared.Refusal.{Refusal}
use Rattle.coxeter.specs.Refusals.{number}
use Rattle.shortest_words.specs.declared.SplitLengths.{SplitLengths}

-- I22: the lengths of the two words, or the refusal
pub data Split : Type 0 where
  Words : ℕ → ℕ → Split
  Refused : ℕ → Split

-- I22, G17: the number and the values of each case of the code's result
abbrev pub as_split : Result SplitLengths Refusal → Split
as_split (Ok s) = Words s.first s.second
as_split (Err r) = Refused (number r)
