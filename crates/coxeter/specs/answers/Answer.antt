-- The answer of a call that writes, or that measures a length (I1 of the specification).
use Rattle.std.specs.Prelude.{ℕ, Result, Ok, Err}
use Rattle.coxeter.specs.declared.Refusal.{Refusal}
use Rattle.coxeter.specs.Refusals.{number}

-- I1: the length, or the refusal
pub data Answer : Type 0 where
  Length Refused : ℕ → Answer

-- I1, G17: the number and the value of each case of the code's result
abbrev pub as_answer : Result ℕ Refusal → Answer
as_answer (Ok l) = Length l
as_answer (Err r) = Refused (number r)
