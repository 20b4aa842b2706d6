-- The answer of the rewriting to its end (T22 of the specification).
use Rattle.std.specs.Prelude.{ℕ, Result, Ok, Err}
use Rattle.coxeter.specs.declared.Refusal.{Refusal}
use Rattle.coxeter.specs.Refusals.{number}
use Rattle.traces.specs.declared.Rewriting.{Rewriting}

-- T22: the number of steps with the final word's length, or the refusal
pub data ToEnd : Type 0 where
  Ended : ℕ → ℕ → ToEnd
  Refused : ℕ → ToEnd

-- T22, G17: the number and the values of each case of the code's result
abbrev pub as_to_end : Result Rewriting Refusal → ToEnd
as_to_end (Ok e) = Ended e.steps e.length
as_to_end (Err r) = Refused (number r)
