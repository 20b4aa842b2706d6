-- An equality verdict (V1 of the specification).
use Rattle.std.specs.Prelude.{ℕ, Bool, true, false, Result, Ok, Err}
use Rattle.coxeter.specs.declared.Refusal.{Refusal}
use Rattle.coxeter.specs.Refusals.{number}

-- V1: yes, no, or the refusal
pub data Verdict : Type 0 where
  Yes No : Verdict
  Refused : ℕ → Verdict

-- V1, G17: the number and the value of each case of the code's result
abbrev pub as_verdict : Result Bool Refusal → Verdict
as_verdict (Ok true) = Yes
as_verdict (Ok false) = No
as_verdict (Err r) = Refused (number r)
