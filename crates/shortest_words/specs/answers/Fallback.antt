-- The verdict on a fallback (I18 of the specification).
use Rattle.std.specs.Prelude.{ℕ, Option, Some, None, Result, Ok, Err}
use Rattle.coxeter.specs.declared.Refusal.{Refusal}
use Rattle.coxeter.specs.Refusals.{number}

-- I18: how many places are kept, or no, or the refusal
pub data Fallback : Type 0 where
  Kept : ℕ → Fallback
  No : Fallback
  Refused : ℕ → Fallback

-- I18, G17: the number and the value of each case of the code's result
abbrev pub as_fallback : Result (Option ℕ) Refusal → Fallback
as_fallback (Ok (Some l)) = Kept l
as_fallback (Ok None) = No
as_fallback (Err r) = Refused (number r)
