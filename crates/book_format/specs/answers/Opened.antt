-- The answer of opening a book (I25 of the specification).
use Rattle.std.specs.Prelude.{ℕ, Result, Ok, Err}
use Rattle.coxeter.specs.declared.Refusal.{Refusal}
use Rattle.coxeter.specs.Refusals.{number}

-- I25: the number of presets of a book, or the refusal
pub data Opened : Type 0 where
  Presets Refused : ℕ → Opened

-- I25, G17: the number and the value of each case of the code's result
abbrev pub as_opened : Result ℕ Refusal → Opened
as_opened (Ok c) = Presets c
as_opened (Err r) = Refused (number r)
