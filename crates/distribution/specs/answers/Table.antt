-- The answer of a delay table (I24 of the specification).
use Rattle.std.specs.Prelude.{ℕ, Result, Ok, Err}
use Rattle.coxeter.specs.declared.Refusal.{Refusal}
use Rattle.coxeter.specs.Refusals.{number}
use Rattle.distribution.specs.declared.TableLengths.{TableLengths}

-- I24: how many numbers, entries and letters were written, or the refusal
pub data Table : Type 0 where
  Written : ℕ → ℕ → ℕ → Table
  Refused : ℕ → Table

-- I24, G17: the number and the values of each case of the code's result
abbrev pub as_table : Result TableLengths Refusal → Table
as_table (Ok t) = Written t.counts t.entries t.letters
as_table (Err r) = Refused (number r)
