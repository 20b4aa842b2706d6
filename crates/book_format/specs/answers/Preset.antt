-- The answer of reading a preset (I26 of the specification).
use Rattle.std.specs.Prelude.{ℕ, Result, Ok, Err}
use Rattle.coxeter.specs.Kinds.{kind_number}
use Rattle.coxeter.specs.declared.Refusal.{Refusal}
use Rattle.coxeter.specs.Refusals.{number}
use Rattle.book_format.specs.declared.Preset as code

-- I26: the kind and the rank of a preset, where its letters begin in the book and how many they are, or the refusal
pub data Preset : Type 0 where
  Found : ℕ → ℕ → ℕ → ℕ → Preset
  Refused : ℕ → Preset

-- I26, G17: the number and the values of each case of the code's result
abbrev pub as_preset : Result code.Preset Refusal → Preset
as_preset (Ok p) = Found (kind_number p.group.kind) p.group.rank p.start p.length
as_preset (Err r) = Refused (number r)
