-- Which of two words is the better one (I17 of the specification).
use Rattle.std.specs.Prelude.{Option, Some, None}
use Rattle.coxeter.specs.declared.Better.{Better}
use Rattle.coxeter.specs.declared.Better.TheVariants as better

-- I17: the first, the second or neither
pub data Choice : Type 0 where
  First Second Neither : Choice

-- I17, G17: the value of each case of the code's result
abbrev pub as_choice : Option Better → Choice
as_choice (Some better.First) = First
as_choice (Some better.Second) = Second
as_choice None = Neither
