-- The refusals and their numbers (CO3 of the specification). A refusal is the number of the check that fails; the code names it by a case of
-- the enum `Refusal`.
use Rattle.std.specs.Prelude.{ℕ, Result, Ok, Err}
use Rattle.coxeter.specs.declared.Refusal.{Refusal}
use Rattle.coxeter.specs.declared.Refusal.TheVariants.{BookSize, BookCount, BookLayout, NoSuchPreset, UnknownKind, RankOutOfRange}
use Rattle.coxeter.specs.declared.Refusal.TheVariants.{WordTooLong, WrongLetter, WindowLength, WrongEntry, OddNegatives, PlacePastEnd}
use Rattle.coxeter.specs.declared.Refusal.TheVariants.{NewBookTooLong, OutputTooShort, ListTooShort, StepAboveRank, WrongLaneCount}
use Rattle.coxeter.specs.declared.Refusal.TheVariants.{TooManyLanes, OutOfReach, NoDelayTable, RetiredGroup}

-- CO3, G17: document 01's number of each case of `Refusal`
abbrev pub number : Refusal → ℕ
number BookSize = 1
number BookCount = 2
number BookLayout = 3
number NoSuchPreset = 4
number UnknownKind = 5
number RankOutOfRange = 6
number WordTooLong = 7
number WrongLetter = 8
number WindowLength = 9
number WrongEntry = 10
number OddNegatives = 11
number PlacePastEnd = 12
number NewBookTooLong = 13
number OutputTooShort = 14
number ListTooShort = 15
number StepAboveRank = 16
number WrongLaneCount = 17
number TooManyLanes = 18
number OutOfReach = 19
number NoDelayTable = 20
number RetiredGroup = 21

-- CO3, G17: the number of the refusal that a result of the code is, or 0 for none
abbrev pub refusal_of : {X : Type 0} → Result X Refusal → ℕ
refusal_of (Ok x) = 0
refusal_of (Err r) = number r
