-- Results of the code and the answers that they are: what a result gives as an answer, and that the answer loses nothing of
-- it, so that a contract which names the answer names the result.
-- Assumes nothing.
use mathlib.Core.Path.{◌≡◌, refl, sym, ap, ◌∙◌}
use mathlib.Core.Bool.{Bool, true, false}
use Prim.Native.Nat.{ℕ}
use lib.Dec.{eqb}
use Rattle.std.specs.Prelude.{Result, Ok, Err, Option, Some, None}
use Rattle.coxeter.specs.declared.Better.{Better}
use Rattle.coxeter.specs.declared.Better.TheVariants as better
use Rattle.coxeter.specs.declared.LengthCounts.{LengthCounts}
use Rattle.coxeter.specs.declared.Refusal.{Refusal}
use Rattle.coxeter.specs.declared.Refusal.TheVariants.{BookSize, BookCount, BookLayout, NoSuchPreset, UnknownKind, RankOutOfRange, WordTooLong, WrongLetter, WindowLength, WrongEntry, OddNegatives}
use Rattle.coxeter.specs.declared.Refusal.TheVariants.{PlacePastEnd, NewBookTooLong, OutputTooShort, ListTooShort, StepAboveRank, WrongLaneCount, TooManyLanes, OutOfReach, NoDelayTable, RetiredGroup}
use Rattle.coxeter.specs.Kinds.{pick}
use Rattle.coxeter.specs.Refusals.{number}
use Rattle.coxeter.specs.answers.Answer.{as_answer}
use Rattle.coxeter.specs.answers.Verdict.{as_verdict}
use Rattle.coxeter.specs.answers.Choice.{as_choice}
use Rattle.coxeter.specs.answers.Counted.{as_counted}
use Rattle.coxeter.proofs.TestLaws.{impossible}

-- ---- refusals

-- the refusal of a number from 1 to 21
named : ℕ → Refusal
named n =
    pick (eqb n 1) BookSize (
    pick (eqb n 2) BookCount (
    pick (eqb n 3) BookLayout (
    pick (eqb n 4) NoSuchPreset (
    pick (eqb n 5) UnknownKind (
    pick (eqb n 6) RankOutOfRange (
    pick (eqb n 7) WordTooLong (
    pick (eqb n 8) WrongLetter (
    pick (eqb n 9) WindowLength (
    pick (eqb n 10) WrongEntry (
    pick (eqb n 11) OddNegatives (
    pick (eqb n 12) PlacePastEnd (
    pick (eqb n 13) NewBookTooLong (
    pick (eqb n 14) OutputTooShort (
    pick (eqb n 15) ListTooShort (
    pick (eqb n 16) StepAboveRank (
    pick (eqb n 17) WrongLaneCount (
    pick (eqb n 18) TooManyLanes (
    pick (eqb n 19) OutOfReach (
    pick (eqb n 20) NoDelayTable (
    RetiredGroup))))))))))))))))))))

named_number : (r : Refusal) → named (number r) ≡ r
unfolding named
named_number BookSize = refl
named_number BookCount = refl
named_number BookLayout = refl
named_number NoSuchPreset = refl
named_number UnknownKind = refl
named_number RankOutOfRange = refl
named_number WordTooLong = refl
named_number WrongLetter = refl
named_number WindowLength = refl
named_number WrongEntry = refl
named_number OddNegatives = refl
named_number PlacePastEnd = refl
named_number NewBookTooLong = refl
named_number OutputTooShort = refl
named_number ListTooShort = refl
named_number StepAboveRank = refl
named_number WrongLaneCount = refl
named_number TooManyLanes = refl
named_number OutOfReach = refl
named_number NoDelayTable = refl
named_number RetiredGroup = refl

-- the number says which refusal it is
pub number_determines : (r s : Refusal) → number r ≡ number s → r ≡ s
number_determines r s e = sym (named_number r) ∙ ap named e ∙ named_number s

-- ---- answers: what each result is, and that no two results are one answer

pub as_answer_determines : (x y : Result ℕ Refusal) → as_answer x ≡ as_answer y → x ≡ y
as_answer_determines (Ok l) (Ok m) e = let s : l ≡ m = cc in ap Ok s
as_answer_determines (Ok l) (Err s) e = impossible cc
as_answer_determines (Err r) (Ok m) e = impossible cc
as_answer_determines (Err r) (Err s) e = let q : number r ≡ number s = cc in ap Err (number_determines r s q)

pub as_verdict_determines : (x y : Result Bool Refusal) → as_verdict x ≡ as_verdict y → x ≡ y
as_verdict_determines (Ok true) (Ok true) e = refl
as_verdict_determines (Ok true) (Ok false) e = impossible cc
as_verdict_determines (Ok false) (Ok true) e = impossible cc
as_verdict_determines (Ok false) (Ok false) e = refl
as_verdict_determines (Ok true) (Err s) e = impossible cc
as_verdict_determines (Ok false) (Err s) e = impossible cc
as_verdict_determines (Err r) (Ok true) e = impossible cc
as_verdict_determines (Err r) (Ok false) e = impossible cc
as_verdict_determines (Err r) (Err s) e = let q : number r ≡ number s = cc in ap Err (number_determines r s q)

pub as_choice_determines : (x y : Option Better) → as_choice x ≡ as_choice y → x ≡ y
as_choice_determines (Some better.First) (Some better.First) e = refl
as_choice_determines (Some better.First) (Some better.Second) e = impossible cc
as_choice_determines (Some better.Second) (Some better.First) e = impossible cc
as_choice_determines (Some better.Second) (Some better.Second) e = refl
as_choice_determines (Some better.First) None e = impossible cc
as_choice_determines (Some better.Second) None e = impossible cc
as_choice_determines None (Some better.First) e = impossible cc
as_choice_determines None (Some better.Second) e = impossible cc
as_choice_determines None None e = refl

pub as_counted_determines : (x y : Result LengthCounts Refusal) → as_counted x ≡ as_counted y → x ≡ y
as_counted_determines (Ok c) (Ok d) e =
    let a : c.inversions ≡ d.inversions = cc in
    let b : c.negative_sum_pairs ≡ d.negative_sum_pairs = cc in
    let n : c.negatives ≡ d.negatives = cc in
    λ i. Ok (record { inversions = a i; negative_sum_pairs = b i; negatives = n i })
as_counted_determines (Ok c) (Err s) e = impossible cc
as_counted_determines (Err r) (Ok d) e = impossible cc
as_counted_determines (Err r) (Err s) e = let q : number r ≡ number s = cc in ap Err (number_determines r s q)
