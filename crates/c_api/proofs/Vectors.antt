-- Numbers that the calls for C answer, and what they leave in their outputs, computed from the definitions at some
-- inputs: a refusal is negative, a length, a verdict and a choice are told apart; fallbacks; the numbers that go to
-- lists, and lists that are too short or empty, which keep every output; kinds and ranks above a byte.
-- Assumes nothing.
use mathlib.Core.Path.{refl}
use mathlib.Core.List.{List, [], ◌∷◌}
use Prim.Native.Nat.{ℕ}
use lib.IntN.{ℤ, pos, negsuc}
use Rattle.coxeter.specs.answers.Answer as answer
use Rattle.coxeter.specs.answers.Verdict as verdict
use Rattle.coxeter.specs.answers.Choice as choices
use Rattle.coxeter.specs.answers.Counted as counted
use Rattle.coxeter.specs.Kinds.{up, kind_of}
use Rattle.coxeter.specs.Checks.{wrong_kind, wrong_rank, too_long, wrong_letter, too_short, rank_refusal, word_refusal}
use Rattle.coxeter.specs.NormalForm.{down, rise, fall, block}
use Rattle.coxeter.specs.Calls.{front}
use Rattle.coxeter.proofs.Vectors.{Agree}
use Rattle.rules.specs.Rules.{concat_map, family1, family2, family3, family4, families5to7, rules, begins, fits, first_fitting, rewritten}
use Rattle.rules.specs.Calls.{past_end, rewrite_by, rewrite_at}
use Rattle.shortest_words.specs.answers.Fallback as fallback
use Rattle.shortest_words.specs.answers.Split as split
use Rattle.traces.specs.answers.ToEnd as to_end
use Rattle.distribution.specs.answers.Table as table
use Rattle.book_format.specs.answers.Opened as opened
use Rattle.book_format.specs.answers.Preset as preset
use Rattle.c_api.specs.Calls.{refused, number_of, verdict_number, choice_number, opened_number}
use Rattle.c_api.specs.Calls.{crossing_numbers, trace_numbers, split_numbers, table_numbers, preset_numbers, listed, listed_beside, rewriting}
use Rattle.c_api.specs.Shortest.{fallback_number}

-- the numbers, each beside what it is
pub numbers : List (ℤ × ℤ)
numbers =
    (number_of (answer.Length 4), pos 4)
    ∷ (number_of (answer.Length 0), pos 0)
    ∷ (number_of (answer.Refused 14), negsuc 13)
    ∷ (verdict_number verdict.Yes, pos 1)
    ∷ (verdict_number verdict.No, pos 0)
    ∷ (verdict_number (verdict.Refused 5), negsuc 4)
    ∷ (choice_number choices.First, pos 1)
    ∷ (choice_number choices.Second, pos 2)
    ∷ (choice_number choices.Neither, pos 0)
    ∷ (opened_number (opened.Presets 2), pos 2)
    ∷ (opened_number (opened.Refused 3), negsuc 2)
    ∷ []

pub numbers_agree : Agree numbers
unfolding numbers refused number_of verdict_number choice_number opened_number
numbers_agree = refl

-- a fallback: a yes with no place kept is not a no
pub fallbacks : List (ℤ × ℤ)
fallbacks =
    (fallback_number (fallback.Kept 2), pos 2)
    ∷ (fallback_number (fallback.Kept 0), pos 0)
    ∷ (fallback_number fallback.No, negsuc 100)
    ∷ (fallback_number (fallback.Refused 14), negsuc 13)
    ∷ []

pub fallbacks_agree : Agree fallbacks
unfolding fallbacks refused fallback_number
fallbacks_agree = refl

-- what goes to a list, beside the number: nothing where that is negative
pub listings : List ((ℤ × List ℕ) × (ℤ × List ℕ))
listings =
    (crossing_numbers (counted.Crossings 1 2 4), (pos 7, 1 ∷ 2 ∷ 4 ∷ []))
    ∷ (crossing_numbers (counted.Refused 8), (negsuc 7, []))
    ∷ (trace_numbers (to_end.Ended 3 1), (pos 3, 1 ∷ []))
    ∷ (trace_numbers (to_end.Ended 0 2), (pos 0, 2 ∷ []))
    ∷ (trace_numbers (to_end.Refused 15), (negsuc 14, []))
    ∷ (split_numbers (split.Words 1 2), (pos 3, 1 ∷ 2 ∷ []))
    ∷ (split_numbers (split.Refused 16), (negsuc 15, []))
    ∷ (table_numbers (table.Written 4 2 3), (pos 3, 4 ∷ 2 ∷ 3 ∷ []))
    ∷ (table_numbers (table.Refused 20), (negsuc 19, []))
    ∷ (preset_numbers (preset.Found 2 3 4 5), (pos 4, 2 ∷ 3 ∷ 4 ∷ 5 ∷ []))
    ∷ (preset_numbers (preset.Refused 8), (negsuc 7, []))
    ∷ []

pub listings_agree : Agree listings
unfolding listings refused crossing_numbers trace_numbers split_numbers table_numbers preset_numbers
listings_agree = refl

-- lists with room, with just enough, with too little and with none; a negative number needs no room
pub lists : List ((ℤ × List ℕ) × (ℤ × List ℕ))
lists =
    (listed (pos 7, 1 ∷ 2 ∷ 4 ∷ []) (9 ∷ 9 ∷ 9 ∷ 9 ∷ []), (pos 7, 1 ∷ 2 ∷ 4 ∷ 9 ∷ []))
    ∷ (listed (pos 7, 1 ∷ 2 ∷ 4 ∷ []) (9 ∷ 9 ∷ 9 ∷ []), (pos 7, 1 ∷ 2 ∷ 4 ∷ []))
    ∷ (listed (pos 7, 1 ∷ 2 ∷ 4 ∷ []) (9 ∷ 9 ∷ []), (negsuc 13, 9 ∷ 9 ∷ []))
    ∷ (listed (pos 0, 0 ∷ 0 ∷ 0 ∷ []) [], (negsuc 13, []))
    ∷ (listed (negsuc 7, []) [], (negsuc 7, []))
    ∷ (listed (negsuc 7, []) (9 ∷ []), (negsuc 7, 9 ∷ []))
    ∷ []

pub lists_agree : Agree lists
unfolding lists refused front listed too_short
lists_agree = refl

-- and beside other outputs, which a list that is too short leaves
pub besides : List ((ℤ × (List ℕ × List ℕ)) × (ℤ × (List ℕ × List ℕ)))
besides =
    (listed_beside (pos 2, 1 ∷ []) (4 ∷ 3 ∷ []) (9 ∷ 9 ∷ []) (8 ∷ 8 ∷ []), (pos 2, (4 ∷ 3 ∷ [], 1 ∷ 8 ∷ [])))
    ∷ (listed_beside (pos 2, 1 ∷ []) (4 ∷ 3 ∷ []) (9 ∷ 9 ∷ []) [], (negsuc 13, (9 ∷ 9 ∷ [], [])))
    ∷ (listed_beside (negsuc 14, []) (9 ∷ 9 ∷ []) (9 ∷ 9 ∷ []) [], (negsuc 14, (9 ∷ 9 ∷ [], [])))
    ∷ []

pub besides_agree : Agree besides
unfolding besides refused front listed_beside too_short
besides_agree = refl

-- one rewrite: 3 4 in D₄, 3 4 in B₄, which no rule fits, and in D₄ again with too short a rule, too short an
-- output, and a place past the end
pub rewritings : List ((ℤ × (List ℕ × List ℕ)) × (ℤ × (List ℕ × List ℕ)))
rewritings =
    (rewriting 3 4 (3 ∷ 4 ∷ []) 0 (9 ∷ 9 ∷ 9 ∷ []) (8 ∷ 8 ∷ 8 ∷ 8 ∷ []), (pos 2, (4 ∷ 3 ∷ 9 ∷ [], 2 ∷ 3 ∷ 4 ∷ 8 ∷ [])))
    ∷ (rewriting 2 4 (3 ∷ 4 ∷ []) 0 (9 ∷ 9 ∷ []) (8 ∷ []), (negsuc 99, (9 ∷ 9 ∷ [], 8 ∷ [])))
    ∷ (rewriting 3 4 (3 ∷ 4 ∷ []) 0 (9 ∷ 9 ∷ []) (8 ∷ 8 ∷ []), (negsuc 13, (9 ∷ 9 ∷ [], 8 ∷ 8 ∷ [])))
    ∷ (rewriting 3 4 (3 ∷ 4 ∷ []) 0 (9 ∷ []) (8 ∷ 8 ∷ 8 ∷ []), (negsuc 13, (9 ∷ [], 8 ∷ 8 ∷ 8 ∷ [])))
    ∷ (rewriting 3 4 (3 ∷ 4 ∷ []) 2 (9 ∷ 9 ∷ []) (8 ∷ 8 ∷ 8 ∷ []), (negsuc 11, (9 ∷ 9 ∷ [], 8 ∷ 8 ∷ 8 ∷ [])))
    ∷ (rewriting 257 4 (3 ∷ 4 ∷ []) 0 (9 ∷ 9 ∷ []) (8 ∷ 8 ∷ 8 ∷ []), (negsuc 4, (9 ∷ 9 ∷ [], 8 ∷ 8 ∷ 8 ∷ [])))
    ∷ (rewriting 3 260 (3 ∷ 4 ∷ []) 0 (9 ∷ 9 ∷ []) (8 ∷ 8 ∷ 8 ∷ []), (negsuc 5, (9 ∷ 9 ∷ [], 8 ∷ 8 ∷ 8 ∷ [])))
    ∷ []

pub rewritings_agree : Agree rewritings
unfolding rewritings refused front rewriting
    kind_of wrong_kind wrong_rank too_long wrong_letter too_short rank_refusal word_refusal up down rise fall block
    concat_map family1 family2 family3 family4 families5to7 rules begins fits first_fitting rewritten past_end rewrite_by rewrite_at
rewritings_agree = refl
