-- Wrong answers of the checks, wrong numbers of lanes and a wrong parity, each of the type of its call's definition.
-- WrongAnswers.antt says where each is wrong.
-- Assumes nothing.
use mathlib.Core.Bool.{Bool, true, false, ◌||◌}
use mathlib.Core.List.{List, map}
use Prim.Native.Nat.{ℕ, ◌+◌, ◌-◌}
use lib.Dec.{eqb, ltb}
use lib.IntN.{ℤ, pos, negsuc, nat_abs}
use lib.ListN.{length}
use Rattle.coxeter.specs.answers.Lanes.{Lanes}
use Rattle.coxeter.specs.answers.Lanes.{Count}
use Rattle.coxeter.specs.declared.Kind.{Kind}
use Rattle.coxeter.specs.Kinds.{pick, kind_of, lanes, least}
use Rattle.coxeter.specs.Length.{negatives}
use Rattle.coxeter.specs.Checks.{check, ◌then◌, wrong_kind, too_long, wrong_letter, odd, rank_refusal}
use Rattle.coxeter.specs.Checks.{word_refusal, window_refusal}
use Rattle.coxeter.specs.Calls.{lanes_of}

-- the checks of a word and of a window, of two presets, and of two words and two windows of one kind and rank, as
-- they should be
abbrev pub word_checks : ℕ → ℕ → List ℕ → ℕ
word_checks k n u = rank_refusal k n then word_refusal n u

abbrev pub window_checks : ℕ → ℕ → List ℤ → ℕ
window_checks k n w = rank_refusal k n then window_refusal (kind_of k) n w

abbrev pub presets_checks : ℕ → ℕ → List ℕ → ℕ → ℕ → List ℕ → ℕ
presets_checks k₁ n₁ u₁ k₂ n₂ u₂ = rank_refusal k₁ n₁ then word_refusal n₁ u₁ then rank_refusal k₂ n₂ then word_refusal n₂ u₂

abbrev pub words_checks : ℕ → ℕ → List ℕ → List ℕ → ℕ
words_checks k n u v = rank_refusal k n then word_refusal n u then word_refusal n v

abbrev pub windows_checks : ℕ → ℕ → List ℤ → List ℤ → ℕ
windows_checks k n u v = rank_refusal k n then window_refusal (kind_of k) n u then window_refusal (kind_of k) n v

-- ---- lanes and entries

abbrev pub lanes_as_the_rank : Kind → ℕ → ℕ
lanes_as_the_rank k n = n

abbrev pub one_lane_more_in_every_kind : Kind → ℕ → ℕ
one_lane_more_in_every_kind k n = n + 1

-- −1 − e for a negative entry, without the 1 after it
abbrev pub size_one_less : ℤ → ℕ
size_one_less (pos a) = a
size_one_less (negsuc a) = a

-- the size as a signed byte, of which 127 is the greatest
abbrev pub size127_at_most : ℤ → ℕ
size127_at_most e = pick (ltb 127 (nat_abs e)) 127 (nat_abs e)

abbrev pub zero_is_negative : ℤ → Bool
zero_is_negative (pos a) = eqb a 0
zero_is_negative (negsuc a) = true

-- the entry as a byte without a sign
abbrev pub none_is_negative : ℤ → Bool
none_is_negative e = false

-- ---- refusals

-- Q1
abbrev pub refuses_every_kind : ℕ → ℕ → ℕ
refuses_every_kind k n = 5

abbrev pub rank64_in_A : ℕ → ℕ → ℕ
rank64_in_A k n = check 5 (wrong_kind k) then check 6 (ltb n (least (kind_of k)) || ltb 64 n)

-- a letter 0 passes as a step
abbrev pub letter_zero_accepted : ℕ → ℕ → List ℕ → ℕ
letter_zero_accepted k n u = rank_refusal k n then check 7 (too_long u) then check 8 (wrong_letter n (map (λ s. pick (eqb s 0) 1 s) u))

abbrev pub word_of4097_letters : ℕ → ℕ → List ℕ → ℕ
word_of4097_letters k n u = rank_refusal k n then check 7 (ltb 4097 (length u)) then check 8 (wrong_letter n u)

abbrev pub letters_before_the_rank : ℕ → ℕ → List ℕ → ℕ
letters_before_the_rank k n u = word_refusal n u then rank_refusal k n

abbrev pub rank_unchecked : ℕ → ℕ → List ℕ → ℕ
rank_unchecked k n u = check 5 (wrong_kind k) then word_refusal n u

abbrev pub second_preset_first : ℕ → ℕ → List ℕ → ℕ → ℕ → List ℕ → ℕ
second_preset_first k₁ n₁ u₁ k₂ n₂ u₂ = presets_checks k₂ n₂ u₂ k₁ n₁ u₁

-- kind and rank of both presets before the words
abbrev pub both_ranks_first : ℕ → ℕ → List ℕ → ℕ → ℕ → List ℕ → ℕ
both_ranks_first k₁ n₁ u₁ k₂ n₂ u₂ = rank_refusal k₁ n₁ then rank_refusal k₂ n₂ then word_refusal n₁ u₁ then word_refusal n₂ u₂

abbrev pub second_word_first : ℕ → ℕ → List ℕ → List ℕ → ℕ
second_word_first k n u v = words_checks k n v u

abbrev pub second_word_unchecked : ℕ → ℕ → List ℕ → List ℕ → ℕ
second_word_unchecked k n u v = word_checks k n u

abbrev pub window_before_the_rank : ℕ → ℕ → List ℤ → ℕ
window_before_the_rank k n w = window_refusal (kind_of k) n w then rank_refusal k n

-- check 11 in every kind
abbrev pub odd_negatives_refused_in_B : ℕ → ℕ → List ℤ → ℕ
odd_negatives_refused_in_B k n w = window_checks k n w then check 11 (odd (negatives w))

abbrev pub second_window_first : ℕ → ℕ → List ℤ → List ℤ → ℕ
second_window_first k n u v = windows_checks k n v u

abbrev pub second_window_unchecked : ℕ → ℕ → List ℤ → List ℤ → ℕ
second_window_unchecked k n u v = window_checks k n u

-- ---- lane counts after the checks

-- how many lanes a kind and a rank, a preset, and two words of one kind and rank have, as they should be
abbrev pub lanes_of_rank : ℕ → ℕ → Lanes
lanes_of_rank k n = lanes_of (rank_refusal k n) (lanes (kind_of k) n)

abbrev pub lanes_of_preset : ℕ → ℕ → List ℕ → Lanes
lanes_of_preset k n u = lanes_of (word_checks k n u) (lanes (kind_of k) n)

abbrev pub lanes_of_words : ℕ → ℕ → List ℕ → List ℕ → Lanes
lanes_of_words k n u v = lanes_of (words_checks k n u v) (lanes (kind_of k) n)

abbrev pub lanes_of_every_rank : ℕ → ℕ → Lanes
lanes_of_every_rank k n = Count (lanes (kind_of k) n)

abbrev pub rank_for_the_lanes : ℕ → ℕ → Lanes
rank_for_the_lanes k n = lanes_of (rank_refusal k n) n

abbrev pub lanes_of_every_word : ℕ → ℕ → List ℕ → Lanes
lanes_of_every_word k n u = lanes_of_rank k n

abbrev pub letters_for_the_lanes : ℕ → ℕ → List ℕ → Lanes
letters_for_the_lanes k n u = lanes_of (word_checks k n u) (length u)

abbrev pub lanes_of_the_first_word : ℕ → ℕ → List ℕ → List ℕ → Lanes
lanes_of_the_first_word k n u v = lanes_of_preset k n u

abbrev pub lanes_of_both_together : ℕ → ℕ → List ℕ → List ℕ → Lanes
lanes_of_both_together k n u v = lanes_of (words_checks k n u v) (lanes (kind_of k) n + lanes (kind_of k) n)

-- ---- parity

-- the flag set at the first negative entry and never flipped back
abbrev pub flag_set_once : List ℤ → Bool
flag_set_once w = ltb 0 (negatives w)

-- the flag flipped at each entry that is not negative
abbrev pub others_flip : List ℤ → Bool
others_flip w = odd (length w - negatives w)
