-- Calls for C that write numbers to a list beside other outputs, whole: what they answer and leave, computed from
-- the definitions at some inputs, with lists that have room, too little or none.
-- Assumes nothing.
use mathlib.Core.Path.{refl}
use mathlib.Core.List.{List, [], ◌∷◌}
use Prim.Native.Nat.{ℕ}
use lib.IntN.{ℤ, pos, negsuc}
use Rattle.coxeter.specs.Kinds.{kind_of, up}
use Rattle.coxeter.specs.Windows.{from, swap, negate_first, swap_negate, act, window_from, identity, window, at, product, signed, place_from, inverse}
use Rattle.coxeter.specs.Length.{later, negative, one, later_than, inversions, negative_sum_pairs, negatives, crossings, total, window_length}
use Rattle.coxeter.specs.Checks.{wrong_kind, wrong_rank, too_long, wrong_letter, too_short, rank_refusal, word_refusal}
use Rattle.coxeter.specs.Checks.{wrong_lanes, has_size, negative_in_A, wrong_at, wrong_entry, odd, odd_negatives, window_refusal}
use Rattle.coxeter.specs.NormalForm.{down, rise, fall, block, without, index_of, rest_of, normal_from, normal_form}
use Rattle.coxeter.specs.Calls.{front, written}
use Rattle.coxeter.proofs.Vectors.{Agree}
use Rattle.rules.specs.Rules.{concat_map, family1, family2, family3, family4, families5to7, rules, begins, fits, first_fitting, rewritten}
use Rattle.shortest_words.specs.Descents.{is_descent}
use Rattle.shortest_words.specs.Allowed.{allows, wrong_set, set_refusal}
use Rattle.shortest_words.specs.Split.{lowest, stripped, rest_inverse, first_word, second_word}
use Rattle.shortest_words.specs.SplitCalls.{split_of, split_outcome, splitting}
use Rattle.traces.specs.Traces.{lowest_from, lowest_redex, trace_within, trace, too_few_places, to_end_of, traced_by, rewriting_to_end}
use Rattle.distribution.specs.AllWindows as all_windows
use Rattle.distribution.specs.Distribution.{of_length, distribution}
use Rattle.distribution.specs.Longest.{all_negative, longest}
use Rattle.distribution.specs.Calls.{untabled, table_refusal, table_of, room_refusal, tables, delay_table}
use Rattle.c_api.specs.Calls.{refused, trace_numbers, split_numbers, table_numbers, listed_beside, rewriting_to_end_listed, splitting_listed, delay_table_listed}

-- a rewriting to its end: of 1 1 nothing is left, so that only the list for its length can be too short; 15 comes
-- before that
pub to_ends : List ((ℤ × ((List ℕ × List ℕ × List ℕ × List ℕ) × List ℕ)) × (ℤ × ((List ℕ × List ℕ × List ℕ × List ℕ) × List ℕ)))
to_ends =
    (rewriting_to_end_listed 1 2 (1 ∷ 1 ∷ []) (9 ∷ []) (9 ∷ []) (9 ∷ []) [] (8 ∷ 8 ∷ []), (pos 1, ((1 ∷ [], 0 ∷ [], 0 ∷ [], []), 0 ∷ 8 ∷ [])))
    ∷ (rewriting_to_end_listed 1 2 (1 ∷ 1 ∷ []) (9 ∷ []) (9 ∷ []) (9 ∷ []) [] [], (negsuc 13, ((9 ∷ [], 9 ∷ [], 9 ∷ [], []), [])))
    ∷ (rewriting_to_end_listed 1 2 (1 ∷ 1 ∷ []) (9 ∷ []) [] (9 ∷ []) [] [], (negsuc 14, ((9 ∷ [], [], 9 ∷ [], []), [])))
    ∷ (rewriting_to_end_listed 1 2 (2 ∷ 1 ∷ []) [] [] [] (9 ∷ 9 ∷ 9 ∷ []) (8 ∷ []), (pos 0, (([], [], [], 2 ∷ 1 ∷ 9 ∷ []), 2 ∷ [])))
    ∷ (rewriting_to_end_listed 1 2 (2 ∷ 1 ∷ []) [] [] [] (9 ∷ []) (8 ∷ []), (negsuc 13, (([], [], [], 9 ∷ []), 8 ∷ [])))
    ∷ (rewriting_to_end_listed 1 258 (1 ∷ 1 ∷ []) [] [] [] [] [], (negsuc 5, (([], [], [], []), [])))
    ∷ []

pub to_ends_agree : Agree to_ends
unfolding to_ends refused trace_numbers listed_beside rewriting_to_end_listed
    kind_of wrong_kind wrong_rank too_long wrong_letter too_short rank_refusal word_refusal up down rise fall block
    concat_map family1 family2 family3 family4 families5to7 rules begins fits first_fitting rewritten
    front written lowest_from lowest_redex trace_within trace too_few_places to_end_of traced_by rewriting_to_end
to_ends_agree = refl

-- a split of 1 2 1 in A₂ with step 1 allowed; a list too short, and an output too short; a bit above the rank, with
-- no list at all
pub splits : List ((ℤ × ((List ℕ × List ℕ) × List ℕ)) × (ℤ × ((List ℕ × List ℕ) × List ℕ)))
splits =
    (splitting_listed 1 2 1 (1 ∷ 2 ∷ 1 ∷ []) (9 ∷ 9 ∷ []) (9 ∷ 9 ∷ []) (8 ∷ 8 ∷ 8 ∷ []), (pos 3, ((1 ∷ 9 ∷ [], 2 ∷ 1 ∷ []), 1 ∷ 2 ∷ 8 ∷ [])))
    ∷ (splitting_listed 1 2 1 (1 ∷ 2 ∷ 1 ∷ []) (9 ∷ 9 ∷ []) (9 ∷ 9 ∷ []) (8 ∷ []), (negsuc 13, ((9 ∷ 9 ∷ [], 9 ∷ 9 ∷ []), 8 ∷ [])))
    ∷ (splitting_listed 1 2 1 (1 ∷ 2 ∷ 1 ∷ []) (9 ∷ 9 ∷ []) (9 ∷ []) (8 ∷ 8 ∷ []), (negsuc 13, ((9 ∷ 9 ∷ [], 9 ∷ []), 8 ∷ 8 ∷ [])))
    ∷ (splitting_listed 1 2 1 [] [] [] [], (negsuc 13, (([], []), [])))
    ∷ (splitting_listed 1 2 4 (1 ∷ []) (9 ∷ []) (9 ∷ []) [], (negsuc 15, ((9 ∷ [], 9 ∷ []), [])))
    ∷ []

pub splits_agree : Agree splits
unfolding splits refused split_numbers listed_beside splitting_listed
    splitting split_outcome split_of front written first_word second_word rest_inverse stripped lowest is_descent allows wrong_set set_refusal kind_of up
    from swap negate_first swap_negate act window_from identity window at product signed place_from inverse
    later negative one later_than inversions negative_sum_pairs negatives crossings total window_length
    wrong_kind wrong_rank too_long wrong_letter too_short rank_refusal word_refusal down rise fall block without index_of rest_of normal_from normal_form
splits_agree = refl

-- the delay table of A₁: its two windows have length 0 and 1; a list too short, and none at all for a rank without
-- a table
pub delay_tables : List ((ℤ × ((List ℕ × List ℤ × List ℕ) × List ℕ)) × (ℤ × ((List ℕ × List ℤ × List ℕ) × List ℕ)))
delay_tables = (
  delay_table_listed 1 1 (9 ∷ 9 ∷ 9 ∷ []) (pos 9 ∷ pos 9 ∷ []) (9 ∷ 9 ∷ []) (8 ∷ 8 ∷ 8 ∷ 8 ∷ []),
  (pos 1, ((1 ∷ 1 ∷ 9 ∷ [], pos 2 ∷ pos 1 ∷ [], 1 ∷ 9 ∷ []), 2 ∷ 2 ∷ 1 ∷ 8 ∷ [])),
)
    ∷ (
      delay_table_listed 1 1 (9 ∷ 9 ∷ []) (pos 9 ∷ pos 9 ∷ []) (9 ∷ []) (8 ∷ 8 ∷ []),
      (negsuc 13, ((9 ∷ 9 ∷ [], pos 9 ∷ pos 9 ∷ [], 9 ∷ []), 8 ∷ 8 ∷ [])),
    )
    ∷ (delay_table_listed 1 20 [] [] [] [], (negsuc 19, (([], [], []), [])))
    ∷ []

pub delay_tables_agree : Agree delay_tables
unfolding delay_tables refused table_numbers listed_beside delay_table_listed
    kind_of up from negate_first signed place_from later negative one later_than inversions negative_sum_pairs negatives crossings total window_length
    wrong_kind wrong_rank wrong_lanes has_size negative_in_A wrong_at wrong_entry odd odd_negatives too_short rank_refusal window_refusal
    down rise fall block without index_of rest_of normal_from normal_form front written
    all_windows.keep all_windows.cons_all all_windows.lists all_windows.possible_entries all_windows.windows of_length distribution all_negative longest
    untabled table_refusal table_of room_refusal tables delay_table
delay_tables_agree = refl
