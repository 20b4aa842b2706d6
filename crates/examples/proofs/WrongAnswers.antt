-- Wrong routers (section Q of the specification, and others): a wrong answer for each, and an input at which the
-- call's definition says otherwise. A contract that is an equation with the definition then lets none of them
-- through. The wrong answers are in WrongChecks, WrongWindows, WrongRewrites, WrongTraces, WrongShortest, WrongSplits,
-- WrongTables, WrongBooks and WrongMessages; that each row is wrong is `ruled_out` of WrongRouters.antt, and of the
-- further rows `further_ruled_out` there. Not here: what shows only at books too large to compute with, in that file
-- too, and parts and places handed back, in HandedBack.antt.
-- Assumes nothing.
use mathlib.Core.List.{List, [], ◌∷◌}
use Prim.Native.Nat.{ℕ}
use lib.IntN.{ℤ, pos, nat_abs}
use lib.ListN.{replicate}
use Rattle.coxeter.specs.answers.Answer.{Answer}
use Rattle.coxeter.specs.answers.Verdict.{Verdict}
use Rattle.coxeter.specs.answers.Choice.{Choice}
use Rattle.coxeter.specs.answers.Counted.{Counted}
use Rattle.coxeter.specs.answers.Lanes.{Lanes}
use Rattle.coxeter.specs.declared.Kind.TheVariants.{A, B}
use Rattle.coxeter.specs.Kinds.{pick, lanes}
use Rattle.coxeter.specs.Length.{negative}
use Rattle.coxeter.specs.Checks.{rank_refusal}
use Rattle.coxeter.specs.Parity.{flag_after}
use Rattle.coxeter.specs.Calls.{Outcome, window_of_word, product_of_windows, inverse_of_window, normal_form_of_window, normal_form_of_word}
use Rattle.coxeter.specs.Calls.{product_of_words, inverse_of_word, length_of_window, length_of_word, crossings_of_window, crossings_of_word, presets_equal}
use Rattle.rules.specs.Calls.{Transition, single}
use Rattle.shortest_words.specs.answers.Fallback.{Fallback}
use Rattle.shortest_words.specs.Calls.{fallback_answer}
use Rattle.shortest_words.specs.SplitCalls.{SplitOutcome, splitting}
use Rattle.shortest_words.specs.BetweenCalls.{between_windows}
use Rattle.traces.specs.Traces.{Traced, rewriting_to_end, number_of_steps}
use Rattle.distribution.specs.Calls.{Tabled, table_refusal, delay_table}
use Rattle.book_format.specs.declared.Edition.TheVariants.{First, Second}
use Rattle.book_format.specs.answers.Opened.{Opened}
use Rattle.book_format.specs.answers.Preset.{Preset}
use Rattle.book_format.specs.Calls.{checked_book, checked_preset, reading_presets, appending}
use Rattle.book_format.specs.Conversion.{converting}
use Rattle.listing_text.specs.Text.{refused_line, refused_book_line, count_line, word_line}
use Rattle.listing_text.specs.Calls.{Piecing, next_piece}
use Rattle.messages.specs.Messages.{refusal_message}
use Rattle.examples.specs.Examples.{neg}
use Rattle.examples.proofs.WrongChecks.{lanes_as_the_rank, one_lane_more_in_every_kind, size_one_less, size127_at_most, zero_is_negative, none_is_negative, rank64_in_A}
use Rattle.examples.proofs.WrongChecks.{refuses_every_kind, letter_zero_accepted, word_of4097_letters, word_checks, letters_before_the_rank, rank_unchecked}
use Rattle.examples.proofs.WrongChecks.{presets_checks, second_preset_first, both_ranks_first, words_checks, second_word_first, second_word_unchecked, lanes_of_rank}
use Rattle.examples.proofs.WrongChecks.{window_checks, window_before_the_rank, odd_negatives_refused_in_B, windows_checks, second_window_first, lanes_of_preset}
use Rattle.examples.proofs.WrongChecks.{second_window_unchecked, lanes_of_words, lanes_of_every_rank, rank_for_the_lanes, lanes_of_every_word, letters_for_the_lanes}
use Rattle.examples.proofs.WrongChecks.{lanes_of_the_first_word, lanes_of_both_together, flag_set_once, others_flip}
use Rattle.examples.proofs.WrongWindows.{turns_every_preset_down, identity_for_all_words, swaps_values, step_of_B_in_D, refused_call_writes, clears_the_output, better}
use Rattle.examples.proofs.WrongWindows.{unshortened_word, peels_only_block1, stops_at_a_shortest_word, room_for_the_rank_only, block1_alone, entries_before_lanes}
use Rattle.examples.proofs.WrongWindows.{odd_negatives_accepted, block_turns_early_in_B, index_one_off_on_the_way_down, last_entry_kept_in_D, product_in_wrong_order}
use Rattle.examples.proofs.WrongWindows.{second_window_checked_first, window_as_its_inverse, inverse_without_signs, words_joined_the_other_way, word_as_its_inverse}
use Rattle.examples.proofs.WrongWindows.{words_joined_unshortened, reversed_unshortened, letter_total, usual_order_of_a_window, usual_order_of_a_word, kinds_compared}
use Rattle.examples.proofs.WrongWindows.{negatives_not_counted, negates_before_its_range, ranks_not_compared, kind_of_the_first_for_both, second_preset_refused_first}
use Rattle.examples.proofs.WrongWindows.{later_word_handed_back, windows_not_compared, second_of_equal_words, form_of_product, form_of_inverse, form_between}
use Rattle.examples.proofs.WrongWindows.{product_the_other_way_round, second_window_alone, inverse_not_taken, inverse_form_without_signs, from_second_to_first}
use Rattle.examples.proofs.WrongWindows.{first_not_inverted, mirrored_lanes_counted_in_D, pairs_exchanged, length_as_plain_pairs, letters_as_plain_pairs}
use Rattle.examples.proofs.WrongWindows.{counts_of_the_inverse}
use Rattle.examples.proofs.WrongRewrites.{rewrite_single, none_fits_without_looking, none_fits_for_want_of_room, rule_of_B_in_D, family3_one_too_far_in_B, word_copied_first}
use Rattle.examples.proofs.WrongRewrites.{family4_as_family3, replaced_one_place_to_the_left, place_at_the_end_accepted, room_checked_before_the_rule}
use Rattle.examples.proofs.WrongTraces.{search_behind_the_last_place, output_before_the_lists, letters_counted, shortening_steps_counted}
use Rattle.examples.proofs.WrongShortest.{verdict_by_length_alone, present_word_unshortened, room_asked_for_a_no, way_back, letters_not_asked, room_before_the_way}
use Rattle.examples.proofs.WrongShortest.{windows_before_the_set, bits_one_off}
use Rattle.examples.proofs.WrongSplits.{words_swapped, bit0_for_step2, one_step_left, set_checked_after_the_word, one_bit_too_many, first_word_written_first}
use Rattle.examples.proofs.WrongSplits.{split_checks, word_before_the_set, last_step_refused}
use Rattle.examples.proofs.WrongTables.{rank20_in_A, factor_left_out, running_totals, identity_as_longest, room_of_the_list_only, list_written_first, every_rank_tabled}
use Rattle.examples.proofs.WrongTables.{limit_of_A_in_every_kind, table_before_the_rank}
use Rattle.examples.proofs.WrongBooks.{no_bytes_refused, one_byte_accepted, no_presets_refused3, retired_not_read, retired_appended, retired_before_letters}
use Rattle.examples.proofs.WrongBooks.{retired_in_every_kind, count_high_byte_first, offset_against_the_trailer, last_record_may_stop_early, opens_other_bytes, run_from}
use Rattle.examples.proofs.WrongBooks.{one_preset_too_many, preset0_for_every_number, lane_count_before_rank, lane_count_is_the_rank, ranges_of_the_first, handed_out}
use Rattle.examples.proofs.WrongBooks.{ranges_of_the_second, letters_one_byte_early, lane_count_left_out, letters_from_the_record, refused_preset_hands_out_letters}
use Rattle.examples.proofs.WrongBooks.{last_offset_dropped, kind_and_rank_swapped, last_record_dropped, lane_limit_first, later_records_unchecked, length_before_rank}
use Rattle.examples.proofs.WrongBooks.{count_without_line_feed, book_refusal_always1, preset_refusal_always1, minus_left_out, no_preset_line, last_line_left_out}
use Rattle.examples.proofs.WrongBooks.{line_cut_off, last_byte_unused, zeros_past_the_last, fields_of_a_refused_record, room_before_the_number, run_from_the_next}
use Rattle.examples.proofs.WrongBooks.{last_preset_again, refused_book, book_left_out, refused_book_cut_off}
use Rattle.examples.proofs.WrongMessages.{message_of_the_next, message_for_none, message_cut_off}

-- what a call returns: its answer, with the output afterwards if it writes one
pub data Result : Type 0 where
  entries : Outcome ℤ → Result
  bytes : Outcome ℕ → Result
  rewrite : Transition single → Result
  traced : Traced → Result
  tabled : Tabled → Result
  split : SplitOutcome → Result
  piece : Piecing → Result
  answer : Answer → Result
  verdict : Verdict → Result
  choice : Choice → Result
  counted : Counted → Result
  lane_count : Lanes → Result
  fallback : Fallback → Result
  opened : Opened → Result
  preset : Preset → Result
  run : Opened × ℕ × List Preset → Result
  number : ℕ → Result
  part : ℕ × List ℕ → Result
  text : List ℕ → Result

-- what the call returns at an input, and what the wrong router returns there
pub record WrongRouter : Type 0 where
  pub right : Result
  pub wrong : Result

-- the call, the wrong router in its place, and the input, the same for both
abbrev pub differ : {X : Type 0} → X → X → (X → Result) → WrongRouter
differ call other at = record { right = at call; wrong = at other }

-- so many bytes, or entries, as they were lent
abbrev lent : ℕ → List ℕ
lent m = replicate m 9

abbrev lent_entries : ℕ → List ℤ
lent_entries m = replicate m (pos 9)

-- a book of one preset, A₁ with the empty word
abbrev one : List ℕ
one = 1 ∷ 1 ∷ 0 ∷ 0 ∷ 0 ∷ 0 ∷ 1 ∷ 0 ∷ []

unfoldable pub table : List WrongRouter
table =
    -- lanes and entries
    differ lanes lanes_as_the_rank (λ f. number (f A 2))
    ∷ differ lanes one_lane_more_in_every_kind (λ f. number (f B 2))
    ∷ differ nat_abs size_one_less (λ f. number (f (neg 1)))
    ∷ differ nat_abs size127_at_most (λ f. number (f (neg 128)))
    ∷ differ negative zero_is_negative (λ f. number (pick (f (pos 0)) 1 0))
    ∷ differ negative none_is_negative (λ f. number (pick (f (neg 1)) 1 0))
    -- refusals
    ∷ differ rank_refusal refuses_every_kind (λ f. number (f 1 2))
    ∷ differ rank_refusal rank64_in_A (λ f. number (f 1 64))
    ∷ differ word_checks letter_zero_accepted (λ f. number (f 1 2 (1 ∷ 0 ∷ [])))
    ∷ differ word_checks word_of4097_letters (λ f. number (f 1 2 (replicate 4097 1)))
    ∷ differ word_checks letters_before_the_rank (λ f. number (f 4 2 (3 ∷ [])))
    ∷ differ word_checks rank_unchecked (λ f. number (f 1 64 []))
    ∷ differ presets_checks second_preset_first (λ f. number (f 1 2 (3 ∷ []) 4 2 []))
    ∷ differ presets_checks both_ranks_first (λ f. number (f 1 2 (3 ∷ []) 4 2 []))
    ∷ differ words_checks second_word_first (λ f. number (f 1 2 (3 ∷ []) (replicate 4097 1)))
    ∷ differ words_checks second_word_unchecked (λ f. number (f 1 2 [] (3 ∷ [])))
    ∷ differ window_checks window_before_the_rank (λ f. number (f 4 2 []))
    ∷ differ window_checks odd_negatives_refused_in_B (λ f. number (f 2 2 (neg 1 ∷ pos 2 ∷ [])))
    ∷ differ windows_checks second_window_first (λ f. number (f 2 2 (pos 1 ∷ pos 1 ∷ []) (pos 1 ∷ [])))
    ∷ differ windows_checks second_window_unchecked (λ f. number (f 2 2 (pos 1 ∷ pos 2 ∷ []) (pos 1 ∷ [])))
    -- the window of a word
    ∷ differ window_of_word turns_every_preset_down (λ f. entries (f 1 2 (1 ∷ 2 ∷ []) (lent_entries 3)))
    ∷ differ window_of_word identity_for_all_words (λ f. entries (f 1 2 (1 ∷ 2 ∷ []) (lent_entries 3)))
    ∷ differ window_of_word swaps_values (λ f. entries (f 1 2 (1 ∷ 2 ∷ []) (lent_entries 3)))
    ∷ differ window_of_word step_of_B_in_D (λ f. entries (f 3 4 (4 ∷ []) (lent_entries 4)))
    ∷ differ window_of_word refused_call_writes (λ f. entries (f 1 2 (3 ∷ []) (lent_entries 3)))
    ∷ differ window_of_word clears_the_output (λ f. entries (f 1 2 (1 ∷ []) (lent_entries 4)))
    -- the normal form of a word
    ∷ differ normal_form_of_word unshortened_word (λ f. bytes (f 1 2 (1 ∷ 1 ∷ []) (lent 2)))
    ∷ differ normal_form_of_word peels_only_block1 (λ f. bytes (f 1 3 (2 ∷ 3 ∷ 2 ∷ []) (lent 3)))
    ∷ differ normal_form_of_word stops_at_a_shortest_word (λ f. bytes (f 1 2 (1 ∷ 2 ∷ 1 ∷ []) (lent 3)))
    ∷ differ normal_form_of_word room_for_the_rank_only (λ f. bytes (f 2 2 (1 ∷ 2 ∷ 1 ∷ 2 ∷ []) (lent 3)))
    -- the normal form of a window
    ∷ differ normal_form_of_window block1_alone (λ f. bytes (f 1 2 (pos 3 ∷ pos 2 ∷ pos 1 ∷ []) (lent 3)))
    ∷ differ normal_form_of_window entries_before_lanes (λ f. bytes (f 1 2 (pos 0 ∷ pos 1 ∷ []) (lent 3)))
    ∷ differ normal_form_of_window odd_negatives_accepted (λ f. bytes (f 3 4 (neg 1 ∷ pos 2 ∷ pos 3 ∷ pos 4 ∷ []) (lent 12)))
    ∷ differ normal_form_of_window block_turns_early_in_B (λ f. bytes (f 2 2 (neg 1 ∷ pos 2 ∷ []) (lent 4)))
    ∷ differ normal_form_of_window index_one_off_on_the_way_down (λ f. bytes (f 2 2 (neg 1 ∷ pos 2 ∷ []) (lent 4)))
    ∷ differ normal_form_of_window last_entry_kept_in_D (λ f. bytes (f 3 4 (neg 1 ∷ pos 2 ∷ pos 4 ∷ neg 3 ∷ []) (lent 12)))
    -- products and inverses
    ∷ differ product_of_windows product_in_wrong_order (λ f. entries (f 2 2 (neg 2 ∷ pos 1 ∷ []) (pos 2 ∷ pos 1 ∷ []) (lent_entries 2)))
    ∷ differ product_of_windows second_window_checked_first (λ f. entries (f 2 2 (pos 1 ∷ pos 1 ∷ []) (pos 1 ∷ []) (lent_entries 2)))
    ∷ differ inverse_of_window window_as_its_inverse (λ f. entries (f 2 2 (neg 2 ∷ pos 1 ∷ []) (lent_entries 2)))
    ∷ differ inverse_of_window inverse_without_signs (λ f. entries (f 2 2 (neg 2 ∷ pos 1 ∷ []) (lent_entries 2)))
    ∷ differ product_of_words words_joined_the_other_way (λ f. bytes (f 1 2 (1 ∷ []) (2 ∷ []) (lent 2)))
    ∷ differ product_of_words words_joined_unshortened (λ f. bytes (f 1 2 (1 ∷ []) (1 ∷ []) (lent 2)))
    ∷ differ inverse_of_word word_as_its_inverse (λ f. bytes (f 1 2 (1 ∷ 2 ∷ []) (lent 2)))
    ∷ differ inverse_of_word reversed_unshortened (λ f. bytes (f 1 2 (1 ∷ 2 ∷ 1 ∷ []) (lent 3)))
    -- lengths; by the usual order the last step alone would get a length above 1 (Q8)
    ∷ differ length_of_word letter_total (λ f. answer (f 1 2 (1 ∷ 1 ∷ [])))
    ∷ differ length_of_word usual_order_of_a_word (λ f. answer (f 2 2 (2 ∷ [])))
    ∷ differ length_of_word usual_order_of_a_word (λ f. answer (f 3 4 (4 ∷ [])))
    ∷ differ length_of_window usual_order_of_a_window (λ f. answer (f 2 2 (pos 1 ∷ neg 2 ∷ [])))
    ∷ differ length_of_window negatives_not_counted (λ f. answer (f 2 2 (pos 1 ∷ neg 2 ∷ [])))
    ∷ differ length_of_window negates_before_its_range (λ f. answer (f 2 2 (neg 128 ∷ pos 1 ∷ [])))
    -- verdicts
    ∷ differ presets_equal ranks_not_compared (λ f. verdict (f 1 2 [] 1 3 []))
    ∷ differ presets_equal kinds_compared (λ f. verdict (f 2 4 [] 3 4 []))
    ∷ differ presets_equal kind_of_the_first_for_both (λ f. verdict (f 1 2 [] 2 2 []))
    ∷ differ presets_equal second_preset_refused_first (λ f. verdict (f 1 2 (3 ∷ []) 4 2 []))
    -- the better of two words
    ∷ differ better later_word_handed_back (λ f. choice (f 1 2 (1 ∷ 2 ∷ 1 ∷ []) (2 ∷ 1 ∷ 2 ∷ [])))
    ∷ differ better windows_not_compared (λ f. choice (f 1 2 (1 ∷ []) (2 ∷ [])))
    ∷ differ better second_of_equal_words (λ f. choice (f 1 2 (1 ∷ []) (1 ∷ [])))
    -- one rewrite
    ∷ differ rewrite_single none_fits_without_looking (λ f. rewrite (f 1 2 (1 ∷ 1 ∷ []) 0 (lent 2)))
    ∷ differ rewrite_single none_fits_for_want_of_room (λ f. rewrite (f 1 3 (1 ∷ 3 ∷ []) 0 []))
    ∷ differ rewrite_single rule_of_B_in_D (λ f. rewrite (f 3 4 (2 ∷ 4 ∷ []) 0 (lent 2)))
    ∷ differ rewrite_single family3_one_too_far_in_B (λ f. rewrite (f 2 2 (1 ∷ 2 ∷ 1 ∷ []) 0 (lent 3)))
    ∷ differ rewrite_single family4_as_family3 (λ f. rewrite (f 2 2 (1 ∷ 2 ∷ 1 ∷ 2 ∷ []) 0 (lent 4)))
    ∷ differ rewrite_single replaced_one_place_to_the_left (λ f. rewrite (f 1 2 (2 ∷ 1 ∷ 1 ∷ []) 1 (lent 3)))
    ∷ differ rewrite_single place_at_the_end_accepted (λ f. rewrite (f 1 2 (1 ∷ []) 1 (lent 1)))
    ∷ differ rewrite_single room_checked_before_the_rule (λ f. rewrite (f 2 4 (3 ∷ 4 ∷ []) 0 []))
    ∷ differ rewrite_single word_copied_first (λ f. rewrite (f 1 2 (1 ∷ []) 1 (lent 1)))
    -- the rewriting to its end
    ∷ differ rewriting_to_end search_behind_the_last_place (λ f. traced (f 1 3 (1 ∷ 3 ∷ 3 ∷ []) (lent 3) (lent 3) (lent 3) (lent 3)))
    ∷ differ rewriting_to_end output_before_the_lists (λ f. traced (f 1 2 (1 ∷ 2 ∷ 1 ∷ []) [] [] [] []))
    ∷ differ number_of_steps letters_counted (λ f. answer (f 1 2 (1 ∷ 1 ∷ [])))
    ∷ differ number_of_steps shortening_steps_counted (λ f. answer (f 1 2 (1 ∷ 2 ∷ 1 ∷ [])))
    -- fallbacks
    ∷ differ fallback_answer verdict_by_length_alone (λ f. fallback (f 1 2 (1 ∷ []) (2 ∷ []) (lent 1)))
    ∷ differ fallback_answer present_word_unshortened (λ f. fallback (f 1 2 (1 ∷ 1 ∷ []) (1 ∷ []) (lent 1)))
    ∷ differ fallback_answer room_asked_for_a_no (λ f. fallback (f 1 2 (1 ∷ []) (2 ∷ []) []))
    -- splits
    ∷ differ splitting words_swapped (λ f. split (f 1 2 1 (1 ∷ 2 ∷ []) (lent 2) (lent 2)))
    ∷ differ splitting bit0_for_step2 (λ f. split (f 1 2 1 (1 ∷ 2 ∷ []) (lent 2) (lent 2)))
    ∷ differ splitting one_step_left (λ f. split (f 1 2 1 (1 ∷ []) (lent 1) (lent 1)))
    ∷ differ splitting set_checked_after_the_word (λ f. split (f 1 2 4 (9 ∷ []) (lent 1) (lent 1)))
    ∷ differ splitting one_bit_too_many (λ f. split (f 1 2 4 [] [] []))
    ∷ differ splitting first_word_written_first (λ f. split (f 1 2 1 (1 ∷ 2 ∷ []) (lent 1) []))
    -- from one window to another
    ∷ differ between_windows way_back (λ f. bytes (f 1 2 3 (pos 1 ∷ pos 2 ∷ pos 3 ∷ []) (pos 2 ∷ pos 3 ∷ pos 1 ∷ []) (lent 2)))
    ∷ differ between_windows letters_not_asked (λ f. bytes (f 1 2 2 (pos 1 ∷ pos 2 ∷ pos 3 ∷ []) (pos 2 ∷ pos 1 ∷ pos 3 ∷ []) (lent 1)))
    ∷ differ between_windows room_before_the_way (λ f. bytes (f 1 2 2 (pos 1 ∷ pos 2 ∷ pos 3 ∷ []) (pos 2 ∷ pos 1 ∷ pos 3 ∷ []) []))
    ∷ differ between_windows windows_before_the_set (λ f. bytes (f 1 2 4 [] [] []))
    ∷ differ between_windows bits_one_off (λ f. bytes (f 1 2 1 (pos 1 ∷ pos 2 ∷ pos 3 ∷ []) (pos 2 ∷ pos 1 ∷ pos 3 ∷ []) (lent 1)))
    -- the delay table
    ∷ differ delay_table rank20_in_A (λ f. tabled (f 1 20 [] [] []))
    ∷ differ delay_table factor_left_out (λ f. tabled (f 1 1 (lent 2) (lent_entries 2) (lent 1)))
    ∷ differ delay_table running_totals (λ f. tabled (f 1 1 (lent 2) (lent_entries 2) (lent 1)))
    ∷ differ delay_table identity_as_longest (λ f. tabled (f 1 1 (lent 2) (lent_entries 2) (lent 1)))
    ∷ differ delay_table room_of_the_list_only (λ f. tabled (f 1 1 (lent 2) (lent_entries 1) (lent 1)))
    ∷ differ delay_table list_written_first (λ f. tabled (f 1 1 (lent 2) (lent_entries 2) []))
    -- opening a book
    ∷ differ checked_book no_bytes_refused (λ f. opened (f Second []))
    ∷ differ checked_book one_byte_accepted (λ f. opened (f First (0 ∷ [])))
    ∷ differ checked_book count_high_byte_first (λ f. opened (f First one))
    ∷ differ checked_book offset_against_the_trailer (λ f. opened (f First one))
    ∷ differ checked_book last_record_may_stop_early (λ f. opened (f First (1 ∷ 1 ∷ 0 ∷ 0 ∷ 7 ∷ 0 ∷ 0 ∷ 1 ∷ 0 ∷ [])))
    ∷ differ checked_book opens_other_bytes (λ f. opened (f First one))
    -- reading a preset, and its letters
    ∷ differ checked_preset retired_not_read (λ f. preset (f First one 0))
    ∷ differ checked_preset no_presets_refused3 (λ f. preset (f First [] 0))
    ∷ differ checked_preset one_preset_too_many (λ f. preset (f First one 1))
    ∷ differ checked_preset preset0_for_every_number (λ f. preset (f First (1 ∷ 1 ∷ 0 ∷ 0 ∷ 2 ∷ 2 ∷ 0 ∷ 0 ∷ 0 ∷ 0 ∷ 4 ∷ 0 ∷ 2 ∷ 0 ∷ []) 1))
    ∷ differ checked_preset lane_count_before_rank (λ f. preset (f Second (1 ∷ 64 ∷ 9 ∷ 0 ∷ 0 ∷ 0 ∷ 0 ∷ 1 ∷ 0 ∷ []) 0))
    ∷ differ checked_preset lane_count_is_the_rank (λ f. preset (f Second (1 ∷ 1 ∷ 2 ∷ 0 ∷ 0 ∷ 0 ∷ 0 ∷ 1 ∷ 0 ∷ []) 0))
    ∷ differ checked_preset ranges_of_the_first (λ f. preset (f Second (2 ∷ 64 ∷ 64 ∷ 0 ∷ 0 ∷ 0 ∷ 0 ∷ 1 ∷ 0 ∷ []) 0))
    ∷ differ checked_preset ranges_of_the_second (λ f. preset (f First (2 ∷ 33 ∷ 0 ∷ 0 ∷ 0 ∷ 0 ∷ 1 ∷ 0 ∷ []) 0))
    ∷ differ handed_out letters_from_the_record (λ f. part (f First one 0))
    ∷ differ handed_out refused_preset_hands_out_letters (λ f. part (f First (1 ∷ 1 ∷ 1 ∷ 0 ∷ 2 ∷ 0 ∷ 0 ∷ 1 ∷ 0 ∷ []) 0))
    ∷ differ handed_out letters_one_byte_early (λ f. part (f Second (1 ∷ 1 ∷ 2 ∷ 1 ∷ 0 ∷ 1 ∷ 0 ∷ 0 ∷ 1 ∷ 0 ∷ []) 0))
    -- appending
    ∷ differ appending lane_count_left_out (λ f. bytes (f Second (0 ∷ 0 ∷ []) 1 2 [] (lent 9)))
    ∷ differ appending last_offset_dropped (λ f. bytes (f First (0 ∷ 0 ∷ []) 1 2 [] (lent 8)))
    ∷ differ appending kind_and_rank_swapped (λ f. bytes (f First (0 ∷ 0 ∷ []) 1 2 [] (lent 8)))
    ∷ differ appending retired_appended (λ f. bytes (f First (0 ∷ 0 ∷ []) 1 1 [] (lent 8)))
    ∷ differ appending retired_before_letters (λ f. bytes (f Second (0 ∷ 0 ∷ []) 1 1 (2 ∷ []) (lent 10)))
    ∷ differ appending retired_in_every_kind (λ f. bytes (f First (0 ∷ 0 ∷ []) 2 1 [] (lent 8)))
    -- converting
    ∷ differ converting last_record_dropped (λ f. bytes (f First one (lent 9)))
    ∷ differ converting lane_limit_first (λ f. bytes (f Second (2 ∷ 33 ∷ 33 ∷ 1 ∷ 0 ∷ 34 ∷ 0 ∷ 0 ∷ 1 ∷ 0 ∷ []) (lent 9)))
    ∷ differ converting later_records_unchecked (λ f. bytes (f First (1 ∷ 1 ∷ 0 ∷ 0 ∷ 1 ∷ 32 ∷ 0 ∷ 0 ∷ 0 ∷ 0 ∷ 4 ∷ 0 ∷ 2 ∷ 0 ∷ []) (lent 16)))
    -- lines of the listing
    ∷ differ count_line count_without_line_feed (λ f. text (f 2))
    ∷ differ refused_book_line book_refusal_always1 (λ f. text (f 3))
    ∷ differ refused_line preset_refusal_always1 (λ f. text (f 0 8))
    ∷ differ word_line length_before_rank (λ f. text (f 0 B 2 (1 ∷ 2 ∷ 1 ∷ 2 ∷ [])))
    ∷ differ word_line minus_left_out (λ f. text (f 0 B 2 (1 ∷ 2 ∷ 1 ∷ 2 ∷ [])))
    -- pieces of the listing
    ∷ differ next_piece no_preset_line (λ f. piece (f First one 0 (lent 40)))
    ∷ differ next_piece last_line_left_out (λ f. piece (f First one 0 (lent 40)))
    ∷ differ next_piece line_cut_off (λ f. piece (f First one 0 (lent 12)))
    ∷ differ next_piece last_byte_unused (λ f. piece (f First one 0 (lent 10)))
    ∷ []

-- further rows beside the table, made like those of it
unfoldable pub further : List WrongRouter
further =
    -- refusals
    differ split_checks word_before_the_set (λ f. number (f 1 2 4 (9 ∷ [])))
    ∷ differ split_checks last_step_refused (λ f. number (f 1 2 2 []))
    ∷ differ table_refusal every_rank_tabled (λ f. number (f 1 20))
    ∷ differ table_refusal limit_of_A_in_every_kind (λ f. number (f 2 17))
    ∷ differ table_refusal table_before_the_rank (λ f. number (f 1 64))
    -- lane counts after the checks, and parity
    ∷ differ lanes_of_rank lanes_of_every_rank (λ f. lane_count (f 1 64))
    ∷ differ lanes_of_rank rank_for_the_lanes (λ f. lane_count (f 1 2))
    ∷ differ lanes_of_preset lanes_of_every_word (λ f. lane_count (f 1 2 (3 ∷ [])))
    ∷ differ lanes_of_preset letters_for_the_lanes (λ f. lane_count (f 1 2 (1 ∷ [])))
    ∷ differ lanes_of_words lanes_of_the_first_word (λ f. lane_count (f 1 2 [] (3 ∷ [])))
    ∷ differ lanes_of_words lanes_of_both_together (λ f. lane_count (f 1 2 [] []))
    ∷ differ flag_after flag_set_once (λ f. number (pick (f (neg 1 ∷ neg 2 ∷ [])) 1 0))
    ∷ differ flag_after others_flip (λ f. number (pick (f (neg 1 ∷ pos 2 ∷ pos 3 ∷ [])) 1 0))
    -- products and inverses
    ∷ differ form_of_product product_the_other_way_round (λ f. bytes (f 2 2 (neg 2 ∷ pos 1 ∷ []) (pos 2 ∷ pos 1 ∷ []) (lent 4)))
    ∷ differ form_of_product second_window_alone (λ f. bytes (f 2 2 (neg 2 ∷ pos 1 ∷ []) (pos 2 ∷ pos 1 ∷ []) (lent 4)))
    ∷ differ form_of_inverse inverse_not_taken (λ f. bytes (f 2 2 (neg 2 ∷ pos 1 ∷ []) (lent 4)))
    ∷ differ form_of_inverse inverse_form_without_signs (λ f. bytes (f 2 2 (neg 2 ∷ pos 1 ∷ []) (lent 4)))
    ∷ differ form_between from_second_to_first (λ f. bytes (f 2 2 (neg 2 ∷ pos 1 ∷ []) (pos 1 ∷ pos 2 ∷ []) (lent 4)))
    ∷ differ form_between first_not_inverted (λ f. bytes (f 2 2 (neg 2 ∷ pos 1 ∷ []) (pos 1 ∷ pos 2 ∷ []) (lent 4)))
    -- lengths as three counts
    ∷ differ crossings_of_window mirrored_lanes_counted_in_D (λ f. counted (f 3 4 (neg 1 ∷ neg 2 ∷ pos 3 ∷ pos 4 ∷ [])))
    ∷ differ crossings_of_window pairs_exchanged (λ f. counted (f 2 2 (pos 2 ∷ pos 1 ∷ [])))
    ∷ differ crossings_of_window length_as_plain_pairs (λ f. counted (f 2 2 (pos 1 ∷ neg 2 ∷ [])))
    ∷ differ crossings_of_word letters_as_plain_pairs (λ f. counted (f 1 2 (1 ∷ 1 ∷ [])))
    ∷ differ crossings_of_word counts_of_the_inverse (λ f. counted (f 2 2 (2 ∷ 1 ∷ [])))
    -- runs of presets
    ∷ differ reading_presets zeros_past_the_last (λ f. bytes (f First one 0 (lent 10)))
    ∷ differ reading_presets fields_of_a_refused_record (λ f. bytes (f First (1 ∷ 1 ∷ 1 ∷ 0 ∷ 2 ∷ 0 ∷ 0 ∷ 1 ∷ 0 ∷ []) 0 (lent 5)))
    ∷ differ reading_presets room_before_the_number (λ f. bytes (f First [] 0 []))
    ∷ differ run_from run_from_the_next (λ f. run (f First one 0))
    ∷ differ run_from last_preset_again (λ f. run (f First one 0))
    -- lines of the listing
    ∷ differ refused_book book_left_out (λ f. bytes (f 3 (lent 15)))
    ∷ differ refused_book refused_book_cut_off (λ f. bytes (f 3 (lent 5)))
    -- messages
    ∷ differ refusal_message message_of_the_next (λ f. bytes (f 4 (lent 77)))
    ∷ differ refusal_message message_for_none (λ f. bytes (f 0 (lent 88)))
    ∷ differ refusal_message message_cut_off (λ f. bytes (f 5 (lent 8)))
    ∷ []
