-- Wrong answers of the calls on words and windows, each of the type of its call's definition. WrongAnswers.antt says
-- where each is wrong; WrongChecks.antt has the wrong checks.
-- Assumes nothing.
use mathlib.Core.Bool.{Bool, true, false, ◌&&◌}
use mathlib.Core.List.{List, [], ◌∷◌, ◌++◌, map}
use Prim.Native.Nat.{ℕ, zero, suc, ◌+◌, ◌-◌, ◌*◌}
use lib.Dec.{eqb, leb, ltb}
use lib.IntN.{ℤ, pos, negsuc, neg_ℤ, nat_abs}
use lib.ListN.{length, take}
use Rattle.coxeter.specs.answers.Answer.{Answer}
use Rattle.coxeter.specs.answers.Verdict.{Verdict}
use Rattle.coxeter.specs.answers.Choice.{Choice}
use Rattle.coxeter.specs.answers.Counted.{Counted}
use Rattle.coxeter.specs.declared.Kind.{Kind}
use Rattle.coxeter.specs.declared.Kind.TheVariants.{A, B, D}
use Rattle.coxeter.specs.Kinds.{pick, kind_of, lanes}
use Rattle.coxeter.specs.Windows.{identity, window, product, signed, place_from, inverse}
use Rattle.coxeter.specs.Length.{Crossings, one, negatives, inversions, negative_sum_pairs, crossings, window_length}
use Rattle.coxeter.specs.Dictionary.{shortlex}
use Rattle.coxeter.specs.Checks.{check, ◌then◌, wrong_lanes, wrong_entry, odd_negatives, rank_refusal}
use Rattle.coxeter.specs.Checks.{word_refusal, window_refusal}
use Rattle.coxeter.specs.NormalForm.{rise, fall, block, levels, without, index_of, rest_of, normal_from, normal_form, word_normal_form}
use Rattle.coxeter.specs.Calls.{front, Outcome, answer_of, verdict_of, counted_of, written, writes, window_of_word}
use Rattle.coxeter.specs.Calls.{equal_words, same_presets, presets_equal, hands_back, choice}
use Rattle.examples.proofs.WrongChecks.{word_checks, window_checks, windows_checks}

-- ---- the window of a word

-- Q1
abbrev pub turns_every_preset_down : ℕ → ℕ → List ℕ → List ℤ → Outcome ℤ
turns_every_preset_down k n u out = writes 5 (window (kind_of k) n u) out

-- Q2
abbrev pub identity_for_all_words : ℕ → ℕ → List ℕ → List ℤ → Outcome ℤ
identity_for_all_words k n u out = writes (word_checks k n u) (identity (lanes (kind_of k) n)) out

-- Q7: each step i swaps the sizes i and i + 1
abbrev swap_sizes : ℕ → ℤ → ℤ
swap_sizes s e = signed e (pick (eqb (nat_abs e) s) (s + 1) (pick (eqb (nat_abs e) (s + 1)) s (nat_abs e)))

abbrev pub by_values : List ℕ → List ℤ → List ℤ
by_values [] w = w
by_values (s ∷ u) w = by_values u (map (swap_sizes s) w)

abbrev pub swaps_values : ℕ → ℕ → List ℕ → List ℤ → Outcome ℤ
swaps_values k n u out = writes (word_checks k n u) (by_values u (identity (lanes (kind_of k) n))) out

-- step n of kind D changes one sign, as in B
abbrev pub step_of_B_in_D : ℕ → ℕ → List ℕ → List ℤ → Outcome ℤ
step_of_B_in_D k n u out = writes (word_checks k n u) (window (pick (eqb k 3) B (kind_of k)) n u) out

-- the window is written before the checks are made
abbrev pub refused_call_writes : ℕ → ℕ → List ℕ → List ℤ → Outcome ℤ
refused_call_writes k n u out = record { answer = (window_of_word k n u out).answer; bytes = front (window (kind_of k) n u) out }

-- the output is cleared first
abbrev pub clears_the_output : ℕ → ℕ → List ℕ → List ℤ → Outcome ℤ
clears_the_output k n u out = window_of_word k n u (map (λ e. pos 0) out)

-- ---- normal forms

-- Q3
abbrev pub unshortened_word : ℕ → ℕ → List ℕ → List ℕ → Outcome ℕ
unshortened_word k n u out = writes (word_checks k n u) u out

-- Q4
abbrev pub block1_and_a_copy : Kind → ℕ → List ℕ → List ℕ
block1_and_a_copy k n u = let b = block k n 1 (index_of n (place_from 1 (window k n u) 1)) in take (length u - length b) u ++ b

abbrev pub peels_only_block1 : ℕ → ℕ → List ℕ → List ℕ → Outcome ℕ
peels_only_block1 k n u out = writes (word_checks k n u) (block1_and_a_copy (kind_of k) n u) out

-- Q11
abbrev pub stops_at_a_shortest_word : ℕ → ℕ → List ℕ → List ℕ → Outcome ℕ
stops_at_a_shortest_word k n u out =
    let shortest = eqb (length u) (window_length (kind_of k) (window (kind_of k) n u)) in
    writes (word_checks k n u) (pick shortest u (word_normal_form (kind_of k) n u)) out

-- check 14 asks for n bytes of room, whatever the length of the normal form
abbrev pub room_for_the_rank_only : ℕ → ℕ → List ℕ → List ℕ → Outcome ℕ
room_for_the_rank_only k n u out =
    let r = word_checks k n u then check 14 (ltb (length out) n) in
    let v = word_normal_form (kind_of k) n u in
    record { answer = answer_of r (length v); bytes = written r v out }

-- block 1 without the rest
abbrev pub block1_alone : ℕ → ℕ → List ℤ → List ℕ → Outcome ℕ
block1_alone k n w out = writes (window_checks k n w) (normal_from (kind_of k) n 1 1 w) out

-- check 10 before check 9
abbrev pub entries_before_lanes : ℕ → ℕ → List ℤ → List ℕ → Outcome ℕ
entries_before_lanes k n w out =
    writes (rank_refusal k n then check 10 (wrong_entry (kind_of k) (lanes (kind_of k) n) w) then window_refusal (kind_of k) n w)
    (normal_form (kind_of k) n w) out

abbrev pub odd_negatives_accepted : ℕ → ℕ → List ℤ → List ℕ → Outcome ℕ
odd_negatives_accepted k n w out = let r = window_checks k n w in writes (pick (eqb r 11) 0 r) (normal_form (kind_of k) n w) out

-- peeling as it should be, but for its blocks, its indices and what is left of the window
abbrev pub form_by : (ℕ → ℕ → List ℕ) → (ℤ → ℕ) → (ℤ → List ℤ → List ℤ) → ℕ → ℕ → List ℤ → List ℕ
form_by block_of index rest zero i w = []
form_by block_of index rest (suc t) i w =
    form_by block_of index rest t (suc i) (rest (place_from i w i) (without i w)) ++ block_of i (index (place_from i w i))

-- the blocks of B turn at n − 1
abbrev early : ℕ → ℕ → ℕ → List ℕ
early n i j = pick (leb j n) (rise i j) (rise i (n - 1) ++ fall (n - 2) (2 * n - j))

abbrev pub block_turns_early_in_B : ℕ → ℕ → List ℤ → List ℕ → Outcome ℕ
block_turns_early_in_B k n w out = writes (window_checks k n w) (form_by (early n) (index_of n) (rest_of (kind_of k)) (levels (kind_of k) n) 1 w) out

-- where −i stands at position p the index is 2n − p + 1
abbrev one_off : ℕ → ℤ → ℕ
one_off n (pos p) = p - 1
one_off n (negsuc p) = 2 * n - p

abbrev pub index_one_off_on_the_way_down : ℕ → ℕ → List ℤ → List ℕ → Outcome ℕ
index_one_off_on_the_way_down k n w out =
    writes (window_checks k n w) (form_by (block (kind_of k) n) (one_off n) (rest_of (kind_of k)) (levels (kind_of k) n) 1 w) out

-- the last entry keeps its sign where −i was taken out
abbrev pub last_entry_kept_in_D : ℕ → ℕ → List ℤ → List ℕ → Outcome ℕ
last_entry_kept_in_D k n w out =
    writes (window_checks k n w) (form_by (block (kind_of k) n) (index_of n) (λ p v. v) (levels (kind_of k) n) 1 w) out

-- ---- products and inverses

abbrev pub product_in_wrong_order : ℕ → ℕ → List ℤ → List ℤ → List ℤ → Outcome ℤ
product_in_wrong_order k n u v out = writes (window_checks k n u then window_refusal (kind_of k) n v) (product v u) out

abbrev pub second_window_checked_first : ℕ → ℕ → List ℤ → List ℤ → List ℤ → Outcome ℤ
second_window_checked_first k n u v out = writes (window_checks k n v then window_refusal (kind_of k) n u) (product u v) out

abbrev pub window_as_its_inverse : ℕ → ℕ → List ℤ → List ℤ → Outcome ℤ
window_as_its_inverse k n w out = writes (window_checks k n w) w out

abbrev pub inverse_without_signs : ℕ → ℕ → List ℤ → List ℤ → Outcome ℤ
inverse_without_signs k n w out = writes (window_checks k n w) (map (λ e. pos (nat_abs e)) (inverse w)) out

abbrev pub words_joined_the_other_way : ℕ → ℕ → List ℕ → List ℕ → List ℕ → Outcome ℕ
words_joined_the_other_way k n u v out = writes (word_checks k n u then word_refusal n v) (word_normal_form (kind_of k) n (v ++ u)) out

abbrev pub words_joined_unshortened : ℕ → ℕ → List ℕ → List ℕ → List ℕ → Outcome ℕ
words_joined_unshortened k n u v out = writes (word_checks k n u then word_refusal n v) (u ++ v) out

abbrev pub word_as_its_inverse : ℕ → ℕ → List ℕ → List ℕ → Outcome ℕ
word_as_its_inverse k n u out = writes (word_checks k n u) (word_normal_form (kind_of k) n u) out

abbrev pub backwards : List ℕ → List ℕ → List ℕ
backwards [] v = v
backwards (s ∷ u) v = backwards u (s ∷ v)

abbrev pub reversed_unshortened : ℕ → ℕ → List ℕ → List ℕ → Outcome ℕ
reversed_unshortened k n u out = writes (word_checks k n u) (backwards u []) out

-- ---- normal forms of windows that are made from others

-- the normal form of a product, of an inverse, and of what leads from one window to another, as they should be
abbrev pub form_of_product : ℕ → ℕ → List ℤ → List ℤ → List ℕ → Outcome ℕ
form_of_product k n u v out = writes (windows_checks k n u v) (normal_form (kind_of k) n (product u v)) out

abbrev pub form_of_inverse : ℕ → ℕ → List ℤ → List ℕ → Outcome ℕ
form_of_inverse k n w out = writes (window_checks k n w) (normal_form (kind_of k) n (inverse w)) out

abbrev pub form_between : ℕ → ℕ → List ℤ → List ℤ → List ℕ → Outcome ℕ
form_between k n u v out = writes (windows_checks k n u v) (normal_form (kind_of k) n (product (inverse u) v)) out

abbrev pub product_the_other_way_round : ℕ → ℕ → List ℤ → List ℤ → List ℕ → Outcome ℕ
product_the_other_way_round k n u v out = writes (windows_checks k n u v) (normal_form (kind_of k) n (product v u)) out

abbrev pub second_window_alone : ℕ → ℕ → List ℤ → List ℤ → List ℕ → Outcome ℕ
second_window_alone k n u v out = writes (windows_checks k n u v) (normal_form (kind_of k) n v) out

abbrev pub inverse_not_taken : ℕ → ℕ → List ℤ → List ℕ → Outcome ℕ
inverse_not_taken k n w out = writes (window_checks k n w) (normal_form (kind_of k) n w) out

abbrev pub inverse_form_without_signs : ℕ → ℕ → List ℤ → List ℕ → Outcome ℕ
inverse_form_without_signs k n w out = writes (window_checks k n w) (normal_form (kind_of k) n (map (λ e. pos (nat_abs e)) (inverse w))) out

abbrev pub from_second_to_first : ℕ → ℕ → List ℤ → List ℤ → List ℕ → Outcome ℕ
from_second_to_first k n u v out = writes (windows_checks k n u v) (normal_form (kind_of k) n (product (inverse v) u)) out

abbrev pub first_not_inverted : ℕ → ℕ → List ℤ → List ℤ → List ℕ → Outcome ℕ
first_not_inverted k n u v out = writes (windows_checks k n u v) (normal_form (kind_of k) n (product u v)) out

-- ---- lengths

-- Q5
abbrev pub letter_total : ℕ → ℕ → List ℕ → Answer
letter_total k n u = answer_of (word_checks k n u) (length u)

-- Q8
abbrev greater : ℤ → ℤ → Bool
greater (pos a) (pos b) = ltb b a
greater (pos a) (negsuc b) = true
greater (negsuc a) (pos b) = false
greater (negsuc a) (negsuc b) = ltb a b

abbrev greater_than : ℤ → List ℤ → ℕ
greater_than x [] = 0
greater_than x (y ∷ w) = one (greater x y) + greater_than x w

abbrev usual_inversions : List ℤ → ℕ
usual_inversions [] = 0
usual_inversions (x ∷ w) = greater_than x w + usual_inversions w

abbrev usual_sum_pairs : List ℤ → ℕ
usual_sum_pairs [] = 0
usual_sum_pairs (x ∷ w) = greater_than x (map neg_ℤ w) + usual_sum_pairs w

abbrev usual_length : Kind → List ℤ → ℕ
usual_length A w = usual_inversions w
usual_length B w = usual_inversions w + usual_sum_pairs w + negatives w
usual_length D w = usual_inversions w + usual_sum_pairs w

abbrev pub usual_order_of_a_window : ℕ → ℕ → List ℤ → Answer
usual_order_of_a_window k n w = answer_of (window_checks k n w) (usual_length (kind_of k) w)

abbrev pub usual_order_of_a_word : ℕ → ℕ → List ℕ → Answer
usual_order_of_a_word k n u = answer_of (word_checks k n u) (usual_length (kind_of k) (window (kind_of k) n u))

abbrev pub negatives_not_counted : ℕ → ℕ → List ℤ → Answer
negatives_not_counted k n w = answer_of (window_checks k n w) (inversions w + negative_sum_pairs w)

-- Q10: −128 becomes −128 again, and its size is above nothing
abbrev pub negates_before_its_range : ℕ → ℕ → List ℤ → Answer
negates_before_its_range k n w =
    let sizes = check 10 (wrong_entry (kind_of k) (lanes (kind_of k) n) (without 128 w)) in
    answer_of (rank_refusal k n then check 9 (wrong_lanes (kind_of k) n w) then sizes then check 11 (odd_negatives (kind_of k) w))
    (window_length (kind_of k) w)

-- ---- lengths as three counts

abbrev counts_by : (Kind → List ℤ → Crossings) → ℕ → ℕ → List ℤ → Counted
counts_by counts k n w = counted_of (window_checks k n w) (counts (kind_of k) w)

-- the mirrored lanes counted in kind D too
abbrev pub mirrored_lanes_counted_in_D : ℕ → ℕ → List ℤ → Counted
mirrored_lanes_counted_in_D =
    counts_by (λ k w. record { inversions = (crossings k w).inversions; negative_sum_pairs = (crossings k w).negative_sum_pairs; negatives = negatives w })

abbrev pub pairs_exchanged : ℕ → ℕ → List ℤ → Counted
pairs_exchanged =
    counts_by (λ k w.
    record { inversions = (crossings k w).negative_sum_pairs; negative_sum_pairs = (crossings k w).inversions; negatives = (crossings k w).negatives })

-- the sum alone is right
abbrev pub length_as_plain_pairs : ℕ → ℕ → List ℤ → Counted
length_as_plain_pairs = counts_by (λ k w. record { inversions = window_length k w; negative_sum_pairs = 0; negatives = 0 })

-- the letters as plain pairs
abbrev pub letters_as_plain_pairs : ℕ → ℕ → List ℕ → Counted
letters_as_plain_pairs k n u = counted_of (word_checks k n u) (record { inversions = length u; negative_sum_pairs = 0; negatives = 0 })

-- the word read backwards: the sum alone is right
abbrev pub counts_of_the_inverse : ℕ → ℕ → List ℕ → Counted
counts_of_the_inverse k n u = counted_of (word_checks k n u) (crossings (kind_of k) (inverse (window (kind_of k) n u)))

-- ---- verdicts

abbrev pub ranks_not_compared : ℕ → ℕ → List ℕ → ℕ → ℕ → List ℕ → Verdict
ranks_not_compared k₁ n₁ u₁ k₂ n₂ u₂ = verdict_of (word_checks k₁ n₁ u₁ then word_checks k₂ n₂ u₂) (eqb k₁ k₂ && equal_words (kind_of k₁) n₁ u₁ u₂)

-- against V1: presets of different kind are never equal
abbrev pub kinds_compared : ℕ → ℕ → List ℕ → ℕ → ℕ → List ℕ → Verdict
kinds_compared k₁ n₁ u₁ k₂ n₂ u₂ = verdict_of (word_checks k₁ n₁ u₁ then word_checks k₂ n₂ u₂) (eqb k₁ k₂ && same_presets k₁ n₁ u₁ k₂ n₂ u₂)

-- the kind of the first preset for both
abbrev pub kind_of_the_first_for_both : ℕ → ℕ → List ℕ → ℕ → ℕ → List ℕ → Verdict
kind_of_the_first_for_both k₁ n₁ u₁ k₂ n₂ u₂ = presets_equal k₁ n₁ u₁ k₁ n₂ u₂

abbrev pub second_preset_refused_first : ℕ → ℕ → List ℕ → ℕ → ℕ → List ℕ → Verdict
second_preset_refused_first k₁ n₁ u₁ k₂ n₂ u₂ = verdict_of (word_checks k₂ n₂ u₂ then word_checks k₁ n₁ u₁) (same_presets k₁ n₁ u₁ k₂ n₂ u₂)

-- ---- the better of two words

-- which of two words is handed back, as it should be
abbrev pub better : ℕ → ℕ → List ℕ → List ℕ → Choice
better k n u v = choice (hands_back k n u v) (shortlex v u)

abbrev pub later_word_handed_back : ℕ → ℕ → List ℕ → List ℕ → Choice
later_word_handed_back k n u v = choice (hands_back k n u v) (shortlex u v)

abbrev pub windows_not_compared : ℕ → ℕ → List ℕ → List ℕ → Choice
windows_not_compared k n u v = choice (eqb (word_checks k n u then word_refusal n v) 0) (shortlex v u)

abbrev pub second_of_equal_words : ℕ → ℕ → List ℕ → List ℕ → Choice
second_of_equal_words k n u v = choice (hands_back k n u v) (pick (shortlex u v) false true)
