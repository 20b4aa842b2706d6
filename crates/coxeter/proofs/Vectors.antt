-- Worked inputs: what a table of them is, verdicts on presets of one kind and of two, two pairs of presets that look
-- alike and two that do not though their normal forms are equal (V2), and the edges of the checks (J10 to J12), worked
-- out by hand from the specification. All by computing the definitions.
--
-- Sections: how a table is read; verdicts; refusals.
-- Assumes nothing.
use mathlib.Core.Path.{◌≡◌, refl, ap}
use mathlib.Core.List.{List, [], ◌∷◌, map}
use Prim.Native.Nat.{ℕ}
use lib.IntN.{ℤ, pos, neg_ℤ}
use native.Mathlib.Omega.{arith}
use lib.ListN.{length, replicate}
use Rattle.coxeter.specs.answers.Answer.{Refused}
use Rattle.coxeter.specs.answers.Verdict.{Verdict}
use Rattle.coxeter.specs.answers.Verdict as verdict
use Rattle.coxeter.specs.declared.Kind.TheVariants.{A, B, D}
use Rattle.coxeter.specs.Kinds.{kind_of, up}
use Rattle.coxeter.specs.Windows.{from, swap, negate_first, swap_negate, act, window_from, identity, window, signed, place_from}
use Rattle.coxeter.specs.Length.{negative, one, negatives}
use Rattle.coxeter.specs.Checks.{wrong_kind, wrong_rank, too_long, wrong_letter, wrong_lanes, has_size, negative_in_A, wrong_at}
use Rattle.coxeter.specs.Checks.{wrong_entry, odd, odd_negatives, rank_refusal, word_refusal, window_refusal}
use Rattle.coxeter.specs.NormalForm.{down, rise, fall, block, without, index_of, rest_of, normal_from, normal_form, word_normal_form}
use Rattle.coxeter.specs.Calls.{verdict_of, Outcome, same_entry, same_window, same_presets, presets_equal}

-- ---- how a table is read

-- a table of calls, each with what it must be: it agrees row by row
abbrev pub Agree : {X : Type 0} → List (X × X) → Type 0
Agree rows = map (λ r. r.0) rows ≡ map (λ r. r.1) rows

-- so many bytes as they were lent
abbrev pub lent : ℕ → List ℕ
lent m = replicate m 9

abbrev neg : ℕ → ℤ
neg e = neg_ℤ (pos e)

-- refused with r; and the bytes afterwards
abbrev pub refused : {X : Type 0} → ℕ → List X → Outcome X
refused r bytes = record { answer = Refused r; bytes = bytes }

-- ---- verdicts

pub verdicts : List (Verdict × Verdict)
verdicts =
    (presets_equal 1 2 (1 ∷ 2 ∷ 1 ∷ []) 1 2 (2 ∷ 1 ∷ 2 ∷ []), verdict.Yes)
    ∷ (presets_equal 1 2 (1 ∷ []) 1 2 (2 ∷ []), verdict.No)
    -- another lane count; another kind with the same lanes, straight and with two mirrored lanes; kind A and kind B
    ∷ (presets_equal 1 2 [] 1 3 [], verdict.No)
    ∷ (presets_equal 1 4 [] 2 4 [], verdict.No)
    ∷ (presets_equal 2 4 [] 3 4 [], verdict.Yes)
    ∷ (presets_equal 2 4 (4 ∷ []) 3 4 (4 ∷ []), verdict.No)
    ∷ (presets_equal 1 3 (1 ∷ 2 ∷ []) 2 4 (1 ∷ 2 ∷ []), verdict.Yes)
    -- the first preset's checks before the second's
    ∷ (presets_equal 1 2 (3 ∷ []) 4 2 [], verdict.Refused 8)
    ∷ (presets_equal 1 2 (1 ∷ []) 4 2 [], verdict.Refused 5)
    ∷ []

pub equality_verdicts : Agree verdicts
unfolding verdicts
    kind_of up from swap negate_first swap_negate act window_from identity window wrong_kind wrong_rank too_long wrong_letter rank_refusal word_refusal
    same_entry same_window same_presets verdict_of presets_equal
equality_verdicts = refl

-- two presets that look alike, of kinds B and D at rank 4, both normal forms and different words: what both show is
-- −1 −2 3 4
pub alike_B_and_D : let u : List ℕ = 2 ∷ 3 ∷ 4 ∷ 3 ∷ 2 ∷ 1 ∷ 2 ∷ 3 ∷ 4 ∷ 3 ∷ 2 ∷ 1 ∷ [] in
    let v : List ℕ = 2 ∷ 4 ∷ 3 ∷ 2 ∷ 1 ∷ 2 ∷ 4 ∷ 3 ∷ 2 ∷ 1 ∷ [] in
    (presets_equal 2 4 u 3 4 v ≡ verdict.Yes)
    × (window B 4 u ≡ neg_ℤ (pos 1) ∷ neg_ℤ (pos 2) ∷ pos 3 ∷ pos 4 ∷ [])
    × (word_normal_form B 4 u ≡ u) × (word_normal_form D 4 v ≡ v) × (u ≡ v → ⊥)
unfolding kind_of up from swap negate_first swap_negate act window_from identity window signed place_from
    down rise fall block without index_of rest_of normal_from normal_form
    wrong_kind wrong_rank too_long wrong_letter rank_refusal word_refusal same_entry same_window same_presets verdict_of presets_equal
alike_B_and_D = (refl, refl, refl, refl, λ e. let l : ◌≡◌ {A = ℕ} 12 10 = ap length e in omega (arith, l))

-- and of kinds A, with three steps, and B, with four: four lanes each
pub alike_A_and_B : presets_equal 1 3 (1 ∷ 2 ∷ []) 2 4 (1 ∷ 2 ∷ []) ≡ verdict.Yes
unfolding kind_of up from swap act window_from identity window wrong_kind wrong_rank too_long wrong_letter rank_refusal word_refusal
    same_entry same_window same_presets verdict_of presets_equal
alike_A_and_B = refl

-- equal normal forms and a no: of kinds A and B at rank 3, where the lane counts differ
pub unlike_A_and_B : let u : List ℕ = 1 ∷ [] in (presets_equal 1 3 u 2 3 u ≡ verdict.No) × (word_normal_form A 3 u ≡ u) × (word_normal_form B 3 u ≡ u)
unfolding kind_of up from swap negate_first act window_from identity window signed place_from
    down rise fall block without index_of rest_of normal_from normal_form
    wrong_kind wrong_rank too_long wrong_letter rank_refusal word_refusal same_entry same_window same_presets verdict_of presets_equal
unlike_A_and_B = (refl, refl, refl)

-- and of kinds B and D at rank 4, with four lanes each, where the windows differ
pub unlike_B_and_D : let u : List ℕ = 4 ∷ [] in (presets_equal 2 4 u 3 4 u ≡ verdict.No) × (word_normal_form B 4 u ≡ u) × (word_normal_form D 4 u ≡ u)
unfolding kind_of up from swap negate_first swap_negate act window_from identity window signed place_from
    down rise fall block without index_of rest_of normal_from normal_form
    wrong_kind wrong_rank too_long wrong_letter rank_refusal word_refusal same_entry same_window same_presets verdict_of presets_equal
unlike_B_and_D = (refl, refl, refl)

-- ---- refusals

pub refusals : List (ℕ × ℕ)
refusals =
    -- of a kind and a rank
    (rank_refusal 0 2, 5)
    ∷ (rank_refusal 4 4, 5)
    ∷ (rank_refusal 1 0, 6)
    ∷ (rank_refusal 1 63, 0)
    ∷ (rank_refusal 1 64, 6)
    ∷ (rank_refusal 2 1, 6)
    ∷ (rank_refusal 2 64, 0)
    ∷ (rank_refusal 2 65, 6)
    ∷ (rank_refusal 3 3, 6)
    ∷ (rank_refusal 3 64, 0)
    ∷ (rank_refusal 3 65, 6)
    -- of a word
    ∷ (word_refusal 2 (replicate 4096 2), 0)
    ∷ (word_refusal 2 (replicate 4097 3), 7)
    ∷ (word_refusal 2 (2 ∷ 3 ∷ []), 8)
    ∷ (word_refusal 2 (1 ∷ 0 ∷ []), 8)
    -- of a window
    ∷ (window_refusal A 2 (pos 1 ∷ pos 2 ∷ []), 9)
    ∷ (window_refusal A 2 (pos 1 ∷ pos 2 ∷ neg 3 ∷ []), 10)
    ∷ (window_refusal B 2 (pos 1 ∷ neg 1 ∷ []), 10)
    ∷ (window_refusal B 2 (pos 1 ∷ neg 3 ∷ []), 10)
    ∷ (window_refusal B 2 (pos 1 ∷ pos 0 ∷ []), 10)
    ∷ (window_refusal B 2 (pos 1 ∷ neg 2 ∷ []), 0)
    ∷ (window_refusal D 4 (neg 1 ∷ pos 2 ∷ pos 3 ∷ pos 4 ∷ []), 11)
    ∷ (window_refusal D 4 (neg 1 ∷ neg 2 ∷ pos 3 ∷ pos 4 ∷ []), 0)
    ∷ []

pub refusing : Agree refusals
unfolding refusals
    kind_of negative one negatives
    wrong_kind wrong_rank too_long wrong_letter wrong_lanes has_size negative_in_A wrong_at wrong_entry odd odd_negatives rank_refusal word_refusal window_refusal
refusing = refl
