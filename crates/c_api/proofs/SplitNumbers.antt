-- A split as a call for C makes it: of a kind and a rank that are bytes, or that checks 5 and 6 refuse alike; its
-- number fits, and the two lengths go to a list, which has room for them or not.
--
-- Sections: the number; kinds and ranks; the lengths; lengths without room.
-- Assumes nothing.
use mathlib.Core.Path.{◌≡◌, refl, sym}
use mathlib.Core.List.{List, [], ◌∷◌}
use Prim.Native.Nat.{ℕ, ◌+◌, ◌≤◌, ◌<◌}
use native.Mathlib.Omega.{arith}
use lib.IntN.{ℤ, pos}
use lib.ListN.{length, drop}
use borrow.Author.Tests.{ne_eqb}
use Rattle.coxeter.specs.Kinds.{kind_of}
use Rattle.coxeter.specs.Windows.{window}
use Rattle.coxeter.specs.Checks.{check, ◌then◌, too_short, rank_refusal, word_refusal}
use Rattle.coxeter.specs.Calls.{written}
use Rattle.coxeter.proofs.Levels.{window_accepted}
use Rattle.coxeter.proofs.PairWeights.{window_length_le_4096}
use Rattle.coxeter.proofs.Fronts.{length-window_le}
use Rattle.shortest_words.specs.answers.Split.{Words, Refused}
use Rattle.shortest_words.specs.Allowed.{allows, set_refusal}
use Rattle.shortest_words.specs.Split.{first_word, second_word}
use Rattle.shortest_words.specs.SplitCalls.{split_of, split_outcome, splitting, SplitYields}
use Rattle.shortest_words.proofs.Splits.{splitting_accepted, splitting_lengths, splitting-unchanged}
use Rattle.c_api.specs.Calls.{refused, split_numbers, splitting_listed}
use Rattle.c_api.proofs.Bytes.{Refusable}
use Rattle.c_api.proofs.Lists.{split-numbers, IsRefusal, roomless, roomless_answer, beside_stored, beside_alone, beside_roomless, room_last, room_more}

-- ---- the number

-- the sum is the length of the word's window
pub splitting_small : (k n set : ℕ) (u first second : List ℕ) {a b : ℕ} → (splitting k n set u first second).answer ≡ Words a b → a + b ≤ 65535
splitting_small k n set u first second {a} {b} h =
    let w = window (kind_of k) n u in
    let r = splitting_accepted k n set u first second a b h in
    let m = window_length_le_4096 (kind_of k) n w (window_accepted (kind_of k) n u) (length-window_le k n u r) in
    omega (arith, m, splitting_lengths k n set u first second a b h)

-- ---- kinds and ranks

pub splitting_listed_refusable : (set : ℕ) (u first second lengths : List ℕ) → Refusable (λ k n. splitting_listed k n set u first second lengths)
unfolding splitting_listed splitting set_refusal split_outcome split_of written
splitting_listed_refusable set u first second lengths = record { refused_same = λ k n l m e f. simp (e, ne_eqb (rank_refusal k n) 0 f) }

-- ---- the lengths

module _ (k n set : ℕ) (u first second lengths : List ℕ) {v w : List ℕ} where
  pub splitting_listed_stored : {l m : ℕ} → SplitYields (splitting k n set u first second) (Words l m) v w → 2 ≤ length lengths
      → (pos (l + m), ((v, w), l ∷ m ∷ drop 2 lengths)) ≡ splitting_listed k n set u first second lengths
  unfolding splitting_listed split_numbers
  splitting_listed_stored {l} {m} y h =
      rw (← y.0, ← y.1, ← y.2) (beside_stored (pos (l + m)) (l ∷ m ∷ []) lengths (v, w) (first, second) h)

  pub splitting_listed-refused : {r : ℕ} {z : ℤ} → SplitYields (splitting k n set u first second) (Refused r) v w → z ≡ refused r
      → (z, ((v, w), lengths)) ≡ splitting_listed k n set u first second lengths
  unfolding splitting_listed split_numbers
  splitting_listed-refused {z = z} y e = rw (← y.0, ← y.1, ← y.2, ← e) (beside_alone z (v, w) (first, second) lengths)

-- a refused split writes nothing
pub splitting_still : (k n set : ℕ) (u first second : List ℕ) → let p = splitting k n set u first second in
    IsRefusal Refused p.answer → ◌≡◌ {A = List ℕ × List ℕ} (p.first, p.second) (first, second)
splitting_still k n set u first second h = let q = splitting-unchanged k n set u first second h.0 h.1 in rw (q.0, q.1)

-- ---- lengths without room

-- the number does not depend on the outputs
roomless-splitting : (k n set : ℕ) (u first second : List ℕ)
    → roomless (split_numbers (splitting k n set u first second).answer) ≡ refused ((set_refusal k n set then word_refusal n u) then 14)
unfolding splitting split_outcome split_of split_numbers roomless
roomless-splitting k n set u first second =
    let a = length (first_word (allows set) (kind_of k) n (window (kind_of k) n u)) in
    let b = length (second_word (allows set) (kind_of k) n (window (kind_of k) n u)) in
    let s = check 14 (too_short b second) in
    roomless_answer split_numbers (Words a b) Refused (set_refusal k n set then word_refusal n u) (check 14 (too_short a first) then s) refl (λ r. refl)
    (room_more (too_short a first) s (room_last (too_short b second)))

pub splitting_listed-roomless : (k n set : ℕ) (u : List ℕ) {first second lengths : List ℕ} {r : ℕ} {z : ℤ} → length lengths < 2
    → r ≡ (set_refusal k n set then word_refusal n u) → z ≡ refused (r then 14)
    → (z, ((first, second), lengths)) ≡ splitting_listed k n set u first second lengths
unfolding splitting_listed
splitting_listed-roomless k n set u {first} {second} {lengths} h e f =
    let p = splitting k n set u first second in
    rw (f, e, ← roomless-splitting k n set u first second)
    (sym (beside_roomless (split-numbers p.answer) (p.first, p.second) (first, second) lengths (omega arith) h
    (splitting_still k n set u first second)))
