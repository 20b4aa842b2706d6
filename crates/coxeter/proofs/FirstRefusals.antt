-- Which refusal each call on words and windows gives (CO1 to CO4 and the lists of checks in I4 to I15, I33 and I34
-- of the specification): the checks that its clause names, in their order, and no other. Each law is an equation
-- with `first_of` of that list, for every input; FirstFailing says what `first_of` is.
--
-- Sections: the lists of checks; calls that write; other calls.
-- Not here: when each test holds (ChecksExactly, Sentences), what is written (Written, Unchanged).
-- Assumes nothing.
use mathlib.Core.Path.{◌≡◌, refl, ap}
use mathlib.Core.List.{List, [], ◌∷◌}
use Prim.Native.Nat.{ℕ}
use lib.IntN.{ℤ}
use lib.ListN.{length}
use Rattle.coxeter.specs.declared.Kind.{Kind}
use Rattle.coxeter.specs.Kinds.{kind_of, lanes}
use Rattle.coxeter.specs.Windows.{window, product, inverse}
use Rattle.coxeter.specs.Length.{crossings, window_length}
use Rattle.coxeter.specs.NormalForm.{normal_form, word_normal_form}
use Rattle.coxeter.specs.Checks.{◌then◌, first_of, wrong_kind, wrong_rank, too_long, wrong_letter, wrong_lanes, wrong_entry}
use Rattle.coxeter.specs.Checks.{odd_negatives, too_short, rank_refusal, word_refusal, window_refusal}
use Rattle.coxeter.specs.Calls.{answer_of, verdict_of, counted_of, writes, window_of_word, product_of_windows, inverse_of_window}
use Rattle.coxeter.specs.Calls.{normal_form_of_window, normal_form_of_word, product_of_words, inverse_of_word, length_of_window, length_of_word}
use Rattle.coxeter.specs.Calls.{crossings_of_window, crossings_of_word, same_presets, presets_equal}
use Rattle.coxeter.proofs.Refusals.{then_assoc}
use Rattle.coxeter.proofs.FirstFailing.{check_then, rank_then, word_then, window_then}

-- ---- the lists of checks

-- C7, C8: a word by itself is refused by the first of checks 7 and 8 that fails
pub word_alone : (n : ℕ) (u : List ℕ) → word_refusal n u ≡ first_of ((7, too_long u) ∷ (8, wrong_letter n u) ∷ [])
unfolding word_refusal
word_alone n u = check_then 6 (too_long u) refl

-- C9, C10, C11: a window by itself is refused by the first of checks 9 to 11 that fails
window_alone : (k : Kind) (n : ℕ) (w : List ℤ)
    → window_refusal k n w ≡ first_of ((9, wrong_lanes k n w) ∷ (10, wrong_entry k (lanes k n) w) ∷ (11, odd_negatives k w) ∷ [])
unfolding window_refusal
window_alone k n w = check_then 8 (wrong_lanes k n w) (check_then 9 (wrong_entry k (lanes k n) w) refl)

-- I33: a kind and a rank are refused by the first of checks 5 and 6 that fails
pub rank_checks : (k n : ℕ) → rank_refusal k n ≡ first_of ((5, wrong_kind k) ∷ (6, wrong_rank (kind_of k) n) ∷ [])
unfolding rank_refusal
rank_checks k n = check_then 4 (wrong_kind k) refl

-- I33: a preset is refused by the first of checks 5 to 8 that fails
pub word_checks : (k n : ℕ) (u : List ℕ) → (rank_refusal k n then word_refusal n u)
    ≡ first_of ((5, wrong_kind k) ∷ (6, wrong_rank (kind_of k) n) ∷ (7, too_long u) ∷ (8, wrong_letter n u) ∷ [])
word_checks k n u = rank_then k n (word_alone n u)

-- I33, CO4: two words are refused by the first that fails of checks 5 to 8 of the first, then 7 and 8 of the second
pub words_checks : (k n : ℕ) (u v : List ℕ) → (rank_refusal k n then word_refusal n u then word_refusal n v)
    ≡ first_of
    ((5, wrong_kind k) ∷ (6, wrong_rank (kind_of k) n)
    ∷ (7, too_long u) ∷ (8, wrong_letter n u)
    ∷ (7, too_long v) ∷ (8, wrong_letter n v)
    ∷ [])
words_checks k n u v = rank_then k n (word_then n u (word_alone n v))

-- I33, CO4: two presets are refused by the first that fails of checks 5 to 8 of the first, then 5 to 8 of the second
pub presets_checks : (k n : ℕ) (u : List ℕ) (l m : ℕ) (v : List ℕ)
    → (rank_refusal k n then word_refusal n u then rank_refusal l m then word_refusal m v)
    ≡ first_of
    ((5, wrong_kind k) ∷ (6, wrong_rank (kind_of k) n)
    ∷ (7, too_long u) ∷ (8, wrong_letter n u)
    ∷ (5, wrong_kind l) ∷ (6, wrong_rank (kind_of l) m)
    ∷ (7, too_long v) ∷ (8, wrong_letter m v)
    ∷ [])
presets_checks k n u l m v = rank_then k n (word_then n u (word_checks l m v))

-- I33: a window of a kind and a rank is refused by the first of checks 5, 6 and 9 to 11 that fails
pub window_checks : (k n : ℕ) (w : List ℤ) → (rank_refusal k n then window_refusal (kind_of k) n w)
    ≡ first_of
    ((5, wrong_kind k) ∷ (6, wrong_rank (kind_of k) n)
    ∷ (9, wrong_lanes (kind_of k) n w) ∷ (10, wrong_entry (kind_of k) (lanes (kind_of k) n) w) ∷ (11, odd_negatives (kind_of k) w)
    ∷ [])
window_checks k n w = rank_then k n (window_alone (kind_of k) n w)

-- I33, CO4: two windows are refused by the first that fails of checks 5, 6 and 9 to 11 of the first, then 9 to 11 of
-- the second
pub windows_checks : (k n : ℕ) (u v : List ℤ) → (rank_refusal k n then window_refusal (kind_of k) n u then window_refusal (kind_of k) n v)
    ≡ first_of
    ((5, wrong_kind k) ∷ (6, wrong_rank (kind_of k) n)
    ∷ (9, wrong_lanes (kind_of k) n u) ∷ (10, wrong_entry (kind_of k) (lanes (kind_of k) n) u) ∷ (11, odd_negatives (kind_of k) u)
    ∷ (9, wrong_lanes (kind_of k) n v) ∷ (10, wrong_entry (kind_of k) (lanes (kind_of k) n) v) ∷ (11, odd_negatives (kind_of k) v)
    ∷ [])
windows_checks k n u v = rank_then k n (window_then (kind_of k) n u (window_alone (kind_of k) n v))

-- ---- calls that write

-- calls that make these checks and write l, whatever l is
module _ {X : Type 0} (k n : ℕ) (l out : List X) where
  -- I4, I6, I8: a call on a word answers the number of the first of checks 5 to 8 and 14 that fails, or else the
  -- length
  word_writes-first_of : (u : List ℕ) → (writes (rank_refusal k n then word_refusal n u) l out).answer
      ≡ answer_of
      (first_of
      ((5, wrong_kind k) ∷ (6, wrong_rank (kind_of k) n)
      ∷ (7, too_long u) ∷ (8, wrong_letter n u)
      ∷ (14, too_short (length l) out)
      ∷ []))
      (length l)
  unfolding writes
  word_writes-first_of u = ap (λ (r : ℕ). answer_of r (length l)) (rw then_assoc (rank_then k n (word_then n u refl)))

  -- I7, CO4: a call on two words answers the number of the first that fails of checks 5 to 8 of the first, 7 and 8 of
  -- the second and 14, or else the length
  words_writes-first_of : (u v : List ℕ) → (writes (rank_refusal k n then word_refusal n u then word_refusal n v) l out).answer
      ≡ answer_of
      (first_of
      ((5, wrong_kind k) ∷ (6, wrong_rank (kind_of k) n)
      ∷ (7, too_long u) ∷ (8, wrong_letter n u)
      ∷ (7, too_long v) ∷ (8, wrong_letter n v)
      ∷ (14, too_short (length l) out)
      ∷ []))
      (length l)
  unfolding writes
  words_writes-first_of u v = ap (λ (r : ℕ). answer_of r (length l)) (simp then_assoc (rank_then k n (word_then n u (word_then n v refl))))

  -- I5, I10, I34: a call on a window answers the number of the first of checks 5, 6, 9 to 11 and 14 that fails, or
  -- else the length
  pub window-writes-first_of : (w : List ℤ) → (writes (rank_refusal k n then window_refusal (kind_of k) n w) l out).answer
      ≡ answer_of
      (first_of
      ((5, wrong_kind k) ∷ (6, wrong_rank (kind_of k) n)
      ∷ (9, wrong_lanes (kind_of k) n w) ∷ (10, wrong_entry (kind_of k) (lanes (kind_of k) n) w) ∷ (11, odd_negatives (kind_of k) w)
      ∷ (14, too_short (length l) out)
      ∷ []))
      (length l)
  unfolding writes
  window-writes-first_of w = ap (λ (r : ℕ). answer_of r (length l)) (rw then_assoc (rank_then k n (window_then (kind_of k) n w refl)))

  -- I9, I34, CO4: a call on two windows answers the number of the first that fails of checks 5, 6, 9 to 11 of the
  -- first, 9 to 11 of the second and 14, or else the length
  pub windows-writes-first_of : (u v : List ℤ)
      → (writes (rank_refusal k n then window_refusal (kind_of k) n u then window_refusal (kind_of k) n v) l out).answer
      ≡ answer_of
      (first_of
      ((5, wrong_kind k) ∷ (6, wrong_rank (kind_of k) n)
      ∷ (9, wrong_lanes (kind_of k) n u) ∷ (10, wrong_entry (kind_of k) (lanes (kind_of k) n) u) ∷ (11, odd_negatives (kind_of k) u)
      ∷ (9, wrong_lanes (kind_of k) n v) ∷ (10, wrong_entry (kind_of k) (lanes (kind_of k) n) v) ∷ (11, odd_negatives (kind_of k) v)
      ∷ (14, too_short (length l) out)
      ∷ []))
      (length l)
  unfolding writes
  windows-writes-first_of u v =
      ap (λ (r : ℕ). answer_of r (length l))
      (simp then_assoc (rank_then k n (window_then (kind_of k) n u (window_then (kind_of k) n v refl))))

-- I4: the call answers the number of the first of checks 5 to 8 and 14 that fails, or else the window's length
pub window_of_word-first_of : (k n : ℕ) (u : List ℕ) (out : List ℤ) → let l = length (window (kind_of k) n u) in
    (window_of_word k n u out).answer
    ≡ answer_of
    (first_of ((5, wrong_kind k) ∷ (6, wrong_rank (kind_of k) n) ∷ (7, too_long u) ∷ (8, wrong_letter n u) ∷ (14, too_short l out) ∷ []))
    l
unfolding window_of_word
window_of_word-first_of k n u out = word_writes-first_of k n (window (kind_of k) n u) out u

-- I5: the call answers the number of the first of checks 5, 6, 9 to 11 and 14 that fails, or else the normal form's
-- length
pub normal_form_of_window-first_of : (k n : ℕ) (w : List ℤ) (out : List ℕ) → let l = length (normal_form (kind_of k) n w) in
    (normal_form_of_window k n w out).answer
    ≡ answer_of
    (first_of
    ((5, wrong_kind k) ∷ (6, wrong_rank (kind_of k) n)
    ∷ (9, wrong_lanes (kind_of k) n w) ∷ (10, wrong_entry (kind_of k) (lanes (kind_of k) n) w) ∷ (11, odd_negatives (kind_of k) w)
    ∷ (14, too_short l out)
    ∷ []))
    l
unfolding normal_form_of_window
normal_form_of_window-first_of k n w out = window-writes-first_of k n (normal_form (kind_of k) n w) out w

-- I6: the call answers the number of the first of checks 5 to 8 and 14 that fails, or else the normal form's length
pub normal_form_of_word-first_of : (k n : ℕ) (u out : List ℕ) → let l = length (word_normal_form (kind_of k) n u) in
    (normal_form_of_word k n u out).answer
    ≡ answer_of
    (first_of ((5, wrong_kind k) ∷ (6, wrong_rank (kind_of k) n) ∷ (7, too_long u) ∷ (8, wrong_letter n u) ∷ (14, too_short l out) ∷ []))
    l
unfolding normal_form_of_word
normal_form_of_word-first_of k n u out = word_writes-first_of k n (word_normal_form (kind_of k) n u) out u

-- I7, CO4: the call answers the number of the first that fails of checks 5 to 8 of the first word, 7 and 8 of the
-- second and 14, or else the normal form's length
pub product_of_words-first_of : (k n : ℕ) (u v out : List ℕ)
    → let l = length (normal_form (kind_of k) n (product (window (kind_of k) n u) (window (kind_of k) n v))) in
    (product_of_words k n u v out).answer
    ≡ answer_of
    (first_of
    ((5, wrong_kind k) ∷ (6, wrong_rank (kind_of k) n)
    ∷ (7, too_long u) ∷ (8, wrong_letter n u)
    ∷ (7, too_long v) ∷ (8, wrong_letter n v)
    ∷ (14, too_short l out)
    ∷ []))
    l
unfolding product_of_words
product_of_words-first_of k n u v out =
    words_writes-first_of k n (normal_form (kind_of k) n (product (window (kind_of k) n u) (window (kind_of k) n v))) out u v

-- I8: the call answers the number of the first of checks 5 to 8 and 14 that fails, or else the normal form's length
pub inverse_of_word-first_of : (k n : ℕ) (u out : List ℕ) → let l = length (normal_form (kind_of k) n (inverse (window (kind_of k) n u))) in
    (inverse_of_word k n u out).answer
    ≡ answer_of
    (first_of ((5, wrong_kind k) ∷ (6, wrong_rank (kind_of k) n) ∷ (7, too_long u) ∷ (8, wrong_letter n u) ∷ (14, too_short l out) ∷ []))
    l
unfolding inverse_of_word
inverse_of_word-first_of k n u out = word_writes-first_of k n (normal_form (kind_of k) n (inverse (window (kind_of k) n u))) out u

-- I9, CO4: the call answers the number of the first that fails of checks 5, 6, 9 to 11 of the first window, 9 to 11 of
-- the second and 14, or else the product's length
pub product_of_windows-first_of : (k n : ℕ) (u v out : List ℤ) → let l = length (product u v) in
    (product_of_windows k n u v out).answer
    ≡ answer_of
    (first_of
    ((5, wrong_kind k) ∷ (6, wrong_rank (kind_of k) n)
    ∷ (9, wrong_lanes (kind_of k) n u) ∷ (10, wrong_entry (kind_of k) (lanes (kind_of k) n) u) ∷ (11, odd_negatives (kind_of k) u)
    ∷ (9, wrong_lanes (kind_of k) n v) ∷ (10, wrong_entry (kind_of k) (lanes (kind_of k) n) v) ∷ (11, odd_negatives (kind_of k) v)
    ∷ (14, too_short l out)
    ∷ []))
    l
unfolding product_of_windows
product_of_windows-first_of k n u v out = windows-writes-first_of k n (product u v) out u v

-- I10: the call answers the number of the first of checks 5, 6, 9 to 11 and 14 that fails, or else the inverse's
-- length
pub inverse_of_window-first_of : (k n : ℕ) (w out : List ℤ) → let l = length (inverse w) in
    (inverse_of_window k n w out).answer
    ≡ answer_of
    (first_of
    ((5, wrong_kind k) ∷ (6, wrong_rank (kind_of k) n)
    ∷ (9, wrong_lanes (kind_of k) n w) ∷ (10, wrong_entry (kind_of k) (lanes (kind_of k) n) w) ∷ (11, odd_negatives (kind_of k) w)
    ∷ (14, too_short l out)
    ∷ []))
    l
unfolding inverse_of_window
inverse_of_window-first_of k n w out = window-writes-first_of k n (inverse w) out w

-- ---- other calls

-- I11: the call answers the number of the first of checks 5 to 8 that fails, or else the length
pub length_of_word-first_of : (k n : ℕ) (u : List ℕ)
    → length_of_word k n u
    ≡ answer_of
    (first_of ((5, wrong_kind k) ∷ (6, wrong_rank (kind_of k) n) ∷ (7, too_long u) ∷ (8, wrong_letter n u) ∷ []))
    (window_length (kind_of k) (window (kind_of k) n u))
unfolding length_of_word
length_of_word-first_of k n u = ap (λ (r : ℕ). answer_of r (window_length (kind_of k) (window (kind_of k) n u))) (word_checks k n u)

-- I12: the call answers the number of the first of checks 5, 6 and 9 to 11 that fails, or else the length
pub length_of_window-first_of : (k n : ℕ) (w : List ℤ)
    → length_of_window k n w
    ≡ answer_of
    (first_of
    ((5, wrong_kind k) ∷ (6, wrong_rank (kind_of k) n)
    ∷ (9, wrong_lanes (kind_of k) n w) ∷ (10, wrong_entry (kind_of k) (lanes (kind_of k) n) w) ∷ (11, odd_negatives (kind_of k) w)
    ∷ []))
    (window_length (kind_of k) w)
unfolding length_of_window
length_of_window-first_of k n w = ap (λ (r : ℕ). answer_of r (window_length (kind_of k) w)) (window_checks k n w)

-- I13: the call answers the number of the first of checks 5 to 8 that fails, or else the counts
pub crossings_of_word-first_of : (k n : ℕ) (u : List ℕ)
    → crossings_of_word k n u
    ≡ counted_of
    (first_of ((5, wrong_kind k) ∷ (6, wrong_rank (kind_of k) n) ∷ (7, too_long u) ∷ (8, wrong_letter n u) ∷ []))
    (crossings (kind_of k) (window (kind_of k) n u))
unfolding crossings_of_word
crossings_of_word-first_of k n u = ap (λ (r : ℕ). counted_of r (crossings (kind_of k) (window (kind_of k) n u))) (word_checks k n u)

-- I14: the call answers the number of the first of checks 5, 6 and 9 to 11 that fails, or else the counts
pub crossings_of_window-first_of : (k n : ℕ) (w : List ℤ)
    → crossings_of_window k n w
    ≡ counted_of
    (first_of
    ((5, wrong_kind k) ∷ (6, wrong_rank (kind_of k) n)
    ∷ (9, wrong_lanes (kind_of k) n w) ∷ (10, wrong_entry (kind_of k) (lanes (kind_of k) n) w) ∷ (11, odd_negatives (kind_of k) w)
    ∷ []))
    (crossings (kind_of k) w)
unfolding crossings_of_window
crossings_of_window-first_of k n w = ap (λ (r : ℕ). counted_of r (crossings (kind_of k) w)) (window_checks k n w)

-- I15, CO4: the call answers the number of the first that fails of checks 5 to 8 of the first preset, then 5 to 8 of
-- the second, or else the verdict
pub presets_equal-first_of : (k n : ℕ) (u : List ℕ) (l m : ℕ) (v : List ℕ)
    → presets_equal k n u l m v
    ≡ verdict_of
    (first_of
    ((5, wrong_kind k) ∷ (6, wrong_rank (kind_of k) n)
    ∷ (7, too_long u) ∷ (8, wrong_letter n u)
    ∷ (5, wrong_kind l) ∷ (6, wrong_rank (kind_of l) m)
    ∷ (7, too_long v) ∷ (8, wrong_letter m v)
    ∷ []))
    (same_presets k n u l m v)
unfolding presets_equal
presets_equal-first_of k n u l m v = ap (λ (r : ℕ). verdict_of r (same_presets k n u l m v)) (presets_checks k n u l m v)
