-- Reading a book in plain terms (I25 to I27, B12, B13 and B23 of the specification): which book and which preset is
-- refused with which number, and exactly when.
-- Not here: appending and converting (AppendingSentences, ConversionSentences), what an accepted call leaves
-- (Sentences).
--
-- Sections: ranges; opening; reading a preset; kind A at rank 1.
-- Assumes nothing.
use mathlib.Core.Path.{◌≡◌, refl, sym, ap, ◌∙◌}
use mathlib.Core.Bool.{Bool, true, false, not, true≢false}
use mathlib.Core.Logic.{◌⊎◌, inl, inr, ⊎_elim, ◌↔◌}
use mathlib.Core.List.{List, [], ◌∷◌}
use Prim.Native.Nat.{ℕ, ◌+◌, ◌≤◌, ◌<◌}
use native.Mathlib.Decide.{ℕ_discrete}
use native.Mathlib.Omega.{arith}
use lib.Dec.{eqb}
use lib.ListN.{length, get_or}
use borrow.Author.Tests.{eq-eqb, ne_eqb, lt-ltb, le-ltb, leb-false}
use Rattle.coxeter.specs.answers.Answer.{Refused}
use Rattle.coxeter.specs.declared.Kind.TheVariants.{A, B, D}
use Rattle.coxeter.specs.Kinds.{pick, kind_of, lanes}
use Rattle.coxeter.specs.Checks.{first_of, check, ◌then◌, wrong_kind, too_long, wrong_letter, rank_refusal, word_refusal, WordOf}
use Rattle.coxeter.specs.Calls.{Yields}
use Rattle.coxeter.proofs.Refusals.{then_zero, check_zero}
use Rattle.book_format.specs.declared.Edition.{Edition}
use Rattle.book_format.specs.declared.Edition.TheVariants.{First, Second}
use Rattle.book_format.specs.answers.Opened as opened
use Rattle.book_format.specs.answers.Preset as preset
use Rattle.book_format.specs.Books.{count, offset, head_size, kind_at, rank_at, lanes_at}
use Rattle.book_format.specs.Books.{letter_count_at, letters_at, wrong_size, wrong_count, misplaced, no_such_preset, greatest_in_book}
use Rattle.book_format.specs.Books.{wrong_rank_in_book, wrong_lane_count, book_rank_refusal, book_refusal, record_refusal, preset_refusal}
use Rattle.book_format.specs.Calls.{preset_of, checked_book, checked_preset, letters_of, reading_presets}
use Rattle.book_format.specs.Conversion.{record_tests}
use Rattle.book_format.proofs.Numbers.{then_late, then_early, check-other, check_holds, first_of_never, rank_other, word_other}
use Rattle.book_format.proofs.RankLaws.{book_rank_within}
use Rattle.book_format.proofs.PresetLaws.{checked_book_exactly, preset_at_exactly, preset_refusal_record, letters_of-refused}
use Rattle.book_format.proofs.Appending.{checked_preset_of, letters_of_of}
use Rattle.book_format.proofs.Outcomes.{book_refusal-first_of, preset_refusal-first_of, record_conversion_refusal-first_of}
use Rattle.book_format.proofs.Outcomes.{book_refusal_le, first_lane-count, second_lane-count}
use Rattle.book_format.proofs.Unchanged.{reading_presets-unchanged}
use Rattle.book_format.proofs.NoBytes.{refusal_1_exactly}
use Rattle.book_format.proofs.Retired.{retired_read, retired-converted, rank_1_taken}

-- ---- ranges

wrong_kind_exactly : (k : ℕ) → wrong_kind k ≡ false → (k ≡ 1) ⊎ ((k ≡ 2) ⊎ (k ≡ 3))
unfolding wrong_kind
wrong_kind_exactly k e = elim (ℕ_discrete k 1) [
  | yes z ↦ inl z
  | no f ↦ elim (ℕ_discrete k 2) [
    | yes z ↦ inr (inl z)
    | no g ↦ elim (ℕ_discrete k 3) [
      | yes z ↦ inr (inr z)
      | no h ↦ absurd (true≢false (rw (ne_eqb k 1 f, ne_eqb k 2 g, ne_eqb k 3 h) at e))
    ]
  ]
]

-- a kind and a rank that a record may have, in either edition
abbrev RecordRanges : Edition → ℕ → ℕ → Type 0
RecordRanges ed k n =
    ((k ≡ 1) × (1 ≤ n) × (n ≤ greatest_in_book ed A)) ⊎ (((k ≡ 2) × (2 ≤ n) × (n ≤ greatest_in_book ed B)) ⊎ ((k ≡ 3) × (4 ≤ n) × (n ≤ greatest_in_book ed D)))

ranges : (ed : Edition) (k n : ℕ) → (book_rank_refusal ed k n ≡ 0) ↔ RecordRanges ed k n
unfolding book_rank_refusal wrong_kind wrong_rank_in_book kind_of
ranges ed k n = (
  λ h.
      let w = book_rank_within ed k n h in
      let five = (then_zero (check 5 (wrong_kind k)) (check 6 (wrong_rank_in_book ed (kind_of k) n)) h).0 in
      ⊎_elim (λ z. inl (z, rw z at w.0, rw z at w.1))
      (⊎_elim (λ z. inr (inl (z, rw z at w.0, rw z at w.1))) (λ z. inr (inr (z, rw z at w.0, rw z at w.1))))
      (wrong_kind_exactly k (check_zero 5 (wrong_kind k) refl five)),
  ⊎_elim (λ p. rw (p.0, le-ltb n 1 p.1, le-ltb (greatest_in_book ed A) n p.2))
      (⊎_elim (λ p. rw (p.0, le-ltb n 2 p.1, le-ltb (greatest_in_book ed B) n p.2))
      (λ p. rw (p.0, le-ltb n 4 p.1, le-ltb (greatest_in_book ed D) n p.2))),
)

-- B12
pub first_edition_ranges : (k n : ℕ)
    → (book_rank_refusal First k n ≡ 0) ↔ (((k ≡ 1) × (1 ≤ n) × (n ≤ 31)) ⊎ (((k ≡ 2) × (2 ≤ n) × (n ≤ 32)) ⊎ ((k ≡ 3) × (4 ≤ n) × (n ≤ 32))))
first_edition_ranges = ranges First

-- B13
pub second_edition_ranges : (k n : ℕ)
    → (book_rank_refusal Second k n ≡ 0) ↔ (((k ≡ 1) × (1 ≤ n) × (n ≤ 63)) ⊎ (((k ≡ 2) × (2 ≤ n) × (n ≤ 64)) ⊎ ((k ≡ 3) × (4 ≤ n) × (n ≤ 64))))
second_edition_ranges = ranges Second

-- B12: above the first edition's ranges
pub rank_above : (k n : ℕ) → (((k ≡ 1) × (31 < n)) ⊎ (((k ≡ 2) ⊎ (k ≡ 3)) × (32 < n))) → book_rank_refusal First k n ≡ 6
unfolding book_rank_refusal wrong_kind wrong_rank_in_book kind_of
rank_above k n =
    ⊎_elim (λ p. rw (p.0, le-ltb n 1 (omega (arith, p.1)), lt-ltb 31 n p.1))
    (λ p. ⊎_elim (λ z. rw (z, le-ltb n 2 (omega (arith, p.1)), lt-ltb 32 n p.1)) (λ z. rw (z, le-ltb n 4 (omega (arith, p.1)), lt-ltb 32 n p.1)) p.0)

-- ---- opening

-- CO3, I25: the number of the first test that holds
pub opening_refused : (ed : Edition) (b : List ℕ) (r : ℕ)
    → (checked_book ed b ≡ opened.Refused r) ↔ ((first_of ((1, wrong_size b) ∷ (2, wrong_count b) ∷ (3, misplaced ed b) ∷ []) ≡ r) × (r ≡ 0 → ⊥))
opening_refused ed b r = rw (← book_refusal-first_of ed b) ((checked_book_exactly ed b).0 r)

-- C1: for these lengths, and for nothing else
pub refused_1_exactly : (ed : Edition) (b : List ℕ) → (checked_book ed b ≡ opened.Refused 1) ↔ ((length b ≡ 1) ⊎ (65535 < length b))
refused_1_exactly ed b = (
  λ e. (refusal_1_exactly b).0 (first (wrong_size b) ((opening_refused ed b 1).0 e).0),
  λ h. (opening_refused ed b 1).1 (rw ((refusal_1_exactly b).1 h) refl, λ z. omega arith),
)
  where
    others : List (ℕ × Bool)
    others = (2, wrong_count b) ∷ (3, misplaced ed b) ∷ []

    first : (t : Bool) → pick t 1 (first_of others) ≡ 1 → t ≡ true
    first true e = refl
    first false e = absurd (first_of_never 1 others (λ z. absurd (omega arith), (λ z. absurd (omega arith), tt)) (λ z. omega arith) e)

-- ---- reading a preset

-- I26: reading a preset is refused exactly with the number of its refusal
pub preset-refusal : (ed : Edition) (b : List ℕ) (i r : ℕ) → (checked_preset ed b i ≡ preset.Refused r) ↔ ((preset_refusal ed b i ≡ r) × (r ≡ 0 → ⊥))
unfolding checked_preset
preset-refusal ed b i = (preset_at_exactly ed b (offset b i) (preset_refusal ed b i)).0

module _ (ed : Edition) (b : List ℕ) (i r : ℕ) where
  -- CO3, I26: the number of the first test that holds, 17 right after 6
  pub preset_refused : let o = offset b i in
      (checked_preset ed b i ≡ preset.Refused r)
      ↔ ((first_of
      ((1, wrong_size b)
      ∷ (2, wrong_count b)
      ∷ (3, misplaced ed b)
      ∷ (4, no_such_preset b i)
      ∷ (5, wrong_kind (kind_at b o))
      ∷ (6, wrong_rank_in_book ed (kind_of (kind_at b o)) (rank_at b o))
      ∷ (17, wrong_lane_count ed b o)
      ∷ (7, too_long (letters_at ed b o))
      ∷ (8, wrong_letter (rank_at b o) (letters_at ed b o))
      ∷ [])
      ≡ r)
      × (r ≡ 0 → ⊥))
  preset_refused = rw (← preset_refusal-first_of ed b i) (preset-refusal ed b i r)

  -- B16
  pub preset_refused-letters : checked_preset ed b i ≡ preset.Refused r → letters_of ed b i ≡ []
  preset_refused-letters e = let p = (preset-refusal ed b i r).0 e in sym (letters_of-refused ed b i (λ z. p.1 (sym p.0 ∙ z)))

-- D6, I30: a run of presets that is refused leaves its output as it was lent
pub run_refused-unchanged : (ed : Edition) (b : List ℕ) (i : ℕ) (before after : List ℕ) (r : ℕ) → Yields (reading_presets ed b i before) (Refused r) after
    → after ≡ before
run_refused-unchanged ed b i before after r c = c.1 ∙ reading_presets-unchanged ed b i before r (sym c.0)

-- B12: a higher rank, read
pub above_range_read : (b : List ℕ) (i : ℕ) → book_refusal First b ≡ 0 → i < count b
    → (((kind_at b (offset b i) ≡ 1) × (31 < rank_at b (offset b i)))
    ⊎ (((kind_at b (offset b i) ≡ 2) ⊎ (kind_at b (offset b i) ≡ 3)) × (32 < rank_at b (offset b i))))
    → checked_preset First b i ≡ preset.Refused 6
unfolding record_refusal
above_range_read b i z h g =
    let o = offset b i in
    (preset-refusal First b i 6).1 (preset_refusal_record First b i z h ∙ rw (rank_above (kind_at b o) (rank_at b o) g), λ e. omega arith)

-- C17, K3: the lane count that it asks for
pub lane_counts : (n : ℕ) → (lanes (kind_of 1) n ≡ n + 1) × (lanes (kind_of 2) n ≡ n) × (lanes (kind_of 3) n ≡ n)
unfolding kind_of
lane_counts n = (refl, refl, refl)

-- C17: of a record
pub record_17 : (ed : Edition) (b : List ℕ) (o : ℕ) → record_refusal ed b o ≡ 17
    → (book_rank_refusal ed (kind_at b o) (rank_at b o) ≡ 0) × (wrong_lane_count ed b o ≡ true)
unfolding record_refusal
record_17 ed b o e =
    let rank = book_rank_refusal ed (kind_at b o) (rank_at b o) in
    let lane = check 17 (wrong_lane_count ed b o) in
    let word = word_refusal (rank_at b o) (letters_at ed b o) in
    let p = then_late rank (lane then word) 17 (rank_other ed (kind_at b o) (rank_at b o) 17 (omega arith)) e in
    let q = then_early lane word 17 (word_other (rank_at b o) (letters_at ed b o) 17 (omega arith)) p.1 in
    (p.0, check_holds 17 (wrong_lane_count ed b o) (λ z. omega arith) q)

preset_17 : (ed : Edition) (b : List ℕ) (i : ℕ) → preset_refusal ed b i ≡ 17
    → (book_refusal ed b ≡ 0) × (i < count b) × (record_refusal ed b (offset b i) ≡ 17)
unfolding preset_refusal no_such_preset
preset_17 ed b i e =
    let four = check 4 (no_such_preset b i) in
    let own = record_refusal ed b (offset b i) in
    let p = then_late (book_refusal ed b) (four then own) 17 (λ z. omega (arith, book_refusal_le ed b)) e in
    let q = then_late four own 17 (check-other 4 17 (no_such_preset b i) (λ z. omega arith) (λ z. omega arith)) p.1 in
    (p.0, leb-false (count b) i (check_zero 4 (no_such_preset b i) refl q.0), q.1)

-- C17: exactly when checks 1 to 6 accept and the byte after the rank is another
pub refused_17_exactly : (b : List ℕ) (i : ℕ) → let o = offset b i in
    (checked_preset Second b i ≡ preset.Refused 17)
    ↔ ((book_refusal Second b ≡ 0)
    × (i < count b)
    × (book_rank_refusal Second (kind_at b o) (rank_at b o) ≡ 0)
    × (get_or b (o + 2) 0 ≡ lanes (kind_of (kind_at b o)) (rank_at b o) → ⊥))
unfolding record_refusal
refused_17_exactly b i =
    let o = offset b i in
    let m = lanes (kind_of (kind_at b o)) (rank_at b o) in
    let test : not (eqb (get_or b (o + 2) 0) m) ≡ wrong_lane_count Second b o = second_lane-count b o m refl in (
      λ e.
          let p = preset_17 Second b i ((preset-refusal Second b i 17).0 e).0 in
          let q = record_17 Second b o p.2 in
          (p.0, p.1, q.0, λ same. true≢false (sym q.1 ∙ sym test ∙ ap not (eq-eqb (get_or b (o + 2) 0) m same))),
      λ p.
          let w : wrong_lane_count Second b o ≡ true = sym test ∙ ap not (ne_eqb (get_or b (o + 2) 0) m p.3) in
          (preset-refusal Second b i 17).1 (preset_refusal_record Second b i p.0 p.1 ∙ rw (p.2, w), λ z. omega arith),
    )

-- C17: the first edition, which has no such byte, never gives it
pub first_edition_never_17 : (b : List ℕ) (i : ℕ) → checked_preset First b i ≡ preset.Refused 17 → ⊥
first_edition_never_17 b i e =
    let p = preset_17 First b i ((preset-refusal First b i 17).0 e).0 in
    true≢false (sym (record_17 First b (offset b i) p.2).1 ∙ first_lane-count b (offset b i))

-- ---- kind A at rank 1

-- B23: preset i of a book is of kind A and rank 1, with its lane count, 2, and with letters that pass. It is found,
-- its letters are handed out, and no test of a conversion holds of its record
module _ (ed : Edition) (b : List ℕ) (i : ℕ) (z : book_refusal ed b ≡ 0) (h : i < count b) (k : kind_at b (offset b i) ≡ 1) (n : rank_at b (offset b i) ≡ 1)
    (m : lanes_at ed b (offset b i) ≡ 2) (w : WordOf 1 (letters_at ed b (offset b i))) where
  -- B23
  pub rank_1_read : (checked_preset ed b i ≡ preset.Found 1 1 (offset b i + head_size ed) (letter_count_at ed b (offset b i)))
      × (letters_of ed b i ≡ letters_at ed b (offset b i))
  unfolding preset_of
  rank_1_read =
      let o = offset b i in
      let r : preset_refusal ed b i ≡ 0 = preset_refusal_record ed b i z h ∙ retired_read ed b o (letters_at ed b o) k n m refl w in
      (checked_preset_of ed b i r refl k n refl, letters_of_of ed b i o 0 (letters_at ed b o) r refl refl)

  -- B23
  pub rank_1_converted : first_of (record_tests ed b i) ≡ 0
  rank_1_converted = let o = offset b i in sym (record_conversion_refusal-first_of ed b i) ∙ retired-converted ed b o (letters_at ed b o) k n m refl w

-- K5: r is the refusal of a call's other checks
pub rank_1_calls : (r : ℕ) → (rank_refusal 1 1 then r) ≡ r
rank_1_calls r = rw rank_1_taken
