-- Refused conversions in plain terms (I29, B25, C13, C17 and C18 of the specification).
-- Not here: what an accepted conversion leaves (Sentences).
--
-- Sections: the limits; converting; refusals 17 and 18; refusals 13 and 14.
-- Assumes nothing.
use mathlib.Core.Path.{◌≡◌, refl, sym, ap, ◌∙◌}
use mathlib.Core.Bool.{true, true≢false}
use mathlib.Core.Logic.{◌↔◌}
use mathlib.Core.List.{List, [], ◌∷◌, ◌++◌}
use Prim.Native.Nat.{ℕ, ◌+◌, ◌-◌, ◌≤◌, ◌<◌}
use native.Mathlib.Decide.{ℕ_discrete}
use native.Mathlib.Nat.{zero-add}
use native.Mathlib.Omega.{arith}
use lib.ListN.{length, get_or}
use borrow.Author.Tests.{lt-ltb, ltb-true}
use Rattle.coxeter.specs.answers.Answer.{Answer}
use Rattle.coxeter.specs.answers.Answer.{Length, Refused}
use Rattle.coxeter.specs.Checks.{first_of, check, ◌then◌, too_short, word_refusal}
use Rattle.coxeter.specs.Calls.{Yields, writes}
use Rattle.coxeter.proofs.Refusals.{then_none, then_some}
use Rattle.coxeter.proofs.Writes.{length_or_refused}
use Rattle.coxeter.proofs.AnswersExactly.{answer_of_exactly}
use Rattle.book_format.specs.declared.Edition.{Edition}
use Rattle.book_format.specs.declared.Edition.TheVariants.{First, Second}
use Rattle.book_format.specs.Books.{count, offset, kind_at, rank_at, lanes_at, letters_at, wrong_size}
use Rattle.book_format.specs.Books.{wrong_count, misplaced, wrong_lane_count, too_large, book_rank_refusal, book_refusal, record_refusal}
use Rattle.book_format.specs.answers.Preset as preset
use Rattle.book_format.specs.Calls.{checked_preset}
use Rattle.book_format.specs.Conversion.{converted, too_many_lanes, record_conversion_refusal, records_conversion_refusal}
use Rattle.book_format.specs.Conversion.{conversion_refusal, converting, record_tests, records_tests}
use Rattle.book_format.proofs.BookLaws.{accepted}
use Rattle.book_format.proofs.Numbers.{then_late, then_early, check-other, check_holds, rank_other, word_other}
use Rattle.book_format.proofs.Outcomes.{record_conversion_refusal-first_of, conversion_refusal-first_of, converting-first_of, book_refusal_le, first_lane-count}
use Rattle.book_format.proofs.Unchanged.{converting-unchanged}
use Rattle.book_format.proofs.ConversionRecords.{at_record, records_stop, records_pass, records-refused, records_each, passes_tests}
use Rattle.book_format.proofs.Converting.{conversion_too_large, conversion_small, length-converted}
use Rattle.book_format.proofs.Sentences.{convert_answers}
use Rattle.book_format.proofs.PresetLaws.{preset_refusal_record}
use Rattle.book_format.proofs.ReadingSentences.{record_17, preset-refusal}

-- ---- the limits

-- C13: a new book is too large exactly if it has more than 65,535 bytes
pub too_large_exactly : (l : ℕ) → (too_large l ≡ true) ↔ (65535 < l)
unfolding too_large
too_large_exactly l = (ltb-true 65535 l, lt-ltb 65535 l)

-- C18: a record has too many lanes to go back exactly if it is one of the second edition with more than 32
pub many_lanes_exactly : (ed : Edition) (b : List ℕ) (o : ℕ) → (too_many_lanes ed b o ≡ true) ↔ ((ed ≡ Second) × (32 < lanes_at ed b o))
unfolding too_many_lanes
many_lanes_exactly First b o = (λ e. absurd (true≢false (sym e)), λ t. let e = t.0 in cc)
many_lanes_exactly Second b o = (λ e. (refl, ltb-true 32 (lanes_at Second b o) e), λ t. lt-ltb 32 (lanes_at Second b o) t.1)

-- ---- converting

module _ (ed : Edition) (b before after : List ℕ) (a : Answer) (c : Yields (converting ed b before) a after) where
  -- CO3, CO5: the number of the first test that holds: of the book, of each record in order, of the new book's
  -- size, of the output
  pub convert_refused : (r : ℕ)
      → (a ≡ Refused r)
      ↔ ((first_of
      ((1, wrong_size b)
      ∷ (2, wrong_count b)
      ∷ (3, misplaced ed b)
      ∷ (records_tests ed b (count b) 0 ++ ((13, too_large (length (converted ed b))) ∷ (14, too_short (length (converted ed b)) before) ∷ [])))
      ≡ r)
      × (r ≡ 0 → ⊥))
  convert_refused r =
      let q = (answer_of_exactly _ (length (converted ed b))).0 r in
      let e = c.0 ∙ converting-first_of ed b before in
      (λ s. q.0 (sym e ∙ s), λ p. e ∙ q.1 p)

  -- CO3: a length is answered exactly if none of them holds
  pub convert_accepted : (l : ℕ)
      → (a ≡ Length l)
      ↔ ((first_of
      ((1, wrong_size b)
      ∷ (2, wrong_count b)
      ∷ (3, misplaced ed b)
      ∷ (records_tests ed b (count b) 0 ++ ((13, too_large (length (converted ed b))) ∷ [])))
      ≡ 0)
      × (l ≡ length (converted ed b))
      × (l ≤ length before))
  convert_accepted l = rw (← conversion_refusal-first_of ed b) (convert_answers ed b before after a c l)

  -- B25, D6
  pub convert_refused-unchanged : (r : ℕ) → a ≡ Refused r → after ≡ before
  convert_refused-unchanged r e = c.1 ∙ converting-unchanged ed b before r (sym c.0 ∙ e)

  convert_refusal : (r : ℕ) → (a ≡ Refused r) ↔ (((conversion_refusal ed b then check 14 (too_short (length (converted ed b)) before)) ≡ r) × (r ≡ 0 → ⊥))
  unfolding converting writes
  convert_refusal r =
      let s = conversion_refusal ed b then check 14 (too_short (length (converted ed b)) before) in
      let q = (answer_of_exactly s (length (converted ed b))).0 r in
      (λ e. q.0 (sym c.0 ∙ e), λ p. c.0 ∙ q.1 p)

  refused_with : (r : ℕ) → conversion_refusal ed b ≡ r → (r ≡ 0 → ⊥) → (a ≡ Refused r) × (after ≡ before)
  refused_with r e f =
      let s = check 14 (too_short (length (converted ed b)) before) in
      let q = (convert_refusal r).1 (ap (λ x. x then s) e ∙ then_some r s f, f) in
      (q, convert_refused-unchanged r q)

  -- B25, CO5: record j, if the book opens and each record before it passes
  pub convert_stops : (j r : ℕ) → book_refusal ed b ≡ 0 → j < count b → ((i : ℕ) → i < j → first_of (record_tests ed b i) ≡ 0)
      → first_of (record_tests ed b j) ≡ r → (r ≡ 0 → ⊥) → (a ≡ Refused r) × (after ≡ before)
  unfolding conversion_refusal
  convert_stops j r z h p e f =
      let size = check 13 (too_large (length (converted ed b))) in
      let own : at_record ed b (0 + j) ≡ r = rw (zero-add j) (record_conversion_refusal-first_of ed b j ∙ e) in
      let s = records_stop ed b (count b) 0 j r h (passes_tests ed b j p) own f in
      refused_with r (then_none (book_refusal ed b) (records_conversion_refusal ed b (count b) 0 then size) z ∙ ap (λ x. x then size) s ∙ then_some r size f) f

  -- B25, CO5, I29: a record that reading refuses stops the conversion with the same number
  pub convert_as_read : (j r : ℕ) → book_refusal ed b ≡ 0 → j < count b → ((i : ℕ) → i < j → first_of (record_tests ed b i) ≡ 0)
      → checked_preset ed b j ≡ preset.Refused r → a ≡ Refused r
  unfolding record_conversion_refusal
  convert_as_read j r z h p e =
      let q = (preset-refusal ed b j r).0 e in
      let own : record_refusal ed b (offset b j) ≡ r = sym (preset_refusal_record ed b j z h) ∙ q.0 in
      let t : record_conversion_refusal ed b (offset b j) ≡ r =
      ap (λ x. x then check 18 (too_many_lanes ed b (offset b j))) own ∙ then_some r (check 18 (too_many_lanes ed b (offset b j))) q.1 in
      (convert_stops j r z h p (sym (record_conversion_refusal-first_of ed b j) ∙ t) q.1).0

  -- C13, of the new book
  pub convert_too_large : book_refusal ed b ≡ 0 → ((i : ℕ) → i < count b → first_of (record_tests ed b i) ≡ 0) → 65535 < length (converted ed b)
      → (a ≡ Refused 13) × (after ≡ before)
  convert_too_large z p h = refused_with 13 (conversion_too_large ed b z (records_pass ed b (count b) 0 (passes_tests ed b (count b) p)) h) (λ e. omega arith)

  -- a number above 14 is that of a record
  from_record : (r : ℕ) → 14 < r → a ≡ Refused r
      → (book_refusal ed b ≡ 0) × ((j : ℕ) × (j < count b) × ((i : ℕ) → i < j → first_of (record_tests ed b i) ≡ 0) × (at_record ed b j ≡ r))
  unfolding conversion_refusal
  from_record r g e =
      let l = length (converted ed b) in
      let records = records_conversion_refusal ed b (count b) 0 in
      let size = check 13 (too_large l) in
      let short = check 14 (too_short l before) in
      let fourteen = check-other 14 r (too_short l before) (λ z. omega arith) (λ z. omega arith) in
      let thirteen = check-other 13 r (too_large l) (λ z. omega arith) (λ z. omega arith) in
      let whole = then_early (conversion_refusal ed b) short r fourteen ((convert_refusal r).0 e).0 in
      let p = then_late (book_refusal ed b) (records then size) r (λ z. omega (arith, book_refusal_le ed b)) whole in
      let q = records-refused ed b (count b) 0 r (then_early records size r thirteen p.1) (λ z. omega arith) in
      (p.0, (q.0, q.1, λ i h. sym (record_conversion_refusal-first_of ed b i) ∙ rw (zero-add i) at (q.2 i h), rw (zero-add q.0) at q.3))

-- ---- refusals 17 and 18

-- a record is refused with 17 or a number up to 8
record_other : (ed : Edition) (b : List ℕ) (o r : ℕ) → 8 < r → (17 ≡ r → ⊥) → record_refusal ed b o ≡ r → ⊥
unfolding record_refusal
record_other ed b o r h f e =
    let rank = book_rank_refusal ed (kind_at b o) (rank_at b o) in
    let lane = check 17 (wrong_lane_count ed b o) in
    let word = word_refusal (rank_at b o) (letters_at ed b o) in
    let p = then_late rank (lane then word) r (rank_other ed (kind_at b o) (rank_at b o) r (omega arith)) e in
    let q = then_late lane word r (check-other 17 r (wrong_lane_count ed b o) f (λ z. omega arith)) p.1 in
    word_other (rank_at b o) (letters_at ed b o) r h q.1

-- the record at byte o is refused 18
record_18 : (ed : Edition) (b : List ℕ) (o : ℕ) → (record_conversion_refusal ed b o ≡ 18) ↔ ((record_refusal ed b o ≡ 0) × (too_many_lanes ed b o ≡ true))
unfolding record_conversion_refusal
record_18 ed b o = (
  λ e.
      let p = then_late (record_refusal ed b o) (check 18 (too_many_lanes ed b o)) 18 (record_other ed b o 18 (omega arith) (λ z. omega arith)) e in
      (p.0, check_holds 18 (too_many_lanes ed b o) (λ z. omega arith) p.1),
  λ p. rw (p.0, p.1),
)

-- C18: exactly when the book opens, a record passes its checks 5 to 8 and has more than 32 lanes, and each record
-- before it passes all of its checks
pub refused_18_exactly : (b before after : List ℕ) (a : Answer) → Yields (converting Second b before) a after
    → (a ≡ Refused 18)
    ↔ ((book_refusal Second b ≡ 0)
    × ((j : ℕ)
    × (j < count b)
    × ((i : ℕ) → i < j → first_of (record_tests Second b i) ≡ 0)
    × (record_refusal Second b (offset b j) ≡ 0)
    × (32 < get_or b (offset b j + 2) 0)))
unfolding too_many_lanes
refused_18_exactly b before after a c = (
  λ e.
      let p = from_record Second b before after a c 18 (omega arith) e in
      let j = p.1.0 in
      let q = (record_18 Second b (offset b j)).0 p.1.3 in
      (p.0, (j, p.1.1, p.1.2, q.0, ltb-true 32 (get_or b (offset b j + 2) 0) q.1)),
  λ p.
      let j = p.1.0 in
      let own = (record_18 Second b (offset b j)).1 (p.1.3, lt-ltb 32 (get_or b (offset b j + 2) 0) p.1.4) in
      (convert_stops Second b before after a c j 18 p.0 p.1.1 p.1.2 (sym (record_conversion_refusal-first_of Second b j) ∙ own) (λ z. omega arith)).0,
)

-- C17, C18: a book of the first edition is never refused 17 or 18
pub first_edition-converted : (b before after : List ℕ) (a : Answer) → Yields (converting First b before) a after
    → (a ≡ Refused 17 → ⊥) × (a ≡ Refused 18 → ⊥)
unfolding record_conversion_refusal too_many_lanes
first_edition-converted b before after a c = (
  λ e.
      let p = from_record First b before after a c 17 (omega arith) e in
      let o = offset b p.1.0 in
      let few = check-other 18 17 (too_many_lanes First b o) (λ z. omega arith) (λ z. omega arith) in
      let q = record_17 First b o (then_early (record_refusal First b o) (check 18 (too_many_lanes First b o)) 17 few p.1.3) in
      true≢false (sym q.1 ∙ first_lane-count b o),
  λ e.
      let p = from_record First b before after a c 18 (omega arith) e in
      let q = (record_18 First b (offset b p.1.0)).0 p.1.3 in
      true≢false (sym q.1),
)

-- ---- refusals 13 and 14

records-other : (ed : Edition) (b : List ℕ) (r : ℕ) → 8 < r → r < 17 → records_conversion_refusal ed b (count b) 0 ≡ r → ⊥
unfolding record_conversion_refusal
records-other ed b r h g e =
    let q = records-refused ed b (count b) 0 r e (λ z. omega arith) in
    let o = offset b (0 + q.0) in
    let few = check-other 18 r (too_many_lanes ed b o) (λ z. omega arith) (λ z. omega arith) in
    record_other ed b o r h (λ z. omega arith) (then_early (record_refusal ed b o) (check 18 (too_many_lanes ed b o)) r few q.3)

-- the book opens, its records pass, and only the length of the new book is left
size_left : (ed : Edition) (b before after : List ℕ) (a : Answer) → Yields (converting ed b before) a after → a ≡ Refused 13
    → (book_refusal ed b ≡ 0) × ((i : ℕ) → i < count b → first_of (record_tests ed b i) ≡ 0) × (65535 < length (converted ed b))
unfolding conversion_refusal
size_left ed b before after a c e =
    let l = length (converted ed b) in
    let records = records_conversion_refusal ed b (count b) 0 in
    let size = check 13 (too_large l) in
    let fourteen = check-other 14 13 (too_short l before) (λ z. omega arith) (λ z. omega arith) in
    let whole = then_early (conversion_refusal ed b) (check 14 (too_short l before)) 13 fourteen ((convert_refusal ed b before after a c 13).0 e).0 in
    let p = then_late (book_refusal ed b) (records then size) 13 (λ z. omega (arith, book_refusal_le ed b)) whole in
    let q = then_late records size 13 (records-other ed b 13 (omega arith) (omega arith)) p.1 in
    let each : (i : ℕ) → i < count b → first_of (record_tests ed b i) ≡ 0 =
    λ i h. sym (record_conversion_refusal-first_of ed b i) ∙ rw (zero-add i) at (records_each ed b (count b) 0 q.0 i h) in
    (p.0, each, (too_large_exactly l).0 (check_holds 13 (too_large l) (λ z. omega arith) q.1))

-- C13, I29: a book of the first edition is refused 13 exactly when it opens, each of its records passes its checks, and
-- one byte more for each record makes it longer than 65,535 bytes
pub convert_13_exactly : (b before after : List ℕ) (a : Answer) → Yields (converting First b before) a after
    → (a ≡ Refused 13)
    ↔ ((book_refusal First b ≡ 0) × ((i : ℕ) → i < count b → first_of (record_tests First b i) ≡ 0) × (65535 < length b + count b))
convert_13_exactly b before after a c = (
  λ e.
      let p = size_left First b before after a c e in
      (p.0, p.1, rw (length-converted First b (accepted First b p.0)) at p.2),
  λ p. (convert_too_large First b before after a c p.0 p.1 (rw (length-converted First b (accepted First b p.0)) p.2)).0,
)

-- C13, I29: a book of the second edition is never refused 13, since it has one byte less for each record in the first
pub convert_never_13 : (b before after : List ℕ) (a : Answer) → Yields (converting Second b before) a after → a ≡ Refused 13 → ⊥
convert_never_13 b before after a c e =
    let p = size_left Second b before after a c e in
    let w = accepted Second b p.0 in
    let h : 65535 < length b - count b = rw (length-converted Second b w) at p.2 in
    omega arith

-- M2, C14: 65,535 bytes are room for every converted book
pub convert_room : (ed : Edition) (b before after : List ℕ) (a : Answer) → Yields (converting ed b before) a after
    → 65535 ≤ length before → a ≡ Refused 14 → ⊥
unfolding conversion_refusal
convert_room ed b before after a c h e =
    let l = length (converted ed b) in
    let r = conversion_refusal ed b in
    let records = records_conversion_refusal ed b (count b) 0 in
    let size = check 13 (too_large l) in
    elim (ℕ_discrete r 0) [
      | yes z ↦ let m = conversion_small ed b z in length_or_refused ((convert_answers ed b before after a c l).1 (z, refl, omega arith)) e
      | no f ↦
          let w = sym (then_some r (check 14 (too_short l before)) f) ∙ ((convert_refusal ed b before after a c 14).0 e).0 in
          let p = then_late (book_refusal ed b) (records then size) 14 (λ z. omega (arith, book_refusal_le ed b)) w in
          let q = then_late records size 14 (records-other ed b 14 (omega arith) (omega arith)) p.1 in
          check-other 13 14 (too_large l) (λ z. omega arith) (λ z. omega arith) q.1
    ]
