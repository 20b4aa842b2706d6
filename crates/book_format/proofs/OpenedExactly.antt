-- Opening a book in plain terms (B4 to B7, B10, B11, C2 to C4 and I25 of the specification): when a book is refused 2
-- or 3, when a preset's number is refused 4, which bytes are a book and with how many presets, and which records it
-- has. Shown from the records: what a list of them lays out has just these (LayOuts), and every book is laid out from
-- its own (RecordLaws). Check 1 is in ReadingSentences.
--
-- Sections: misplaced records; checks 2 and 3; check 4; books.
-- Assumes nothing.
use mathlib.Core.Path.{◌≡◌, refl, sym, ◌∙◌}
use mathlib.Core.Bool.{Bool, true, false, true≢false}
use mathlib.Core.Logic.{◌⊎◌, inl, inr, ⊎_elim, ◌↔◌}
use mathlib.Core.List.{List, [], ◌∷◌, Memᴰ}
use Prim.Native.Nat.{ℕ, zero, suc, ◌+◌, ◌*◌, ◌≤◌, ◌<◌}
use native.Mathlib.Decide.{ℕ_discrete, dec_le}
use native.Mathlib.Numerals.{add-one}
use native.Mathlib.Omega.{arith}
use lib.ListN.{length}
use borrow.Author.Tests.{ne_eqb, ltb-true, ltb-false}
use Rattle.coxeter.specs.Kinds.{kind_of, lanes}
use Rattle.coxeter.specs.Checks.{first_of, check, ◌then◌, wrong_kind, too_long, wrong_letter, word_refusal}
use Rattle.coxeter.proofs.Refusals.{then_avoids, check_avoids}
use Rattle.book_format.specs.declared.Edition.{Edition}
use Rattle.book_format.specs.declared.Edition.TheVariants.{First}
use Rattle.book_format.specs.answers.Opened as opened
use Rattle.book_format.specs.answers.Preset as preset
use Rattle.book_format.specs.Books.{two_at, count, trailer, offset, kind_at, rank_at, letters_at, end_at, wrong_size, wrong_count}
use Rattle.book_format.specs.Books.{misplaced_from, misplaced, no_such_preset, wrong_rank_in_book, wrong_lane_count}
use Rattle.book_format.specs.Books.{book_rank_refusal, book_refusal, record_refusal, preset_refusal}
use Rattle.book_format.specs.Records.{Record, lay_out, records_of, Bytes}
use Rattle.book_format.specs.Calls.{opened_of, checked_book, checked_preset}
use Rattle.book_format.proofs.BookLaws.{accepted, no_bytes, count-bytes, placed_bytes, book_refusal-count, book_refusal-walk, first}
use Rattle.book_format.proofs.Outcomes.{book_refusal_le}
use Rattle.book_format.proofs.Numbers.{then_late}
use Rattle.book_format.proofs.Appending.{walk-one, walk_end, walk_ended}
use Rattle.book_format.proofs.PresetLaws.{checked_book-refused, checked_book_presets, presets_opened}
use Rattle.book_format.proofs.PresetLaws.{preset_refusal_record, checked_preset-number}
use Rattle.book_format.proofs.RecordLaws.{lay_out-records_of, length-records_from}
use Rattle.book_format.proofs.LayOuts.{LanesRight, AllRight, laid_count, laid_opens, laid_records}
use Rattle.book_format.proofs.NoBytes.{opening_no_bytes, refusal_1_exactly}
use Rattle.book_format.proofs.ReadingSentences.{opening_refused, preset-refusal}

-- ---- misplaced records

-- the t records from record i on, the first of which has to begin at byte o, are placed right
abbrev Placed : Edition → List ℕ → ℕ → ℕ → ℕ → Type 0
Placed ed b t i o =
    (t ≡ 0 → o ≡ trailer b)
    × (0 < t → offset b i ≡ o)
    × ((j : ℕ) → i ≤ j → j + 1 < i + t → offset b (j + 1) ≡ end_at ed b (offset b j))
    × ((j : ℕ) → i ≤ j → j < i + t → end_at ed b (offset b j) ≤ trailer b)
    × ((j : ℕ) → i ≤ j → j + 1 ≡ i + t → end_at ed b (offset b j) ≡ trailer b)

module _ (ed : Edition) (b : List ℕ) where
  walk_placed : (t i o : ℕ) → misplaced_from ed b t i o ≡ false → Placed ed b t i o
  walk_placed zero i o e = (
    λ z. walk_end ed b i o e,
    λ h. absurd (omega arith),
    λ j h g. absurd (omega arith),
    λ j h g. absurd (omega arith),
    λ j h g. absurd (omega arith),
  )
  walk_placed (suc t) i o e =
      let f = first ed b t i o e in
      let p = walk_placed t (suc i) (end_at ed b o) f.others in
      let s = f.begins in (
        λ z. absurd (omega arith),
        λ h. s,
        λ j h g. elim (ℕ_discrete j i) [ yes y ↦ rw (y, s, add-one i) (p.1 (omega arith)) | no y ↦ p.2 j (omega arith) (omega arith) ],
        λ j h g. elim (ℕ_discrete j i) [ yes y ↦ rw (y, s) f.ends | no y ↦ p.3 j (omega arith) (omega arith) ],
        λ j h g. elim (ℕ_discrete j i) [ yes y ↦ rw (y, s) (p.0 (omega arith)) | no y ↦ p.4 j (omega arith) (omega arith) ],
      )

  placed_walk : (t i o : ℕ) → Placed ed b t i o → misplaced_from ed b t i o ≡ false
  placed_walk zero i o p = walk_ended ed b i o (p.0 refl)
  placed_walk (suc t) i o p =
      let s : offset b i ≡ o = p.1 (omega arith) in
      let r : end_at ed b o ≤ trailer b = rw s at (p.3 i (omega arith) (omega arith)) in
      walk-one ed b t i o (end_at ed b o) s refl r
      ∙ placed_walk t (suc i) (end_at ed b o) (
        λ z. rw s at (p.4 i (omega arith) (omega arith)),
        λ h. rw (s, add-one i) at (p.2 i (omega arith) (omega arith)),
        λ j h g. p.2 j (omega arith) (omega arith),
        λ j h g. p.3 j (omega arith) (omega arith),
        λ j h g. p.4 j (omega arith) (omega arith),
      )

  -- C3: no record is misplaced exactly when the first begins at byte 0, each later one begins where the one before
  -- it ends, none runs into the trailer, and the last ends at the trailer; with no record, the trailer begins at
  -- byte 0
  pub placed_exactly : (misplaced ed b ≡ false)
      ↔ ((count b ≡ 0 → trailer b ≡ 0)
      × (0 < count b → offset b 0 ≡ 0)
      × ((i : ℕ) → i + 1 < count b → offset b (i + 1) ≡ end_at ed b (offset b i))
      × ((i : ℕ) → i < count b → end_at ed b (offset b i) ≤ trailer b)
      × ((i : ℕ) → i + 1 ≡ count b → end_at ed b (offset b i) ≡ trailer b))
  unfolding misplaced
  placed_exactly = (
    λ e.
        let p = walk_placed (count b) 0 0 e in (
          λ z. sym (p.0 z),
          p.1,
          λ i h. p.2 i (omega arith) (omega arith),
          λ i h. p.3 i (omega arith) (omega arith),
          λ i h. p.4 i (omega arith) (omega arith),
        ),
    λ p. placed_walk (count b) 0 0 (
      λ z. sym (p.0 z),
      p.1,
      λ i h g. p.2 i (omega arith),
      λ i h g. p.3 i (omega arith),
      λ i h g. p.4 i (omega arith),
    ),
  )

-- ---- checks 2 and 3

second_holds : (s c m : Bool) → first_of ((1, s) ∷ (2, c) ∷ (3, m) ∷ []) ≡ 2 → (s ≡ false) × (c ≡ true)
second_holds true c m e = absurd (omega arith)
second_holds false true m e = (refl, refl)
second_holds false false true e = absurd (omega arith)
second_holds false false false e = absurd (omega arith)

third_holds : (s c m : Bool) → first_of ((1, s) ∷ (2, c) ∷ (3, m) ∷ []) ≡ 3 → (s ≡ false) × (c ≡ false) × (m ≡ true)
third_holds true c m e = absurd (omega arith)
third_holds false true m e = absurd (omega arith)
third_holds false false true e = (refl, refl, refl)
third_holds false false false e = absurd (omega arith)

module _ (b : List ℕ) where
  right_size : wrong_size b ≡ false → (length b ≡ 1 → ⊥) × (length b ≤ 65535)
  right_size e = (
    λ z. true≢false (sym ((refusal_1_exactly b).1 (inl z)) ∙ e),
    elim (dec_le (length b) 65535) [ yes h ↦ h | no f ↦ absurd (true≢false (sym ((refusal_1_exactly b).1 (inr (omega arith))) ∙ e)) ],
  )

  count_exceeds : wrong_count b ≡ true → (length b ≡ 0 → ⊥) × (length b < 2 * count b + 2)
  unfolding wrong_count
  count_exceeds e = elim (ℕ_discrete (length b) 0) [
    | yes z ↦ absurd (true≢false (sym (rw z at e)))
    | no f ↦ (f, ltb-true (length b) (2 * count b + 2) (rw (ne_eqb (length b) 0 f) at e))
  ]

  count_fits : wrong_count b ≡ false → (length b ≡ 0 → ⊥) → 2 * count b + 2 ≤ length b
  unfolding wrong_count
  count_fits e f = ltb-false (length b) (2 * count b + 2) (rw (ne_eqb (length b) 0 f) at e)

module _ (ed : Edition) (b : List ℕ) where
  -- C2: a book is refused 2 exactly when it has 2 to 65,535 bytes and two times its count, plus 2, is more than that
  pub refused_2_exactly : (checked_book ed b ≡ opened.Refused 2) ↔ ((2 ≤ length b) × (length b ≤ 65535) × (length b < 2 * count b + 2))
  refused_2_exactly = (
    λ e.
        let p = second_holds (wrong_size b) (wrong_count b) (misplaced ed b) ((opening_refused ed b 2).0 e).0 in
        let s = right_size b p.0 in
        let c = count_exceeds b p.1 in
        (omega arith, s.1, c.1),
    λ p. checked_book-refused ed b 2 (sym (book_refusal-count ed b (count b) p.0 p.1 refl p.2)) (λ z. omega arith),
  )

  -- C3: a book is refused 3 exactly when it has 2 to 65,535 bytes, enough for its count and its offsets, and a
  -- record is misplaced
  pub refused_3_exactly : (checked_book ed b ≡ opened.Refused 3)
      ↔ ((2 ≤ length b) × (length b ≤ 65535) × (2 * count b + 2 ≤ length b) × (misplaced ed b ≡ true))
  refused_3_exactly = (
    λ e.
        let p = third_holds (wrong_size b) (wrong_count b) (misplaced ed b) ((opening_refused ed b 3).0 e).0 in
        let s = right_size b p.0 in
        let f : length b ≡ 0 → ⊥ = λ z. true≢false (sym p.2 ∙ placed_bytes ed b z) in
        let c = count_fits b p.1 f in
        (omega arith, s.1, c, p.2),
    λ p.
        checked_book-refused ed b 3 (sym (book_refusal-walk ed b (count b) true p.0 p.1 refl p.2 (sym p.3))) (λ z. omega arith),
  )

-- ---- check 4

record_never_4 : (ed : Edition) (b : List ℕ) (o : ℕ) → record_refusal ed b o ≡ 4 → ⊥
unfolding record_refusal book_rank_refusal word_refusal
record_never_4 ed b o =
    let k = kind_at b o in
    let n = rank_at b o in
    let u = letters_at ed b o in
    then_avoids _ _ 3
    (then_avoids _ _ 3 (check_avoids 5 3 (wrong_kind k) (λ z. omega arith)) (check_avoids 6 3 (wrong_rank_in_book ed (kind_of k) n) (λ z. omega arith)))
    (then_avoids _ _ 3 (check_avoids 17 3 (wrong_lane_count ed b o) (λ z. omega arith))
    (then_avoids _ _ 3 (check_avoids 7 3 (too_long u) (λ z. omega arith)) (check_avoids 8 3 (wrong_letter n u) (λ z. omega arith))))

-- C4: a preset is refused 4 exactly when the book opens and has no preset of that number
pub refused_4_exactly : (ed : Edition) (b : List ℕ) (i : ℕ)
    → (checked_preset ed b i ≡ preset.Refused 4) ↔ ((c : ℕ) × (checked_book ed b ≡ opened.Presets c) × (c ≤ i))
unfolding preset_refusal
refused_4_exactly ed b i = (
  λ e.
      let r = ((preset-refusal ed b i 4).0 e).0 in
      let later = check 4 (no_such_preset b i) then record_refusal ed b (offset b i) in
      let z = (then_late (book_refusal ed b) later 4 (λ y. omega (arith, book_refusal_le ed b)) r).0 in (
        count b,
        checked_book_presets ed b (book_refusal ed b) (count b) refl z refl,
        elim (dec_le (count b) i) [
          | yes h ↦ h
          | no f ↦ absurd (record_never_4 ed b (offset b i) (sym (preset_refusal_record ed b i z (omega arith)) ∙ r))
        ],
      ),
  λ p. let q = presets_opened ed b p.0 (sym p.1) in checked_preset-number ed b i (book_refusal ed b) refl p.0 q.0 q.1 p.2,
)

-- ---- books

-- B11: the two bytes 00 00 are a book without presets
pub two_zero_bytes : (ed : Edition) → checked_book ed (0 ∷ 0 ∷ []) ≡ opened.Presets 0
unfolding checked_book opened_of book_refusal wrong_size wrong_count misplaced misplaced_from trailer count two_at
two_zero_bytes ed = refl

-- B5, B10, C1 to C3, I25: a book opens with c presets exactly when it has no bytes and c is 0, or it has at most
-- 65,535 bytes and they are c records without gaps, their offsets and their count
pub opened_exactly : (ed : Edition) (b : List ℕ) → Bytes b → (c : ℕ)
    → (checked_book ed b ≡ opened.Presets c)
    ↔ (((b ≡ []) × (c ≡ 0)) ⊎ ((rs : List Record) × (b ≡ lay_out ed rs) × (length b ≤ 65535) × (c ≡ length rs)))
unfolding records_of
opened_exactly ed b w c = (
  λ e.
      let p = presets_opened ed b c (sym e) in
      let a = accepted ed b p.0 in
      elim (ℕ_discrete (length b) 0) [
        | yes z ↦ inl (no_bytes b z, p.1 ∙ count-bytes b z)
        | no f ↦ inr (
          records_of ed b,
          sym (lay_out-records_of ed b w p.0 f),
          omega arith,
          p.1 ∙ sym (length-records_from ed b (count b) 0),
        )
      ],
  ⊎_elim (λ p. rw (p.0, p.1) (opening_no_bytes ed))
      (λ p. checked_book_presets ed b (book_refusal ed b) c refl (rw p.1 (laid_opens ed p.0 (rw (← p.1) p.2)))
      (p.3 ∙ sym (laid_count ed b p.2 p.0 p.1))),
)

-- B4, B6, B7: the records of a book read back as they were laid out; in the first edition, which has no byte for it,
-- each lane count has to be that of kind and rank
pub records_read : (ed : Edition) (rs : List Record)
    → ((r : Record) → Memᴰ r rs → ed ≡ First → r.lanes ≡ lanes (kind_of r.kind) r.rank)
    → length (lay_out ed rs) ≤ 65535
    → records_of ed (lay_out ed rs) ≡ rs
records_read ed rs h small = laid_records ed rs (all_right rs h) small
  where
    all_right : (rs : List Record) → ((r : Record) → Memᴰ r rs → ed ≡ First → LanesRight r) → AllRight ed rs
    all_right [] h = tt
    all_right (r ∷ rs) h = (h r (Memᴰ.head refl), all_right rs (λ s m. h s (Memᴰ.tail m)))
