-- Reading a preset in plain terms (B15 to B17, I26 and I27 of the specification): when a preset is found, with which
-- values, and which letters are handed out, by the bytes of the book and by the records that it was laid out from.
-- Which number refuses it is in ReadingSentences.
--
-- Sections: by the bytes; by the records.
-- Assumes nothing.
use mathlib.Core.Path.{◌≡◌, refl, sym, ap, ◌∙◌}
use mathlib.Core.Logic.{◌↔◌}
use mathlib.Core.List.{List, [], ◌∷◌, ◌++◌}
use Prim.Native.Nat.{ℕ, ◌+◌, ◌-◌, ◌≤◌}
use native.Mathlib.Omega.{arith}
use lib.ListN.{length, take, drop, length-append}
use Rattle.coxeter.specs.Kinds.{kind_of, lanes}
use Rattle.coxeter.specs.Checks.{WordOf}
use Rattle.book_format.specs.declared.Edition.{Edition}
use Rattle.book_format.specs.declared.Edition.TheVariants.{First, Second}
use Rattle.book_format.specs.answers.Preset as preset
use Rattle.book_format.specs.Books.{offset, kind_at, rank_at, lanes_at, letter_count_at, head_size, book_rank_refusal, record_refusal, preset_refusal}
use Rattle.book_format.specs.Records.{Record, record_bytes, lay_out}
use Rattle.book_format.specs.Calls.{checked_preset, letters_start, letters_of}
use Rattle.book_format.proofs.PresetLaws.{preset_at-found, preset_refusal_record, found, found_inside, letters_of-found, letters_start-found}
use Rattle.book_format.proofs.PresetLaws.{record_tests, letters_of-refused, letters_start-refused}
use Rattle.book_format.proofs.Appending.{record_refusal_of, letters_of_of}
use Rattle.book_format.proofs.LayOuts.{RecordIn, laid_count, laid_offset, laid_record, laid_opens}
use Rattle.book_format.proofs.ReadingSentences.{preset-refusal}

-- ---- by the bytes

module _ (ed : Edition) (b : List ℕ) (i : ℕ) where
  -- I26: preset i is found exactly when no check refuses it, with the kind, the rank and the letter count of the
  -- record at its offset; its letters begin right after the head of that record
  pub found_exactly : (k n s l : ℕ) → let o = offset b i in
      (checked_preset ed b i ≡ preset.Found k n s l)
      ↔ ((preset_refusal ed b i ≡ 0) × (k ≡ kind_at b o) × (n ≡ rank_at b o) × (s ≡ o + head_size ed) × (l ≡ letter_count_at ed b o))
  unfolding checked_preset
  found_exactly k n s l = (
    λ e. let f = found (sym e) in (f.unrefused, f.kind, f.rank, f.begins, f.counts),
    λ p. preset_at-found ed b (offset b i) (preset_refusal ed b i) p.0 ∙ rw (p.1, p.2, p.3, p.4),
  )

  -- B15, I27: the letters of a preset that is found are the part of the book that begins where the answer says and
  -- is as long as it says, and that part lies inside the book
  pub letters_exactly : (k n s l : ℕ) → checked_preset ed b i ≡ preset.Found k n s l
      → (letters_of ed b i ≡ take l (drop s b)) × (letters_start ed b i ≡ s) × (s + l ≤ length b)
  letters_exactly k n s l e =
      let f = found (sym e) in
      let d : s + l - s ≡ l = omega arith in
      (sym (rw d at (letters_of-found f)), omega (arith, letters_start-found 0 f), found_inside f)

  -- B16, B17, I27: for a refused preset an empty part is handed out, at byte 0
  pub letters_of_refused : (r : ℕ) → checked_preset ed b i ≡ preset.Refused r → (letters_of ed b i ≡ []) × (letters_start ed b i ≡ 0)
  letters_of_refused r e =
      let p = (preset-refusal ed b i r).0 e in
      let f : preset_refusal ed b i ≡ 0 → ⊥ = λ z. p.1 (sym p.0 ∙ z) in
      (sym (letters_of-refused ed b i f), omega (arith, letters_start-refused ed b i 0 f))

-- ---- by the records

-- the lane count of the record r at byte o of a book, where the edition has a byte for it
lanes_in : (ed : Edition) (b : List ℕ) (o : ℕ) (r : Record) → RecordIn ed b o r
    → (lanes_at ed b o ≡ lanes (kind_of (kind_at b o)) (rank_at b o)) ↔ (ed ≡ Second → r.lanes ≡ lanes (kind_of (kind_at b o)) (rank_at b o))
lanes_in First b o r i = (λ e x. cc, λ h. refl)
lanes_in Second b o r i =
    let lane = i.lane in
    let m : lanes_at Second b o ≡ r.lanes = cc in
    (λ e x. sym m ∙ e, λ h. m ∙ h refl)

-- exactly when it passes
record_passes : (ed : Edition) (b : List ℕ) (o : ℕ) (r : Record) → RecordIn ed b o r
    → (record_refusal ed b o ≡ 0)
    ↔ ((book_rank_refusal ed r.kind r.rank ≡ 0)
    × (ed ≡ Second → r.lanes ≡ lanes (kind_of r.kind) r.rank)
    × WordOf r.rank r.letters)
record_passes ed b o r i =
    rw (← i.kind, ← i.rank, ← i.word) (
      λ z. let t = record_tests ed b o z in (t.0, (lanes_in ed b o r i).0 t.1, t.2),
      λ p. record_refusal_of ed b o refl refl ((lanes_in ed b o r i).1 p.1) refl ∙ rw (p.0, p.2),
    )

-- the book that the records qs, r and rs, in this order, lay out
module _ (ed : Edition) (qs : List Record) (r : Record) (rs : List Record) (small : length (lay_out ed (qs ++ (r ∷ rs))) ≤ 65535) where
  laid_refusal : let b = lay_out ed (qs ++ (r ∷ rs)) in preset_refusal ed b (length qs) ≡ record_refusal ed b (length (record_bytes ed qs))
  laid_refusal =
      let all = qs ++ (r ∷ rs) in
      let b = lay_out ed all in
      let c = laid_count ed b small all refl in
      let l = length-append qs (r ∷ rs) in
      preset_refusal_record ed b (length qs) (laid_opens ed all small) (omega arith) ∙ ap (record_refusal ed b) (laid_offset ed b small qs r rs refl)

  -- B4 to B7, I26: in a book that was laid out from records a preset is found exactly when its record has a kind and
  -- a rank of the edition, their lane count and a word of that rank; the answer is the kind and the rank of the
  -- record, and its letters begin after the records before it and its own head, as many as the record has
  pub preset_of_record : (k n s l : ℕ)
      → (checked_preset ed (lay_out ed (qs ++ (r ∷ rs))) (length qs) ≡ preset.Found k n s l)
      ↔ ((book_rank_refusal ed r.kind r.rank ≡ 0)
      × (ed ≡ Second → r.lanes ≡ lanes (kind_of r.kind) r.rank)
      × WordOf r.rank r.letters
      × (k ≡ r.kind)
      × (n ≡ r.rank)
      × (s ≡ length (record_bytes ed qs) + head_size ed)
      × (l ≡ length r.letters))
  preset_of_record k n s l =
      let b = lay_out ed (qs ++ (r ∷ rs)) in
      let o = length (record_bytes ed qs) in
      let i = laid_record ed b small qs r rs refl in
      let q = laid_offset ed b small qs r rs refl in
      let t = record_passes ed b o r i in
      let f = found_exactly ed b (length qs) k n s l in (
        λ e.
            let p = f.0 e in
            let w = t.0 (sym laid_refusal ∙ p.0) in
            (w.0, w.1, w.2, p.1 ∙ rw q i.kind, p.2 ∙ rw q i.rank, p.3 ∙ rw q, p.4 ∙ rw q i.size),
        λ p. f.1 (
          laid_refusal ∙ t.1 (p.0, p.1, p.2),
          p.3 ∙ sym (rw q i.kind),
          p.4 ∙ sym (rw q i.rank),
          p.5 ∙ sym (rw q),
          p.6 ∙ sym (rw q i.size),
        ),
      )

  -- B15, I27: its letters are those of the record
  pub letters_of_record : (k n s l : ℕ) → checked_preset ed (lay_out ed (qs ++ (r ∷ rs))) (length qs) ≡ preset.Found k n s l
      → letters_of ed (lay_out ed (qs ++ (r ∷ rs))) (length qs) ≡ r.letters
  letters_of_record k n s l e =
      let b = lay_out ed (qs ++ (r ∷ rs)) in
      let z = ((found_exactly ed b (length qs) k n s l).0 e).0 in
      let o = length (record_bytes ed qs) in
      letters_of_of ed b (length qs) o 0 r.letters z (laid_offset ed b small qs r rs refl) (laid_record ed b small qs r rs refl).word
