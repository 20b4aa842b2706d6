-- A converted book is a book of the other edition with the same presets, and converting it back gives the bytes of
-- the first. By the records: what they lay out has just these records (LayOuts), and each passes the checks of the
-- other edition too (PassingRecords).
--
-- Sections: the converted book; there and back; its size.
-- Assumes nothing.
use mathlib.Core.Path.{◌≡◌, refl, sym, ap, ◌∙◌}
use mathlib.Core.Bool.{false}
use mathlib.Core.List.{List, [], ◌∷◌}
use Prim.Native.Nat.{ℕ, zero, suc, ◌+◌, ◌-◌, ◌*◌, ◌≤◌, ◌<◌}
use native.Mathlib.Decide.{ℕ_discrete}
use native.Mathlib.Nat.{add-zero, zero-add}
use native.Mathlib.Omega.{arith}
use lib.ListN.{length, length-append}
use borrow.Author.Tests.{ne_eqb, lt-ltb, le-ltb, ltb-false}
use Rattle.coxeter.specs.Kinds.{kind_of, lanes}
use Rattle.coxeter.specs.answers.Answer as answer
use Rattle.coxeter.specs.Checks.{check, ◌then◌, word_refusal}
use Rattle.coxeter.proofs.Refusals.{then_zero, check_zero, then_none}
use Rattle.book_format.specs.declared.Edition.{Edition}
use Rattle.book_format.specs.declared.Edition.TheVariants.{First, Second}
use Rattle.book_format.specs.Books.{count, trailer, offset, head_size, kind_at, rank_at}
use Rattle.book_format.specs.Books.{lanes_at, letter_count_at, letters_at, end_at, misplaced_from, too_large}
use Rattle.book_format.specs.Books.{book_rank_refusal, book_refusal, preset_refusal}
use Rattle.book_format.specs.Records.{Record, record_bytes, lay_out, record_at, records_from, records_of, Bytes}
use Rattle.book_format.specs.Calls.{preset_of}
use Rattle.book_format.specs.Conversion.{other, converted, record_conversion_refusal, records_conversion_refusal}
use Rattle.book_format.specs.Conversion.{conversion_refusal, converting, SamePreset, Converted}
use Rattle.book_format.proofs.BookLaws.{AcceptedBook, accepted, book_size_some, book_refusal-bytes, no_bytes, count-bytes}
use Rattle.book_format.proofs.BookLaws.{first, trailer_le, end_at-offset_le}
use Rattle.book_format.proofs.PresetLaws.{preset_refusal_record}
use Rattle.book_format.proofs.WritingLaws.{length-record_of}
use Rattle.coxeter.proofs.Writes.{wrote}
use Rattle.book_format.proofs.Appending.{walk_end, record_refusal_of, checked_preset_of, letters_of_of}
use Rattle.book_format.proofs.RecordLaws.{lay_out-records_of, length-records_from, length-letters_at, placed_from}
use Rattle.book_format.proofs.LayOuts.{length-lay_out, laid_opens, laid_records}
use Rattle.book_format.proofs.PassingRecords.{PassingRecord, rank_other, few_other, record_passes, lanes_all_right, record_same}

other-other : (ed : Edition) → other (other ed) ≡ ed
other-other First = refl
other-other Second = refl

-- ---- the converted book

-- B24, B28: the converted book of no bytes has none
pub converted-bytes : (ed : Edition) (b : List ℕ) → length b ≡ 0 → converted ed b ≡ []
unfolding converted
converted-bytes ed b z = rw z

-- B24: of a book with bytes it is the same records, laid out in the other edition
pub converted_some : (ed : Edition) (b : List ℕ) → (length b ≡ 0 → ⊥) → converted ed b ≡ lay_out (other ed) (records_of ed b)
unfolding converted
converted_some ed b f = rw (ne_eqb (length b) 0 f)

-- a book of no bytes is converted
pub conversion_bytes : (ed : Edition) (b : List ℕ) → length b ≡ 0 → conversion_refusal ed b ≡ 0
unfolding conversion_refusal records_conversion_refusal too_large
conversion_bytes ed b z = rw (book_refusal-bytes ed b z, count-bytes b z, converted-bytes ed b z)

-- a book with bytes that no check of a conversion refuses
pub record Convertible (ed : Edition) (b : List ℕ) : Type 0 where
  pub some : length b ≡ 0 → ⊥
  pub opens : book_refusal ed b ≡ 0
  pub passes : records_conversion_refusal ed b (count b) 0 ≡ 0
  pub small : length (converted ed b) ≤ 65535

conversion_parts : (ed : Edition) (b : List ℕ) → conversion_refusal ed b ≡ 0
    → (book_refusal ed b ≡ 0) × (records_conversion_refusal ed b (count b) 0 ≡ 0) × (length (converted ed b) ≤ 65535)
unfolding conversion_refusal too_large
conversion_parts ed b z =
    let records = records_conversion_refusal ed b (count b) 0 in
    let size = check 13 (too_large (length (converted ed b))) in
    let a = then_zero (book_refusal ed b) (records then size) z in
    let c = then_zero records size a.1 in
    (a.0, c.0, ltb-false 65535 (length (converted ed b)) (check_zero 13 (too_large (length (converted ed b))) refl c.1))

pub conversion_opens : (ed : Edition) (b : List ℕ) → conversion_refusal ed b ≡ 0 → book_refusal ed b ≡ 0
conversion_opens ed b z = (conversion_parts ed b z).0

-- M2, C13: a book that is not refused has at most 65,535 bytes in the other edition
pub conversion_small : (ed : Edition) (b : List ℕ) → conversion_refusal ed b ≡ 0 → length (converted ed b) ≤ 65535
conversion_small ed b z = (conversion_parts ed b z).2

pub convertible : (ed : Edition) (b : List ℕ) → (length b ≡ 0 → ⊥) → conversion_refusal ed b ≡ 0 → Convertible ed b
convertible ed b f z = let p = conversion_parts ed b z in record { some = f; opens = p.0; passes = p.1; small = p.2 }

-- each of its records passes
pub passing-at : (ed : Edition) (b : List ℕ) (i : ℕ) → Convertible ed b → i < count b → PassingRecord ed b (offset b i)
passing-at ed b i w h = rw (zero-add i) at (record_passes ed b (count b) 0 i w.passes h)

module _ (ed : Edition) (b : List ℕ) (w : Convertible ed b) where
  small_enough : length (lay_out (other ed) (records_of ed b)) ≤ 65535
  small_enough = rw (converted_some ed b w.some) at w.small

  pub converted_opens : book_refusal (other ed) (converted ed b) ≡ 0
  converted_opens = rw (converted_some ed b w.some) (laid_opens (other ed) (records_of ed b) small_enough)

  -- the records of both, with their lane counts
  pub records_of-converted : records_of (other ed) (converted ed b) ≡ records_of ed b
  unfolding records_of
  records_of-converted =
      rw (converted_some ed b w.some)
      (laid_records (other ed) (records_of ed b) (lanes_all_right ed b (count b) 0 w.passes) small_enough)

  count-converted : count (converted ed b) ≡ count b
  unfolding records_of
  count-converted =
      sym (length-records_from (other ed) (converted ed b) (count (converted ed b)) 0) ∙ ap length records_of-converted ∙ length-records_from ed b (count b) 0

  same_record : (i : ℕ) → i < count b → record_at ed b (offset b i) ≡ record_at (other ed) (converted ed b) (offset (converted ed b) i)
  unfolding records_of
  same_record i h =
      let e : records_from ed b (count b) 0 ≡ records_from (other ed) (converted ed b) (count b) 0 = sym (rw count-converted at records_of-converted) in
      rw (← zero-add i) (record_same ed (other ed) b (converted ed b) (count b) 0 i e h)

  -- what converting makes of record i, of which the letters are u: k and n are its kind and rank
  record ConvertedRecord (i k n : ℕ) (u : List ℕ) : Type 0 where
    unrefused : preset_refusal (other ed) (converted ed b) i ≡ 0
    kind : kind_at (converted ed b) (offset (converted ed b) i) ≡ k
    rank : rank_at (converted ed b) (offset (converted ed b) i) ≡ n
    laned : lanes_at (other ed) (converted ed b) (offset (converted ed b) i) ≡ lanes (kind_of k) n
    letters : letters_at (other ed) (converted ed b) (offset (converted ed b) i) ≡ u
    size : letter_count_at (other ed) (converted ed b) (offset (converted ed b) i) ≡ length u

  preset_kept : (i : ℕ) → i < count b → ConvertedRecord i (kind_at b (offset b i)) (rank_at b (offset b i)) (letters_at ed b (offset b i))
  preset_kept i h =
      let o = offset b i in
      let d = converted ed b in
      let p = offset d i in
      let n = count-converted in
      let e = same_record i h in
      let kinds : kind_at d p ≡ kind_at b o = sym (ap (λ (r : Record). r.kind) e) in
      let ranks : rank_at d p ≡ rank_at b o = sym (ap (λ (r : Record). r.rank) e) in
      let laned : lanes_at (other ed) d p ≡ lanes_at ed b o = sym (ap (λ (r : Record). r.lanes) e) in
      let words : letters_at (other ed) d p ≡ letters_at ed b o = sym (ap (λ (r : Record). r.letters) e) in
      let g = passing-at ed b i w h in
      let right = laned ∙ g.lanes_right in
      let inside = end_at-offset_le (other ed) d i (accepted (other ed) d converted_opens) (omega arith) in
      record {
        unrefused =
            preset_refusal_record (other ed) d i converted_opens (omega arith)
            ∙ record_refusal_of (other ed) d p kinds ranks right words
            ∙ then_none (book_rank_refusal (other ed) (kind_at b o) (rank_at b o)) (word_refusal (rank_at b o) (letters_at ed b o)) (rank_other ed b o g)
            ∙ g.word;
        kind = kinds;
        rank = ranks;
        laned = right;
        letters = words;
        size = sym (length-letters_at (other ed) d p (omega (arith, trailer_le d))) ∙ ap length words;
      }

  same_preset : (i : ℕ) → i < count b → SamePreset ed (other ed) b (converted ed b) i
  unfolding preset_of
  same_preset i h =
      let o = offset b i in
      let d = converted ed b in
      let p = offset d i in
      let q = preset_kept i h in
      let g = passing-at ed b i w h in
      let inside = end_at-offset_le ed b i (accepted ed b w.opens) h in
      let l : letter_count_at ed b o ≡ length (letters_at ed b o) = sym (length-letters_at ed b o (omega (arith, trailer_le b))) in
      let z : preset_refusal ed b i ≡ 0 =
      preset_refusal_record ed b i w.opens h
      ∙ record_refusal_of ed b o refl refl g.lanes_right refl
      ∙ then_none (book_rank_refusal ed (kind_at b o) (rank_at b o)) (word_refusal (rank_at b o) (letters_at ed b o)) g.rank
      ∙ g.word in
      record {
        kind = kind_at b o;
        rank = rank_at b o;
        start = o + head_size ed;
        start' = p + head_size (other ed);
        size = length (letters_at ed b o);
        found = checked_preset_of ed b i z refl refl refl l;
        found' = checked_preset_of (other ed) d i q.unrefused refl q.kind q.rank q.size;
        letters =
            letters_of_of ed b i o 0 (letters_at ed b o) z refl refl
            ∙ sym (letters_of_of (other ed) d i p 0 (letters_at ed b o) q.unrefused refl q.letters);
      }

  converted_is : Converted ed b (converted ed b)
  converted_is = record { unrefused = converted_opens; as_many = count-converted; presets = same_preset }

  -- ---- there and back

  converted_longer : length (converted ed b) ≡ 0 → ⊥
  converted_longer z = let l = length-lay_out (other ed) (records_of ed b) in let e = ap length (converted_some ed b w.some) in omega arith

  pub there_and_back : Bytes b → converted (other ed) (converted ed b) ≡ b
  there_and_back v =
      converted_some (other ed) (converted ed b) converted_longer ∙ back (other-other ed) ∙ lay_out-records_of ed b v w.opens w.some
    where
      back : other (other ed) ≡ ed → lay_out (other (other ed)) (records_of (other ed) (converted ed b)) ≡ lay_out ed (records_of ed b)
      back e = rw (e, records_of-converted)

  -- the new book passes the checks of the way back
  records_back : (t i : ℕ) → i + t ≤ count b → records_conversion_refusal (other ed) (converted ed b) t i ≡ 0
  unfolding records_conversion_refusal record_conversion_refusal
  records_back zero i h = refl
  records_back (suc t) i h =
      let d = converted ed b in
      let o = offset b i in
      let p = offset d i in
      let q = preset_kept i (omega arith) in
      let n = count-converted in
      let g = passing-at ed b i w (omega arith) in
      let own = sym (preset_refusal_record (other ed) d i converted_opens (omega arith)) ∙ q.unrefused in
      rw (own, few_other ed b d o p g (q.laned ∙ sym g.lanes_right)) (records_back t (suc i) (omega arith))

  back_accepted : Bytes b → conversion_refusal (other ed) (converted ed b) ≡ 0
  unfolding conversion_refusal too_large
  back_accepted v =
      let a = accepted ed b w.opens in
      let size : length b ≤ 65535 = omega arith in
      rw (converted_opens, records_back (count (converted ed b)) 0 (omega (arith, count-converted)), there_and_back v, le-ltb 65535 (length b) size)

-- every book that the call `convert` writes
pub convert_converted : (ed : Edition) (b : List ℕ) → conversion_refusal ed b ≡ 0 → Converted ed b (converted ed b)
convert_converted ed b z = elim (ℕ_discrete (length b) 0) [
  | yes n ↦
      let e = converted-bytes ed b n in
      let c = count-bytes b n in
      record { unrefused = rw e (book_refusal-bytes (other ed) [] refl); as_many = rw e (count-bytes [] refl ∙ sym c); presets = λ i h. absurd (omega arith) }
  | no f ↦ converted_is ed b (convertible ed b f z)
]

-- B26
pub convert_back : (ed : Edition) (b : List ℕ) → Bytes b → conversion_refusal ed b ≡ 0 → converted (other ed) (converted ed b) ≡ b
convert_back ed b v z = elim (ℕ_discrete (length b) 0) [
  | yes n ↦ rw (converted-bytes ed b n) (converted-bytes (other ed) [] refl ∙ sym (no_bytes b n))
  | no f ↦ there_and_back ed b (convertible ed b f z) v
]

-- and the way back is not refused
pub convert_back_accepted : (ed : Edition) (b : List ℕ) → Bytes b → conversion_refusal ed b ≡ 0 → conversion_refusal (other ed) (converted ed b) ≡ 0
convert_back_accepted ed b v z = elim (ℕ_discrete (length b) 0) [
  | yes n ↦ rw (converted-bytes ed b n) (conversion_bytes (other ed) [] refl)
  | no f ↦ back_accepted ed b (convertible ed b f z) v
]

-- a book that would grow beyond the limit is refused 13, after every check of its records
pub conversion_too_large : (ed : Edition) (b : List ℕ) → book_refusal ed b ≡ 0 → records_conversion_refusal ed b (count b) 0 ≡ 0
    → 65535 < length (converted ed b) → conversion_refusal ed b ≡ 13
unfolding conversion_refusal too_large
conversion_too_large ed b e f h = rw (e, f, lt-ltb 65535 (length (converted ed b)) h)

-- ---- its size

-- a record has one byte more in the second edition
length_second : (rs : List Record) → length (record_bytes Second rs) ≡ length (record_bytes First rs) + length rs
unfolding record_bytes
length_second [] = refl
length_second (r ∷ rs) =
    let h = length_second rs in
    let a = length-record_of First r.kind r.rank r.lanes r.letters in
    let b = length-record_of Second r.kind r.rank r.lanes r.letters in
    simp length-append (omega arith)

-- the records of a book end at its trailer
pub length-records : (ed : Edition) (b : List ℕ) (t i o : ℕ) → misplaced_from ed b t i o ≡ false → o + length (record_bytes ed (records_from ed b t i)) ≡ trailer b
unfolding record_bytes records_from
length-records ed b zero i o e = add-zero o ∙ walk_end ed b i o e
length-records ed b (suc t) i o e =
    let f = first ed b t i o e in
    let h = f.ends in
    let l = length-letters_at ed b o (omega (arith, trailer_le b)) in
    let r = length-record_of ed (kind_at b o) (rank_at b o) (lanes_at ed b o) (letters_at ed b o) in
    let rest = length-records ed b t (suc i) (end_at ed b o) f.others in
    rw f.begins (simp length-append (omega arith))

-- the size of the new book, from the length l of the old one and its count c
abbrev pub size_of : Edition → ℕ → ℕ → ℕ
size_of First l c = l + c
size_of Second l c = l - c

size_of-bytes : (ed : Edition) → size_of ed 0 0 ≡ 0
size_of-bytes First = refl
size_of-bytes Second = refl

pub length-converted : (ed : Edition) (b : List ℕ) → AcceptedBook ed b → length (converted ed b) ≡ size_of ed (length b) (count b)
unfolding records_of
length-converted ed b a = elim (ℕ_discrete (length b) 0) [
  | yes n ↦ rw (converted-bytes ed b n, n, count-bytes b n) (sym (size_of-bytes ed))
  | no f ↦
      rw (converted_some ed b f)
      (sized ed (records_from ed b (count b) 0) (length-records_from ed b (count b) 0) (length-records ed b (count b) 0 0 (placed_from ed b a))
      (a.sized ∙ book_size_some b f))
]
  where
    sized : (ed : Edition) (rs : List Record) → length rs ≡ count b → 0 + length (record_bytes ed rs) ≡ trailer b → trailer b + 2 * count b + 2 ≡ length b
        → length (lay_out (other ed) rs) ≡ size_of ed (length b) (count b)
    sized First rs e f g = let l = length-lay_out Second rs in let s = length_second rs in omega arith
    sized Second rs e f g = let l = length-lay_out First rs in let s = length_second rs in omega arith

-- what the call answers has room in the output
pub converting_room : (ed : Edition) (b out : List ℕ) (m : ℕ) → (converting ed b out).answer ≡ answer.Length m → m ≤ length out
unfolding converting
converting_room ed b out m e = (wrote (conversion_refusal ed b) (converted ed b) out (converting ed b out).bytes m (sym e, refl)).room
