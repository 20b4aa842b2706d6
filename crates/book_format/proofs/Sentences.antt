-- Books in plain terms (B10 and B18 to B28 of the specification), of what a call answered and the bytes that it
-- left: the book that appending or converting wrote is the first l bytes of its output, where l is the length
-- answered. The records `Grown`, `Converted` and `SamePreset` are read out first, each field as strongly as it is
-- stated, so that a weaker record would not do.
-- Not here: which call is refused with which number (ReadingSentences, AppendingSentences, ConversionSentences).
--
-- Sections: a book grown by a preset; appending; a book in the other edition; converting; there and back; a book of
-- no bytes.
-- Assumes nothing.
use mathlib.Core.Path.{◌≡◌, refl, sym, ap, ◌∙◌}
use mathlib.Core.Logic.{◌↔◌}
use mathlib.Core.List.{List, [], ◌∷◌, ◌++◌}
use Prim.Native.Nat.{ℕ, ◌+◌, ◌-◌, ◌≤◌, ◌<◌}
use native.Mathlib.Decide.{ℕ_discrete}
use native.Mathlib.Nat.{zero-add}
use native.Mathlib.Omega.{arith}
use lib.ListN.{length, get_or, take, drop}
use borrow.Author.Tests.{eq-eqb, ne_eqb}
use Rattle.coxeter.specs.answers.Answer.{Answer}
use Rattle.coxeter.specs.answers.Answer.{Length, Refused}
use Rattle.coxeter.specs.Kinds.{kind_of, lanes}
use Rattle.coxeter.specs.Checks.{◌then◌, word_refusal, WordOf}
use Rattle.coxeter.specs.Calls.{Yields, writes}
use Rattle.coxeter.proofs.Acceptance.{length_accepted}
use Rattle.book_format.specs.declared.Edition.{Edition}
use Rattle.book_format.specs.declared.Edition.TheVariants.{First, Second}
use Rattle.book_format.specs.answers.Opened as opened
use Rattle.book_format.specs.answers.Preset as preset
use Rattle.book_format.specs.Books.{count, trailer, offset, head_size, added_size, book_rank_refusal, book_refusal, appended, append_refusal}
use Rattle.book_format.specs.Records.{records_from, records_of, Bytes}
use Rattle.book_format.specs.Calls.{preset_of, checked_book, checked_preset, letters_of, letters_start, reading_presets, appending, Grown}
use Rattle.book_format.specs.Conversion.{other, converted, conversion_refusal, converting, SamePreset, Converted}
use Rattle.book_format.proofs.BookLaws.{accepted, book_size, book_size_none, book_refusal-bytes, count-bytes, trailer-bytes, no_bytes}
use Rattle.book_format.proofs.PresetLaws.{checked_book_presets}
use Rattle.book_format.proofs.WritingLaws.{length-appended, append_refusal_none, append-book, append_size}
use Rattle.coxeter.proofs.Writes.{Wrote, wrote, answers_exactly, answers_short, answers_length}
use Rattle.coxeter.proofs.TestLaws.{impossible}
use Rattle.book_format.proofs.AppendedParts.{offset-appended_last, lanes_at-appended_last}
use Rattle.book_format.proofs.Appending.{append_grown, append_reads_back}
use Rattle.book_format.proofs.RecordLaws.{records_of-appended}
use Rattle.book_format.proofs.Converting.{convertible, records_of-converted, converted-bytes, conversion_opens}
use Rattle.book_format.proofs.Converting.{convert_converted, convert_back, convert_back_accepted, length-converted}
use Rattle.book_format.proofs.NoBytes.{opening_no_bytes, preset_of_no_bytes, letters_of_no_bytes}
use Rattle.book_format.proofs.NoBytes.{run_of_no_bytes, append_to_no_bytes, converting_no_bytes}
use Rattle.book_format.proofs.Retired.{not_retired}

-- ---- a book grown by a preset

module _ {ed : Edition} {b : List ℕ} {k n : ℕ} {u d : List ℕ} (g : Grown ed b k n u d) where
  -- B18: it opens, with one preset more
  pub grown_opens : checked_book ed d ≡ opened.Presets (count b + 1)
  grown_opens = checked_book_presets ed d (book_refusal ed d) (count b + 1) refl g.unrefused (sym g.one_preset_more)

  -- B19: r is the refusal of its own checks 5 to 8
  pub grown_last : (r : ℕ) → (book_rank_refusal ed k n then word_refusal n u) ≡ r
      → checked_preset ed d (count b) ≡ preset_of r k n (trailer b + head_size ed) (length u)
  grown_last r e = g.last_preset ∙ ap (λ q. preset_of q k n (trailer b + head_size ed) (length u)) e

  -- B19
  pub grown_last_letters : ((book_rank_refusal ed k n then word_refusal n u) ≡ 0 → letters_of ed d (count b) ≡ u)
      × (((book_rank_refusal ed k n then word_refusal n u) ≡ 0 → ⊥) → letters_of ed d (count b) ≡ [])
  grown_last_letters =
      let r = book_rank_refusal ed k n then word_refusal n u in
      (λ z. g.last_letters ∙ rw (eq-eqb r 0 z), λ f. g.last_letters ∙ rw (ne_eqb r 0 f))

  -- B20: each preset and its letters
  pub grown_before : (i : ℕ) → i < count b → (checked_preset ed d i ≡ checked_preset ed b i) × (letters_of ed d i ≡ letters_of ed b i)
  grown_before i h = (g.presets_before i h, g.letters_before i h)

-- ---- appending

module _ (ed : Edition) (b : List ℕ) (k n : ℕ) (u before after : List ℕ) (l : ℕ) (c : Yields (appending ed b k n u before) (Length l) after) where
  wrote_appended : Wrote (append_refusal ed b k n u) (appended ed b k n u) before after l
  unfolding appending
  wrote_appended = wrote (append_refusal ed b k n u) (appended ed b k n u) before after l c

  -- B18, I2: the whole new book and nothing else: l is its length, and what lies behind it stays
  pub append-writes : (length (take l after) ≡ l) × (take l after ≡ appended ed b k n u) × (drop l after ≡ drop l before)
  append-writes = let w = wrote_appended in (ap length w.front ∙ sym w.size, w.front, w.behind)

  -- B18, B19, B20
  pub append_grows : Grown ed b k n u (take l after)
  append_grows = let w = wrote_appended in rw w.front (append_grown ed b k n u w.unrefused)

  -- B18: it opens with one preset more
  pub append_opens : (book_refusal ed (take l after) ≡ 0) × (checked_book ed (take l after) ≡ opened.Presets (count b + 1))
  append_opens = (append_grows.unrefused, grown_opens append_grows)

  -- B19, in either edition
  pub append_last : (checked_preset ed (take l after) (count b) ≡ preset.Found k n (trailer b + head_size ed) (length u))
      × (letters_of ed (take l after) (count b) ≡ u)
  append_last = let w = wrote_appended in rw w.front (append_reads_back ed b k n u w.unrefused)

  -- B20
  pub append-before : (i : ℕ) → i < count b
      → (checked_preset ed (take l after) i ≡ checked_preset ed b i) × (letters_of ed (take l after) i ≡ letters_of ed b i)
  append-before = grown_before append_grows

  -- B20, B21: the same of the records, those with a fault included; the lane count is that of kind and rank
  pub append-records : records_of ed (take l after) ≡ records_of ed b ++ (record { kind = k; rank = n; lanes = lanes (kind_of k) n; letters = u } ∷ [])
  append-records =
      let w = wrote_appended in
      rw w.front (records_of-appended ed b k n u (append-book ed b k n u w.unrefused) (append_size ed b k n u w.unrefused))

-- I28: a length is answered exactly if no check refuses and the output has room
pub append_answers : (ed : Edition) (b : List ℕ) (k n : ℕ) (u before after : List ℕ) (a : Answer) → Yields (appending ed b k n u before) a after
    → (l : ℕ) → (a ≡ Length l) ↔ ((append_refusal ed b k n u ≡ 0) × (l ≡ length (appended ed b k n u)) × (l ≤ length before))
unfolding appending
append_answers ed b k n u before after = answers_exactly (append_refusal ed b k n u) (appended ed b k n u) before after

-- B21: the byte after the rank of the last record
pub append-lane_byte : (b : List ℕ) (k n : ℕ) (u before after : List ℕ) (l : ℕ) → Yields (appending Second b k n u before) (Length l) after
    → get_or (take l after) (offset (take l after) (count b) + 2) 0 ≡ lanes (kind_of k) n
append-lane_byte b k n u before after l c =
    let w = wrote_appended Second b k n u before after l c in
    let z = append-book Second b k n u w.unrefused in
    let a = accepted Second b z in
    let s = append_size Second b k n u w.unrefused in
    let m = length-appended Second b k n u a in
    let small : book_size b + added_size Second u ≤ 65535 = omega arith in
    rw (w.front, offset-appended_last Second b k n u a small) (lanes_at-appended_last Second b k n u a small)

-- ---- a book in the other edition

module _ {ed : Edition} {b d : List ℕ} (g : Converted ed b d) where
  -- B24: it opens, with as many presets
  pub converted_opens : checked_book (other ed) d ≡ opened.Presets (count b)
  converted_opens = checked_book_presets (other ed) d (book_refusal (other ed) d) (count b) refl g.unrefused (sym g.as_many)

  module _ (i : ℕ) (h : i < count b) where
    -- B24: no preset is refused, in either book
    pub converted_unrefused : (r : ℕ) → (checked_preset ed b i ≡ preset.Refused r → ⊥) × (checked_preset (other ed) d i ≡ preset.Refused r → ⊥)
    converted_unrefused r =
        let s = g.presets i h in
        (λ e. never s.kind s.rank s.start s.size (sym s.found ∙ e), λ e. never s.kind s.rank s.start' s.size (sym s.found' ∙ e))
      where
        never : (k n s m : ℕ) → preset.Found k n s m ≡ preset.Refused r → ⊥
        never k n s m e = impossible (cc)

    -- B24: each has its kind, its rank and its letter count
    pub converted-found : (k n s m : ℕ) → checked_preset ed b i ≡ preset.Found k n s m
        → (s' : ℕ) × (checked_preset (other ed) d i ≡ preset.Found k n s' m)
    converted-found k n s m e =
        let p = g.presets i h in
        let q : preset.Found p.kind p.rank p.start p.size ≡ preset.Found k n s m = sym p.found ∙ e in
        let kinds : p.kind ≡ k = cc in
        let ranks : p.rank ≡ n = cc in
        let sizes : p.size ≡ m = cc in
        (p.start', p.found' ∙ rw (kinds, ranks, sizes))

    -- B24: and its letters
    pub converted-letters : letters_of (other ed) d i ≡ letters_of ed b i
    converted-letters = sym (g.presets i h).letters

-- ---- converting

no_records : (ed : Edition) → records_of ed [] ≡ []
unfolding records_of records_from
no_records ed = rw (count-bytes [] refl)

module _ (ed : Edition) (b before after : List ℕ) (l : ℕ) (c : Yields (converting ed b before) (Length l) after) where
  wrote_converted : Wrote (conversion_refusal ed b) (converted ed b) before after l
  unfolding converting
  wrote_converted = wrote (conversion_refusal ed b) (converted ed b) before after l c

  -- B24, I2: the whole new book and nothing else
  pub convert_writes : (length (take l after) ≡ l) × (take l after ≡ converted ed b) × (drop l after ≡ drop l before)
  convert_writes = let w = wrote_converted in (ap length w.front ∙ sym w.size, w.front, w.behind)

  -- B24
  pub convert_converts : Converted ed b (take l after)
  convert_converts = let w = wrote_converted in rw w.front (convert_converted ed b w.unrefused)

  -- B24: it opens with as many presets
  pub convert_opens : (book_refusal (other ed) (take l after) ≡ 0) × (checked_book (other ed) (take l after) ≡ opened.Presets (count b))
  convert_opens = (convert_converts.unrefused, converted_opens convert_converts)

  -- B24: preset by preset
  pub convert_preset : (i : ℕ) → i < count b → SamePreset ed (other ed) b (take l after) i
  convert_preset = convert_converts.presets

  -- B24: and as lists of records, with their lane counts
  pub convert_records : records_of (other ed) (take l after) ≡ records_of ed b
  convert_records =
      let w = wrote_converted in
      rw w.front (elim (ℕ_discrete (length b) 0) [
        | yes z ↦ rw (converted-bytes ed b z, no_bytes b z) (no_records (other ed) ∙ sym (no_records ed))
        | no f ↦ records_of-converted ed b (convertible ed b f w.unrefused)
      ])

  -- ---- there and back

  -- B26: the numbers lent are bytes, and the book that was left is converted with any output
  module _ (v : Bytes b) (out out' : List ℕ) where
    back : (a : Answer) → Yields (converting (other ed) (take l after) out) a out' → Yields (writes 0 b out) a out'
    unfolding converting
    back a y =
        let w = wrote_converted in
        rw (w.front, convert_back_accepted ed b v w.unrefused, convert_back ed b v w.unrefused) at y

    -- B26
    pub forward_and_back : (m : ℕ) → Yields (converting (other ed) (take l after) out) (Length m) out' → take m out' ≡ b
    forward_and_back m y = (wrote 0 b out out' m (back (Length m) y)).front

    -- B27: and the second is accepted if its output has room for that book
    module _ (a : Answer) (y : Yields (converting (other ed) (take l after) out) a out') where
      -- B27
      pub back_answers : length b ≤ length out → a ≡ Length (length b)
      back_answers = answers_length 0 b out out' a (back a y) refl

      -- B27
      pub back_short : length out < length b → (a ≡ Refused 14) × (out' ≡ out)
      back_short = answers_short 0 b out out' a (back a y) refl

-- I29: a length is answered exactly if no check refuses and the output has room
pub convert_answers : (ed : Edition) (b before after : List ℕ) (a : Answer) → Yields (converting ed b before) a after
    → (l : ℕ) → (a ≡ Length l) ↔ ((conversion_refusal ed b ≡ 0) × (l ≡ length (converted ed b)) × (l ≤ length before))
unfolding converting
convert_answers ed b before after = answers_exactly (conversion_refusal ed b) (converted ed b) before after

-- B7: a record has one byte more in the second edition
pub convert_length_first : (b before after : List ℕ) (l : ℕ) → Yields (converting First b before) (Length l) after → l ≡ length b + count b
convert_length_first b before after l c =
    let w = wrote_converted First b before after l c in
    w.size ∙ length-converted First b (accepted First b (conversion_opens First b w.unrefused))

-- B7: and one byte less in the first
pub convert_length_second : (b before after : List ℕ) (l : ℕ) → Yields (converting Second b before) (Length l) after → l ≡ length b - count b
convert_length_second b before after l c =
    let w = wrote_converted Second b before after l c in
    w.size ∙ length-converted Second b (accepted Second b (conversion_opens Second b w.unrefused))

-- ---- a book of no bytes

head_size_le : (ed : Edition) → head_size ed ≤ 5
head_size_le First = omega arith
head_size_le Second = omega arith

module _ (ed : Edition) where
  -- B10
  pub no_bytes_opens : (book_refusal ed [] ≡ 0) × (checked_book ed [] ≡ opened.Presets 0)
  no_bytes_opens = (book_refusal-bytes ed [] refl, opening_no_bytes ed)

  -- C4, B16, B17
  pub no_bytes_preset : (i : ℕ) → (checked_preset ed [] i ≡ preset.Refused 4) × (letters_of ed [] i ≡ []) × (letters_start ed [] i ≡ 0)
  no_bytes_preset i = let l = letters_of_no_bytes ed i in (preset_of_no_bytes ed i, l.0, l.1)

  -- C4
  pub no_bytes_run : (i : ℕ) (before after : List ℕ) (a : Answer) → Yields (reading_presets ed [] i before) a after
      → (a ≡ Refused 4) × (after ≡ before)
  no_bytes_run i before after a c = let r = run_of_no_bytes ed i before in (c.0 ∙ r.0, c.1 ∙ r.1)

  -- B28
  pub no_bytes-converted : (before after : List ℕ) (a : Answer) → Yields (converting ed [] before) a after → (a ≡ Length 0) × (after ≡ before)
  no_bytes-converted before after a c = let r = converting_no_bytes ed before in (c.0 ∙ r.0, c.1 ∙ r.1)

  module _ (k n : ℕ) (u before after : List ℕ) where
    -- B22, B19: a book of one preset, which reads back
    pub no_bytes-appended : (l : ℕ) → Yields (appending ed [] k n u before) (Length l) after
        → (checked_book ed (take l after) ≡ opened.Presets 1)
        × (checked_preset ed (take l after) 0 ≡ preset.Found k n (head_size ed) (length u))
        × (letters_of ed (take l after) 0 ≡ u)
    no_bytes-appended l c =
        let none = count-bytes [] refl in
        let last = rw (none, trailer-bytes [] refl, zero-add (head_size ed)) at (append_last ed [] k n u before after l c) in
        (rw none at (append_opens ed [] k n u before after l c).1, last.0, last.1)

    -- B22: it is given for every preset that passes checks 5 to 8 and 21, if the output has room for it
    pub no_bytes-append : (a : Answer) → Yields (appending ed [] k n u before) a after → book_rank_refusal ed k n ≡ 0 → WordOf n u
        → ((k ≡ 1) × (n ≡ 1) → ⊥) → head_size ed + length u + 4 ≤ length before → a ≡ Length (head_size ed + length u + 4)
    no_bytes-append a c rank word f h =
        let opens = book_refusal-bytes ed [] refl in
        let none = book_size_none [] refl in
        let size : length (appended ed [] k n u) ≡ head_size ed + length u + 4 = length-appended ed [] k n u (accepted ed [] opens) ∙ rw none (omega arith) in
        let small : book_size [] + added_size ed u ≤ 65535 = rw (book_size_none [] refl) (omega (arith, length_accepted n u word, head_size_le ed)) in
        let r =
        append_refusal_none {b = []} (record { opens = opens; ranked = rank; word = word; kept = not_retired k n f }) small in
        (append_answers ed [] k n u before after a c (head_size ed + length u + 4)).1 (r, sym size, h)

    -- B22, B11: the answer and the bytes are those of appending to the book of two zero bytes
    pub no_bytes-append_same : (a : Answer) → Yields (appending ed [] k n u before) a after → Yields (appending ed (0 ∷ 0 ∷ []) k n u before) a after
    no_bytes-append_same a c = rw (← append_to_no_bytes ed k n u before) c
