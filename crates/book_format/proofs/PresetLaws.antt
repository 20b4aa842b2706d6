-- What the calls that read a book answer, case by case, in the form in which the code meets it.
--
-- Sections: answers; records; presets by their number; letters.
-- Assumes nothing.
use mathlib.Core.Path.{◌≡◌, refl, sym, ap, ◌∙◌}
use mathlib.Core.Logic.Iff
use mathlib.Core.Logic.{◌↔◌}
use mathlib.Core.Bool.{Bool, true, false, not}
use mathlib.Core.List.{List, []}
use Prim.Native.Nat.{ℕ, ◌+◌, ◌-◌, ◌≤◌, ◌<◌}
use native.Mathlib.Omega.{arith}
use lib.Dec.{eqb}
use lib.ListN.{length, take, drop}
use borrow.Author.Tests.{eq-eqb, ne_eqb, lt-leb, le-leb, leb-false, eqb-true, not-false}
use Rattle.coxeter.specs.Kinds.{kind_of, lanes}
use Rattle.coxeter.specs.Checks.{check, ◌then◌, rank_refusal, word_refusal, RankOf, WordOf}
use Rattle.book_format.specs.declared.Edition.{Edition}
use Rattle.book_format.specs.answers.Opened as opened
use Rattle.book_format.specs.answers.Preset as preset
use Rattle.book_format.specs.Books.{two_at, count, offset, count_place, head_size, kind_at, rank_at, lanes_at, letter_count_at, letters_at, wrong_lane_count}
use Rattle.book_format.specs.Books.{no_such_preset, book_rank_refusal, book_refusal, record_refusal, preset_refusal}
use Rattle.book_format.specs.Calls.{opened_of, preset_of, checked_book, preset_at, checked_record, checked_preset, letters_start, letters_of}
use Rattle.book_format.proofs.RankLaws.{book_rank_accepted}
use Rattle.book_format.proofs.BookLaws.{AcceptedBook, accepted, trailer_le, end_at-offset_le}
use Rattle.coxeter.proofs.Refusals.{then_zero, check_zero, then_none, then_some, refused_exactly, good_exactly}

-- ---- answers

pub checked_book-refused : (ed : Edition) (b : List ℕ) (r : ℕ) → r ≡ book_refusal ed b → (r ≡ 0 → ⊥) → checked_book ed b ≡ opened.Refused r
unfolding checked_book opened_of
checked_book-refused ed b r e f = rw (← e, ne_eqb r 0 f)

pub checked_book_presets : (ed : Edition) (b : List ℕ) (r c : ℕ) → r ≡ book_refusal ed b → r ≡ 0 → c ≡ count b → checked_book ed b ≡ opened.Presets c
unfolding checked_book opened_of
checked_book_presets ed b r c e z q = rw (← e, eq-eqb r 0 z, q)

-- what opening a book answered
pub checked_book_exactly : (ed : Edition) (b : List ℕ) → ((r : ℕ) → (checked_book ed b ≡ opened.Refused r) ↔ ((book_refusal ed b ≡ r) × (r ≡ 0 → ⊥)))
    × ((c : ℕ) → (checked_book ed b ≡ opened.Presets c) ↔ ((book_refusal ed b ≡ 0) × (count b ≡ c)))
unfolding checked_book opened_of
checked_book_exactly ed b =
    let good = opened.Presets (count b) in (
      λ r. refused_exactly opened.Refused good (book_refusal ed b) r (λ e. cc) (λ e. cc),
      λ c. Iff.trans (good_exactly opened.Refused good (book_refusal ed b) (opened.Presets c) (λ e. cc)) (Iff.and Iff.rfl (λ e. cc, ap opened.Presets)),
    )

pub presets_opened : (ed : Edition) (b : List ℕ) (c : ℕ) → opened.Presets c ≡ checked_book ed b → (book_refusal ed b ≡ 0) × (c ≡ count b)
presets_opened ed b c e = let p = ((checked_book_exactly ed b).1 c).0 (sym e) in (p.0, sym p.1)

preset_at-refused : (ed : Edition) (b : List ℕ) (o r : ℕ) → (r ≡ 0 → ⊥) → preset_at ed r b o ≡ preset.Refused r
unfolding preset_at preset_of
preset_at-refused ed b o r f = rw (ne_eqb r 0 f)

pub preset_at-found : (ed : Edition) (b : List ℕ) (o r : ℕ) → r ≡ 0
    → preset_at ed r b o ≡ preset.Found (kind_at b o) (rank_at b o) (o + head_size ed) (letter_count_at ed b o)
unfolding preset_at preset_of
preset_at-found ed b o r z = rw (eq-eqb r 0 z)

-- what the answer of a record that is refused with r, or not, says
pub preset_at_exactly : (ed : Edition) (b : List ℕ) (o r : ℕ) → ((q : ℕ) → (preset_at ed r b o ≡ preset.Refused q) ↔ ((r ≡ q) × (q ≡ 0 → ⊥)))
    × ((k n s l : ℕ) → preset_at ed r b o ≡ preset.Found k n s l
    → (r ≡ 0) × (k ≡ kind_at b o) × (n ≡ rank_at b o) × (s ≡ o + head_size ed) × (l ≡ letter_count_at ed b o))
unfolding preset_at preset_of
preset_at_exactly ed b o r =
    let good = preset.Found (kind_at b o) (rank_at b o) (o + head_size ed) (letter_count_at ed b o) in (
      λ q. refused_exactly preset.Refused good r q (λ e. cc) (λ e. cc),
      λ k n s l h. let g = (good_exactly preset.Refused good r (preset.Found k n s l) (λ e. cc)).0 h in let e = g.1 in (g.0, cc, cc, cc, cc),
    )

-- ---- records

-- the record at byte o: r is the refusal of its kind and rank, t whether its lane count is wrong, l its letter
-- count, which has the place p in a record, m the size of its head, s the refusal of its preset by the calls' checks,
-- of which kind and rank have passed theirs
module _ (ed : Edition) (b : List ℕ) (o : ℕ) {r : ℕ} (e : r ≡ book_rank_refusal ed (kind_at b o) (rank_at b o)) where
  pub checked_record_rank : (r ≡ 0 → ⊥) → checked_record ed b o ≡ preset.Refused r
  unfolding checked_record record_refusal
  checked_record_rank f =
      rw (← e, then_some r (check 17 (wrong_lane_count ed b o) then word_refusal (rank_at b o) (letters_at ed b o)) f) (preset_at-refused ed b o r f)

  module _ (z : r ≡ 0) {t : Bool} (w : t ≡ wrong_lane_count ed b o) where
    pub checked_record-lanes : t ≡ true → checked_record ed b o ≡ preset.Refused 17
    unfolding checked_record record_refusal
    checked_record-lanes y = rw (← e, eq-eqb r 0 z, ← w, y) (preset_at-refused ed b o 17 (omega arith))

    module _ (y : t ≡ false) {p m l s : ℕ} (g : p ≡ count_place ed) (v : m ≡ head_size ed) (c : l ≡ two_at b (o + p))
        (q : s ≡ (rank_refusal (kind_at b o) (rank_at b o) then word_refusal (rank_at b o) (take (o + m + l - (o + m)) (drop (o + m) b)))) where
      record_refusal_word : record_refusal ed b o ≡ s
      unfolding record_refusal
      record_refusal_word =
          let d : o + m + l - (o + m) ≡ l = omega arith in
          let passed = q ∙ then_none (rank_refusal (kind_at b o) (rank_at b o)) _ (book_rank_accepted ed (kind_at b o) (rank_at b o) (sym e ∙ z)) in
          rw (← e, eq-eqb r 0 z, ← w, y, ← v, ← g, ← c) (sym (rw d at passed))

      pub checked_record_word : (s ≡ 0 → ⊥) → checked_record ed b o ≡ preset.Refused s
      unfolding checked_record
      checked_record_word f = rw record_refusal_word (preset_at-refused ed b o s f)

      pub checked_record-found : s ≡ 0 → checked_record ed b o ≡ preset.Found (kind_at b o) (rank_at b o) (o + m) l
      unfolding checked_record
      checked_record-found x = rw (record_refusal_word, c, g, v) (preset_at-found ed b o s x)

-- what its checks answered says its refusal
pub record_found : (ed : Edition) (b : List ℕ) (o k n s l : ℕ) → preset.Found k n s l ≡ checked_record ed b o → record_refusal ed b o ≡ 0
unfolding checked_record
record_found ed b o k n s l e = ((preset_at_exactly ed b o (record_refusal ed b o)).1 k n s l (sym e)).0

pub record_refused : (ed : Edition) (b : List ℕ) (o r : ℕ) → preset.Refused r ≡ checked_record ed b o → (record_refusal ed b o ≡ r) × (r ≡ 0 → ⊥)
unfolding checked_record
record_refused ed b o r e = ((preset_at_exactly ed b o (record_refusal ed b o)).0 r).0 (sym e)

-- ---- presets by their number

-- preset i of a book that has it
pub preset_refusal_record : (ed : Edition) (b : List ℕ) (i : ℕ) → book_refusal ed b ≡ 0 → i < count b → preset_refusal ed b i ≡ record_refusal ed b (offset b i)
unfolding preset_refusal no_such_preset
preset_refusal_record ed b i z h = rw (eq-eqb (book_refusal ed b) 0 z, lt-leb (count b) i h)

-- the same as code meets it: o is the offset
pub checked_preset_record : (ed : Edition) (b : List ℕ) (i o : ℕ) → book_refusal ed b ≡ 0 → i < count b → o ≡ offset b i
    → checked_preset ed b i ≡ checked_record ed b o
unfolding checked_preset checked_record
checked_preset_record ed b i o z h q = rw (preset_refusal_record ed b i z h, q)

-- r is the refusal of the book
module _ (ed : Edition) (b : List ℕ) (i r : ℕ) (e : r ≡ book_refusal ed b) where
  pub checked_preset-book : (r ≡ 0 → ⊥) → checked_preset ed b i ≡ preset.Refused r
  unfolding checked_preset preset_refusal
  checked_preset-book f = rw (← e, ne_eqb r 0 f) (preset_at-refused ed b (offset b i) r f)

  pub checked_preset-number : (c : ℕ) → r ≡ 0 → c ≡ count b → c ≤ i → checked_preset ed b i ≡ preset.Refused 4
  unfolding checked_preset preset_refusal no_such_preset
  checked_preset-number c z q h = rw (← e, eq-eqb r 0 z, ← q, le-leb c i h) (preset_at-refused ed b (offset b i) 4 (omega arith))

-- ---- letters

-- a preset that was found: what its record has, and where its letters are
pub record PresetFound (ed : Edition) (b : List ℕ) (i k n s l : ℕ) : Type 0 where
  pub unrefused : preset_refusal ed b i ≡ 0
  pub kind : k ≡ kind_at b (offset b i)
  pub rank : n ≡ rank_at b (offset b i)
  pub begins : s ≡ offset b i + head_size ed
  pub counts : l ≡ letter_count_at ed b (offset b i)

pub found : {ed : Edition} {b : List ℕ} {i k n s l : ℕ} → preset.Found k n s l ≡ checked_preset ed b i → PresetFound ed b i k n s l
unfolding checked_preset
found {ed} {b} {i} {k} {n} {s} {l} e =
    let p = (preset_at_exactly ed b (offset b i) (preset_refusal ed b i)).1 k n s l (sym e) in
    record { unrefused = p.0; kind = p.1; rank = p.2; begins = p.3; counts = p.4 }

pub refused : (ed : Edition) (b : List ℕ) (i r : ℕ) → preset.Refused r ≡ checked_preset ed b i → preset_refusal ed b i ≡ 0 → ⊥
unfolding checked_preset
refused ed b i r e z = let p = ((preset_at_exactly ed b (offset b i) (preset_refusal ed b i)).0 r).0 (sym e) in p.1 (sym p.0 ∙ z)

pub refused_is : (ed : Edition) (b : List ℕ) (i r : ℕ) → preset.Refused r ≡ checked_preset ed b i → r ≡ preset_refusal ed b i
unfolding checked_preset
refused_is ed b i r e = sym (((preset_at_exactly ed b (offset b i) (preset_refusal ed b i)).0 r).0 (sym e)).0

-- a preset that is not refused is one of an accepted book, and its record is not refused
preset_accepted : (ed : Edition) (b : List ℕ) (i : ℕ) → preset_refusal ed b i ≡ 0 → AcceptedBook ed b
unfolding preset_refusal
preset_accepted ed b i z = accepted ed b (then_zero (book_refusal ed b) (check 4 (no_such_preset b i) then record_refusal ed b (offset b i)) z).0

preset_below : (ed : Edition) (b : List ℕ) (i : ℕ) → preset_refusal ed b i ≡ 0 → i < count b
unfolding preset_refusal no_such_preset
preset_below ed b i z =
    let a = then_zero (book_refusal ed b) (check 4 (no_such_preset b i) then record_refusal ed b (offset b i)) z in
    let c = then_zero (check 4 (no_such_preset b i)) (record_refusal ed b (offset b i)) a.1 in
    leb-false (count b) i (check_zero 4 (no_such_preset b i) refl c.0)

preset_record : (ed : Edition) (b : List ℕ) (i : ℕ) → preset_refusal ed b i ≡ 0 → record_refusal ed b (offset b i) ≡ 0
unfolding preset_refusal
preset_record ed b i z =
    let a = then_zero (book_refusal ed b) (check 4 (no_such_preset b i) then record_refusal ed b (offset b i)) z in
    (then_zero (check 4 (no_such_preset b i)) (record_refusal ed b (offset b i)) a.1).1

-- it passes checks 5 to 8, with 17
pub record_tests : (ed : Edition) (b : List ℕ) (o : ℕ) → record_refusal ed b o ≡ 0
    → (book_rank_refusal ed (kind_at b o) (rank_at b o) ≡ 0)
    × (lanes_at ed b o ≡ lanes (kind_of (kind_at b o)) (rank_at b o))
    × WordOf (rank_at b o) (letters_at ed b o)
unfolding record_refusal wrong_lane_count
record_tests ed b o z =
    let word = word_refusal (rank_at b o) (letters_at ed b o) in
    let same = eqb (lanes_at ed b o) (lanes (kind_of (kind_at b o)) (rank_at b o)) in
    let a = then_zero (book_rank_refusal ed (kind_at b o) (rank_at b o)) (check 17 (not same) then word) z in
    let c = then_zero (check 17 (not same)) word a.1 in
    (a.0, eqb-true _ _ (not-false same (check_zero 17 (not same) refl c.0)), c.1)

pub found_rank : {ed : Edition} {b : List ℕ} {i k n s l : ℕ} → PresetFound ed b i k n s l → RankOf k n
found_rank {ed} {b} {i} {k} {n} f =
    book_rank_accepted ed k n (rw (f.kind, f.rank) (record_tests ed b (offset b i) (preset_record ed b i f.unrefused)).0)

pub found_word : {ed : Edition} {b : List ℕ} {i k n s l : ℕ} → PresetFound ed b i k n s l → WordOf n (take (s + l - s) (drop s b))
found_word {ed} {b} {i} {s} {l} f =
    let d : s + l - s ≡ l = omega arith in
    rw (d, f.rank, f.begins, f.counts) (record_tests ed b (offset b i) (preset_record ed b i f.unrefused)).2

-- its letters lie inside the book
pub found_inside : {ed : Edition} {b : List ℕ} {i k n s l : ℕ} → PresetFound ed b i k n s l → s + l ≤ length b
found_inside {ed} {b} {i} f =
    let z = f.unrefused in
    let e = end_at-offset_le ed b i (preset_accepted ed b i z) (preset_below ed b i z) in
    let t = trailer_le b in
    omega arith

pub found_small : {ed : Edition} {b : List ℕ} {i k n s l : ℕ} → PresetFound ed b i k n s l → s + l ≤ 65535
found_small {ed} {b} {i} {k} {n} {s} {l} f = let h = found_inside f in let a = preset_accepted ed b i f.unrefused in omega arith

pub letters_of-found : {ed : Edition} {b : List ℕ} {i k n s l : ℕ} → PresetFound ed b i k n s l → take (s + l - s) (drop s b) ≡ letters_of ed b i
unfolding letters_of
letters_of-found {ed} {b} {i} {s} {l} f =
    let d : s + l - s ≡ l = omega arith in
    rw (eq-eqb (preset_refusal ed b i) 0 f.unrefused, d, f.begins, f.counts)

pub letters_start-found : {ed : Edition} {b : List ℕ} {i k n s l : ℕ} (p : ℕ) → PresetFound ed b i k n s l → s + p ≡ p + letters_start ed b i
unfolding letters_start
letters_start-found {ed} {b} {i} p f = rw (eq-eqb (preset_refusal ed b i) 0 f.unrefused) (let e = f.begins in omega arith)

pub letters_of-refused : (ed : Edition) (b : List ℕ) (i : ℕ) → (preset_refusal ed b i ≡ 0 → ⊥) → [] ≡ letters_of ed b i
unfolding letters_of
letters_of-refused ed b i f = rw (ne_eqb (preset_refusal ed b i) 0 f)

pub letters_start-refused : (ed : Edition) (b : List ℕ) (i p : ℕ) → (preset_refusal ed b i ≡ 0 → ⊥) → 0 + p ≡ p + letters_start ed b i
unfolding letters_start
letters_start-refused ed b i p f = rw (ne_eqb (preset_refusal ed b i) 0 f) (omega arith)
