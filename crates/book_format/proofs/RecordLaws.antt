-- Every book that passes checks 1 to 3, but the one of no bytes, is made of its records: laying them out again
-- gives its bytes. So two books with the same presets in the same order are the same bytes, unless one of them has
-- no bytes. Shown part by part from the end: what a part lays out, followed by the book after it, is the book from
-- its beginning.
--
-- Sections: numbers; one record; the records; the offsets; the law; appending.
-- Assumes nothing.
use mathlib.Core.Path.{◌≡◌, refl, sym, ap, ◌∙◌}
use mathlib.Core.Logic.{◌⊎◌, inl, inr}
use mathlib.Core.Bool.{false}
use mathlib.Core.List.{List, [], ◌∷◌, ◌++◌, append_assoc, append-nil}
use Prim.Native.Nat.{ℕ, zero, suc, ◌+◌, ◌-◌, ◌*◌, ◌/◌, ◌%◌, ◌≤◌, ◌<◌}
use native.Mathlib.Decide.{ℕ_discrete}
use native.Mathlib.Nat.{add-zero}
use native.Mathlib.Numerals.{add-one, add-two, add-three}
use native.Mathlib.Omega.{arith}
use lib.ListN.{length, get_or, drop, take-append-drop, length-drop, drop_of_length-le}
use lib.Seq.{drop-cons, drop-drop, length-take-le}
use Rattle.coxeter.specs.Kinds.{kind_of, lanes}
use Rattle.book_format.specs.declared.Edition.{Edition}
use Rattle.book_format.specs.declared.Edition.TheVariants.{First, Second}
use Rattle.book_format.specs.Books.{two_at, two, count, trailer, offset, kind_at, rank_at, lanes_at, letter_count_at, letters_at, end_at}
use Rattle.book_format.specs.Books.{misplaced_from, misplaced, book_refusal, lane_byte, record_of, appended, count_place, head_size, added_size}
use Rattle.book_format.specs.Records.{record_bytes, offset_bytes, lay_out, record_at, records_from, records_of, Empties, Bytes}
use Rattle.book_format.proofs.BookLaws.{AcceptedBook, accepted, book_size, book_size_some, no_bytes, count-bytes, first, trailer_le}
use Rattle.book_format.proofs.WritingLaws.{length-appended}
use Rattle.book_format.proofs.AppendedParts.{count-appended, offset-appended, offset-appended_last, kind_at-appended}
use Rattle.book_format.proofs.AppendedParts.{rank_at-appended, lanes_at-appended, letters_at-appended, kind_at-appended_last}
use Rattle.book_format.proofs.AppendedParts.{rank_at-appended_last, lanes_at-appended_last, letters_at-appended_last}
use Rattle.book_format.proofs.Appending.{walk_end}

-- ---- numbers

-- a two-byte number laid out again
two-two_at : (b : List ℕ) (p : ℕ) → Bytes b → two (two_at b p) ≡ get_or b p 0 ∷ get_or b (p + 1) 0 ∷ []
unfolding two two_at
two-two_at b p w =
    let x = w p in
    let y = w (p + 1) in
    let quotient : (get_or b p 0 + 256 * get_or b (p + 1) 0) / 256 ≡ get_or b (p + 1) 0 = omega arith in
    let low : (get_or b p 0 + 256 * get_or b (p + 1) 0) % 256 ≡ get_or b p 0 = omega arith in
    let high : get_or b (p + 1) 0 % 256 ≡ get_or b (p + 1) 0 = omega arith in
    rw (low, quotient, high)

drop-two : (b : List ℕ) (p : ℕ) → p + 1 < length b → drop p b ≡ get_or b p 0 ∷ get_or b (p + 1) 0 ∷ drop (p + 2) b
drop-two b p h = drop-cons b p 0 (omega arith) ∙ rw (add-one p, add-two p, drop-cons b (suc p) 0 (omega arith))

two_then_drop : (b : List ℕ) (p : ℕ) → Bytes b → p + 1 < length b → two (two_at b p) ++ drop (p + 2) b ≡ drop p b
two_then_drop b p w h = rw (two-two_at b p w) (sym (drop-two b p h))

-- ---- one record

pub length-letters_at : (ed : Edition) (b : List ℕ) (o : ℕ) → end_at ed b o ≤ length b → length (letters_at ed b o) ≡ letter_count_at ed b o
length-letters_at ed b o h = length-take-le (letter_count_at ed b o) (drop (o + head_size ed) b) (rw length-drop (omega arith))

letters_then_drop : (ed : Edition) (b : List ℕ) (o : ℕ) → letters_at ed b o ++ drop (end_at ed b o) b ≡ drop (o + head_size ed) b
letters_then_drop ed b o = rw (← drop-drop (letter_count_at ed b o) (o + head_size ed) b) (take-append-drop (letter_count_at ed b o) (drop (o + head_size ed) b))

-- what stands before the letter count
head_then_drop : (ed : Edition) (b : List ℕ) (o : ℕ) → o + count_place ed ≤ length b
    → kind_at b o ∷ rank_at b o ∷ (lane_byte ed (lanes_at ed b o) ++ drop (o + count_place ed) b) ≡ drop o b
head_then_drop First b o h = sym (drop-two b o (omega arith))
head_then_drop Second b o h =
    sym (drop-two b o (omega arith) ∙ ap (λ l. kind_at b o ∷ rank_at b o ∷ l) (drop-cons b (o + 2) 0 (omega arith) ∙ rw (add-two o, add-three o)))

record_then_drop : (ed : Edition) (b : List ℕ) (o : ℕ) → Bytes b → end_at ed b o ≤ length b
    → record_of ed (kind_at b o) (rank_at b o) (lanes_at ed b o) (letters_at ed b o) ++ drop (end_at ed b o) b ≡ drop o b
unfolding record_of
record_then_drop ed b o w h =
    let p = o + count_place ed in
    let head : p + 2 ≡ o + head_size ed = omega arith in
    let size = two (length (letters_at ed b o)) in
    rw (
      append_assoc (lane_byte ed (lanes_at ed b o)) (size ++ letters_at ed b o) (drop (end_at ed b o) b),
      append_assoc size (letters_at ed b o) (drop (end_at ed b o) b),
      length-letters_at ed b o h,
      letters_then_drop ed b o,
      ← head,
      two_then_drop b p w (omega arith),
    )
    (head_then_drop ed b o (omega arith))

-- ---- the records

records_then_drop : (ed : Edition) (b : List ℕ) (j i o : ℕ) → Bytes b → misplaced_from ed b j i o ≡ false
    → record_bytes ed (records_from ed b j i) ++ drop (trailer b) b ≡ drop o b
unfolding record_bytes records_from
records_then_drop ed b zero i o w e = rw (walk_end ed b i o e)
records_then_drop ed b (suc j) i o w e =
    let f = first ed b j i o e in
    let t = trailer_le b in
    let h = f.ends in
    rw (
      f.begins,
      append_assoc (record_of ed (kind_at b o) (rank_at b o) (lanes_at ed b o) (letters_at ed b o))
          (record_bytes ed (records_from ed b j (suc i))) (drop (trailer b) b),
      records_then_drop ed b j (suc i) (end_at ed b o) w f.others,
    )
    (record_then_drop ed b o w (omega arith))

-- ---- the offsets

offset_at : (b : List ℕ) (i : ℕ) → offset b i ≡ two_at b (trailer b + 2 * i)
unfolding offset
offset_at b i = refl

count_at : (b : List ℕ) → count b ≡ two_at b (length b - 2)
unfolding count
count_at b = refl

count_then_end : (b : List ℕ) → Bytes b → 2 ≤ length b → two (count b) ≡ drop (length b - 2) b
count_then_end b w h =
    rw (count_at b)
    (rw (
      drop_of_length-le b {i = length b - 2 + 2} (omega arith),
      append-nil (two (two_at b (length b - 2))),
    ) at (two_then_drop b (length b - 2) w (omega arith)))

offsets_then_drop : (ed : Edition) (b : List ℕ) (j i o : ℕ) → Bytes b → trailer b + 2 * (i + j) ≤ length b → misplaced_from ed b j i o ≡ false
    → offset_bytes ed o (records_from ed b j i) ++ drop (trailer b + 2 * (i + j)) b ≡ drop (trailer b + 2 * i) b
unfolding offset_bytes records_from
offsets_then_drop ed b zero i o w h e = rw (add-zero i)
offsets_then_drop ed b (suc j) i o w h e =
    let f = first ed b j i o e in
    let t = trailer_le b in
    let g = f.ends in
    let p = trailer b + 2 * i in
    let next : trailer b + 2 * suc i ≡ p + 2 = omega arith in
    let left : i + suc j ≡ suc i + j = omega arith in
    let this : two o ≡ two (two_at b p) = ap two (sym f.begins ∙ offset_at b i) in
    rw (
      f.begins,
      length-letters_at ed b o (omega arith),
      append_assoc (two o) (offset_bytes ed (end_at ed b o) (records_from ed b j (suc i))) (drop (trailer b + 2 * (i + suc j)) b),
      left,
      offsets_then_drop ed b j (suc i) (end_at ed b o) w (omega arith) f.others,
      next,
      this,
    )
    (two_then_drop b p w (omega arith))

pub length-records_from : (ed : Edition) (b : List ℕ) (j i : ℕ) → length (records_from ed b j i) ≡ j
unfolding records_from
length-records_from ed b zero i = refl
length-records_from ed b (suc j) i = ap suc (length-records_from ed b j (suc i))

pub placed_from : (ed : Edition) (b : List ℕ) → AcceptedBook ed b → misplaced_from ed b (count b) 0 0 ≡ false
unfolding misplaced
placed_from ed b a = a.placed

-- ---- the law

-- every book but the one of no bytes, which has no count
pub lay_out-records_of : (ed : Edition) (b : List ℕ) → Bytes b → book_refusal ed b ≡ 0 → (length b ≡ 0 → ⊥) → lay_out ed (records_of ed b) ≡ b
unfolding lay_out records_of
lay_out-records_of ed b w z some =
    let a = accepted ed b z in
    let h = a.sized ∙ book_size_some b some in
    let rs = records_from ed b (count b) 0 in
    let place : trailer b + 2 * (0 + count b) ≡ length b - 2 = omega arith in
    let start : trailer b + 2 * 0 ≡ trailer b = omega arith in
    let number : two (length rs) ≡ drop (trailer b + 2 * (0 + count b)) b =
    rw (length-records_from ed b (count b) 0, place) (count_then_end b w (omega arith)) in
    rw (number, offsets_then_drop ed b (count b) 0 0 w (omega arith) (placed_from ed b a), start) (records_then_drop ed b (count b) 0 0 w (placed_from ed b a))

-- a book whose records are those of a book of no bytes is the count 0 alone, unless it has no bytes either
empty_records : (ed : Edition) (b d : List ℕ) → Bytes d → book_refusal ed d ≡ 0 → length b ≡ 0 → (length d ≡ 0 → ⊥) → records_of ed b ≡ records_of ed d → d ≡ two 0
unfolding lay_out record_bytes offset_bytes records_of records_from
empty_records ed b d v z n f e = sym (lay_out-records_of ed d v z f) ∙ ap (lay_out ed) (sym e) ∙ rw (count-bytes b n)

-- two books with the same presets in the same order are the same bytes, with the one exception `Empties`
same_records : (ed : Edition) (b d : List ℕ) → Bytes b → Bytes d → book_refusal ed b ≡ 0 → book_refusal ed d ≡ 0 → records_of ed b ≡ records_of ed d
    → (b ≡ d) ⊎ Empties b d
same_records ed b d w v y z e = elim (ℕ_discrete (length b) 0) [
  | yes n ↦ elim (ℕ_discrete (length d) 0) [
    | yes m ↦ inl (no_bytes b n ∙ sym (no_bytes d m))
    | no f ↦ inr (inl (no_bytes b n, empty_records ed b d v z n f e))
  ]
  | no f ↦ elim (ℕ_discrete (length d) 0) [
    | yes m ↦ inr (inr (empty_records ed d b w y m f (sym e), no_bytes d m))
    | no g ↦ inl (sym (lay_out-records_of ed b w y f) ∙ ap (lay_out ed) e ∙ lay_out-records_of ed d v z g)
  ]
]

records_from_same : (ed : Edition) (b d : List ℕ) (j i : ℕ) → ((m : ℕ) → m < i + j → record_at ed b (offset b m) ≡ record_at ed d (offset d m))
    → records_from ed b j i ≡ records_from ed d j i
unfolding records_from
records_from_same ed b d zero i e = refl
records_from_same ed b d (suc j) i e = rw (e i (omega arith), records_from_same ed b d j (suc i) (λ m h. e m (omega arith)))

-- the same, number by number
pub same_presets : (ed : Edition) (b d : List ℕ) → Bytes b → Bytes d → book_refusal ed b ≡ 0 → book_refusal ed d ≡ 0 → count b ≡ count d
    → ((i : ℕ) → i < count b → record_at ed b (offset b i) ≡ record_at ed d (offset d i)) → (b ≡ d) ⊎ Empties b d
unfolding records_of
same_presets ed b d w v y z n e = same_records ed b d w v y z (records_from_same ed b d (count b) 0 (λ m h. e m (omega arith)) ∙ rw n)

-- ---- appending

record_at_same : (ed : Edition) (l m : List ℕ) (o : ℕ) → kind_at l o ≡ kind_at m o → rank_at l o ≡ rank_at m o → lanes_at ed l o ≡ lanes_at ed m o
    → letters_at ed l o ≡ letters_at ed m o → record_at ed l o ≡ record_at ed m o
record_at_same ed l m o p q s r = rw (s, p, q, r)

record_at_of : (ed : Edition) (m : List ℕ) (o : ℕ) {k n c : ℕ} {u : List ℕ} → kind_at m o ≡ k → rank_at m o ≡ n → lanes_at ed m o ≡ c → letters_at ed m o ≡ u
    → record_at ed m o ≡ record { kind = k; rank = n; lanes = c; letters = u }
record_at_of ed m o p q s r = rw (s, p, q, r)

module _ (ed : Edition) (b : List ℕ) (k n : ℕ) (u : List ℕ) (a : AcceptedBook ed b) (small : book_size b + added_size ed u ≤ 65535) where
  records_from-appended : (j i o : ℕ) → i + j ≡ count b → misplaced_from ed b j i o ≡ false
      → records_from ed (appended ed b k n u) (suc j) i ≡ records_from ed b j i ++ (record { kind = k; rank = n; lanes = lanes (kind_of k) n; letters = u } ∷ [])
  unfolding records_from
  records_from-appended zero i o s e =
      let y : i ≡ count b = omega arith in
      rw (y, offset-appended_last ed b k n u a small)
      (ap (λ r. r ∷ [])
      (record_at_of ed (appended ed b k n u) (trailer b) (kind_at-appended_last ed b k n u a small)
      (rank_at-appended_last ed b k n u a small)
      (lanes_at-appended_last ed b k n u a small) (letters_at-appended_last ed b k n u a small)))
  records_from-appended (suc j) i o s e =
      let f = first ed b j i o e in
      let h = f.ends in
      rw (offset-appended ed b k n u a small i (omega arith), f.begins, records_from-appended j (suc i) (end_at ed b o) (omega arith) f.others)
      (ap (λ r. r ∷ (records_from ed b j (suc i) ++ (record { kind = k; rank = n; lanes = lanes (kind_of k) n; letters = u } ∷ [])))
      (record_at_same ed (appended ed b k n u) b o (kind_at-appended ed b k n u a small o (omega arith)) (rank_at-appended ed b k n u a small o (omega arith))
      (lanes_at-appended ed b k n u a small o (omega arith)) (letters_at-appended ed b k n u a small o h)))

-- the records of the new book are those of the old one and then the one appended
pub records_of-appended : (ed : Edition) (b : List ℕ) (k n : ℕ) (u : List ℕ) → book_refusal ed b ≡ 0 → length (appended ed b k n u) ≤ 65535
    → records_of ed (appended ed b k n u) ≡ records_of ed b ++ (record { kind = k; rank = n; lanes = lanes (kind_of k) n; letters = u } ∷ [])
unfolding records_of
records_of-appended ed b k n u z h =
    let a = accepted ed b z in
    let l = length-appended ed b k n u a in
    let small : book_size b + added_size ed u ≤ 65535 = omega arith in
    rw (count-appended ed b k n u a small, add-one (count b)) (records_from-appended ed b k n u a small (count b) 0 0 (omega arith) (placed_from ed b a))
