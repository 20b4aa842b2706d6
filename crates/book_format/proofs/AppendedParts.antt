-- A book that appending made, number by number and record by record: its count, its trailer, its offsets, its last
-- record and those before it. Shown by cutting it into its five parts, the records, the new record, the offsets,
-- its offset and the count.
--
-- Sections: two-byte numbers in a list; parts of a list; the parts; numbers of the new book; its records.
-- Assumes nothing.
use mathlib.Core.Path.{◌≡◌, refl, sym, ap, ◌∙◌}
use mathlib.Core.List.{List, [], ◌∷◌, ◌++◌, append_assoc, append-nil}
use Prim.Native.Nat.{ℕ, ◌+◌, ◌-◌, ◌*◌, ◌≤◌, ◌<◌}
use native.Mathlib.Nat.{add_assoc}
use native.Mathlib.Omega.{arith}
use lib.ListN.{length, get_or, take, drop, length-append, length-drop, take-append-drop, get_or-append}
use lib.Seq.{get_or-append-add, get_or-take, get_or-drop, get_or_at, take_at, drop_at, take-append-le, drop-append-le, length-take-le}
use Rattle.book_format.specs.declared.Edition.{Edition}
use Rattle.book_format.specs.declared.Edition.TheVariants.{First, Second}
use Rattle.coxeter.specs.Kinds.{kind_of, lanes}
use Rattle.coxeter.proofs.Lists.{get_or-joined}
use Rattle.book_format.specs.Books.{two_at, two, count, trailer, offset, kind_at, rank_at, lanes_at, letter_count_at, letters_at, end_at}
use Rattle.book_format.specs.Books.{lane_byte, record_of, appended, count_place, head_size, added_size}
use Rattle.book_format.proofs.BookLaws.{AcceptedBook, book_size, trailer_le, trailer_read, two_le_count_place}
use Rattle.book_format.proofs.WritingLaws.{length_two, length-lane_byte, length-record_of, length-appended}

-- ---- two-byte numbers in a list

pub two_at-append_right : (x y : List ℕ) (p : ℕ) → two_at (x ++ y) (length x + p) ≡ two_at y p
unfolding two_at
two_at-append_right x y p = rw (add_assoc (length x) p 1, get_or-append-add x y p 0, get_or-append-add x y (p + 1) 0)

pub two_at-append_left : (x y : List ℕ) (p : ℕ) → p + 1 < length x → two_at (x ++ y) p ≡ two_at x p
unfolding two_at
two_at-append_left x y p h = rw (get_or-append x y 0 p (omega arith), get_or-append x y 0 (p + 1) h)

two_at-two : (v : ℕ) (y : List ℕ) → v < 65536 → two_at (two v ++ y) 0 ≡ v
unfolding two_at two
two_at-two v y h = omega arith

-- a number that was written at p
pub two_at-written : (l x y : List ℕ) (p v : ℕ) → l ≡ x ++ (two v ++ y) → p ≡ length x → v < 65536 → two_at l p ≡ v
two_at-written l x y p v e q h = rw (e, q) (let z : length x ≡ length x + 0 = omega arith in rw z (two_at-append_right x (two v ++ y) 0 ∙ two_at-two v y h))

two_at_agree : (l m : List ℕ) (p : ℕ) → get_or l p 0 ≡ get_or m p 0 → get_or l (p + 1) 0 ≡ get_or m (p + 1) 0 → two_at l p ≡ two_at m p
unfolding two_at
two_at_agree l m p e f = rw (e, f)

two_at_middle : (l : List ℕ) (f m p : ℕ) → p + 1 < m → two_at (take m (drop f l)) p ≡ two_at l (f + p)
unfolding two_at
two_at_middle l f m p h =
    rw (get_or-take m (drop f l) p 0 (omega arith), get_or-take m (drop f l) (p + 1) 0 h, get_or-drop f l p 0, get_or-drop f l (p + 1) 0, add_assoc f p 1)

-- ---- parts of a list

middle_append : (x y : List ℕ) (f m : ℕ) → f + m ≤ length x → take m (drop f (x ++ y)) ≡ take m (drop f x)
middle_append x y f m h = rw (drop-append-le f x y (omega arith)) (take-append-le m (drop f x) y (rw length-drop (omega arith)))

-- ---- the parts

abbrev records : List ℕ → List ℕ
records b = take (trailer b) b

abbrev offsets : List ℕ → List ℕ
offsets b = take (2 * count b) (drop (trailer b) b)

length-records : (b : List ℕ) → length (records b) ≡ trailer b
length-records b = length-take-le (trailer b) b (trailer_le b)

length-offsets : (ed : Edition) (b : List ℕ) → AcceptedBook ed b → length (offsets b) ≡ 2 * count b
length-offsets ed b a = let h = a.inside in length-take-le (2 * count b) (drop (trailer b) b) (rw length-drop (omega arith))

-- the lane count of the new record as it is written, and the record
abbrev lane : Edition → ℕ → ℕ → List ℕ
lane ed k n = lane_byte ed (lanes (kind_of k) n)

abbrev preset_record : Edition → ℕ → ℕ → List ℕ → List ℕ
preset_record ed k n u = record_of ed k n (lanes (kind_of k) n) u

-- the new book, cut before its count, before its last offset, before its offsets, before its record
module _ (ed : Edition) (b : List ℕ) (k n : ℕ) (u : List ℕ) where
  before-count : appended ed b k n u ≡ (records b ++ (preset_record ed k n u ++ (offsets b ++ two (trailer b)))) ++ (two (count b + 1) ++ [])
  unfolding appended
  before-count = simp (append_assoc, append-nil)

  before-offset : appended ed b k n u ≡ ((records b ++ preset_record ed k n u) ++ offsets b) ++ (two (trailer b) ++ two (count b + 1))
  unfolding appended
  before-offset = simp append_assoc

  before-offsets : appended ed b k n u ≡ (records b ++ preset_record ed k n u) ++ (offsets b ++ (two (trailer b) ++ two (count b + 1)))
  unfolding appended
  before-offsets = simp append_assoc

  abbrev rest : List ℕ
  rest = offsets b ++ (two (trailer b) ++ two (count b + 1))

  before_record : appended ed b k n u ≡ records b ++ (k ∷ n ∷ (lane ed k n ++ (two (length u) ++ (u ++ rest))))
  unfolding appended record_of
  before_record = simp append_assoc

-- the lane count of a record in a book whose bytes are another's there, and in one that has the new record at byte o
lanes_at_same : (ed : Edition) (l m : List ℕ) (o : ℕ) → kind_at l o ≡ kind_at m o → rank_at l o ≡ rank_at m o
    → (3 ≤ count_place ed → get_or l (o + 2) 0 ≡ get_or m (o + 2) 0) → lanes_at ed l o ≡ lanes_at ed m o
lanes_at_same First l m o p q r = rw (p, q)
lanes_at_same Second l m o p q r = r (omega arith)

lanes_at_of : (ed : Edition) {m : List ℕ} (x y : List ℕ) {o k n : ℕ} → m ≡ x ++ (k ∷ n ∷ (lane ed k n ++ y)) → length x ≡ o → kind_at m o ≡ k → rank_at m o ≡ n
    → lanes_at ed m o ≡ lanes (kind_of k) n
lanes_at_of First x y e f p q = rw (p, q)
lanes_at_of Second x y {o} {k} {n} e f p q = rw e (get_or-joined o x (k ∷ n ∷ (lane Second k n ++ y)) 2 f)

module _ (ed : Edition) (b : List ℕ) (k n : ℕ) (u : List ℕ) (a : AcceptedBook ed b) (small : book_size b + added_size ed u ≤ 65535) where
  -- ---- numbers of the new book

  pub count-appended : count (appended ed b k n u) ≡ count b + 1
  unfolding count
  count-appended =
      let front = records b ++ (preset_record ed k n u ++ (offsets b ++ two (trailer b))) in
      let h = a.sized in
      let l = length-appended ed b k n u a in
      let f : length front ≡ book_size b + (head_size ed + length u) =
      simp (length-append, length-records, length-record_of, length-offsets ed b a, length_two) (omega arith) in
      two_at-written (appended ed b k n u) front [] (length (appended ed b k n u) - 2) (count b + 1) (before-count ed b k n u) (omega arith) (omega arith)

  pub trailer-appended : trailer (appended ed b k n u) ≡ trailer b + (head_size ed + length u)
  trailer-appended =
      let l = length-appended ed b k n u a in
      let h = a.sized in
      let r = trailer_read (appended ed b k n u) (count b + 1) (sym count-appended) in
      omega arith

  pub offset-appended_last : offset (appended ed b k n u) (count b) ≡ trailer b
  unfolding offset
  offset-appended_last =
      let h = a.sized in
      let front = (records b ++ preset_record ed k n u) ++ offsets b in
      let f : length front ≡ trailer b + (head_size ed + length u) + 2 * count b =
      simp (length-append, length-records, length-record_of, length-offsets ed b a) in
      rw trailer-appended
      (two_at-written (appended ed b k n u) front (two (count b + 1)) (trailer b + (head_size ed + length u) + 2 * count b) (trailer b)
      (before-offset ed b k n u) (sym f) (omega arith))

  pub offset-appended : (i : ℕ) → i < count b → offset (appended ed b k n u) i ≡ offset b i
  unfolding offset
  offset-appended i h =
      let s = a.sized in
      let front = records b ++ preset_record ed k n u in
      let f : trailer b + (head_size ed + length u) ≡ length front = simp (length-append, length-records, length-record_of) in
      let l = length-offsets ed b a in
      rw (
        trailer-appended,
        before-offsets ed b k n u,
        f,
        two_at-append_right front (rest ed b k n u) (2 * i),
        two_at-append_left (offsets b) (two (trailer b) ++ two (count b + 1)) (2 * i) (omega arith),
      )
      (two_at_middle b (trailer b) (2 * count b) (2 * i) (omega arith))

  -- ---- its records

  -- a byte before the trailer is the old book's
  get_or-appended : (p : ℕ) → p < trailer b → get_or (appended ed b k n u) p 0 ≡ get_or b p 0
  unfolding appended
  get_or-appended p h =
      let l = length-records b in
      get_or-append (records b) (preset_record ed k n u ++ rest ed b k n u) 0 p (omega arith) ∙ get_or-take (trailer b) b p 0 h

  pub letter_count_at-appended : (o : ℕ) → o + head_size ed ≤ trailer b → letter_count_at ed (appended ed b k n u) o ≡ letter_count_at ed b o
  letter_count_at-appended o h =
      let p = o + count_place ed in
      two_at_agree (appended ed b k n u) b p (get_or-appended p (omega arith)) (get_or-appended (p + 1) (omega arith))

  pub letters_at-appended : (o : ℕ) → end_at ed b o ≤ trailer b → letters_at ed (appended ed b k n u) o ≡ letters_at ed b o
  letters_at-appended o h =
      let l = length-records b in
      let m = letter_count_at ed b o in
      rw (letter_count_at-appended o (omega arith))
      (ap (λ x. take m (drop (o + head_size ed) x)) (before_record ed b k n u)
      ∙ middle_append (records b) (k ∷ n ∷ (lane ed k n ++ (two (length u) ++ (u ++ rest ed b k n u)))) (o + head_size ed) m (omega arith)
      ∙ sym (middle_append (records b) (drop (trailer b) b) (o + head_size ed) m (omega arith))
      ∙ ap (λ x. take m (drop (o + head_size ed) x)) (take-append-drop (trailer b) b))

  pub kind_at-appended : (o : ℕ) → o + head_size ed ≤ trailer b → kind_at (appended ed b k n u) o ≡ kind_at b o
  kind_at-appended o h = get_or-appended o (omega (arith, two_le_count_place ed))

  pub rank_at-appended : (o : ℕ) → o + head_size ed ≤ trailer b → rank_at (appended ed b k n u) o ≡ rank_at b o
  rank_at-appended o h = get_or-appended (o + 1) (omega (arith, two_le_count_place ed))

  pub lanes_at-appended : (o : ℕ) → o + head_size ed ≤ trailer b → lanes_at ed (appended ed b k n u) o ≡ lanes_at ed b o
  lanes_at-appended o h = lanes_at_same ed (appended ed b k n u) b o (kind_at-appended o h) (rank_at-appended o h)
      (λ g. get_or-appended (o + 2) (omega arith))

  pub end_at-appended : (o : ℕ) → o + head_size ed ≤ trailer b → end_at ed (appended ed b k n u) o ≡ end_at ed b o
  end_at-appended o h = ap (λ m. o + head_size ed + m) (letter_count_at-appended o h)

  pub kind_at-appended_last : kind_at (appended ed b k n u) (trailer b) ≡ k
  kind_at-appended_last =
      rw (before_record ed b k n u) (get_or_at (records b) k (n ∷ (lane ed k n ++ (two (length u) ++ (u ++ rest ed b k n u)))) 0 (trailer b) (length-records b))

  pub rank_at-appended_last : rank_at (appended ed b k n u) (trailer b) ≡ n
  rank_at-appended_last =
      rw (before_record ed b k n u) (get_or-joined (trailer b) (records b) (k ∷ n ∷ (lane ed k n ++ (two (length u) ++ (u ++ rest ed b k n u)))) 1
      (length-records b))

  pub lanes_at-appended_last : lanes_at ed (appended ed b k n u) (trailer b) ≡ lanes (kind_of k) n
  lanes_at-appended_last =
      lanes_at_of ed (records b) (two (length u) ++ (u ++ rest ed b k n u)) (before_record ed b k n u) (length-records b)
      kind_at-appended_last rank_at-appended_last

  pub letter_count_at-appended_last : letter_count_at ed (appended ed b k n u) (trailer b) ≡ length u
  letter_count_at-appended_last =
      let front = records b ++ (k ∷ n ∷ lane ed k n) in
      let w = length-lane_byte ed (lanes (kind_of k) n) in
      let f : length front ≡ trailer b + count_place ed = simp (length-append, length-records) (omega arith) in
      two_at-written (appended ed b k n u) front (u ++ rest ed b k n u) (trailer b + count_place ed) (length u) (before_record ed b k n u ∙ simp append_assoc)
      (sym f) (omega arith)

  pub letters_at-appended_last : letters_at ed (appended ed b k n u) (trailer b) ≡ u
  letters_at-appended_last =
      let front = records b ++ (k ∷ n ∷ (lane ed k n ++ two (length u))) in
      let w = length-lane_byte ed (lanes (kind_of k) n) in
      let f : length front ≡ trailer b + head_size ed = simp (length-append, length-records, length_two) (omega arith) in
      let cut : appended ed b k n u ≡ front ++ (u ++ rest ed b k n u) = before_record ed b k n u ∙ simp append_assoc in
      rw (letter_count_at-appended_last, cut, drop_at front (u ++ rest ed b k n u) (trailer b + head_size ed) f) (take_at u (rest ed b k n u) (length u) refl)

  pub end_at-appended_last : end_at ed (appended ed b k n u) (trailer b) ≡ trailer (appended ed b k n u)
  end_at-appended_last = rw (letter_count_at-appended_last, trailer-appended) (omega arith)
