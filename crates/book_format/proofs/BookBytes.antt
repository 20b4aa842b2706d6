-- The bytes of a book by their places (B1 to B7 of the specification): numbers of two bytes, the count and the
-- offsets at the end of a book, and a record of either edition, each of bytes that are written out.
--
-- Sections: numbers; the end of a book; records.
-- Assumes nothing.
use mathlib.Core.Path.{◌≡◌, refl, ◌∙◌}
use mathlib.Core.Logic.{◌↔◌, ◌⊎◌, ⊎_elim}
use mathlib.Core.List.Memᴰ
use mathlib.Core.List.{List, [], ◌∷◌, ◌++◌, append_assoc, Memᴰ}
use Prim.Native.Nat.{ℕ, suc, ◌+◌, ◌-◌, ◌*◌, ◌/◌, ◌%◌, ◌≤◌, ◌<◌}
use native.Mathlib.Decide.{dec_le}
use native.Mathlib.Omega.{arith}
use lib.ListN.{length, get_or, take, length-append, get_or-eq_default}
use lib.Seq.{drop-append-add, get_or-append_seam, get_or-append-add}
use Rattle.coxeter.specs.Kinds.{kind_of, lanes}
use Rattle.coxeter.proofs.CountedPairs.{mem_get_or}
use Rattle.book_format.specs.declared.Edition.TheVariants.{First, Second}
use Rattle.book_format.specs.Books.{two_at, two, count, trailer, offset, kind_at, rank_at, lanes_at, letter_count_at, letters_at, end_at}
use Rattle.book_format.specs.Records.{record_at, Empties, Bytes}
use Rattle.book_format.proofs.AppendedParts.{two_at-append_right, two_at-append_left}

-- ---- numbers

bytes_all : (b : List ℕ) → Bytes b → (x : ℕ) → Memᴰ x b → x ≤ 255
bytes_all [] h x m = absurd (Memᴰ.not-nil m)
bytes_all (y ∷ b) h x m = ⊎_elim (λ e. omega (arith, h 0)) (bytes_all b (λ i. h (suc i)) x) (Memᴰ.cases_cons m)

-- B1: the numbers of a list are bytes exactly when each of them is at most 255
pub bytes_exactly : (b : List ℕ) → Bytes b ↔ ((x : ℕ) → Memᴰ x b → x ≤ 255)
bytes_exactly b = (
  bytes_all b,
  λ f i. elim (dec_le (length b) i) [
    | yes h ↦ rw (get_or-eq_default b 0 h) (omega arith)
    | no h ↦ let l = f (get_or b i 0) (mem_get_or b i 0 (omega arith)) in omega arith
  ],
)

-- B10, B11: two books differ without a difference of their presets exactly when one has no bytes and the other is the two
-- bytes 00 00
pub empties_exactly : (b d : List ℕ) → Empties b d ↔ (((b ≡ []) × (d ≡ 0 ∷ 0 ∷ [])) ⊎ ((b ≡ 0 ∷ 0 ∷ []) × (d ≡ [])))
unfolding two
empties_exactly b d = (λ e. e, λ e. e)

-- the two bytes after x
two_at-after : (b x y : List ℕ) (low high p : ℕ) → b ≡ x ++ (low ∷ high ∷ y) → p ≡ length x → two_at b p ≡ low + 256 * high
unfolding two_at
two_at-after b x y low high p e q =
    let z : p ≡ length x + 0 = omega arith in
    rw (e, z) (two_at-append_right x (low ∷ high ∷ y) 0)

-- B2: a number of two bytes is read and written with its low byte first
pub low_byte_first : (low high : ℕ)
    → ((x y : List ℕ) → two_at (x ++ (low ∷ high ∷ y)) (length x) ≡ low + 256 * high)
    × (low < 256 → high < 256 → two (low + 256 * high) ≡ low ∷ high ∷ [])
unfolding two
low_byte_first low high = (
  λ x y. two_at-after (x ++ (low ∷ high ∷ y)) x y low high (length x) refl refl,
  λ h g.
      let a : (low + 256 * high) % 256 ≡ low = omega arith in
      let b : (low + 256 * high) / 256 ≡ high = omega arith in
      let c : high % 256 ≡ high = omega arith in
      rw (a, b, c),
)

-- ---- the end of a book

-- B3: the last two bytes are the count, whatever stands before them
pub count_in_last_two : (x : List ℕ) (low high : ℕ) → count (x ++ (low ∷ high ∷ [])) ≡ low + 256 * high
unfolding count
count_in_last_two x low high =
    let l = length-append x (low ∷ high ∷ []) in
    two_at-after (x ++ (low ∷ high ∷ [])) x [] low high (length (x ++ (low ∷ high ∷ [])) - 2) refl (omega arith)

-- B1, B4: before the count c stand c offsets of two bytes each, in order, and before them the records
pub read_from_the_end : (records offsets : List ℕ) (low high : ℕ) → length offsets ≡ 2 * (low + 256 * high)
    → let b = records ++ (offsets ++ (low ∷ high ∷ [])) in
    (count b ≡ low + 256 * high)
    × (trailer b ≡ length records)
    × ((i : ℕ) → i < low + 256 * high → offset b i ≡ get_or offsets (2 * i) 0 + 256 * get_or offsets (2 * i + 1) 0)
unfolding trailer offset
read_from_the_end records offsets low high e =
    let end = low ∷ high ∷ [] in
    let b = records ++ (offsets ++ end) in
    let l : length b ≡ length records + length offsets + 2 = simp length-append (omega arith) in
    let c : count b ≡ low + 256 * high = rw (← append_assoc records offsets end) (count_in_last_two (records ++ offsets) low high) in
    let t : trailer b ≡ length records = rw c (omega arith) in (
      c,
      t,
      λ i h.
          rw t
          (two_at-append_right records (offsets ++ end) (2 * i)
          ∙ two_at-append_left offsets end (2 * i) (omega arith)
          ∙ unfold two_at in refl),
    )

-- ---- records

-- B6: a record of the first edition is its kind, its rank, its letter count and that many letters; its lane count
-- follows from kind and rank
pub record_in_first : (x y : List ℕ) (k n low high : ℕ)
    → let b = x ++ (k ∷ n ∷ low ∷ high ∷ y) in
    let o = length x in
    let l = low + 256 * high in
    (kind_at b o ≡ k)
    × (rank_at b o ≡ n)
    × (lanes_at First b o ≡ lanes (kind_of k) n)
    × (letter_count_at First b o ≡ l)
    × (letters_at First b o ≡ take l y)
    × (end_at First b o ≡ o + 4 + l)
    × (record_at First b o ≡ record { kind = k; rank = n; lanes = lanes (kind_of k) n; letters = take l y })
record_in_first x y k n low high =
    let r = k ∷ n ∷ low ∷ high ∷ y in
    let kind : kind_at (x ++ r) (length x) ≡ k = get_or-append_seam x k (n ∷ low ∷ high ∷ y) 0 in
    let rank : rank_at (x ++ r) (length x) ≡ n = get_or-append-add x r 1 0 in
    let size : letter_count_at First (x ++ r) (length x) ≡ low + 256 * high = two_at-append_right x r 2 ∙ (unfold two_at in refl) in
    let word : letters_at First (x ++ r) (length x) ≡ take (low + 256 * high) y = rw (size, drop-append-add x r 4) in
    (kind, rank, rw (kind, rank), size, word, rw size, rw (word, kind, rank))

-- B7: a record of the second edition has its lane count as one byte more, right after the rank
pub record_in_second : (x y : List ℕ) (k n m low high : ℕ)
    → let b = x ++ (k ∷ n ∷ m ∷ low ∷ high ∷ y) in
    let o = length x in
    let l = low + 256 * high in
    (kind_at b o ≡ k)
    × (rank_at b o ≡ n)
    × (lanes_at Second b o ≡ m)
    × (letter_count_at Second b o ≡ l)
    × (letters_at Second b o ≡ take l y)
    × (end_at Second b o ≡ o + 5 + l)
    × (record_at Second b o ≡ record { kind = k; rank = n; lanes = m; letters = take l y })
record_in_second x y k n m low high =
    let r = k ∷ n ∷ m ∷ low ∷ high ∷ y in
    let kind : kind_at (x ++ r) (length x) ≡ k = get_or-append_seam x k (n ∷ m ∷ low ∷ high ∷ y) 0 in
    let rank : rank_at (x ++ r) (length x) ≡ n = get_or-append-add x r 1 0 in
    let lane : lanes_at Second (x ++ r) (length x) ≡ m = get_or-append-add x r 2 0 in
    let size : letter_count_at Second (x ++ r) (length x) ≡ low + 256 * high = two_at-append_right x r 3 ∙ (unfold two_at in refl) in
    let word : letters_at Second (x ++ r) (length x) ≡ take (low + 256 * high) y = rw (size, drop-append-add x r 5) in
    (kind, rank, lane, size, word, rw size, rw (word, kind, rank, lane))
