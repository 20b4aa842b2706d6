-- The checks of a book, one record at a time and one case at a time, in the form in which the code meets them, and
-- what an accepted book is.
--
-- Sections: checks 1 to 3; the walk over the records; accepted books.
-- Assumes nothing.
use mathlib.Core.Path.{◌≡◌, refl, sym, ◌∙◌}
use mathlib.Core.Bool.{Bool, true, false, not, ◌||◌, or-true, or_assoc, true≢false}
use mathlib.Core.List.{List, []}
use Prim.Native.Nat.{ℕ, zero, suc, ◌+◌, ◌-◌, ◌*◌, ◌≤◌, ◌<◌}
use native.Mathlib.Decide.{ℕ_discrete}
use native.Mathlib.Nat.{add-zero, add-suc, suc-add, zero-add, le_trans, le_of_eq}
use native.Mathlib.Numerals.{add-one}
use native.Mathlib.Omega.{arith}
use lib.Dec.{eqb, ltb}
use lib.ListN.{length, drop_of_length-le}
use borrow.Author.Tests.{eq-eqb, ne_eqb, lt-ltb, le-ltb, eqb-true, ltb-true, ltb-false, not-false}
use Rattle.coxeter.specs.Kinds.{pick}
use Rattle.coxeter.specs.Checks.{check, ◌then◌}
use Rattle.coxeter.proofs.Basics.{or_false_left, or_false_right}
use Rattle.coxeter.proofs.Refusals.{then_zero, check_zero}
use Rattle.book_format.specs.declared.Edition.{Edition}
use Rattle.book_format.specs.declared.Edition.TheVariants.{First, Second}
use Rattle.book_format.specs.Books.{two_at, count, trailer, offset, end_at, wrong_size, wrong_count, misplaced_from, misplaced}
use Rattle.book_format.specs.Books.{book_refusal, count_place, head_size}

-- ---- checks 1 to 3, in the order of the code: c is the count as it was read, t the answer of the walk

pub count_read : (b : List ℕ) (c : ℕ) → c ≡ two_at b (length b - 2) → c ≡ count b
unfolding count
count_read b c e = e

-- a book of no bytes: its count and its trailer
pub no_bytes : (b : List ℕ) → length b ≡ 0 → b ≡ []
no_bytes b h = drop_of_length-le b (le_of_eq h)

pub count-bytes : (b : List ℕ) → length b ≡ 0 → count b ≡ 0
unfolding count two_at
count-bytes b h = rw (no_bytes b h)

pub trailer-bytes : (b : List ℕ) → length b ≡ 0 → trailer b ≡ 0
unfolding trailer
trailer-bytes b h = rw (count-bytes b h, h)

pub placed_bytes : (ed : Edition) (b : List ℕ) → length b ≡ 0 → misplaced ed b ≡ false
unfolding misplaced misplaced_from
placed_bytes ed b h = rw (count-bytes b h, trailer-bytes b h)

above_zero : (m : ℕ) → (m ≡ 0 → ⊥) → 0 < m
above_zero m f = elim (ℕ_discrete m 0) [ yes z ↦ absurd (f z) | no g ↦ omega arith ]

module _ (ed : Edition) (b : List ℕ) where
  pub book_refusal-bytes : length b ≡ 0 → book_refusal ed b ≡ 0
  unfolding book_refusal wrong_size wrong_count
  book_refusal-bytes h = rw (h, placed_bytes ed b h)

  pub book_refusal_small : (length b ≡ 0 → ⊥) → length b < 2 → book_refusal ed b ≡ 1
  unfolding book_refusal wrong_size
  book_refusal_small f h = let e : length b ≡ 1 = omega (arith, above_zero (length b) f) in rw (eq-eqb (length b) 1 e)

  pub book_refusal_large : 2 ≤ length b → 65535 < length b → book_refusal ed b ≡ 1
  unfolding book_refusal wrong_size
  book_refusal_large h g = rw (ne_eqb (length b) 1 (omega arith), lt-ltb 65535 (length b) g)

  pub book_refusal-count : (c : ℕ) → 2 ≤ length b → length b ≤ 65535 → c ≡ count b → length b < 2 * c + 2 → book_refusal ed b ≡ 2
  unfolding book_refusal wrong_size wrong_count
  book_refusal-count c h g e f =
      rw (ne_eqb (length b) 1 (omega arith), le-ltb 65535 (length b) g, ne_eqb (length b) 0 (omega arith), ← e, lt-ltb (length b) (2 * c + 2) f)

  pub book_refusal-walk : (c : ℕ) (t : Bool) → 2 ≤ length b → length b ≤ 65535 → c ≡ count b → 2 * c + 2 ≤ length b → t ≡ misplaced ed b
      → book_refusal ed b ≡ check 3 t
  unfolding book_refusal wrong_size wrong_count
  book_refusal-walk c t h g e f q =
      rw (ne_eqb (length b) 1 (omega arith), le-ltb 65535 (length b) g, ne_eqb (length b) 0 (omega arith), ← e, le-ltb (length b) (2 * c + 2) f, q)

-- ---- the walk over the records

-- where the trailer begins, and an offset, as the code computes them
pub trailer_read : (b : List ℕ) (c : ℕ) → c ≡ count b → length b - (2 * c + 2) ≡ trailer b
unfolding trailer
trailer_read b c e = rw e

pub offset_read : (b : List ℕ) (c i x : ℕ) → c ≡ count b → x ≡ two_at b (length b - (2 * c + 2) + 2 * i) → offset b i ≡ x
unfolding offset
offset_read b c i x e q = rw (← trailer_read b c e) (sym q)

-- where the record at byte o ends, as the code computes it: p is the place of its letter count, m the size of its
-- head, l the letter count
end_read : (ed : Edition) (b : List ℕ) (o p m l : ℕ) → p ≡ count_place ed → m ≡ head_size ed → l ≡ two_at b (o + p) → o + m + l ≡ end_at ed b o
end_read ed b o p m l w v y = rw (y, w, v)

pub end_read_le : (ed : Edition) (b : List ℕ) (o : ℕ) {p m l : ℕ} → p ≡ count_place ed → m ≡ head_size ed → l ≡ two_at b (o + p) → end_at ed b o ≤ length b
    → o + m + l ≤ length b
end_read_le ed b o {p} {m} {l} w v y h = rw (end_read ed b o p m l w v y) h

-- where the next record would have to begin inside the trailer, it is misplaced or the end is
misplaced-past : (ed : Edition) (b : List ℕ) (j i o : ℕ) → trailer b < o → misplaced_from ed b j i o ≡ true
unfolding misplaced_from
misplaced-past ed b zero i o l = rw (ne_eqb o (trailer b) (λ e. omega arith))
misplaced-past ed b (suc j) i o l = rw (lt-ltb (trailer b) (end_at ed b o) (omega arith)) (or-true (not (eqb (offset b i) o)))

-- so that this needs no test of its own
past_or_misplaced : (ed : Edition) (b : List ℕ) (j i o : ℕ) → (ltb (trailer b) o || misplaced_from ed b j i o) ≡ misplaced_from ed b j i o
past_or_misplaced ed b j i o = past_or_misplaced_by_cases (ltb (trailer b) o) refl
  where
    past_or_misplaced_by_cases : (u : Bool) → ltb (trailer b) o ≡ u → (u || misplaced_from ed b j i o) ≡ misplaced_from ed b j i o
    past_or_misplaced_by_cases true q = sym (misplaced-past ed b j i o (ltb-true (trailer b) o q))
    past_or_misplaced_by_cases false q = refl

-- an offset that is not o settles it; else the record may be read where its offset says
misplaced_next : (ed : Edition) (b : List ℕ) (j i o : ℕ)
    → misplaced_from ed b (suc j) i o ≡ (not (eqb (offset b i) o) || misplaced_from ed b j (suc i) (end_at ed b (offset b i)))
unfolding misplaced_from
misplaced_next ed b j i o = elim (ℕ_discrete (offset b i) o) [ yes s ↦ right s | no f ↦ rw (ne_eqb (offset b i) o f) ]
  where
    right : offset b i ≡ o
        → (not (eqb (offset b i) o) || (ltb (trailer b) (end_at ed b o) || misplaced_from ed b j (suc i) (end_at ed b o)))
        ≡ (not (eqb (offset b i) o) || misplaced_from ed b j (suc i) (end_at ed b (offset b i)))
    right s = rw (s, eq-eqb o o refl) (past_or_misplaced ed b j (suc i) (end_at ed b o))

-- record i, which has to begin at byte o, as the code meets it: x is its offset, p the place of the letter count in a
-- record, m the size of a record's head
module _ (ed : Edition) (b : List ℕ) {c : ℕ} (i o : ℕ) {x : ℕ} (e : c ≡ count b) (h : i < c) (q : x ≡ two_at b (length b - (2 * c + 2) + 2 * i)) {p m : ℕ}
    (w : p ≡ count_place ed) (v : m ≡ head_size ed) where
  misplaced-at : misplaced_from ed b (c - i) i o ≡ (not (eqb x o) || misplaced_from ed b (c - (i + 1)) (i + 1) (end_at ed b x))
  misplaced-at =
      let next : c - i ≡ suc (c - (i + 1)) = omega arith in
      rw (next, add-one i, ← offset_read b c i x e q) (misplaced_next ed b (c - suc i) i o)

  -- t says whether an offset before it was wrong
  module _ (t : Bool) where
    -- its offset leaves no room for the bytes before its letters
    pub misplaced_room : length b - (2 * c + 2) < x + m → (t || misplaced_from ed b (c - i) i o) ≡ true
    misplaced_room l =
        let z = trailer_read b c e in
        rw (misplaced-at, misplaced-past ed b (c - (i + 1)) (i + 1) (end_at ed b x) (omega arith), or-true (not (eqb x o))) (or-true t)

    -- its letter count is l
    pub misplaced_step : {l : ℕ} → l ≡ two_at b (x + p)
        → (t || misplaced_from ed b (c - i) i o) ≡ ((t || not (eqb x o)) || misplaced_from ed b (c - (i + 1)) (i + 1) (x + m + l))
    misplaced_step {l} y =
        rw (misplaced-at, end_read ed b x p m l w v y)
        (sym (or_assoc t (not (eqb x o)) (misplaced_from ed b (c - (i + 1)) (i + 1) (end_at ed b x))))

pub misplaced_start : (ed : Edition) (b : List ℕ) (c : ℕ) → c ≡ count b → misplaced ed b ≡ misplaced_from ed b (c - 0) 0 0
unfolding misplaced
misplaced_start ed b c e = let z : c - 0 ≡ count b = omega arith in rw z

pub misplaced_last : (ed : Edition) (b : List ℕ) (c i o : ℕ) → c ≡ count b → c ≤ i → misplaced_from ed b (c - i) i o ≡ not (eqb o (length b - (2 * c + 2)))
unfolding misplaced_from
misplaced_last ed b c i o e h = let z : c - i ≡ 0 = omega arith in rw (z, trailer_read b c e)

-- every record has a kind and a rank
pub two_le_count_place : (ed : Edition) → 2 ≤ count_place ed
two_le_count_place First = omega arith
two_le_count_place Second = omega arith

-- ---- accepted books

-- the size of a book with its count: 2 where there are no bytes
unfoldable pub book_size : List ℕ → ℕ
book_size b = pick (eqb (length b) 0) 2 (length b)

pub book_size_none : (b : List ℕ) → length b ≡ 0 → book_size b ≡ 2
unfolding book_size
book_size_none b h = rw h

pub book_size_some : (b : List ℕ) → (length b ≡ 0 → ⊥) → book_size b ≡ length b
unfolding book_size
book_size_some b f = rw (ne_eqb (length b) 0 f)

-- a book that checks 1 to 3 accept
pub record AcceptedBook (ed : Edition) (b : List ℕ) : Type 0 where
  pub most : book_size b ≤ 65535
  pub longer : length b ≤ book_size b
  pub sized : trailer b + 2 * count b + 2 ≡ book_size b
  pub inside : trailer b + 2 * count b ≤ length b
  pub placed : misplaced ed b ≡ false

-- it has no bytes, or at least those of its count and its offsets
pub record CountFits (b : List ℕ) : Type 0 where
  pub some : 0 < length b
  pub fits : 2 * count b + 2 ≤ length b

accepted_bytes : (ed : Edition) (b : List ℕ) → length b ≡ 0 → AcceptedBook ed b
accepted_bytes ed b z =
    let s = book_size_none b z in
    let c = count-bytes b z in
    let t = trailer-bytes b z in
    record { most = omega arith; longer = omega arith; sized = omega arith; inside = omega arith; placed = placed_bytes ed b z }

trailer-fits : (b : List ℕ) → 2 * count b + 2 ≤ length b → trailer b + 2 * count b + 2 ≡ length b
unfolding trailer
trailer-fits b h = omega arith

module _ (ed : Edition) (b : List ℕ) (e : book_refusal ed b ≡ 0) where
  sizes : (wrong_size b ≡ false) × (wrong_count b ≡ false) × (misplaced ed b ≡ false)
  unfolding book_refusal
  sizes =
      let a = then_zero (check 1 (wrong_size b)) (check 2 (wrong_count b) then check 3 (misplaced ed b)) e in
      let c = then_zero (check 2 (wrong_count b)) (check 3 (misplaced ed b)) a.1 in
      (check_zero 1 (wrong_size b) refl a.0, check_zero 2 (wrong_count b) refl c.0, check_zero 3 (misplaced ed b) refl c.1)

  pub counted_some : (length b ≡ 0 → ⊥) → CountFits b
  unfolding wrong_count
  counted_some f = record {
    some = above_zero (length b) f;
    fits = ltb-false (length b) (2 * count b + 2) (rw (ne_eqb (length b) 0 f) at sizes.1);
  }

  pub accepted : AcceptedBook ed b
  unfolding wrong_size
  accepted = elim (ℕ_discrete (length b) 0) [
    | yes z ↦ accepted_bytes ed b z
    | no f ↦
        let s = book_size_some b f in
        let c = counted_some f in
        let t = trailer-fits b c.fits in
        let m = ltb-false 65535 (length b) (or_false_right (eqb (length b) 1) (ltb 65535 (length b)) sizes.0) in
        record { most = omega arith; longer = omega arith; sized = omega arith; inside = omega arith; placed = sizes.2 }
  ]

  -- no accepted book has one byte
  pub never_one : length b ≡ 1 → ⊥
  unfolding wrong_size
  never_one h = let z : true ≡ false = rw (eq-eqb (length b) 1 h) at sizes.0 in true≢false z

-- a book with a preset has bytes
pub counted : (ed : Edition) (b : List ℕ) (i : ℕ) → book_refusal ed b ≡ 0 → i < count b → CountFits b
counted ed b i e h = counted_some ed b e (λ z. let c = count-bytes b z in omega arith)

-- the same, from what the code has of it
pub accepted_read : {ed : Edition} {b : List ℕ} {r : ℕ} → r ≡ book_refusal ed b → r ≡ 0 → AcceptedBook ed b
accepted_read {ed} {b} e z = accepted ed b (sym e ∙ z)

-- what check 3 says of the first of the records that are left
pub record Leading (ed : Edition) (b : List ℕ) (t i o : ℕ) : Type 0 where
  pub begins : offset b i ≡ o
  pub ends : end_at ed b o ≤ trailer b
  pub others : misplaced_from ed b t (suc i) (end_at ed b o) ≡ false

pub first : (ed : Edition) (b : List ℕ) (t i o : ℕ) → misplaced_from ed b (suc t) i o ≡ false → Leading ed b t i o
unfolding misplaced_from
first ed b t i o e =
    let begun = not (eqb (offset b i) o) in
    let over = ltb (trailer b) (end_at ed b o) in
    let more = misplaced_from ed b t (suc i) (end_at ed b o) in
    let r : (over || more) ≡ false = or_false_right begun (over || more) e in
    record {
      begins = eqb-true (offset b i) o (not-false (eqb (offset b i) o) (or_false_left begun (over || more) e));
      ends = ltb-false (trailer b) (end_at ed b o) (or_false_left over more r);
      others = or_false_right over more r;
    }

record_inside : (ed : Edition) (b : List ℕ) (t i o j : ℕ) → misplaced_from ed b t i o ≡ false → j < t → end_at ed b (offset b (i + j)) ≤ trailer b
record_inside ed b zero i o j e h = absurd (omega arith)
record_inside ed b (suc t) i o zero e h = let f = first ed b t i o e in rw (add-zero i, f.begins) f.ends
record_inside ed b (suc t) i o (suc j) e h =
    let f = first ed b t i o e in
    rw (add-suc i j, ← suc-add i j) (record_inside ed b t (suc i) (end_at ed b o) j f.others (omega arith))

-- each record ends before the trailer
pub trailer_le : (b : List ℕ) → trailer b ≤ length b
unfolding trailer
trailer_le b = omega arith

pub end_at-offset_le : (ed : Edition) (b : List ℕ) (i : ℕ) → AcceptedBook ed b → i < count b → end_at ed b (offset b i) ≤ trailer b
unfolding misplaced
end_at-offset_le ed b i a h = rw zero-add at (record_inside ed b (count b) 0 0 i a.placed h)

-- the same as code meets it: o is the offset
pub end_at_read_le : (ed : Edition) (b : List ℕ) (i o : ℕ) → AcceptedBook ed b → i < count b → o ≡ offset b i → end_at ed b o ≤ length b
end_at_read_le ed b i o a h q = rw q (le_trans (end_at-offset_le ed b i a h) (trailer_le b))
