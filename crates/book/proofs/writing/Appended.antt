-- The appended book as the code writes it: its runs of stores, one after the other.
-- Assumes nothing.
use mathlib.Core.Path.{◌≡◌, ap, ◌∙◌}
use mathlib.Core.List.{List, ◌++◌, append_assoc}
use Prim.Native.Nat.{ℕ, ◌+◌, ◌-◌, ◌*◌, ◌≤◌}
use native.Mathlib.Omega.{arith}
use lib.ListN.{length, take, drop, length-append, length-drop}
use lib.Seq.{sets, length-take-le}
use Rattle.coxeter.specs.Kinds.{kind_of, lanes}
use Rattle.book_format.specs.declared.Edition.{Edition}
use Rattle.book_format.specs.Books.{two, head_size, book_refusal, record_of, appended, count, trailer}
use Rattle.coxeter.proofs.Lists.{sets_next}
use Rattle.book_format.proofs.BookLaws.{accepted}
use Rattle.book_format.proofs.WritingLaws.{length-record_of, length_two}

-- the records of b, which end at t, and the new one
pub records-written : (b out : List ℕ) (t : ℕ) (r : List ℕ) {o₁ o₂ : List ℕ} → t ≤ length b → o₁ ≡ sets out 0 (take t b) → o₂ ≡ sets o₁ t r
    → o₂ ≡ sets out 0 (take t b ++ r)
records-written b out t r h e₁ e₂ =
    let l = length-take-le t b h in
    e₂ ∙ rw e₁ (sets_next out 0 t (take t b) r (omega arith))

-- the c offsets of b, which begin at t, the new one and the count
pub trailer-written : (b out : List ℕ) (t c p : ℕ) {o₁ o₂ o₃ : List ℕ} → t + 2 * c ≤ length b → o₁ ≡ sets out p (take (t + 2 * c - t) (drop t b))
    → o₂ ≡ sets o₁ (p + 2 * c) (two t) → o₃ ≡ sets o₂ (p + 2 * c + 2) (two (c + 1))
    → o₃ ≡ sets out p (take (2 * c) (drop t b) ++ (two t ++ two (c + 1)))
trailer-written b out t c p h e₁ e₂ e₃ =
    let offsets = take (2 * c) (drop t b) in
    let part : t + 2 * c - t ≡ 2 * c = omega arith in
    let l : length offsets ≡ 2 * c = length-take-le (2 * c) (drop t b) (rw length-drop (omega arith)) in
    let m : length (offsets ++ two t) ≡ 2 * c + 2 = simp (length-append, l, length_two) in
    e₃
    ∙ rw (
      e₂,
      e₁,
      part,
      sets_next out p (p + 2 * c) offsets (two t) (omega arith),
      sets_next out p (p + 2 * c + 2) (offsets ++ two t) (two (c + 1)) (omega arith),
    )
    (ap (sets out p) (append_assoc offsets (two t) (two (c + 1))))

-- what the code reads of an accepted book and of a preset: c is the count, t where the trailer begins, m the size of
-- a record's head, a the lane count
pub record AppendSizes (ed : Edition) (b : List ℕ) (k n c t m a : ℕ) : Type 0 where
  pub opens : book_refusal ed b ≡ 0
  pub counted : c ≡ count b
  pub cut : t ≡ trailer b
  pub head : m ≡ head_size ed
  pub lane_count : a ≡ lanes (kind_of k) n

-- the records and then the trailer, which begins at t
pub appended-written : {ed : Edition} {b : List ℕ} {k n c t m a : ℕ} → AppendSizes ed b k n c t m a → (out u : List ℕ) (o₁ : List ℕ) {o₂ : List ℕ}
    → o₁ ≡ sets out 0 (take t b ++ record_of ed k n a u) → o₂ ≡ sets o₁ (t + m + length u) (take (2 * c) (drop t b) ++ (two t ++ two (c + 1)))
    → o₂ ≡ sets out 0 (appended ed b k n u)
unfolding appended
appended-written {ed} {b} {k} {n} {c} {t} {m} read out u o₁ e₁ e₂ =
    let q = read.counted in
    let e = read.cut in
    let w = read.head in
    let v = read.lane_count in
    let fits = accepted ed b read.opens in
    let trailing = take (2 * c) (drop t b) ++ (two t ++ two (c + 1)) in
    let new = record_of ed k n (lanes (kind_of k) n) u in
    let l : length (take t b ++ new) ≡ t + (head_size ed + length u) = simp (length-append, length-take-le t b (omega arith), length-record_of) in
    e₂
    ∙ rw (e₁, v, sets_next out 0 (t + m + length u) (take t b ++ new) trailing (omega arith), append_assoc, e, q)
