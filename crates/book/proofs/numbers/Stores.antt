-- Numbers and records stored, as the code that writes a book makes them.
-- Assumes nothing.
use mathlib.Core.Path.{◌≡◌, ◌∙◌}
use mathlib.Core.List.{List}
use Prim.Native.Nat.{ℕ, ◌+◌, ◌/◌, ◌%◌}
use native.Mathlib.Numerals.{add-one, add-two, add-three}
use native.Mathlib.Omega.{arith}
use lib.ListN.{length, set}
use lib.Seq.{sets}
use Rattle.book_format.specs.declared.Edition.{Edition}
use Rattle.book_format.specs.declared.Edition.TheVariants.{First, Second}
use Rattle.book_format.specs.Books.{two, lane_byte, record_of, count_place, head_size}

pub sets-two : (l : List ℕ) (p x : ℕ) → set (set l p (x % 256)) (p + 1) (x / 256 % 256) ≡ sets l p (two x)
unfolding two
sets-two l p x = rw (add-one p)

-- a record, with the lane count m: kind and rank, the lane count where there is one, the letter count at its place,
-- and the letters
sets_record : (ed : Edition) (l : List ℕ) (p k n m : ℕ) (u : List ℕ)
    → sets (sets (sets (set (set l p k) (p + 1) n) (p + 2) (lane_byte ed m)) (p + count_place ed) (two (length u))) (p + count_place ed + 2) u
    ≡ sets l p (record_of ed k n m u)
unfolding record_of two
sets_record First l p k n m u = simp (add-one, add-two)
sets_record Second l p k n m u = simp (add-one, add-two, add-three)

-- the same step by step: the place c of the letter count and the place h of the letters are read, and each store
-- gives the next list
pub record RecordStores (ed : Edition) (l : List ℕ) (p k n m : ℕ) (u : List ℕ) (c h : ℕ) (o₁ o₂ o₃ : List ℕ) : Type 0 where
  pub count-place : c ≡ count_place ed
  pub head-size : h ≡ head_size ed
  pub lane_stored : o₁ ≡ sets (set (set l p k) (p + 1) n) (p + 2) (lane_byte ed m)
  pub count_stored : o₂ ≡ sets o₁ (p + c) (two (length u))
  pub letters_stored : o₃ ≡ sets o₂ (p + h) u

pub record_stored : {ed : Edition} {l : List ℕ} {p k n m : ℕ} {u : List ℕ} {c h : ℕ} {o₁ o₂ o₃ : List ℕ} → RecordStores ed l p k n m u c h o₁ o₂ o₃
    → o₃ ≡ sets l p (record_of ed k n m u)
record_stored {ed} {l} {p} {k} {n} {m} {u} {h = h} a =
    let s : p + h ≡ p + count_place ed + 2 = omega (arith, a.head-size) in
    a.letters_stored ∙ rw (s, a.count_stored, a.lane_stored, a.count-place) (sets_record ed l p k n m u)
