-- A delay table as a call for C makes it: its three lengths go to a list, which has room for them or not.
--
-- Sections: the lengths; lengths without room.
-- Assumes nothing.
use mathlib.Core.Path.{◌≡◌, refl, sym, ap}
use mathlib.Core.List.{List, [], ◌∷◌}
use Prim.Native.Nat.{ℕ, ◌≤◌, ◌<◌}
use native.Mathlib.Omega.{arith}
use lib.IntN.{ℤ, pos}
use lib.ListN.{length, drop}
use Rattle.coxeter.specs.Kinds.{kind_of}
use Rattle.coxeter.specs.NormalForm.{normal_form}
use Rattle.coxeter.specs.Checks.{check, ◌then◌, too_short}
use Rattle.distribution.specs.answers.Table.{Written, Refused}
use Rattle.distribution.specs.Distribution.{distribution}
use Rattle.distribution.specs.Longest.{longest}
use Rattle.distribution.specs.Calls.{Tabled, table_refusal, table_of, room_refusal, tables, delay_table, TableYields}
use Rattle.distribution.proofs.Unchanged.{delay_table-unchanged}
use Rattle.c_api.specs.Calls.{refused, table_numbers, listed_beside, delay_table_listed}
use Rattle.c_api.proofs.Bytes.{Refusable, delay_table_refusable}
use Rattle.c_api.proofs.Lists.{table-numbers, IsRefusal, roomless, roomless_answer, beside_stored, beside_alone, beside_roomless, room_last, room_more}

pub delay_table_listed_refusable : (counts : List ℕ) (entries : List ℤ) (letters lengths : List ℕ)
    → Refusable (λ k n. delay_table_listed k n counts entries letters lengths)
unfolding delay_table_listed
delay_table_listed_refusable counts entries letters lengths = record {
  refused_same = λ k n l m e f.
      ap (λ (t : Tabled). listed_beside (table_numbers t.answer) (t.counts, t.entries, t.letters) (counts, entries, letters) lengths)
      ((delay_table_refusable counts entries letters).refused_same k n l m e f);
}

-- ---- the lengths

module _ (k n : ℕ) (counts : List ℕ) (entries : List ℤ) (letters lengths : List ℕ) {d : List ℕ} {w : List ℤ} {u : List ℕ} where
  pub delay_table_listed_stored : {i j l : ℕ} → TableYields (delay_table k n counts entries letters) (Written i j l) d w u → 3 ≤ length lengths
      → (pos l, ((d, w, u), i ∷ j ∷ l ∷ drop 3 lengths)) ≡ delay_table_listed k n counts entries letters lengths
  unfolding delay_table_listed table_numbers
  delay_table_listed_stored {i} {j} {l} y h =
      rw (← y.0, ← y.1, ← y.2, ← y.3) (beside_stored (pos l) (i ∷ j ∷ l ∷ []) lengths (d, w, u) (counts, entries, letters) h)

  pub delay_table_listed-refused : {r : ℕ} {z : ℤ} → TableYields (delay_table k n counts entries letters) (Refused r) d w u → z ≡ refused r
      → (z, ((d, w, u), lengths)) ≡ delay_table_listed k n counts entries letters lengths
  unfolding delay_table_listed table_numbers
  delay_table_listed-refused {z = z} y e = rw (← y.0, ← y.1, ← y.2, ← y.3, ← e) (beside_alone z (d, w, u) (counts, entries, letters) lengths)

-- a refused table writes nothing
pub delay_table_still : (k n : ℕ) (counts : List ℕ) (entries : List ℤ) (letters : List ℕ) → let t = delay_table k n counts entries letters in
    IsRefusal Refused t.answer → ◌≡◌ {A = List ℕ × List ℤ × List ℕ} (t.counts, t.entries, t.letters) (counts, entries, letters)
delay_table_still k n counts entries letters h = let q = delay_table-unchanged k n counts entries letters h.0 h.1 in rw (q.0, q.1, q.2)

-- ---- lengths without room

-- the number does not depend on the outputs
roomless-table : (k n : ℕ) (counts : List ℕ) (entries : List ℤ) (letters : List ℕ)
    → roomless (table_numbers (delay_table k n counts entries letters).answer) ≡ refused (table_refusal k n then 14)
unfolding delay_table tables table_of room_refusal table_numbers roomless
roomless-table k n counts entries letters =
    let d = length (distribution (kind_of k) n) in
    let w = length (longest (kind_of k) n) in
    let u = length (normal_form (kind_of k) n (longest (kind_of k) n)) in
    let s = too_short w entries in
    let t = too_short u letters in
    roomless_answer table_numbers (Written d w u) Refused (table_refusal k n) (check 14 (too_short d counts) then check 14 s then check 14 t) refl (λ r. refl)
    (room_more (too_short d counts) (check 14 s then check 14 t) (room_more s (check 14 t) (room_last t)))

pub delay_table_listed-roomless : (k n : ℕ) (counts : List ℕ) (entries : List ℤ) (letters lengths : List ℕ) {r : ℕ} {z : ℤ} → length lengths < 3
    → r ≡ table_refusal k n → z ≡ refused (r then 14) → (z, ((counts, entries, letters), lengths)) ≡ delay_table_listed k n counts entries letters lengths
unfolding delay_table_listed
delay_table_listed-roomless k n counts entries letters lengths h e f =
    let t = delay_table k n counts entries letters in
    rw (f, e, ← roomless-table k n counts entries letters)
    (sym (beside_roomless (table-numbers t.answer) (t.counts, t.entries, t.letters) (counts, entries, letters) lengths (omega arith) h
    (delay_table_still k n counts entries letters)))
