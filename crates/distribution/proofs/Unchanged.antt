-- A refused delay table changes no entry of its three outputs, and an accepted one changes each only as far as the
-- length that it answers.
-- Assumes nothing.
use mathlib.Core.Path.{◌≡◌}
use mathlib.Core.List.{List}
use Prim.Native.Nat.{ℕ}
use lib.IntN.{ℤ}
use lib.ListN.{length, drop}
use Rattle.coxeter.specs.Kinds.{kind_of}
use Rattle.coxeter.specs.Checks.{◌then◌}
use Rattle.coxeter.specs.NormalForm.{normal_form}
use Rattle.coxeter.proofs.Unchanged.{kept_whole, kept_past}
use Rattle.distribution.specs.answers.Table.{Written, Refused}
use Rattle.distribution.specs.Distribution.{distribution}
use Rattle.distribution.specs.Longest.{longest}
use Rattle.distribution.specs.Calls.{table_refusal, room_refusal, tables, delay_table}
use Rattle.distribution.proofs.Firsts.{table_of_exactly}

module _ (k n : ℕ) (counts : List ℕ) (entries : List ℤ) (letters : List ℕ) where
  pub delay_table-unchanged : (r : ℕ) → (delay_table k n counts entries letters).answer ≡ Refused r
      → ((delay_table k n counts entries letters).counts ≡ counts)
      × ((delay_table k n counts entries letters).entries ≡ entries)
      × ((delay_table k n counts entries letters).letters ≡ letters)
  unfolding delay_table tables
  delay_table-unchanged r h =
      let d = distribution (kind_of k) n in
      let w = longest (kind_of k) n in
      let u = normal_form (kind_of k) n w in
      let s = table_refusal k n then room_refusal d w u counts entries letters in
      let e = ((table_of_exactly s (length d) (length w) (length u)).0 r).0 h in
      (kept_whole s d counts e, kept_whole s w entries e, kept_whole s u letters e)

  -- CO7, I2: the rest of each keeps what it held
  pub delay_table-past : (a b c : ℕ) → (delay_table k n counts entries letters).answer ≡ Written a b c
      → (drop a (delay_table k n counts entries letters).counts ≡ drop a counts)
      × (drop b (delay_table k n counts entries letters).entries ≡ drop b entries)
      × (drop c (delay_table k n counts entries letters).letters ≡ drop c letters)
  unfolding delay_table tables
  delay_table-past a b c h =
      let d = distribution (kind_of k) n in
      let w = longest (kind_of k) n in
      let u = normal_form (kind_of k) n w in
      let s = table_refusal k n then room_refusal d w u counts entries letters in
      let e = ((table_of_exactly s (length d) (length w) (length u)).1 a b c).0 h in
      (kept_past s d counts (λ z. e.1), kept_past s w entries (λ z. e.2), kept_past s u letters (λ z. e.3))
