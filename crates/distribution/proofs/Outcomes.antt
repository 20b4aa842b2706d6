-- What the delay table's definition says in each case, in the checking order, as code meets it.
-- Sections: kinds and ranks; one case after another.
-- Assumes nothing.
use mathlib.Core.Path.{◌≡◌, refl, sym, ap, ◌∙◌}
use mathlib.Core.List.{List}
use Prim.Native.Nat.{ℕ, ◌+◌, ◌≤◌, ◌<◌}
use borrow.Author.Tests.{eq-eqb, ne_eqb, lt-ltb, le-ltb, ltb-false}
use lib.Dec.{ltb}
use lib.IntN.{ℤ}
use lib.ListN.{length}
use Rattle.coxeter.specs.Kinds.{kind_of, lanes, least}
use Rattle.coxeter.specs.Length.{greatest_length}
use Rattle.coxeter.specs.Checks.{check, ◌then◌, too_short, rank_refusal, RankOf}
use Rattle.coxeter.specs.NormalForm.{normal_form}
use Rattle.coxeter.specs.Calls.{front, written}
use Rattle.coxeter.proofs.KindLaws.{one_le}
use Rattle.coxeter.proofs.Refusals.{then_zero, check_zero}
use Rattle.coxeter.proofs.Acceptance.{rank_within, rank_accepted}
use Rattle.distribution.specs.answers.Table.{Written, Refused}
use Rattle.distribution.specs.Distribution.{distribution}
use Rattle.distribution.specs.Longest.{longest}
use Rattle.distribution.specs.Calls.{greatest_tabled, untabled, table_refusal, TableYields, table_of, room_refusal, tables, delay_table}
use Rattle.distribution.proofs.Tables.{length-distribution, length-longest, length-longest_form}

-- ---- kinds and ranks

rank_small : (k n : ℕ) → RankOf k n → (1 ≤ n) × (n ≤ 64)
rank_small k n h = let r = rank_accepted k n h in (one_le (kind_of k) n r.0, r.1)

module _ (k n : ℕ) (h : table_refusal k n ≡ 0) where
  passed : RankOf k n × (check 20 (untabled (kind_of k) n) ≡ 0)
  unfolding table_refusal
  passed = then_zero (rank_refusal k n) (check 20 (untabled (kind_of k) n)) h

  pub table_accepted : RankOf k n
  table_accepted = passed.0

  pub table_rank : (least (kind_of k) ≤ n) × (n ≤ greatest_tabled (kind_of k))
  unfolding untabled
  table_rank = (
    (rank_within k n table_accepted).0,
    ltb-false (greatest_tabled (kind_of k)) n (check_zero 20 (ltb (greatest_tabled (kind_of k)) n) refl passed.1),
  )

  pub table_rank_small : (1 ≤ n) × (n ≤ 64)
  table_rank_small = rank_small k n table_accepted

-- ---- one case after another

-- r is the refusal that was computed before check 14
module _ (k n : ℕ) (counts : List ℕ) (entries : List ℤ) (letters : List ℕ) {r : ℕ} (e : r ≡ table_refusal k n) where
  -- refused with s, all three as they were
  abbrev Unchanged : ℕ → Type 0
  Unchanged s = TableYields (delay_table k n counts entries letters) (Refused s) counts entries letters

  pub table-refused : (r ≡ 0 → ⊥) → Unchanged r
  unfolding delay_table tables table_of written
  table-refused f = rw (← e, ne_eqb r 0 f) (rw (ne_eqb r 0 f) (refl, refl, refl, refl))

  -- l is the greatest length
  module _ {l : ℕ} (z : r ≡ 0) (g : l ≡ greatest_length (kind_of k) n) where
    small : least (kind_of k) ≤ n
    small = (table_rank k n (sym e ∙ z)).0

    counts_length : length (distribution (kind_of k) n) ≡ l + 1
    counts_length = length-distribution (kind_of k) n ∙ ap (λ (x : ℕ). x + 1) (sym g)

    form_length : length (normal_form (kind_of k) n (longest (kind_of k) n)) ≡ l
    form_length = length-longest_form (kind_of k) n small ∙ sym g

    pub counts_short : length counts < l + 1 → Unchanged 14
    unfolding delay_table tables table_of room_refusal written too_short
    counts_short h = rw (← e, eq-eqb r 0 z, counts_length, lt-ltb (length counts) (l + 1) h) (refl, refl, refl, refl)

    -- m is the number of lanes
    module _ {m : ℕ} (q : m ≡ lanes (kind_of k) n) (c : l + 1 ≤ length counts) where
      entries-length : length (longest (kind_of k) n) ≡ m
      entries-length = length-longest (kind_of k) n small ∙ sym q

      pub entries-short : length entries < m → Unchanged 14
      unfolding delay_table tables table_of room_refusal written too_short
      entries-short h =
          rw (← e, eq-eqb r 0 z, counts_length, le-ltb (length counts) (l + 1) c, entries-length, lt-ltb (length entries) m h) (refl, refl, refl, refl)

      -- only the room for the letters is left
      room : m ≤ length entries
          → (table_refusal k n
          then room_refusal (distribution (kind_of k) n) (longest (kind_of k) n) (normal_form (kind_of k) n (longest (kind_of k) n)) counts entries letters)
          ≡ check 14 (ltb (length letters) l)
      unfolding room_refusal too_short
      room s =
          rw (← e, eq-eqb r 0 z, counts_length, le-ltb (length counts) (l + 1) c, entries-length, le-ltb (length entries) m s, form_length)

      pub letters-short : m ≤ length entries → length letters < l → Unchanged 14
      unfolding delay_table tables table_of written
      letters-short s h = rw (room s, lt-ltb (length letters) l h) (refl, refl, refl, refl)

      pub table-written : {x : List ℕ} {y : List ℤ} {v : List ℕ} → m ≤ length entries → l ≤ length letters
          → x ≡ front (distribution (kind_of k) n) counts → y ≡ front (longest (kind_of k) n) entries
          → v ≡ front (normal_form (kind_of k) n (longest (kind_of k) n)) letters
          → TableYields (delay_table k n counts entries letters) (Written (l + 1) m l) x y v
      unfolding delay_table tables table_of written
      table-written s h i j o = rw (room s, le-ltb (length letters) l h, counts_length, entries-length, form_length) (refl, i, j, o)
