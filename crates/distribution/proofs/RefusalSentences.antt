-- The refusals of the call for a delay table in plain terms (I24, C14 and C20 of the specification), when it answers
-- lengths, and room that always suffices (M2).
-- Assumes nothing.
use mathlib.Core.Path.{◌≡◌, refl, sym, ◌∙◌}
use mathlib.Core.Bool.{Bool, true, false, true≢false}
use mathlib.Core.Logic.{◌⊎◌, inl, inr, ⊎_elim, ◌↔◌}
use mathlib.Core.List.{List}
use Prim.Native.Nat.{ℕ, suc, ◌+◌, ◌-◌, ◌≤◌, ◌<◌}
use native.Mathlib.Nat.{mul-le-mul}
use native.Mathlib.Omega.{arith}
use borrow.Author.Tests.{ne_eqb, ltb-true, ltb-false, lt-ltb, le-ltb}
use lib.IntN.{ℤ}
use lib.ListN.{length}
use Rattle.coxeter.specs.declared.Kind.{Kind}
use Rattle.coxeter.specs.declared.Kind.TheVariants.{A, B, D}
use Rattle.coxeter.specs.Kinds.{kind_of, lanes}
use Rattle.coxeter.specs.Length.{greatest_length}
use Rattle.coxeter.specs.Checks.{check, ◌then◌, too_short, rank_refusal, RankOf}
use Rattle.coxeter.specs.NormalForm.{normal_form}
use Rattle.coxeter.proofs.Refusals.{then_zero, then_none, then_some, then_assoc, check_zero, rank_refusal_le, then_exactly, then_avoids}
use Rattle.coxeter.proofs.Refusals.{check_avoids, check-number, check_exactly}
use Rattle.coxeter.proofs.KindLaws.{A≢B, A≢D}
use Rattle.distribution.specs.answers.Table.{Table}
use Rattle.distribution.specs.answers.Table.{Written, Refused}
use Rattle.distribution.specs.Distribution.{distribution}
use Rattle.distribution.specs.Longest.{longest}
use Rattle.distribution.specs.Calls.{greatest_tabled, untabled, table_refusal, TableYields, table_of, room_refusal, tables, delay_table}
use Rattle.distribution.proofs.Longest.{longest_is}
use Rattle.distribution.proofs.Tables.{length-distribution, length-longest}
use Rattle.distribution.proofs.Outcomes.{table_rank}
use Rattle.distribution.proofs.Firsts.{table_of_exactly}
use Rattle.distribution.proofs.Unchanged.{delay_table-unchanged}

-- ---- refusals

false_true : {X : Type 0} → false ≡ true → X
false_true e = absurd (true≢false (sym e))

room_exactly : (s t r : Bool) → ((check 14 s then check 14 t then check 14 r) ≡ 14) ↔ ((s ≡ true) ⊎ ((t ≡ true) ⊎ (r ≡ true)))
room_exactly true t r = (λ e. inl refl, λ e. refl)
room_exactly false true r = (λ e. inr (inl refl), λ e. refl)
room_exactly false false r = (λ e. inr (inr ((check-number 13 r).0 e)), ⊎_elim false_true (⊎_elim false_true (check-number 13 r).1))

room_avoids : (s t r : Bool) → (check 14 s then check 14 t then check 14 r) ≡ 20 → ⊥
room_avoids s t r =
    then_avoids (check 14 s) _ 19 (check_avoids 14 19 s (λ z. omega arith))
    (then_avoids (check 14 t) (check 14 r) 19 (check_avoids 14 19 t (λ z. omega arith)) (check_avoids 14 19 r (λ z. omega arith)))

-- C20: a rank has no table exactly when it is above 19 in kind A or above 16 in kind B or D
pub untabled_exactly : (k : Kind) (n : ℕ) → (untabled k n ≡ true) ↔ (((k ≡ A) × (19 < n)) ⊎ (((k ≡ B) ⊎ (k ≡ D)) × (16 < n)))
unfolding untabled
untabled_exactly A n = (
  λ e. inl (refl, ltb-true 19 n e),
  ⊎_elim (λ p. lt-ltb 19 n p.1) (λ p. absurd (⊎_elim A≢B A≢D p.0)),
)
untabled_exactly B n = (
  λ e. inr (inl refl, ltb-true 16 n e),
  ⊎_elim (λ p. absurd (A≢B (sym p.0))) (λ p. lt-ltb 16 n p.1),
)
untabled_exactly D n = (
  λ e. inr (inr refl, ltb-true 16 n e),
  ⊎_elim (λ p. absurd (A≢D (sym p.0))) (λ p. lt-ltb 16 n p.1),
)

-- M2: the greatest length and the lanes of the ranks that have a table
tabled_small : (k : Kind) (n : ℕ) → n ≤ greatest_tabled k → (greatest_length k n ≤ 256) × (lanes k n ≤ 20)
tabled_small A n h = (omega (arith, mul-le-mul {n₁ = n} {m₁ = n + 1} {n₂ = 19} {m₂ = 20} h (omega arith)), omega arith)
tabled_small B n h = (mul-le-mul {n₁ = n} {m₁ = n} {n₂ = 16} {m₂ = 16} h h, omega arith)
tabled_small D n h = (mul-le-mul {n₁ = n} {m₁ = n - 1} {n₂ = 16} {m₂ = 16} h (omega arith), omega arith)

module _ (k n : ℕ) (counts : List ℕ) (entries : List ℤ) (letters : List ℕ) (a : Table) (x : List ℕ) (y : List ℤ) (z : List ℕ)
    (h : TableYields (delay_table k n counts entries letters) a x y z) where
  abbrev short_counts : Bool
  short_counts = too_short (length (distribution (kind_of k) n)) counts

  abbrev short-entries : Bool
  short-entries = too_short (length (longest (kind_of k) n)) entries

  abbrev short-letters : Bool
  short-letters = too_short (length (normal_form (kind_of k) n (longest (kind_of k) n))) letters

  abbrev room : ℕ
  room = check 14 short_counts then check 14 short-entries then check 14 short-letters

  refused_exactly : (m : ℕ) → (a ≡ Refused (suc m)) ↔ ((table_refusal k n then room) ≡ suc m)
  unfolding delay_table tables room_refusal
  refused_exactly m =
      let e = (table_of_exactly (table_refusal k n then room) _ _ _).0 (suc m) in
      (λ q. (e.0 (sym h.0 ∙ q)).0, λ q. h.0 ∙ e.1 (q, λ o. omega arith))

  -- C20: after 6
  pub table_20_exactly : (a ≡ Refused 20)
      ↔ (RankOf k n × (((kind_of k ≡ A) × (19 < n)) ⊎ (((kind_of k ≡ B) ⊎ (kind_of k ≡ D)) × (16 < n))))
  unfolding table_refusal
  table_20_exactly =
      let e = refused_exactly 19 in
      let r = then_assoc (rank_refusal k n) (check 20 (untabled (kind_of k) n)) room in
      let c = check_exactly (rank_refusal k n) 19 (untabled (kind_of k) n) room (λ q. omega (arith, rank_refusal_le k n))
      (room_avoids short_counts short-entries short-letters) in
      let t = untabled_exactly (kind_of k) n in (
        λ q. let p = c.0 (sym r ∙ e.0 q) in (p.0, t.0 p.1),
        λ p. e.1 (r ∙ c.1 (p.0, t.1 p.1)),
      )

  table_avoids : table_refusal k n ≡ 14 → ⊥
  unfolding table_refusal
  table_avoids =
      then_avoids (rank_refusal k n) (check 20 (untabled (kind_of k) n)) 13 (λ q. omega (arith, rank_refusal_le k n))
      (check_avoids 20 13 (untabled (kind_of k) n) (λ q. omega arith))

  accepted : table_refusal k n ≡ 0 → RankOf k n
  unfolding table_refusal
  accepted q = (then_zero (rank_refusal k n) _ q).0

  passes : RankOf k n → n ≤ greatest_tabled (kind_of k) → table_refusal k n ≡ 0
  unfolding table_refusal untabled
  passes q g = then_none (rank_refusal k n) _ q ∙ rw (le-ltb (greatest_tabled (kind_of k)) n g)

  rooms : table_refusal k n ≡ 0 → ((short_counts ≡ true) ⊎ ((short-entries ≡ true) ⊎ (short-letters ≡ true)))
      ↔ ((length counts < greatest_length (kind_of k) n + 1) ⊎ ((length entries < lanes (kind_of k) n) ⊎ (length letters < greatest_length (kind_of k) n)))
  unfolding too_short
  rooms q =
      let low = (table_rank k n q).0 in
      rw (length-distribution (kind_of k) n, length-longest (kind_of k) n low, (longest_is (kind_of k) n low).form) (
        ⊎_elim (λ b. inl (ltb-true _ _ b)) (⊎_elim (λ b. inr (inl (ltb-true _ _ b))) (λ b. inr (inr (ltb-true _ _ b)))),
        ⊎_elim (λ b. inl (lt-ltb _ _ b)) (⊎_elim (λ b. inr (inl (lt-ltb _ _ b))) (λ b. inr (inr (lt-ltb _ _ b)))),
      )

  -- C14, CO9: 14 exactly when those pass and one of the outputs is too short
  pub table_14_exactly : (a ≡ Refused 14)
      ↔ (RankOf k n × (n ≤ greatest_tabled (kind_of k)) × ((length counts < greatest_length (kind_of k) n + 1)
      ⊎ ((length entries < lanes (kind_of k) n) ⊎ (length letters < greatest_length (kind_of k) n))))
  table_14_exactly =
      let e = refused_exactly 13 in
      let t = then_exactly (table_refusal k n) room 13 in
      let o = room_exactly short_counts short-entries short-letters in (
        λ q.
            let p = ⊎_elim (λ b. absurd (table_avoids b)) (λ b. b) (t.0 (e.0 q)) in
            let r = table_rank k n p.0 in
            (accepted p.0, r.1, (rooms p.0).0 (o.0 p.1)),
        λ p.
            let r = passes p.0 p.1 in
            e.1 (t.1 (inr (r, o.1 ((rooms r).1 p.2)))),
      )

  -- M2, C14: 257 numbers, 20 entries and 256 letters are room for every delay table
  pub table_room : 257 ≤ length counts → 20 ≤ length entries → 256 ≤ length letters → a ≡ Refused 14 → ⊥
  table_room c e l q =
      let p = table_14_exactly.0 q in
      let s = tabled_small (kind_of k) n p.1 in
      ⊎_elim (λ o. omega (arith, c, o, s.0)) (⊎_elim (λ o. omega (arith, e, o, s.1)) (λ o. omega (arith, l, o, s.0))) p.2

  -- I24: lengths are answered exactly when checks 5, 6 and 20 accept and the three outputs have room
  pub table_exactly : ((c e l : ℕ) × (a ≡ Written c e l))
      ↔ (RankOf k n × (n ≤ greatest_tabled (kind_of k)) × (greatest_length (kind_of k) n + 1 ≤ length counts)
      × (lanes (kind_of k) n ≤ length entries) × (greatest_length (kind_of k) n ≤ length letters))
  unfolding delay_table tables room_refusal too_short
  table_exactly =
      let d = length (distribution (kind_of k) n) in
      let w = length (longest (kind_of k) n) in
      let u = length (normal_form (kind_of k) n (longest (kind_of k) n)) in
      let sizes : (q : table_refusal k n ≡ 0) → (d ≡ greatest_length (kind_of k) n + 1) × (w ≡ lanes (kind_of k) n) × (u ≡ greatest_length (kind_of k) n) =
      λ q. let low = (table_rank k n q).0 in
      (length-distribution (kind_of k) n, length-longest (kind_of k) n low, (longest_is (kind_of k) n low).form) in (
        λ p.
            let q = then_zero (table_refusal k n) room (((table_of_exactly (table_refusal k n then room) d w u).1 p.0 p.1 p.2).0 (sym h.0 ∙ p.3)).0 in
            let one = then_zero (check 14 short_counts) (check 14 short-entries then check 14 short-letters) q.1 in
            let two = then_zero (check 14 short-entries) (check 14 short-letters) one.1 in
            let s = sizes q.0 in (
              accepted q.0,
              (table_rank k n q.0).1,
              omega (arith, s.0, ltb-false (length counts) d (check_zero 14 short_counts refl one.0)),
              omega (arith, s.1, ltb-false (length entries) w (check_zero 14 short-entries refl two.0)),
              omega (arith, s.2, ltb-false (length letters) u (check_zero 14 short-letters refl two.1)),
            ),
        λ p.
            let q = passes p.0 p.1 in
            let s = sizes q in
            let r : room ≡ 0 = rw (
              le-ltb (length counts) d (omega (arith, s.0, p.2)),
              le-ltb (length entries) w (omega (arith, s.1, p.3)),
              le-ltb (length letters) u (omega (arith, s.2, p.4)),
            ) in
            (d, w, u, h.0 ∙ ((table_of_exactly (table_refusal k n then room) d w u).1 d w u).1 (then_none (table_refusal k n) room q ∙ r, refl, refl, refl)),
      )

  -- CO3: and otherwise the first check's number
  pub table_first_refusal : (r : ℕ) → (r ≡ 0 → ⊥) → table_refusal k n ≡ r → a ≡ Refused r
  unfolding delay_table tables table_of room_refusal
  table_first_refusal r f q = h.0 ∙ rw (then_some (table_refusal k n) room (λ z. f (sym q ∙ z)), q, ne_eqb r 0 f)

  -- D6, CO9: a refused call changes none of the three outputs
  pub table-unchanged : (r : ℕ) → a ≡ Refused r → (x ≡ counts) × (y ≡ entries) × (z ≡ letters)
  table-unchanged r e = rw (h.1, h.2, h.3) (delay_table-unchanged k n counts entries letters r (sym h.0 ∙ e))
