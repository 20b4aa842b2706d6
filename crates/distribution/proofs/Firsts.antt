-- Which refusal comes: the checks of the delay table as one list, in the order in which the call makes them (I24 and
-- CO2 of the specification). The answer is made of the number of the first check in the list that fails, or of 0 if
-- none does; what an answer made of a number is comes first.
-- Assumes nothing.
use mathlib.Core.Path.{◌≡◌, refl, ap, ◌∙◌}
use mathlib.Core.Logic.{◌↔◌}
use mathlib.Core.List.{List, [], ◌∷◌}
use Prim.Native.Nat.{ℕ, ◌+◌}
use native.Mathlib.Decide.{ℕ_discrete}
use borrow.Author.Tests.{ne_eqb}
use lib.IntN.{ℤ}
use Rattle.coxeter.specs.Kinds.{kind_of, lanes}
use Rattle.coxeter.specs.Length.{greatest_length}
use Rattle.coxeter.specs.Checks.{check, ◌then◌, first_of, wrong_kind, wrong_rank, too_short}
use Rattle.coxeter.proofs.Refusals.{refused_exactly, then_assoc, good_exactly}
use Rattle.coxeter.proofs.FirstFailing.{check_then, rank_then}
use Rattle.distribution.specs.answers.Table.{Written, Refused}
use Rattle.distribution.specs.Calls.{untabled, table_refusal, table_of, room_refusal, tables, delay_table}
use Rattle.distribution.proofs.Tables.{length-distribution, length-longest, length-longest_form}
use Rattle.distribution.proofs.Outcomes.{table_rank}

-- G17, CO3: an answer on tables names the refusal if that is not 0; else it says the three lengths
pub table_of_exactly : (r a b c : ℕ)
    → ((m : ℕ) → (table_of r a b c ≡ Refused m) ↔ ((r ≡ m) × (m ≡ 0 → ⊥)))
    × ((x y z : ℕ) → (table_of r a b c ≡ Written x y z) ↔ ((r ≡ 0) × (a ≡ x) × (b ≡ y) × (c ≡ z)))
unfolding table_of
table_of_exactly r a b c = (
  λ m. refused_exactly Refused (Written a b c) r m (λ e. cc) (λ e. cc),
  λ x y z.
      let e = good_exactly Refused (Written a b c) r (Written x y z) (λ e. cc) in
      (λ h. let g = e.0 h in (g.0, cc g.1, cc g.1, cc g.1), λ h. e.1 (h.0, rw (h.1, h.2, h.3))),
)

-- I33, C20, CO2: before 14 a delay table makes checks 5, 6 and 20, in this order
pub table_refusal-first_of : (k n : ℕ) → table_refusal k n ≡ first_of ((5, wrong_kind k) ∷ (6, wrong_rank (kind_of k) n) ∷ (20, untabled (kind_of k) n) ∷ [])
unfolding table_refusal
table_refusal-first_of k n = rank_then k n refl

-- the lengths that are written are these, and where a check before 14 refuses they are not looked at
by_lengths : (k n : ℕ) (counts : List ℕ) (entries : List ℤ) (letters : List ℕ)
    → let l = greatest_length (kind_of k) n in let m = lanes (kind_of k) n in
    (delay_table k n counts entries letters).answer
    ≡ table_of (table_refusal k n then (check 14 (too_short (l + 1) counts) then check 14 (too_short m entries) then check 14 (too_short l letters))) (l + 1) m l
unfolding delay_table tables table_of room_refusal
by_lengths k n counts entries letters = elim (ℕ_discrete (table_refusal k n) 0) [
  | yes z ↦
      let low = (table_rank k n z).0 in
      rw (length-distribution (kind_of k) n, length-longest (kind_of k) n low, length-longest_form (kind_of k) n low)
  | no f ↦ let g = ne_eqb (table_refusal k n) 0 f in rw g (rw g)
]

-- I24, C20, CO2, CO9: a delay table makes checks 5, 6 and 20, then 14 of each output in turn: one number more than the
-- greatest length, as many entries as lanes, as many letters as the greatest length
pub delay_table-first_of : (k n : ℕ) (counts : List ℕ) (entries : List ℤ) (letters : List ℕ)
    → let l = greatest_length (kind_of k) n in let m = lanes (kind_of k) n in
    (delay_table k n counts entries letters).answer
    ≡ table_of
    (first_of
    ((5, wrong_kind k)
    ∷ (6, wrong_rank (kind_of k) n)
    ∷ (20, untabled (kind_of k) n)
    ∷ (14, too_short (l + 1) counts)
    ∷ (14, too_short m entries)
    ∷ (14, too_short l letters)
    ∷ []))
    (l + 1)
    m
    l
unfolding table_refusal
delay_table-first_of k n counts entries letters =
    let l = greatest_length (kind_of k) n in
    let m = lanes (kind_of k) n in
    by_lengths k n counts entries letters
    ∙ ap (λ r. table_of r (l + 1) m l)
    (rw then_assoc (rank_then k n (check_then 19 (untabled (kind_of k) n) (check_then 13 (too_short (l + 1) counts) (check_then 13 (too_short m entries) refl)))))
