-- The delay table in plain terms (Y1 to Y4 and I24 of the specification), at the answer and the three outputs that the
-- call left. The record `IsLongest` is taken apart: each field is read out as strongly as it is stated.
-- RefusalSentences.antt has the refusals.
--
-- Sections: what the call wrote; the table; the longest window.
-- Assumes nothing.
use mathlib.Core.Path.{◌≡◌, refl, sym, ap, ◌∙◌}
use mathlib.Core.Bool.{true, true≢false}
use mathlib.Core.Logic.{◌⊎◌, inl, inr, ⊎_elim, ◌↔◌}
use mathlib.Core.List.{List}
use Prim.Native.Nat.{ℕ, ◌+◌, ◌≤◌, ◌<◌}
use native.Mathlib.Omega.{arith}
use lib.IntN.{ℤ}
use lib.ListN.{length, get_or, take, drop}
use Rattle.coxeter.specs.Kinds.{kind_of, lanes, least}
use Rattle.coxeter.specs.Dictionary.{shortlex}
use Rattle.coxeter.specs.Length.{window_length, greatest_length}
use Rattle.coxeter.specs.Checks.{◌then◌, WindowOf}
use Rattle.coxeter.specs.NormalForm.{normal_form, IsNormalForm}
use Rattle.coxeter.proofs.Lists.{get_d_take}
use Rattle.coxeter.proofs.Refusals.{then_zero}
use Rattle.coxeter.proofs.Levels.{accepted_of_refusal}
use Rattle.coxeter.proofs.Order.{shortlex_cases, shortlex-total, shortlex_irrefl}
use Rattle.coxeter.proofs.Theorems.{length-normal_form}
use Rattle.coxeter.proofs.Unchanged.{kept_front}
use Rattle.rules.proofs.Theorems.{normal_form-least}
use Rattle.distribution.specs.answers.Table.{Written}
use Rattle.distribution.specs.AllWindows.{In, Once}
use Rattle.distribution.specs.Distribution.{of_length, distribution, sum, order}
use Rattle.distribution.specs.Longest.{IsLongest, longest}
use Rattle.distribution.specs.Calls.{table_refusal, TableYields, room_refusal, tables, delay_table}
use Rattle.distribution.proofs.Counted.{of_length_exactly}
use Rattle.distribution.proofs.Orders.{sum-distribution}
use Rattle.distribution.proofs.Longest.{longest_is, longest_unique}
use Rattle.distribution.proofs.Tables.{length-distribution, entry_of_length, length-longest}
use Rattle.distribution.proofs.Outcomes.{table_rank}
use Rattle.distribution.proofs.Firsts.{table_of_exactly}
use Rattle.distribution.proofs.Unchanged.{delay_table-past}

-- ---- what the call wrote

module _ (k n : ℕ) (counts : List ℕ) (entries : List ℤ) (letters : List ℕ) (c e l : ℕ) (x : List ℕ) (y : List ℤ) (z : List ℕ)
    (h : TableYields (delay_table k n counts entries letters) (Written c e l) x y z) where
  wrote : (table_refusal k n ≡ 0) × (length (distribution (kind_of k) n) ≡ c) × (length (longest (kind_of k) n) ≡ e)
      × (length (normal_form (kind_of k) n (longest (kind_of k) n)) ≡ l) × (take c x ≡ distribution (kind_of k) n) × (take e y ≡ longest (kind_of k) n)
      × (take l z ≡ normal_form (kind_of k) n (longest (kind_of k) n))
  unfolding delay_table tables
  wrote =
      let d = distribution (kind_of k) n in
      let w = longest (kind_of k) n in
      let u = normal_form (kind_of k) n w in
      let s = table_refusal k n then room_refusal d w u counts entries letters in
      let p = ((table_of_exactly s (length d) (length w) (length u)).1 c e l).0 (sym h.0) in (
        (then_zero (table_refusal k n) _ p.0).0,
        p.1,
        p.2,
        p.3,
        rw h.1 (kept_front s d counts p.1 p.0),
        rw h.2 (kept_front s w entries p.2 p.0),
        rw h.3 (kept_front s u letters p.3 p.0),
      )

  rank : least (kind_of k) ≤ n
  rank = (table_rank k n wrote.0).0

  is_longest : IsLongest (kind_of k) n (take e y)
  is_longest = rw wrote.5 (longest_is (kind_of k) n rank)

  -- I24, Y1: how many numbers, entries and letters are written
  pub written_lengths : (c ≡ greatest_length (kind_of k) n + 1) × (e ≡ lanes (kind_of k) n) × (l ≡ greatest_length (kind_of k) n)
      × (length (take c x) ≡ c) × (length (take e y) ≡ e) × (length (take l z) ≡ l)
  written_lengths = (
    sym wrote.1 ∙ length-distribution (kind_of k) n,
    sym wrote.2 ∙ length-longest (kind_of k) n rank,
    sym wrote.3 ∙ (longest_is (kind_of k) n rank).form,
    ap (λ (r : List ℕ). length r) wrote.4 ∙ wrote.1,
    ap (λ (r : List ℤ). length r) wrote.5 ∙ wrote.2,
    ap (λ (r : List ℕ). length r) wrote.6 ∙ wrote.3,
  )

  -- ---- the table

  -- Y1
  pub entry_exactly : (i : ℕ) → i ≤ greatest_length (kind_of k) n → get_or x i 0 ≡ of_length (kind_of k) n i
  entry_exactly i g =
      sym (get_d_take c i x 0 (omega (arith, written_lengths.0))) ∙ ap (λ (r : List ℕ). get_or r i 0) wrote.4 ∙ entry_of_length (kind_of k) n i g

  -- Y1, Y2: the same with the windows at hand: a list of all those of that length, none twice, has as many
  pub entry_counts : (i : ℕ) → i ≤ greatest_length (kind_of k) n
      → (ws : List (List ℤ)) × Once ws × ((w : List ℤ) → In w ws ↔ (WindowOf (kind_of k) n w × (window_length (kind_of k) w ≡ i)))
      × (get_or x i 0 ≡ length ws)
  entry_counts i g =
      let p = (of_length_exactly (kind_of k) n i (of_length (kind_of k) n i)).0 refl in
      (p.0, p.1, p.2, entry_exactly i g ∙ sym p.3)

  -- Y3
  pub entries-sum : sum (take c x) ≡ order (kind_of k) n
  entries-sum = ap sum wrote.4 ∙ sum-distribution (kind_of k) n rank

  -- ---- the longest window

  -- Y4: it passes checks 9 to 11 and has the greatest length
  pub longest_passes : WindowOf (kind_of k) n (take e y) × (window_length (kind_of k) (take e y) ≡ greatest_length (kind_of k) n)
  longest_passes = (is_longest.passes, is_longest.greatest)

  -- Y4: every other window is shorter
  pub others_shorter : (v : List ℤ) → WindowOf (kind_of k) n v → (v ≡ take e y → ⊥)
      → window_length (kind_of k) v < window_length (kind_of k) (take e y)
  others_shorter v p f =
      omega (arith, is_longest.only v p f, length-normal_form (kind_of k) n v p, length-normal_form (kind_of k) n (take e y) is_longest.passes)

  -- Y4: so there is one
  pub one-longest : (v : List ℤ) → WindowOf (kind_of k) n v → window_length (kind_of k) v ≡ greatest_length (kind_of k) n → v ≡ take e y
  one-longest v p q =
      longest_unique (kind_of k) n v (take e y) rank (accepted_of_refusal (kind_of k) n v p)
      (accepted_of_refusal (kind_of k) n (take e y) is_longest.passes) q is_longest.greatest

  -- Y4, N1: its normal form, among words of any length
  pub longest_form : IsNormalForm (kind_of k) n (take e y) (take l z)
  longest_form =
      rw (wrote.5, wrote.6) (normal_form-least (kind_of k) n (longest (kind_of k) n) rank (longest_is (kind_of k) n rank).passes)

  -- Y4
  pub others_form_shorter : (v : List ℤ) (u : List ℕ) → WindowOf (kind_of k) n v → (v ≡ take e y → ⊥) → IsNormalForm (kind_of k) n v u
      → length u < l
  others_form_shorter v u p f m =
      let form = normal_form (kind_of k) n v in
      let q = normal_form-least (kind_of k) n v rank p in
      let shorter : length u ≤ length form =
      elim (shortlex-total u form) [
        | inl s ↦ omega (arith, ap (λ (r : List ℕ). length r) s)
        | inr s ↦ first s (λ t. m.least form q.steps q.shows t)
      ] in
      let a = is_longest.only v p f in
      let b = is_longest.form in
      omega (arith, shorter, a, b, written_lengths.2)
    where
      le_of_shortlex : (s t : List ℕ) → shortlex s t ≡ true → length s ≤ length t
      le_of_shortlex s t g = ⊎_elim (λ o. omega (arith, o)) (λ o. omega (arith, o.0)) (shortlex_cases s t g)

      first : (shortlex u (normal_form (kind_of k) n v) ≡ true) ⊎ (shortlex (normal_form (kind_of k) n v) u ≡ true)
          → ((normal_form (kind_of k) n v ≡ u → ⊥) → shortlex u (normal_form (kind_of k) n v) ≡ true) → length u ≤ length (normal_form (kind_of k) n v)
      first s g = elim s [
        | inl t ↦ le_of_shortlex u (normal_form (kind_of k) n v) t
        | inr t ↦
            le_of_shortlex u (normal_form (kind_of k) n v)
            (g (λ o. true≢false (sym t ∙ ap (λ (r : List ℕ). shortlex r u) o ∙ shortlex_irrefl u)))
      ]

  -- CO7, I2: what is left of each output keeps what it held
  pub table-past : (drop c x ≡ drop c counts) × (drop e y ≡ drop e entries) × (drop l z ≡ drop l letters)
  table-past = rw (h.1, h.2, h.3) (delay_table-past k n counts entries letters c e l (sym h.0))
