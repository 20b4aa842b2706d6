-- One factor: a list of values each combined with the one some places before it. Sums from the start less such sums are
-- running sums.
-- Sections: values combined; running sums; the factor of kind D.
-- Assumes nothing.
use mathlib.Core.Path.{◌≡◌, sym, ap, ◌∙◌}
use mathlib.Core.List.{List}
use Prim.Native.Nat.{ℕ, ◌+◌, ◌-◌, ◌^◌, ◌≤◌, ◌<◌}
use native.Mathlib.Omega.{arith}
use native.Mathlib.Nat.{lt_of_not-le}
use native.Mathlib.Decide.{dec_lt}
use native.Mathlib.Numerals.{add-one}
use lib.ListN.{length}
use Rattle.coxeter.specs.declared.Kind.TheVariants.{D}
use Rattle.distribution.proofs.Factors.{shifted, shifted_lt, shifted_le, sum_to, running, sum_to-running, factor}
use Rattle.distribution.proofs.Values.{values, value_at, Fit, length-values, value_at-values, values_eq}

-- ---- values combined

module _ (f : ℕ → ℕ) (m : ℕ) (w : List ℕ) (e : w ≡ values f m) where
  length_m : length w ≡ m
  length_m = ap length e ∙ length-values f m

  at : (l : ℕ) → l < length w → value_at w l ≡ f l
  at l o = ap (λ (x : List ℕ). value_at x l) e ∙ value_at-values f m l (omega (arith, length_m))

  -- v is w with the numbers from b on combined
  combined_values : (b : ℕ) (g : ℕ → ℕ) (op : ℕ → ℕ → ℕ) (v : List ℕ) → length v ≡ length w → ((l : ℕ) → l < b → l < length w → value_at v l ≡ value_at w l)
      → ((l : ℕ) → b ≤ l → l < length w → value_at v l ≡ op (value_at w l) (value_at w (l - b))) → ((l : ℕ) → l < b → f l ≡ g l)
      → ((l : ℕ) → b ≤ l → op (f l) (f (l - b)) ≡ g l) → v ≡ values g m
  combined_values b g op v s first others low high =
      values_eq v g m (s ∙ length_m) (λ l p. let o : l < length w = omega (arith, length_m) in
      elim (dec_lt l b) [
        | yes q ↦ first l q o ∙ at l o ∙ low l q
        | no q ↦ let h : b ≤ l = omega (arith, lt_of_not-le q) in
            others l h o ∙ rw (at l o, at (l - b) (omega arith)) (high l h)
      ])

-- ---- running sums

module _ (c : ℕ) (f : ℕ → ℕ) where
  difference : (l : ℕ) → sum_to f l ≡ running c f l + shifted (c + 1) (sum_to f) l
  difference l = sum_to-running c f l ∙ ap (λ (b : ℕ). running c f l + shifted b (sum_to f) l) (sym (add-one c))

  module _ (m : ℕ) (w : List ℕ) (e : w ≡ values (sum_to f) m) where
    -- no difference is below 0
    pub sums_rise : (l : ℕ) → c + 1 ≤ l → l < length w → value_at w (l - (c + 1)) ≤ value_at w l
    sums_rise l h o =
        rw (at (sum_to f) m w e l o, at (sum_to f) m w e (l - (c + 1)) (omega arith)) (omega (arith, difference l, shifted_le (c + 1) (sum_to f) l h))

    pub running_sums : (v : List ℕ) → length v ≡ length w → ((l : ℕ) → l < c + 1 → l < length w → value_at v l ≡ value_at w l)
        → ((l : ℕ) → c + 1 ≤ l → l < length w → value_at v l ≡ value_at w l - value_at w (l - (c + 1))) → v ≡ values (running c f) m
    running_sums v s first others =
        combined_values (sum_to f) m w e (c + 1) (running c f) (λ x y. x - y) v s first others
        (λ l q. omega (arith, difference l, shifted_lt (c + 1) (sum_to f) l q))
        (λ l h. omega (arith, difference l, shifted_le (c + 1) (sum_to f) l h))

-- ---- the factor of kind D

module _ (c : ℕ) (f : ℕ → ℕ) (m : ℕ) (w : List ℕ) (e : w ≡ values (running c f) m) where
  pub sum_fits : Fit (factor D c f) m → (l : ℕ) → c ≤ l → l < length w → value_at w l + value_at w (l - c) < 2 ^ 64
  sum_fits t l h o =
      rw (at (running c f) m w e l o, at (running c f) m w e (l - c) (omega arith), ← shifted_le c (running c f) l h)
      (t l (omega (arith, length_m (running c f) m w e)))

  pub factor_sums : (v : List ℕ) → length v ≡ length w → ((l : ℕ) → l < c → l < length w → value_at v l ≡ value_at w l)
      → ((l : ℕ) → c ≤ l → l < length w → value_at v l ≡ value_at w l + value_at w (l - c)) → v ≡ values (factor D c f) m
  factor_sums v s first others =
      combined_values (running c f) m w e c (factor D c f) (λ x y. x + y) v s first others
      (λ l q. omega (arith, shifted_lt c (running c f) l q))
      (λ l h. omega (arith, shifted_le c (running c f) l h))
