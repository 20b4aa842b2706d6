-- The turns of `carrying::note_passed`: numbers stored in a list one after the other, as far as it goes (`stores` of
-- Tracing, which its contract names).
-- Assumes nothing.
use mathlib.Core.Path.{◌≡◌, refl, sym, ap, ◌∙◌}
use mathlib.Core.List.{List}
use Prim.Native.Nat.{ℕ, zero, suc, ◌+◌, ◌-◌, ◌≤◌, min}
use native.Mathlib.Decide.{dec_le}
use native.Mathlib.Numerals.{add-one}
use native.Mathlib.Omega.{arith}
use lib.ListN.{length, set, length-set}
use lib.Seq.{set_out}
use Rattle.traces.proofs.Tracing.{stores}

module _ (f : ℕ → ℕ) (l : List ℕ) (s : ℕ) where
  length-stores : (m : ℕ) → length (stores f l s m) ≡ length l
  unfolding stores
  length-stores zero = refl
  length-stores (suc m) = length-set (stores f l s m) (s + m) (f m) ∙ length-stores m

  pub stores_start : l ≡ stores f l s 0
  unfolding stores
  stores_start = refl

  -- one more
  pub stores-suc : (m i x : ℕ) → i ≡ m → x ≡ f m → stores f l s (suc m) ≡ set (stores f l s m) (s + i) x
  unfolding stores
  stores-suc m i x e q = rw (e, q)

  -- past the end of the list
  stores-past : (m : ℕ) → length l ≤ s + m → stores f l s (suc m) ≡ stores f l s m
  unfolding stores
  stores-past m h = set_out (stores f l s m) (s + m) (f m) (rw (length-stores m) h)

  -- as many as fit
  stores_fit : (m : ℕ) → stores f l s (min m (length l - s)) ≡ stores f l s m
  stores_fit zero = let e : min 0 (length l - s) ≡ 0 = omega arith in rw e
  stores_fit (suc m) = elim (dec_le (suc m) (length l - s)) [
    | yes h ↦ let e : min (suc m) (length l - s) ≡ suc m = omega arith in rw e
    | no h ↦
        let e : min (suc m) (length l - s) ≡ min m (length l - s) = omega arith in
        rw e (stores_fit m ∙ sym (stores-past m (omega arith)))
  ]

  -- v is the list after i stores
  module _ {v : List ℕ} (i : ℕ) (e : v ≡ stores f l s i) where
    pub stores_next : (x : ℕ) → x ≡ f i → set v (s + i) x ≡ stores f l s (i + 1)
    unfolding stores
    stores_next x q = rw (e, q, add-one)

    pub stores_end : (m : ℕ) {end size : ℕ} → size ≡ length l → end ≡ min m (size - s) → i ≤ end → end ≤ i → v ≡ stores f l s m
    stores_end m h g a b =
        let z : i ≡ min m (length l - s) = omega arith in
        e ∙ ap (stores f l s) z ∙ stores_fit m
