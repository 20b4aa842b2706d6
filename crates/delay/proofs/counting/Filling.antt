-- A list that is being changed in place: filled from its start, or combined from its end.
-- Sections: filled from the start; combined from the end.
-- Assumes nothing.
use mathlib.Core.Path.{◌≡◌, refl, ◌∙◌}
use mathlib.Core.List.{List}
use Prim.Native.Nat.{ℕ, ◌+◌, ◌-◌, ◌≤◌, ◌<◌}
use native.Mathlib.Omega.{arith}
use native.Mathlib.Decide.{ℕ_discrete}
use lib.ListN.{length, set, length-set}
use lib.Seq.{get_or-set_same, get_or-set_other}
use Rattle.distribution.proofs.Values.{values, value_at, values_eq}

-- ---- filled from the start

-- m numbers: before place l they are f's, from there on g's
pub record Filled (l : ℕ) (f g : ℕ → ℕ) (m : ℕ) (w : List ℕ) : Type 0 where
  pub size : length w ≡ m
  pub front : (i : ℕ) → i < m → i < l → value_at w i ≡ f i
  pub rest : (i : ℕ) → i < m → l ≤ i → value_at w i ≡ g i

-- nothing is filled yet
pub filled_none : {f : ℕ → ℕ} {w : List ℕ} → Filled 0 f (value_at w) (length w) w
filled_none = record { size = refl; front = λ i o h. absurd (omega arith); rest = λ i o h. refl }

module _ {l : ℕ} {f g : ℕ → ℕ} {m : ℕ} {w : List ℕ} (h : Filled l f g m w) where
  -- the next number
  pub filled_next : {v : ℕ} → l < m → v ≡ f l → Filled (l + 1) f g m (set w l v)
  filled_next {v} o e =
      record {
        size = length-set w l v ∙ h.size;
        front = λ i p q. elim (ℕ_discrete i l) [
          | yes s ↦ rw (s, get_or-set_same w l v 0 (omega (arith, h.size))) e
          | no t ↦ rw (get_or-set_other w l i v 0 t) (h.front i p (omega arith))
        ];
        rest = λ i p q. get_or-set_other w l i v 0 (λ s. omega arith) ∙ h.rest i p (omega arith);
      }

  -- all numbers are f's
  pub filled_end : m ≤ l → w ≡ values f m
  filled_end o = values_eq w f m h.size (λ i p. h.front i p (omega arith))

-- ---- combined from the end, each number with the one b places before it

-- w is made of `old`: from place l on each number that has one b places before it was combined so
pub record Combined (l b : ℕ) (P : ℕ → ℕ → ℕ → Type 0) (old w : List ℕ) : Type 0 where
  pub size : length w ≡ length old
  pub front : (i : ℕ) → i < length old → i < l → value_at w i ≡ value_at old i
  pub low : (i : ℕ) → i < length old → i < b → value_at w i ≡ value_at old i
  pub rest : (i : ℕ) → i < length old → l ≤ i → b ≤ i → P (value_at old i) (value_at old (i - b)) (value_at w i)

pub combined_none : {b : ℕ} {P : ℕ → ℕ → ℕ → Type 0} (w : List ℕ) → Combined (length w) b P w w
combined_none w = record { size = refl; front = λ i o h. refl; low = λ i o h. refl; rest = λ i o h. absurd (omega arith) }

module _ {l b : ℕ} {P : ℕ → ℕ → ℕ → Type 0} {old w : List ℕ} (h : Combined l b P old w) (o : l ≤ length old) (q : b < l) where
  -- what is read: the last number that is not combined yet, and the one b places before it
  pub read_own : value_at w (l - 1) ≡ value_at old (l - 1)
  read_own = h.front (l - 1) (omega arith) (omega arith)

  pub read_back : value_at w (l - 1 - b) ≡ value_at old (l - 1 - b)
  read_back = h.front (l - 1 - b) (omega arith) (omega arith)

  pub combined_next : {v : ℕ} → P (value_at w (l - 1)) (value_at w (l - 1 - b)) v → Combined (l - 1) b P old (set w (l - 1) v)
  combined_next {v} p =
      record {
        size = length-set w (l - 1) v ∙ h.size;
        front = λ i r s. get_or-set_other w (l - 1) i v 0 (λ e. omega arith) ∙ h.front i r (omega arith);
        low = λ i r s. get_or-set_other w (l - 1) i v 0 (λ e. omega arith) ∙ h.low i r s;
        rest = λ i r s t. elim (ℕ_discrete i (l - 1)) [
          | yes e ↦ rw (e, get_or-set_same w (l - 1) v 0 (omega (arith, h.size)), ← read_own, ← read_back) p
          | no f ↦ rw (get_or-set_other w (l - 1) i v 0 f) (h.rest i r (omega arith) t)
        ];
      }
