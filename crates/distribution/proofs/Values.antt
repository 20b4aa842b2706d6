-- Lists as the values of a function at 0, 1, ...
-- Sections: values; parts.
-- Assumes nothing.
use mathlib.Core.Path.{◌≡◌, sym, ap, ◌∙◌}
use mathlib.Core.List.{List, ◌++◌, map}
use Prim.Native.Nat.{ℕ, ◌+◌, ◌-◌, ◌^◌, ◌≤◌, ◌<◌}
use native.Mathlib.Omega.{arith}
use native.Mathlib.Nat.{zero-add, lt_of_not-le}
use native.Mathlib.Decide.{dec_lt}
use lib.ListN.{length, get_or, take, drop, length-map, length-append, length-drop, get_or-append}
use lib.Seq.{ext_get_or, length-take-le, get_or-take, get_or-drop, get_or-append-add}
use Rattle.coxeter.specs.Kinds.{up}
use Rattle.coxeter.proofs.Basics.{length_up}
use Rattle.distribution.proofs.Tables.{get_or-map-up}

-- ---- values

-- f 0, .., f (m − 1)
unfoldable pub values : (ℕ → ℕ) → ℕ → List ℕ
values f m = map f (up 0 m)

-- the number at a place of a list
abbrev pub value_at : List ℕ → ℕ → ℕ
value_at l i = get_or l i 0

-- the first m values fit 64 bits
abbrev pub Fit : (ℕ → ℕ) → ℕ → Type 0
Fit f m = (l : ℕ) → l < m → f l < 2 ^ 64

pub length-values : (f : ℕ → ℕ) (m : ℕ) → length (values f m) ≡ m
unfolding values
length-values f m = length-map (up 0 m) f ∙ length_up 0 m

pub value_at-values : (f : ℕ → ℕ) (m i : ℕ) → i < m → value_at (values f m) i ≡ f i
unfolding values
value_at-values f m i h = get_or-map-up f 0 m i h ∙ ap f (zero-add i)

-- a list by its values
pub values_eq : (w : List ℕ) (f : ℕ → ℕ) (m : ℕ) → length w ≡ m → ((i : ℕ) → i < m → value_at w i ≡ f i) → w ≡ values f m
values_eq w f m e h =
    ext_get_or 0 w (values f m) (e ∙ sym (length-values f m)) (λ i o. h i (omega arith) ∙ sym (value_at-values f m i (omega arith)))

pub values_same : (f g : ℕ → ℕ) (m : ℕ) → ((i : ℕ) → i < m → f i ≡ g i) → values f m ≡ values g m
values_same f g m h = values_eq (values f m) g m (length-values f m) (λ i o. value_at-values f m i o ∙ h i o)

-- ---- parts

pub take-values : (f : ℕ → ℕ) (d m : ℕ) → d ≤ m → take d (values f m) ≡ values f d
take-values f d m h =
    values_eq (take d (values f m)) f d (length-take-le d (values f m) (omega (arith, length-values f m)))
    (λ i o. get_or-take d (values f m) i 0 o ∙ value_at-values f m i (omega arith))

-- a front that is replaced
pub values-front : (f g h : ℕ → ℕ) (d m : ℕ) → d ≤ m → ((i : ℕ) → i < d → f i ≡ h i) → ((i : ℕ) → d ≤ i → g i ≡ h i)
    → values f d ++ drop d (values g m) ≡ values h m
values-front f g h d m l p q =
    values_eq (values f d ++ drop d (values g m)) h m
    (length-append (values f d) (drop d (values g m)) ∙ omega (arith, length-values f d, length-drop d (values g m), length-values g m))
    (λ i o. elim (dec_lt i d) [ yes s ↦ before i s | no s ↦ behind i o (omega (arith, lt_of_not-le s)) ])
  where
    before : (i : ℕ) → i < d → value_at (values f d ++ drop d (values g m)) i ≡ h i
    before i s = get_or-append (values f d) (drop d (values g m)) 0 i (omega (arith, length-values f d)) ∙ value_at-values f d i s ∙ p i s

    behind : (i : ℕ) → i < m → d ≤ i → value_at (values f d ++ drop d (values g m)) i ≡ h i
    behind i o s =
        let e : i ≡ length (values f d) + (i - d) = omega (arith, length-values f d) in
        let t : d + (i - d) ≡ i = omega arith in
        ap (value_at (values f d ++ drop d (values g m))) e
        ∙ get_or-append-add (values f d) (drop d (values g m)) (i - d) 0
        ∙ get_or-drop d (values g m) (i - d) 0
        ∙ ap (value_at (values g m)) t
        ∙ value_at-values g m i o
        ∙ q i s
