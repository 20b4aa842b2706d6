-- One step on a window as stores of signed bytes: for the module `action`, and for the crates above that take steps
-- themselves.
--
-- Sections: stores; entries of an accepted window; one step.
-- Assumes nothing.
use mathlib.Core.Path.{◌≡◌, refl, sym, ap, ◌∙◌}
use mathlib.Core.List.{List, [], ◌∷◌}
use Prim.Native.Nat.{ℕ, zero, suc, ◌+◌, ◌-◌, ◌≤◌, ◌<◌}
use native.Mathlib.Nat.{suc-add}
use native.Mathlib.Omega.{arith}
use lib.IntN.{ℤ, pos, neg_ℤ, nat_abs}
use lib.ListN.{length, get_or, set}
use lib.Signed.{mag}
use mir.Syntax.{w8}
use mir.Val.{to_z, of_z}
use Rattle.coxeter.specs.declared.Group.{Group}
use Rattle.coxeter.specs.declared.Kind.{Kind}
use Rattle.coxeter.specs.declared.Kind.TheVariants.{A, B, D}
use Rattle.coxeter.specs.Kinds.{lanes}
use Rattle.coxeter.specs.Windows.{from, swap, negate_first, swap_negate, act}
use Rattle.coxeter.specs.Checks.{WindowOf}
use Rattle.coxeter.proofs.KindLaws.{lanes_le_add_one}
use Rattle.coxeter.proofs.Acceptance.{Ranked}
use Rattle.coxeter.proofs.Groups.{in_range_ranked}
use Rattle.coxeter.proofs.Levels.{Between, accepted_of_refusal}
use Rattle.coxeter.proofs.Steps.{act-swap, act-B_last, act-D_last}
use Rattle.refusals.proofs.Bytes.{held, element_back}

-- ---- stores

-- one store is f from there on, where f changes the first entry so
set_eq_from : (f : List ℤ → List ℤ) (p : ℕ) (w : List ℤ) (a : ℤ) → p < length w
    → ((v : List ℤ) → f (get_or w p (pos 0) ∷ v) ≡ a ∷ v) → set w p a ≡ from p f w
unfolding from
set_eq_from f p [] a h e = let z : ⊥ = omega arith in absurd z
set_eq_from f zero (x ∷ w) a h e = sym (e w)
set_eq_from f (suc p) (x ∷ w) a h e = ap (λ (l : List ℤ). x ∷ l) (set_eq_from f p w a (omega arith) e)

-- two stores are f from there on, where f changes the first two entries so
set_set_eq_from : (f : List ℤ → List ℤ) (p : ℕ) (w : List ℤ) (a b : ℤ) → p + 1 < length w
    → ((v : List ℤ) → f (get_or w p (pos 0) ∷ get_or w (p + 1) (pos 0) ∷ v) ≡ a ∷ b ∷ v) → set (set w p a) (p + 1) b ≡ from p f w
unfolding from
set_set_eq_from f p [] a b h e = let z : ⊥ = omega arith in absurd z
set_set_eq_from f zero (x ∷ []) a b h e = let z : ⊥ = omega arith in absurd z
set_set_eq_from f zero (x ∷ y ∷ w) a b h e = sym (e w)
set_set_eq_from f (suc p) (x ∷ w) a b h e =
    rw suc-add (ap (λ (l : List ℤ). x ∷ l) (set_set_eq_from f p w a b (omega arith) (rw suc-add at e)))

pub set_eq_swap : (p : ℕ) (w : List ℤ) → p + 1 < length w → mag (get_or w p (pos 0)) < 128 → mag (get_or w (p + 1) (pos 0)) < 128
    → set (set w p (to_z w8 (of_z w8 (get_or w (p + 1) (pos 0))))) (p + 1) (to_z w8 (of_z w8 (get_or w p (pos 0)))) ≡ from p swap w
unfolding swap
set_eq_swap p w h d e =
    rw (element_back (get_or w p (pos 0)) d, element_back (get_or w (p + 1) (pos 0)) e)
    (set_set_eq_from swap p w (get_or w (p + 1) (pos 0)) (get_or w p (pos 0)) h (λ v. refl))

-- r is the negation of the entry e, both as signed bytes
pub record Negated (e r : ℤ) : Type 0 where
  pub entry : mag e < 128
  pub result : mag r < 128
  pub negation : r ≡ neg_ℤ (to_z w8 (of_z w8 e))

negated_back : (e r : ℤ) → Negated e r → to_z w8 (of_z w8 r) ≡ neg_ℤ e
negated_back e r h = element_back r h.result ∙ h.negation ∙ ap neg_ℤ (element_back e h.entry)

pub set_eq_negate_first : (p : ℕ) (w : List ℤ) (r : ℤ) → p < length w → Negated (get_or w p (pos 0)) r
    → set w p (to_z w8 (of_z w8 r)) ≡ from p negate_first w
unfolding negate_first
set_eq_negate_first p w r h e =
    rw (negated_back (get_or w p (pos 0)) r e) (set_eq_from negate_first p w (neg_ℤ (get_or w p (pos 0))) h (λ v. refl))

pub set_eq_swap_negate : (p : ℕ) (w : List ℤ) (r s : ℤ) → p + 1 < length w → Negated (get_or w p (pos 0)) r → Negated (get_or w (p + 1) (pos 0)) s
    → set (set w p (to_z w8 (of_z w8 s))) (p + 1) (to_z w8 (of_z w8 r)) ≡ from p swap_negate w
unfolding swap_negate
set_eq_swap_negate p w r s h d e =
    rw (negated_back (get_or w p (pos 0)) r d, negated_back (get_or w (p + 1) (pos 0)) s e)
    (set_set_eq_from swap_negate p w (neg_ℤ (get_or w (p + 1) (pos 0))) (neg_ℤ (get_or w p (pos 0))) h (λ v. refl))

-- ---- entries of an accepted window

size_get_or_lt : (i c p : ℕ) (w : List ℤ) → 0 < c → Between i c w → nat_abs (get_or w p (pos 0)) < c
size_get_or_lt i c p [] h b = h
size_get_or_lt i c zero (e ∷ w) h b = b.1
size_get_or_lt i c (suc p) (e ∷ w) h b = size_get_or_lt i c p w h b.2

pub length_of_refusal : (k : Kind) (n : ℕ) (w : List ℤ) → WindowOf k n w → length w ≡ lanes k n
length_of_refusal k n w h = (accepted_of_refusal k n w h).size

-- each entry can be negated as a signed byte
size_lt_of_refusal : (k : Kind) (n p : ℕ) (w : List ℤ) → n ≤ 64 → WindowOf k n w → nat_abs (get_or w p (pos 0)) < 128
size_lt_of_refusal k n p w h r =
    let b = (accepted_of_refusal k n w r).level.between in
    let s : nat_abs (get_or w p (pos 0)) < 1 + length w = size_get_or_lt 1 (1 + length w) p w (omega arith) b in
    omega (arith, lanes_le_add_one k n, length_of_refusal k n w r)

-- ---- one step

-- what a step is asked: it is one of the group's, and the window is accepted
abbrev pub StepOf : Kind → ℕ → ℕ → List ℤ → Type 0
StepOf k n s w = ((1 ≤ s) × (s ≤ n)) × (Ranked k n × WindowOf k n w)

pub step_of : (g : Group) {s : ℕ} (w : List ℤ) → (1 ≤ s) × (s ≤ g.rank) → WindowOf g.kind g.rank w → StepOf g.kind g.rank s w
step_of g w h r = (h, (in_range_ranked g.kind g.rank g.in_range, r))

-- every step has an entry at s − 1, step n of B and D too
place_lt : (k : Kind) (n s : ℕ) (w : List ℤ) → 1 ≤ s → s ≤ n → WindowOf k n w → s - 1 < length w
place_lt A n s w h l r = omega (arith, length_of_refusal A n w r)
place_lt B n s w h l r = omega (arith, length_of_refusal B n w r)
place_lt D n s w h l r = omega (arith, length_of_refusal D n w r)

pub place_lt_of_step : (k : Kind) (n s : ℕ) (w : List ℤ) → StepOf k n s w → s - 1 < length w
place_lt_of_step k n s w h = place_lt k n s w h.0.0 h.0.1 h.1.1

swap_eq_act-suc : (k : Kind) (n p : ℕ) (w : List ℤ) → suc p < lanes k n → from (suc p - 1) swap w ≡ act k n (suc p) w
swap_eq_act-suc k n p w h = let e : suc p - 1 ≡ p = omega arith in rw (e, act-swap k n p h)

-- a step below the number of lanes swaps two entries
pub swap_is_act : (k : Kind) (n s : ℕ) (w : List ℤ) → StepOf k n s w → s < length w → from (s - 1) swap w ≡ act k n s w
swap_is_act k n zero w h l = let z : ⊥ = omega (arith, h.0.0) in absurd z
swap_is_act k n (suc p) w h l = swap_eq_act-suc k n p w (rw (length_of_refusal k n w h.1.1) at l)

-- any other step is step n, and the kind is B or D
pub last_step : (k : Kind) (n s : ℕ) (w : List ℤ) → s ≤ n → length w ≤ s → WindowOf k n w → (s ≡ n) × (length w ≡ n)
last_step A n s w h l r = let z : ⊥ = omega (arith, length_of_refusal A n w r) in absurd z
last_step B n s w h l r = omega (arith, length_of_refusal B n w r)
last_step D n s w h l r = omega (arith, length_of_refusal D n w r)

pub last_is_D : (k : Kind) (n s : ℕ) (w : List ℤ) → StepOf k n s w → length w ≤ s → (k ≡ B → ⊥) → k ≡ D
last_is_D A n s w h l f = let z : ⊥ = omega (arith, length_of_refusal A n w h.1.1, h.0.1) in absurd z
last_is_D B n s w h l f = absurd (f refl)
last_is_D D n s w h l f = refl

module _ (k : Kind) (n s : ℕ) (w : List ℤ) (h : StepOf k n s w) (l : length w ≤ s) where
  last : (s ≡ n) × (length w ≡ n)
  last = last_step k n s w h.0.1 l h.1.1

  small : (p : ℕ) → nat_abs (get_or w p (pos 0)) < 128
  small p = size_lt_of_refusal k n p w h.1.0.1 h.1.1

  pub negate_at_asks : (n - 1 < length w) × (nat_abs (get_or w (n - 1) (pos 0)) < 128)
  negate_at_asks = (omega (arith, last, h.0.0), small (n - 1))

  pub negate_first_is_act : k ≡ B → from (n - 1) negate_first w ≡ act k n s w
  negate_first_is_act e = rw (e, last.0, act-B_last n (n - 1) (omega (arith, last, h.0.0)))

  -- the entry read at s − 1, as code holds it, is the one at p
  held_eq_get_or : (p : ℕ) → s - 1 ≡ p → mag (get_or w (s - 1) (pos 0)) < 128 → held (get_or w (s - 1) (pos 0)) ≡ get_or w p (pos 0)
  held_eq_get_or p e m = element_back (get_or w (s - 1) (pos 0)) m ∙ ap (λ (i : ℕ). get_or w i (pos 0)) e

  pub held_is_last : mag (get_or w (s - 1) (pos 0)) < 128 → held (get_or w (s - 1) (pos 0)) ≡ get_or w (n - 1) (pos 0)
  held_is_last = held_eq_get_or (n - 1) (omega (arith, last))

  pub four_le : (k ≡ B → ⊥) → 4 ≤ n
  four_le f = rw (last_is_D k n s w h l f) at h.1.0.0

  pub swap_negate_at_asks : (k ≡ B → ⊥)
      → (n - 2 + 1 < length w) × ((nat_abs (get_or w (n - 2) (pos 0)) < 128) × (nat_abs (get_or w (n - 2 + 1) (pos 0)) < 128))
  swap_negate_at_asks f = (omega (arith, last, four_le f), (small (n - 2), small (n - 2 + 1)))

  pub held_is_last_of_D : (k ≡ B → ⊥) → mag (get_or w (s - 1) (pos 0)) < 128 → held (get_or w (s - 1) (pos 0)) ≡ get_or w (n - 2 + 1) (pos 0)
  held_is_last_of_D f = held_eq_get_or (n - 2 + 1) (omega (arith, last, four_le f))

  pub swap_negate_is_act : (k ≡ B → ⊥) → from (n - 2) swap_negate w ≡ act k n s w
  swap_negate_is_act f = rw (last_is_D k n s w h l f, last.0, act-D_last n (n - 2) (omega (arith, four_le f)))
