-- Windows by their entries (K7 to K9, W1, W3, W4, W6, W7, W9, A2 and L1 of the specification): which entries a step
-- changes and how, the straight window, the window of a word letter by letter, products, inverses, and the order of
-- the entries. Positions count from 1 in the specification and from 0 here, so that position i there is i − 1 here.
--
-- Sections: steps; words; products; inverses; the order of the entries.
-- Assumes nothing.
use mathlib.Core.Path.{◌≡◌, refl, sym, ap, ◌∙◌}
use mathlib.Core.Logic.{◌↔◌}
use mathlib.Core.List.{List, [], ◌∷◌, ◌++◌, map}
use Prim.Native.Nat.{ℕ, zero, suc, ◌+◌, ◌-◌, ◌*◌, ◌≤◌, ◌<◌}
use native.Mathlib.Decide.{dec_le}
use native.Mathlib.Numerals.{add-one}
use native.Mathlib.Omega.{arith}
use lib.Dec.{ltb}
use lib.IntN.{ℤ, pos, negsuc, neg_ℤ, nat_abs}
use lib.ListN.{length, get_or, set, length-set, length-map, get_or-eq_default}
use lib.Seq.{get_or-set_same, get_or-set_other}
use borrow.Author.Tests.{lt-ltb, le-ltb}
use Rattle.coxeter.specs.declared.Kind.{Kind}
use Rattle.coxeter.specs.declared.Kind.TheVariants.{B, D}
use Rattle.coxeter.specs.Kinds.{pick, lanes, up}
use Rattle.coxeter.specs.Windows.{from, swap, negate_first, swap_negate, act, window_from, identity, window, at, product, inverse}
use Rattle.coxeter.specs.Length.{later}
use Rattle.coxeter.specs.Checks.{WindowOf}
use Rattle.coxeter.proofs.Basics.{length_up, length-identity, window_from-append}
use Rattle.coxeter.proofs.Levels.{Between, Accepted, accepted_of_refusal}
use Rattle.coxeter.proofs.Steps.{act-swap, act-B_last, act-D_last}
use Rattle.coxeter.proofs.Products.{get_or-up, get_d_map, get_or-identity, length-product, get_or-product, at_negate, product_assoc}
use Rattle.coxeter.proofs.Products.{product-identity, identity-product}
use Rattle.coxeter.proofs.Inverses as inverses

-- ---- steps

-- a list after x was stored at position p and y at position p + 1
pair_set : (p : ℕ) {x y : ℤ} (w v : List ℤ) → suc p < length w → v ≡ set (set w p x) (suc p) y
    → (get_or v p (pos 0) ≡ x) × (get_or v (suc p) (pos 0) ≡ y) × ((i : ℕ) → (i ≡ p → ⊥) → (i ≡ suc p → ⊥) → get_or v i (pos 0) ≡ get_or w i (pos 0))
pair_set p {x} {y} w v h e =
    rw e (
      get_or-set_other (set w p x) (suc p) p y (pos 0) (λ q. omega arith) ∙ get_or-set_same w p x (pos 0) (omega arith),
      get_or-set_same (set w p x) (suc p) y (pos 0) (omega (arith, length-set w p x)),
      λ i f g. get_or-set_other (set w p x) (suc p) i y (pos 0) g ∙ get_or-set_other w p i x (pos 0) f,
    )

swap_set : (p : ℕ) (w : List ℤ) → suc p < length w → from p swap w ≡ set (set w p (get_or w (suc p) (pos 0))) (suc p) (get_or w p (pos 0))
unfolding from swap
swap_set zero [] h = absurd (omega arith)
swap_set zero (x ∷ []) h = absurd (omega arith)
swap_set zero (x ∷ y ∷ w) h = refl
swap_set (suc p) [] h = absurd (omega arith)
swap_set (suc p) (x ∷ w) h = ap (λ (l : List ℤ). x ∷ l) (swap_set p w (omega arith))

negate_first_set : (p : ℕ) (w : List ℤ) → p < length w → from p negate_first w ≡ set w p (neg_ℤ (get_or w p (pos 0)))
unfolding from negate_first
negate_first_set zero [] h = absurd (omega arith)
negate_first_set zero (x ∷ w) h = refl
negate_first_set (suc p) [] h = absurd (omega arith)
negate_first_set (suc p) (x ∷ w) h = ap (λ (l : List ℤ). x ∷ l) (negate_first_set p w (omega arith))

swap_negate_set : (p : ℕ) (w : List ℤ) → suc p < length w
    → from p swap_negate w ≡ set (set w p (neg_ℤ (get_or w (suc p) (pos 0)))) (suc p) (neg_ℤ (get_or w p (pos 0)))
unfolding from swap_negate
swap_negate_set zero [] h = absurd (omega arith)
swap_negate_set zero (x ∷ []) h = absurd (omega arith)
swap_negate_set zero (x ∷ y ∷ w) h = refl
swap_negate_set (suc p) [] h = absurd (omega arith)
swap_negate_set (suc p) (x ∷ w) h = ap (λ (l : List ℤ). x ∷ l) (swap_negate_set p w (omega arith))

-- K7: step s, in kind A every step and in B and D every step below n, swaps the entries at positions s and s + 1
-- and changes no other
pub step_swaps : (k : Kind) (n s : ℕ) (w : List ℤ) → 1 ≤ s → s < lanes k n → s < length w
    → (get_or (act k n s w) (s - 1) (pos 0) ≡ get_or w s (pos 0))
    × (get_or (act k n s w) s (pos 0) ≡ get_or w (s - 1) (pos 0))
    × ((i : ℕ) → (i ≡ s - 1 → ⊥) → (i ≡ s → ⊥) → get_or (act k n s w) i (pos 0) ≡ get_or w i (pos 0))
step_swaps k n zero w o l h = absurd (omega arith)
step_swaps k n (suc p) w o l h =
    let e : suc p - 1 ≡ p = omega arith in
    rw e (pair_set p w (act k n (suc p) w) h (ap (λ f. f w) (act-swap k n p l) ∙ swap_set p w h))

-- K8: in kind B step n changes the sign of the entry at position n and changes no other
pub last_step_in_B : (n : ℕ) (w : List ℤ) → 1 ≤ n → n ≤ length w
    → (get_or (act B n n w) (n - 1) (pos 0) ≡ neg_ℤ (get_or w (n - 1) (pos 0)))
    × ((i : ℕ) → (i ≡ n - 1 → ⊥) → get_or (act B n n w) i (pos 0) ≡ get_or w i (pos 0))
last_step_in_B zero w o h = absurd (omega arith)
last_step_in_B (suc p) w o h =
    let e : suc p - 1 ≡ p = omega arith in
    let s : act B (suc p) (suc p) w ≡ set w p (neg_ℤ (get_or w p (pos 0))) =
    ap (λ f. f w) (act-B_last (suc p) p (omega arith)) ∙ negate_first_set p w h in
    rw (e, s) (get_or-set_same w p _ (pos 0) h, λ i f. get_or-set_other w p i _ (pos 0) f)

-- K9: in kind D step n swaps the entries at positions n − 1 and n, changes the sign of both, and changes no other
pub last_step_in_D : (n : ℕ) (w : List ℤ) → 2 ≤ n → n ≤ length w
    → (get_or (act D n n w) (n - 2) (pos 0) ≡ neg_ℤ (get_or w (n - 1) (pos 0)))
    × (get_or (act D n n w) (n - 1) (pos 0) ≡ neg_ℤ (get_or w (n - 2) (pos 0)))
    × ((i : ℕ) → (i ≡ n - 2 → ⊥) → (i ≡ n - 1 → ⊥) → get_or (act D n n w) i (pos 0) ≡ get_or w i (pos 0))
last_step_in_D zero w o h = absurd (omega arith)
last_step_in_D (suc zero) w o h = absurd (omega arith)
last_step_in_D (suc (suc p)) w o h =
    let e : suc (suc p) - 2 ≡ p = omega arith in
    let f : suc (suc p) - 1 ≡ suc p = omega arith in
    rw (e, f)
    (pair_set p w (act D (suc (suc p)) (suc (suc p)) w) h
    (ap (λ g. g w) (act-D_last (suc (suc p)) p (omega arith)) ∙ swap_negate_set p w h))

-- ---- words

-- W3: the straight window of m lanes has m entries, and its entry on lane i is i
pub identity-entries : (m : ℕ) → (length (identity m) ≡ m) × ((i : ℕ) → i < m → get_or (identity m) i (pos 0) ≡ pos (i + 1))
identity-entries m = (length-identity m, λ i h. rw add-one (get_or-identity m i h))

-- W1, A2: from any window on, the empty word changes nothing, and one letter more at the end is one step more
pub window_from_letter_by_letter : (k : Kind) (n : ℕ) (w : List ℤ) → (window_from k n w [] ≡ w)
    × ((u : List ℕ) (s : ℕ) → window_from k n w (u ++ (s ∷ [])) ≡ act k n s (window_from k n w u))
unfolding window_from
window_from_letter_by_letter k n w = (refl, λ u s. window_from-append k n w u (s ∷ []))

-- W4, W6: the empty word has the straight window, and one letter more at the end is one step more, however long the
-- word is
pub window_letter_by_letter : (k : Kind) (n : ℕ) → (window k n [] ≡ identity (lanes k n))
    × ((u : List ℕ) (s : ℕ) → window k n (u ++ (s ∷ [])) ≡ act k n s (window k n u))
unfolding window
window_letter_by_letter k n = window_from_letter_by_letter k n (identity (lanes k n))

-- ---- products

-- W7: u(i) is the entry of u on lane i, and u(−i) is −u(i)
pub at-entries : (u : List ℤ) (i : ℕ) → (at u (pos (i + 1)) ≡ get_or u i (pos 0)) × (at u (neg_ℤ (pos (i + 1))) ≡ neg_ℤ (at u (pos (i + 1))))
unfolding at
at-entries u i = (rw add-one, at_negate u (pos (i + 1)))

-- W7: the product of u and v has as many entries as v, and on lane i the entry u(v(i))
pub product-entries : (u v : List ℤ) → (length (product u v) ≡ length v)
    × ((i : ℕ) → get_or (product u v) i (pos 0) ≡ at u (get_or v i (pos 0)))
product-entries u v = (length-product u v, get_or-product u v)

-- ---- inverses

-- where w(x) is a number above 0, x has at most the number of entries for its size
at_inside : (w : List ℤ) (x : ℤ) (i : ℕ) → at w x ≡ pos (suc i) → nat_abs x ≤ length w
unfolding at
at_inside w (pos zero) i e = omega arith
at_inside w (pos (suc p)) i e =
    elim (dec_le (suc p) (length w)) [
      | yes h ↦ h
      | no h ↦
          let z : pos 0 ≡ pos (suc i) = sym (get_or-eq_default w (pos 0) (omega arith)) ∙ e in
          let q : 0 ≡ suc i = cc in
          absurd (omega arith)
    ]
at_inside w (negsuc p) i e =
    elim (dec_le (suc p) (length w)) [
      | yes h ↦ h
      | no h ↦
          let z : pos 0 ≡ pos (suc i) = sym (ap neg_ℤ (get_or-eq_default w (pos 0) (omega arith))) ∙ e in
          let q : 0 ≡ suc i = cc in
          absurd (omega arith)
    ]

between-entries : (m : ℕ) (v : List ℤ) → ((i : ℕ) → i < length v → nat_abs (get_or v i (pos 0)) ≤ m) → Between 0 (suc m) v
between-entries m [] h = tt
between-entries m (x ∷ v) h = (omega arith, omega (arith, h 0 (omega arith)), between-entries m v (λ i l. h (suc i) (omega arith)))

module _ (k : Kind) (n : ℕ) (w : List ℤ) (h : WindowOf k n w) (v : List ℤ) where
  passed : Accepted k n w
  passed = accepted_of_refusal k n w h

  -- W9: of all lists v, the inverse of the window w is the only one whose product w v is the straight window
  pub right_inverse_exactly : (v ≡ inverse w) ↔ (product w v ≡ identity (lanes k n))
  right_inverse_exactly = (λ e. ap (product w) e ∙ inverses.product-inverse k n w passed, only)
    where
      sizes_le_lanes : product w v ≡ identity (lanes k n) → (i : ℕ) → i < length v → nat_abs (get_or v i (pos 0)) ≤ lanes k n
      sizes_le_lanes e i l =
          let s : length v ≡ lanes k n = sym (length-product w v) ∙ ap length e ∙ length-identity (lanes k n) in
          rw (← passed.size)
          (at_inside w (get_or v i (pos 0)) i
          (sym (get_or-product w v i) ∙ ap (λ (x : List ℤ). get_or x i (pos 0)) e ∙ get_or-identity (lanes k n) i (omega arith)))

      only : product w v ≡ identity (lanes k n) → v ≡ inverse w
      only e =
          sym (identity-product (lanes k n) v (between-entries (lanes k n) v (sizes_le_lanes e)))
          ∙ ap (λ (l : List ℤ). product l v) (sym (inverses.inverse-product k n w passed))
          ∙ product_assoc (inverse w) w v
          ∙ ap (product (inverse w)) e
          ∙ ap (λ (c : ℕ). product (inverse w) (identity c)) (sym (inverses.length-inverse w ∙ passed.size))
          ∙ product-identity (inverse w)

  -- W9: of all lists v with an entry for each lane, it is the only one whose product v w is the straight window
  pub left_inverse_exactly : (v ≡ inverse w) ↔ ((length v ≡ lanes k n) × (product v w ≡ identity (lanes k n)))
  left_inverse_exactly = (
    λ e. rw e (inverses.length-inverse w ∙ passed.size, inverses.inverse-product k n w passed),
    λ a.
        sym (product-identity v)
        ∙ ap (λ (c : ℕ). product v (identity c)) a.0
        ∙ ap (product v) (sym (inverses.product-inverse k n w passed))
        ∙ sym (product_assoc v w (inverse w))
        ∙ ap (λ (l : List ℤ). product l (inverse w)) a.1
        ∙ identity-product (lanes k n) (inverse w) (inverses.accepted_between k n (inverse w) (inverses.inverse_accepted k n w passed)),
  )

-- ---- the order of the entries

ltb_alike : (a b c d : ℕ) → (a < b → c < d) → (b ≤ a → d ≤ c) → ltb a b ≡ ltb c d
ltb_alike a b c d f g =
    elim (dec_le (suc a) b) [
      | yes h ↦ lt-ltb a b h ∙ sym (lt-ltb c d (f h))
      | no h ↦ le-ltb a b (omega arith) ∙ sym (le-ltb c d (g (omega arith)))
    ]

-- the entry at place i of 1, 2, .., m, −m, .., −2, −1
placed : ℕ → ℕ → ℤ
placed m i = pick (ltb i m) (pos (i + 1)) (negsuc (2 * m - 1 - i))

all_placed : ℕ → List ℤ
all_placed m = map (placed m) (up 0 (2 * m))

placed_at : (m i : ℕ) → i < 2 * m → get_or (all_placed m) i (pos 0) ≡ placed m i
unfolding all_placed
placed_at m i h =
    get_d_map (placed m) (up 0 (2 * m)) i (pos 0) 0 (rw length_up h) ∙ ap (placed m) (get_or-up 0 (2 * m) i 0 h ∙ omega arith)

placed_low : (m i : ℕ) → i < m → placed m i ≡ pos (i + 1)
unfolding placed
placed_low m i h = rw (lt-ltb i m h)

placed_high : (m i : ℕ) → m ≤ i → placed m i ≡ negsuc (2 * m - 1 - i)
unfolding placed
placed_high m i h = rw (le-ltb i m h)

placed_later : (m i j : ℕ) → i < 2 * m → j < 2 * m → later (placed m i) (placed m j) ≡ ltb j i
unfolding later
placed_later m i j h g =
    elim (dec_le m i) [
      | yes a ↦ elim (dec_le m j) [
        | yes b ↦ rw (placed_high m i a, placed_high m j b) (ltb_alike (2 * m - 1 - i) (2 * m - 1 - j) j i (λ c. omega arith) (λ c. omega arith))
        | no b ↦ rw (placed_high m i a, placed_low m j (omega arith)) (sym (lt-ltb j i (omega arith)))
      ]
      | no a ↦ elim (dec_le m j) [
        | yes b ↦ rw (placed_low m i (omega arith), placed_high m j b) (sym (le-ltb j i (omega arith)))
        | no b ↦ rw (placed_low m i (omega arith), placed_low m j (omega arith)) (ltb_alike (j + 1) (i + 1) j i (λ c. omega arith) (λ c. omega arith))
      ]
    ]

-- L1: in the list 1, 2, .., m, −m, .., −2, −1 the entry that stands later is the one at the higher place
pub later_by_place : (m : ℕ) → (order : List ℤ) × (length order ≡ 2 * m)
    × ((i : ℕ) → i < m → get_or order i (pos 0) ≡ pos (i + 1))
    × ((i : ℕ) → i < m → get_or order (2 * m - 1 - i) (pos 0) ≡ neg_ℤ (pos (i + 1)))
    × ((i j : ℕ) → i < 2 * m → j < 2 * m → later (get_or order i (pos 0)) (get_or order j (pos 0)) ≡ ltb j i)
later_by_place m = (
  all_placed m,
  unfold all_placed in length-map (up 0 (2 * m)) (placed m) ∙ length_up 0 (2 * m),
  λ i h. placed_at m i (omega arith) ∙ placed_low m i h,
  λ i h. placed_at m (2 * m - 1 - i) (omega arith) ∙ placed_high m (2 * m - 1 - i) (omega arith) ∙ rw add-one (ap negsuc (omega arith)),
  λ i j h g. rw (placed_at m i h, placed_at m j g) (placed_later m i j h g),
)
