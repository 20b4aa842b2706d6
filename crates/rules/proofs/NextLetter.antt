-- What the next letter x of level i does to the block [i,j], by the numbers alone: it makes the block longer, or a
-- rule fits at its end. Here the kinds are told apart; what each case means for the words (Extending) is then one
-- proof for the three.
-- Assumes nothing.
use mathlib.Core.Path.{◌≡◌, refl}
use mathlib.Core.Logic.{◌⊎◌, inl, inr, ⊎_elim}
use Prim.Native.Nat.{ℕ, suc, ◌+◌, ◌-◌, ◌*◌, ◌≤◌, ◌<◌}
use native.Mathlib.Decide.{dec_le, ℕ_discrete}
use native.Mathlib.Omega.{arith}
use Rattle.coxeter.specs.declared.Kind.{Kind}
use Rattle.coxeter.specs.declared.Kind.TheVariants.{A, B, D}
use Rattle.coxeter.specs.Kinds.{least}
use Rattle.coxeter.specs.NormalForm.{levels, last_index}
use Rattle.coxeter.proofs.KindLaws.{le_levels}
use Rattle.coxeter.proofs.LetterRuns.{Corner}
use Rattle.rules.proofs.Families.{Commutes, Carries, Turns, IsD}
use Rattle.coxeter.proofs.Order.{less, same, more, compared}
use Rattle.rules.proofs.Letters.{commutes_below}

-- ---- the cases

-- the block [i,j] ends in the letter l: j on the way up, d = 2n − j after the turn
pub data Last (n i j : ℕ) : ℕ → Type 0 where
  rising : {l : ℕ} → l ≡ j → i ≤ j → j < n → Last n i j l
  falling : {d : ℕ} → n ≤ j → d + j ≡ 2 * n → Last n i j d

-- the first three make the block longer, the others are the families 1 to 7 in their order
pub data Next (k : Kind) (n i j x : ℕ) : Type 0 where
  climbs : x ≡ suc j → x < n → Next k n i j x
  tops : suc j ≡ levels k n → x ≡ n → Next k n i j x
  falls : n ≤ j → suc (x + j) ≡ 2 * n → suc j ≤ last_index k n i → Next k n i j x
  repeats : Last n i j x → Next k n i j x
  commutes : {l : ℕ} → Last n i j l → Commutes k n l x → Next k n i j x
  carries : x < j → x < n → j ≤ last_index k n x → Carries k n x j → Next k n i j x
  turns : {d : ℕ} → n ≤ j → d + j ≡ 2 * n → d < n → d + 1 ≡ x → Turns k n d → Next k n i j x
  fives : IsD k → j ≡ n → x + 2 ≡ n → Next k n i j x
  sixes : (a : ℕ) → IsD k → a + 2 ≡ n → j ≡ n + 2 → x ≡ n → Next k n i j x
  sevens : (a : ℕ) → IsD k → a + 2 ≡ n → j ≡ n + 2 → x ≡ a + 1 → Next k n i j x

-- ---- the levels and the last index

pub levels-D : (k : Kind) (n : ℕ) → IsD k → levels k n ≡ n - 1
levels-D A n w = absurd w
levels-D B n w = absurd w
levels-D D n w = refl

pub le_corner : (k : Kind) (n c : ℕ) → Corner k n c → n ≤ suc c
le_corner A n c e = omega arith
le_corner B n c e = omega arith
le_corner D n c e = omega arith

pub corner_D : (k : Kind) (n c : ℕ) → IsD k → Corner k n c → c + 1 ≡ n
corner_D A n c w e = absurd w
corner_D B n c w e = absurd w
corner_D D n c w e = e

pub corner_levels : (k : Kind) (n : ℕ) → least k ≤ n → Corner k n (levels k n)
corner_levels A n h = refl
corner_levels B n h = refl
corner_levels D n h = omega arith

-- every j of the way up is an index of every level
pub le_last_index : (k : Kind) (n i j : ℕ) → i ≤ n → j ≤ n → j ≤ last_index k n i
le_last_index A n i j h g = g
le_last_index B n i j h g = omega arith
le_last_index D n i j h g = omega arith

-- an index of level i is one of each level x up to 2n − j
pub le_last_index_of : (k : Kind) (n i x j : ℕ) → j ≤ last_index k n i → x + j ≤ 2 * n → j ≤ last_index k n x
le_last_index_of A n i x j h g = h
le_last_index_of B n i x j h g = omega arith
le_last_index_of D n i x j h g = omega arith

pub last_index_le : (k : Kind) (n i : ℕ) → last_index k n i ≤ 2 * n
last_index_le A n i = omega arith
last_index_le B n i = omega arith
last_index_le D n i = omega arith

-- a block of level i does not go below i
pub level_le_last : (k : Kind) {n i j d : ℕ} → i ≤ n → j ≤ last_index k n i → d + j ≡ 2 * n → i ≤ d
level_le_last A h g e = omega arith
level_le_last B h g e = omega arith
level_le_last D h g e = omega arith

-- ---- on the way up

pub commutes_top : (k : Kind) (n i : ℕ) → i < n → (suc i ≡ levels k n → ⊥) → Commutes k n i n
commutes_top A n i h f = omega arith
commutes_top B n i h f = omega arith
commutes_top D n i h f =
    elim (dec_le (i + 3) n) [ yes g ↦ inr (inl (g, refl)) | no g ↦ inr (inr (omega arith, refl)) ]

carries_rising : (k : Kind) (n x j : ℕ) → x < j → j < n → Carries k n x j
carries_rising A n x j h g = omega arith
carries_rising B n x j h g = omega arith
carries_rising D n x j h g = elim (dec_le (x + 3) n) [ yes t ↦ inl (t, omega arith) | no t ↦ inr (omega arith, omega arith) ]

-- the block is not empty, or only the top is left of its way up, as for the empty block of the last level
pub next_rising : {k : Kind} {n i j x : ℕ} → (i ≤ j) ⊎ (suc j ≡ levels k n) → j < n → i ≤ x → x ≤ n → Next k n i j x
next_rising {k} {n} {i} {j} {x} s h g l =
    elim (compared x j) [
      | less t ↦ carries t (omega arith) (le_last_index k n x j l (omega arith)) (carries_rising k n x j t h)
      | same t ↦ repeats (rising t (omega arith) h)
      | more t ↦ elim (compared x n) [ less r ↦ below r t | same r ↦ top r | more r ↦ absurd (omega arith) ]
    ]
  where
    commuted : (suc j ≡ levels k n → ⊥) → Commutes k n j x → Next k n i j x
    commuted f w = commutes {l = j} (rising refl (⊎_elim (λ a. a) (λ b. absurd (f b)) s) h) w

    below : x < n → j < x → Next k n i j x
    below r t =
        elim (compared x (suc j)) [
          | less q ↦ absurd (omega arith)
          | same q ↦ climbs q r
          | more q ↦ commuted (λ b. omega (arith, le_levels k n)) (commutes_below k n j x (omega arith) r)
        ]

    top : x ≡ n → Next k n i j x
    top r =
        elim (ℕ_discrete (suc j) (levels k n)) [ yes q ↦ tops q r | no q ↦ commuted q (rw r (commutes_top k n j h q)) ]

-- ---- after the turn

next_lower : {k : Kind} {n i j : ℕ} (d : ℕ) {x : ℕ} → n ≤ j → j ≤ last_index k n i → d + j ≡ 2 * n → 1 ≤ i → i ≤ x → x < d → Next k n i j x
next_lower {k = A} d h g e o m t = carries (omega arith) (omega arith) g g
next_lower {k = B} d {x} h g e o m t =
    elim (compared (suc x) d) [
      | less q ↦ carries (omega arith) (omega arith) (omega arith) (omega arith)
      | same q ↦ falls h (omega arith) (omega arith)
      | more q ↦ absurd (omega arith)
    ]
next_lower {k = D} {n} d {x} h g e o m t =
    elim (compared (suc x) d) [
      | less q ↦
          elim (compared (x + 2) n) [
            | less r ↦ carries (omega arith) (omega arith) (omega arith) (inl (omega arith, omega arith))
            | same r ↦ fives tt (omega arith) r
            | more r ↦ absurd (omega arith)
          ]
      | same q ↦ falls h (omega arith) (omega arith)
      | more q ↦ absurd (omega arith)
    ]

next_higher : {k : Kind} {n i j : ℕ} (d : ℕ) {x : ℕ} → n ≤ j → j ≤ last_index k n i → d + j ≡ 2 * n → d < x → x ≤ n → Next k n i j x
next_higher {k = A} d h g e t l = absurd (omega arith)
next_higher {k = B} d {x} h g e t l =
    elim (compared (d + 1) x) [
      | less q ↦ commutes {l = d} (falling h e) (omega arith)
      | same q ↦ turns {d = d} h e (omega arith) q (omega arith)
      | more q ↦ absurd (omega arith)
    ]
next_higher {k = D} {n} d {x} h g e t l =
    elim (compared (d + 2) n) [
      | less r ↦
          elim (compared (d + 1) x) [
            | less q ↦ commutes {l = d} (falling h e)
                (elim (compared x n) [ less p ↦ inl (omega arith, p) | same p ↦ inr (inl (omega arith, p)) | more p ↦ absurd (omega arith) ])
            | same q ↦ turns {d = d} h e (omega arith) q (omega arith)
            | more q ↦ absurd (omega arith)
          ]
      | same r ↦
          elim (compared x n) [
            | less q ↦ sevens d tt r (omega arith) (omega arith)
            | same q ↦ sixes d tt r (omega arith) q
            | more q ↦ absurd (omega arith)
          ]
      | more r ↦ commutes {l = d} (falling h e) (inr (inr (omega arith, omega arith)))
    ]

pub next_falling : {k : Kind} {n i j x : ℕ} → n ≤ j → j ≤ last_index k n i → 1 ≤ i → i ≤ x → x ≤ n → Next k n i j x
next_falling {k} {n} {i} {j} {x} h g o m l =
    let d : ℕ = 2 * n - j in
    let e : d + j ≡ 2 * n = omega (arith, last_index_le k n i) in
    elim (compared x d) [
      | less t ↦ next_lower d h g e o m t
      | same t ↦ repeats (falling {d = x} h (omega arith))
      | more t ↦ next_higher d h g e t l
    ]
