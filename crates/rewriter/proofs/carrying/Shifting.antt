-- The turns of the loops of the module `carrying` that move letters of the word by one place.
--
-- Sections: by one to the right; past letters that commute.
-- Assumes nothing.
use mathlib.Core.Path.{◌≡◌, refl, sym, ap, ap₂, ◌∙◌}
use mathlib.Core.Bool.{Bool, true}
use mathlib.Core.List.{List, ◌∷◌, ◌++◌}
use Prim.Native.Nat.{ℕ, zero, suc, ◌-◌, ◌≤◌, ◌<◌}
use native.Mathlib.Decide.{ℕ_discrete}
use native.Mathlib.Omega.{arith}
use lib.ListN.{length, get_or, take, drop, set, get_or-append}
use lib.Seq.{length-take-le, take-suc, drop-cons, append_snoc, split_at, set_at, set-set, get_or-take}
use Rattle.traces.proofs.TwoLetters.{commuting}

-- ---- by one to the right

-- y at place t of w, and what stood from there up to before q moved on by one
abbrev pub put : List ℕ → ℕ → ℕ → ℕ → List ℕ
put w t q y = take t w ++ ((y ∷ take (q - t) (drop t w)) ++ drop (suc q) w)

pub put_none : (w : List ℕ) (q : ℕ) → q < length w → w ≡ put w q q (get_or w q 0)
put_none w q h = let e : q - q ≡ 0 = omega arith in rw e (split_at w q 0 h)

module _ (w word : List ℕ) (q : ℕ) (h : q < length w) where
  pub put_set : (t y : ℕ) → t ≤ q → word ≡ put w t q (get_or w t 0) → set word t y ≡ put w t q y
  put_set t y l e = ap (λ (v : List ℕ). set v t y) e ∙ set_at (take t w) (get_or w t 0) _ y t (length-take-le t w (omega arith))

  -- the letter before
  pub put_read : (t y : ℕ) → 0 < t → t ≤ q → word ≡ put w t q y → get_or word (t - 1) 0 ≡ get_or w (t - 1) 0
  put_read t y o l e =
      ap (λ (v : List ℕ). get_or v (t - 1) 0) e
      ∙ get_or-append (take t w) _ 0 (t - 1) (rw (length-take-le t w (omega arith)) (omega arith))
      ∙ get_or-take t w (t - 1) 0 (omega arith)

  pub put_next : (t : ℕ) → 0 < t → t ≤ q → word ≡ put w t q (get_or w t 0) → set word t (get_or word (t - 1) 0) ≡ put w (t - 1) q (get_or w (t - 1) 0)
  put_next zero o l e = absurd (omega arith)
  put_next (suc t) o l e =
      let z : suc t - 1 ≡ t = omega arith in
      let b : ℕ = get_or w t 0 in
      let m : List ℕ = take (q - suc t) (drop (suc t) w) in
      let read : get_or word t 0 ≡ b = rw z at (put_read (suc t) _ o l e) in
      let s : q - t ≡ suc (q - suc t) = omega arith in
      let inner : take (q - t) (drop t w) ≡ b ∷ m = ap₂ take s (drop-cons w t 0 (omega arith)) in
      rw (z, read)
      (put_set (suc t) b l e ∙ ap (λ (v : List ℕ). v ++ ((b ∷ m) ++ drop (suc q) w)) (take-suc w t 0 (omega arith))
      ∙ append_snoc (take t w) b ((b ∷ m) ++ drop (suc q) w)
      ∙ ap (λ (v : List ℕ). take t w ++ ((b ∷ v) ++ drop (suc q) w)) (sym inner))

  pub put_end : (t place first : ℕ) → place ≤ t → t ≤ place → place ≤ q → word ≡ put w t q (get_or w t 0) → set word place first ≡ put w place q first
  put_end t place first a b l e = let z : t ≡ place = omega arith in put_set place first l (rw z at e)

-- ---- past letters that commute

-- y swapped with the letter before it
pub put-commuted : (w : List ℕ) (q p y : ℕ) → q < length w → suc p ≤ q
    → set (set (put w (suc p) q y) (suc p) (get_or (put w (suc p) q y) p 0)) p y ≡ put w p q y
put-commuted w q p y h l =
    let z : suc p - 1 ≡ p = omega arith in
    let v : List ℕ = put w (suc p) q (get_or w (suc p) 0) in
    let here = rw z at (put_read w (put w (suc p) q y) q h (suc p) y (omega arith) l refl) in
    let there = rw z at (put_read w v q h (suc p) _ (omega arith) l refl) in
    rw (here ∙ sym there, ← put_set w v q h (suc p) y l refl, set-set v (suc p) y (get_or v p 0))
    (put_set w _ q h p y (omega arith) (rw z at (put_next w v q h (suc p) (omega arith) l refl)))

-- the letter x commutes with each letter from place t up to before q
module _ (n c : ℕ) (w : List ℕ) (q x : ℕ) where
  abbrev pub CommutesFrom : ℕ → Type 0
  CommutesFrom t = (j : ℕ) → t ≤ j → j < q → commuting n c (get_or w j 0) x ≡ true

  pub commutes_from_next : (t : ℕ) {l : ℕ} {done : Bool} → l ≡ get_or w (t - 1) 0 → done ≡ commuting n c l x → done ≡ true → CommutesFrom t → CommutesFrom (t - 1)
  commutes_from_next t e d z f j a b = elim (ℕ_discrete j (t - 1)) [
    | yes g ↦ rw (g, ← e, ← d) z
    | no g ↦ f j (omega arith) b
  ]
