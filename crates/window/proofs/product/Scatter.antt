-- The inverse in one pass, as code computes it: each entry's position, with the entry's sign, is stored at the
-- entry's size. Shown by the element at each position: it is the place of that size where the size is there, and
-- what stood there before where it is not.
-- Assumes nothing.
use mathlib.Core.Path.{◌≡◌, refl, sym, ap, ◌∙◌}
use mathlib.Core.Bool.{Bool, true, false, ◌||◌, true≢false}
use mathlib.Core.List.{List, [], ◌∷◌, ◌++◌}
use Prim.Native.Nat.{ℕ, suc, ◌+◌, ◌-◌, ◌≤◌, ◌<◌}
use native.Mathlib.Omega.{arith}
use lib.Dec.{eqb, ltb}
use lib.IntN.{ℤ, pos, nat_abs}
use lib.ListN.{length, get_or, drop, set, length-set, length-append, length-drop, get_or-append}
use lib.Seq.{ext_get_or, get_or-set_same, get_or-set_other, get_or-append-add, get_or-drop}
use borrow.Author.Tests.{eqb-true, eqb-false, ltb-true, ltb-false}
use Rattle.coxeter.specs.Kinds.{pick}
use Rattle.coxeter.specs.Windows.{signed, place_from, inverse}
use Rattle.coxeter.specs.Checks.{has_size}
use Rattle.coxeter.proofs.Levels.{Between, Distinct, Level, level_has_size}
use Rattle.coxeter.proofs.Places.{has_size_beyond}
use Rattle.coxeter.proofs.Inverses.{length-inverse, get_or-inverse}
use Rattle.coxeter.proofs.Sizes.{has_size-head, has_size-tail}

-- the entries of w stand at positions k, k + 1, ..
unfoldable pub scatter : List ℤ → ℕ → List ℤ → List ℤ
scatter out k [] = out
scatter out k (e ∷ w) = scatter (set out (nat_abs e - 1) (signed e k)) (suc k) w

length-scatter : (out : List ℤ) (k : ℕ) (w : List ℤ) → length (scatter out k w) ≡ length out
unfolding scatter
length-scatter out k [] = refl
length-scatter out k (e ∷ w) = length-scatter (set out (nat_abs e - 1) (signed e k)) (suc k) w ∙ length-set out (nat_abs e - 1) (signed e k)

-- where no entry has the size, nothing is stored
get_or-scatter_missing : (out : List ℤ) (k : ℕ) (w : List ℤ) (c p : ℕ) → Between 1 c w → has_size (suc p) w ≡ false
    → get_or (scatter out k w) p (pos 0) ≡ get_or out p (pos 0)
unfolding scatter has_size
get_or-scatter_missing out k [] c p b h = refl
get_or-scatter_missing out k (e ∷ w) c p b h =
    let ne : nat_abs e ≡ suc p → ⊥ = eqb-false (nat_abs e) (suc p) (has_size-head (suc p) e w h) in
    get_or-scatter_missing (set out (nat_abs e - 1) (signed e k)) (suc k) w c p b.2 (has_size-tail (suc p) e w h)
    ∙ get_or-set_other out (nat_abs e - 1) p (signed e k) (pos 0) (omega arith)

-- where one has, its place is
get_or-scatter : (out : List ℤ) (k : ℕ) (w : List ℤ) (c p : ℕ) → Between 1 c w → Distinct w → c ≤ suc (length out) → has_size (suc p) w ≡ true
    → get_or (scatter out k w) p (pos 0) ≡ place_from k w (suc p)
unfolding scatter has_size place_from
get_or-scatter out k [] c p b d l h = absurd (true≢false (sym h))
get_or-scatter out k (e ∷ w) c p b d l h =
    get_or-scatter_by_cases (eqb (nat_abs e) (suc p)) refl h (λ t. get_or-scatter next (suc k) w c p b.2 d.1
    (rw (length-set out (nat_abs e - 1) (signed e k)) l) t)
  where
    next : List ℤ
    next = set out (nat_abs e - 1) (signed e k)

    get_or-scatter_by_cases : (t : Bool) → eqb (nat_abs e) (suc p) ≡ t → (t || has_size (suc p) w) ≡ true
        → (has_size (suc p) w ≡ true → get_or (scatter next (suc k) w) p (pos 0) ≡ place_from (suc k) w (suc p))
        → get_or (scatter next (suc k) w) p (pos 0) ≡ pick t (signed e k) (place_from (suc k) w (suc p))
    get_or-scatter_by_cases true q h r =
        let s : nat_abs e ≡ suc p = eqb-true (nat_abs e) (suc p) q in
        let i : nat_abs e - 1 ≡ p = omega arith in
        get_or-scatter_missing next (suc k) w c p b.2 (rw s at d.0)
        ∙ ap (λ (j : ℕ). get_or (set out j (signed e k)) p (pos 0)) i
        ∙ get_or-set_same out p (signed e k) (pos 0) (omega arith)
    get_or-scatter_by_cases false q h r = r h

-- what is stored is the inverse, and the bytes behind it stay
pub scatter-inverse : (w out : List ℤ) → Level 1 w → length w ≤ length out → scatter out 1 w ≡ inverse w ++ drop (length w) out
scatter-inverse w out h l =
    ext_get_or (pos 0) (scatter out 1 w) (inverse w ++ rest)
    (length-scatter out 1 w ∙ omega (arith, length-append (inverse w) rest, length-inverse w, length-drop (length w) out))
    (λ p a. entry p (ltb p (length w)) refl)
  where
    rest : List ℤ
    rest = drop (length w) out

    entry : (p : ℕ) (t : Bool) → ltb p (length w) ≡ t → get_or (scatter out 1 w) p (pos 0) ≡ get_or (inverse w ++ rest) p (pos 0)
    entry p true q =
        let a : p < length w = ltb-true p (length w) q in
        get_or-scatter out 1 w (1 + length w) p h.between h.distinct (omega arith) (level_has_size 1 (suc p) w h (omega arith) (omega arith))
        ∙ sym (get_or-append (inverse w) rest (pos 0) p (rw (length-inverse w) a) ∙ get_or-inverse w p a)
    entry p false q =
        let a : length w ≤ p = ltb-false p (length w) q in
        let i : length w + (p - length w) ≡ p = omega arith in
        let j : length (inverse w) + (p - length w) ≡ p = omega (arith, length-inverse w) in
        get_or-scatter_missing out 1 w (1 + length w) p h.between (has_size_beyond 1 (1 + length w) (suc p) w (omega arith) h.between)
        ∙ sym (ap (λ (x : ℕ). get_or (inverse w ++ rest) x (pos 0)) (sym j)
        ∙ get_or-append-add (inverse w) rest (p - length w) (pos 0)
        ∙ get_or-drop (length w) out (p - length w) (pos 0)
        ∙ ap (λ (x : ℕ). get_or out x (pos 0)) i)
