-- What `front` makes of a list and an output: the list, and behind it what the output held. By the laws of `++`.
-- Assumes nothing.
use mathlib.Core.Path.{◌≡◌, sym, ap, ◌∙◌}
use mathlib.Core.List.{List, ◌++◌, append-nil}
use Prim.Native.Nat.{ℕ, ◌+◌, ◌-◌, ◌≤◌, ◌<◌}
use native.Mathlib.Nat.{zero-add}
use native.Mathlib.Omega.{arith}
use lib.ListN.{length, get_or, take, drop, length-append, length-drop, drop_of_length-le, get_or-append}
use lib.Seq.{take_at, drop_at, get_or-append-add, get_or-drop, sets, sets-eq}
use Rattle.coxeter.specs.Calls.{front}

module _ {X : Type 0} (l out : List X) where
  pub take-front : (m : ℕ) → length l ≡ m → take m (front l out) ≡ l
  unfolding front
  take-front m e = take_at l (drop (length l) out) m e

  -- CO7, I2: what lies behind stays
  pub drop-front : (m : ℕ) → length l ≡ m → drop m (front l out) ≡ drop m out
  unfolding front
  drop-front m e = drop_at l (drop (length l) out) m e ∙ ap (λ (i : ℕ). drop i out) e

  length_front : length l ≤ length out → length (front l out) ≡ length out
  unfolding front
  length_front h = length-append l (drop (length l) out) ∙ omega (arith, length-drop (length l) out)

  -- an output with no room behind is the list alone
  pub front_whole : length out ≤ length l → front l out ≡ l
  unfolding front
  front_whole h = ap (λ (r : List X). l ++ r) (drop_of_length-le out h) ∙ append-nil l

  -- CO7, I2: each place holds what the list has there, or behind the list what the output held there
  pub front-entries : ((p : ℕ) (d : X) → p < length l → get_or (front l out) p d ≡ get_or l p d)
      × ((p : ℕ) (d : X) → length l ≤ p → get_or (front l out) p d ≡ get_or out p d)
      × (length l ≤ length out → length (front l out) ≡ length out)
      × (length out ≤ length l → front l out ≡ l)
  unfolding front
  front-entries = (
    λ p d. get_or-append l (drop (length l) out) d p,
    λ p d h.
        let e : length l + (p - length l) ≡ p = omega arith in
        ap (λ (i : ℕ). get_or (l ++ drop (length l) out) i d) (sym e)
        ∙ get_or-append-add l (drop (length l) out) (p - length l) d
        ∙ get_or-drop (length l) out (p - length l) d
        ∙ ap (λ (i : ℕ). get_or out i d) e,
    length_front,
    front_whole,
  )

  -- stored one after the other
  pub sets-front : length l ≤ length out → sets out 0 l ≡ front l out
  unfolding front
  sets-front h = sets-eq l out 0 (omega arith) ∙ ap (λ (m : ℕ). l ++ drop m out) (zero-add (length l))

  -- as a part of a slice and the rest of it
  pub front_parts : (m : ℕ) (v : List X) → length l ≡ m → v ≡ l → v ++ drop m out ≡ front l out
  unfolding front
  front_parts m v e w = rw (w, ← e)

-- of an output with room, both at once
pub length-take-front : {X : Type 0} (m : ℕ) (l out v : List X) → length l ≡ m → m ≤ length out → v ≡ front l out
    → (length v ≡ length out) × (take m v ≡ l)
length-take-front m l out v e h w = rw w (length_front l out (omega arith), take-front l out m e)

-- written over what was written before, with as many elements
pub front_again : {X : Type 0} (l o out : List X) → length l ≡ length o → front l (front o out) ≡ front l out
front_again {X} l o out e = unfold front in ap (λ (r : List X). l ++ r) (drop-front o out (length l) (sym e))
