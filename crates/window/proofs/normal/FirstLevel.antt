-- The first call of the recursion, with the places of the entries of an accepted window and all positions left: what
-- it is asked, and that the word that it writes is the normal form.
-- Assumes nothing.
use mathlib.Core.Path.{◌≡◌, refl, ap, ◌∙◌}
use mathlib.Core.Bool.{false}
use mathlib.Core.List.{List}
use Prim.Native.Nat.{ℕ, suc, ◌-◌, ◌^◌, ◌≤◌, ◌<◌}
use native.Mathlib.Omega.{arith}
use lib.IntN.{ℤ}
use lib.ListN.{length, get_or}
use lib.Pow.{pow_pos}
use lib.Seq.{sets}
use Rattle.coxeter.specs.declared.Kind.{Kind}
use Rattle.coxeter.specs.declared.Kind.TheVariants.{A, B, D}
use Rattle.coxeter.specs.Kinds.{lanes}
use Rattle.coxeter.specs.Checks.{WindowOf}
use Rattle.coxeter.specs.Calls.{front}
use Rattle.coxeter.specs.NormalForm.{levels, normal_form}
use Rattle.coxeter.proofs.Acceptance.{Ranked}
use Rattle.coxeter.proofs.Groups.{InRange, group_lanes_le}
use Rattle.coxeter.proofs.KindLaws.{one_le_levels}
use Rattle.coxeter.proofs.Levels.{Accepted, accepted_of_refusal}
use Rattle.coxeter.proofs.PeelingByPlaces.{PlacesOf, Place, last_level, peeled_word}
use Rattle.coxeter.proofs.FrontLaws.{sets-front}
use Rattle.window.proofs.normal.PeeledForms.{EntryFound, found, place_is, peeled_first}

-- the number of levels is the last level
last_is : (k : Kind) (n : ℕ) → last_level k (lanes k n) ≡ levels k n
last_is A n = omega arith
last_is B n = refl
last_is D n = refl

more_lanes : (k : Kind) (n : ℕ) → n ≤ lanes k n
more_lanes A n = omega arith
more_lanes B n = omega arith
more_lanes D n = omega arith

pub first_left : (m left : ℕ) → left ≡ 2 ^ m - 1 → left < 2 ^ m
first_left m left s = omega (arith, s, pow_pos m)

module _ (k : Kind) (n : ℕ) (h : InRange k n) (w : List ℤ) (g : WindowOf k n w) where
  own : Accepted k n w
  own = accepted_of_refusal k n w g

  pub first_rank : Ranked k (length w)
  first_rank = (omega (arith, own.size, h.0, more_lanes k n), rw own.size (group_lanes_le k n h))

  last : last_level k (length w) ≡ levels k n
  last = ap (last_level k) own.size ∙ last_is k n

  pub first_level : 1 ≤ last_level k (length w)
  first_level = omega (arith, last, one_le_levels k n h.0)

  module _ (places : List ℕ) {left : ℕ} (p : PlacesOf w places) (s : left ≡ 2 ^ length w - 1) where
    pub first_places : (i : ℕ) → i < length w → Place k (length w) (get_or places i 0)
    first_places i l =
        let f : EntryFound k (length w) places (suc i) w = found own.size own p (omega arith) l in
        let d : suc i - 1 ≡ i = omega arith in
        rw d at (place_is k (length w) places (suc i) f.left f.entry f.right first_rank.1 f.there)

    first_word : peeled_word k (length w) places 1 left false ≡ normal_form k n w
    unfolding normal_form
    first_word =
        let t : suc (last_level k (length w)) - 1 ≡ levels k n = omega (arith, last) in
        rw (t, s) (peeled_first k n (length w) places first_rank.1 own.size w own p)

    pub first_room : (l : ℕ) → length (normal_form k n w) ≤ l → length (peeled_word k (length w) places 1 left false) ≤ l
    first_room l a = rw first_word a

    pub first_written : (o : List ℕ) {out : List ℕ} {r : ℕ} → length (normal_form k n w) ≤ length o
        → (r ≡ length (peeled_word k (length w) places 1 left false)) × (out ≡ sets o 0 (peeled_word k (length w) places 1 left false))
        → (r ≡ length (normal_form k n w)) × (out ≡ front (normal_form k n w) o)
    first_written o l a = (a.0 ∙ ap length first_word, a.1 ∙ ap (sets o 0) first_word ∙ sets-front (normal_form k n w) o l)
