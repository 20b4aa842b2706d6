-- Where `ending::place_of` needs no search: before the letter that moves each letter is at most one above the one
-- before it, unless the kind is D, so a letter as far below the last as it stands before it begins a rise by ones.
-- By the two-letter rules, of which none fits there.
-- Assumes nothing.
use mathlib.Core.Path.{◌≡◌, refl, sym, ap, subst, ◌∙◌}
use mathlib.Core.Bool.{Bool, true, false, true≢false}
use mathlib.Core.Logic.{inr}
use mathlib.Core.List.{List, [], ◌∷◌, ◌++◌, append_assoc}
use Prim.Native.Nat.{ℕ, zero, suc, ◌+◌, ◌-◌, ◌≤◌, ◌<◌}
use native.Mathlib.Decide.{ℕ_discrete}
use native.Mathlib.Omega.{arith}
use lib.ListN.{length, get_or, take, drop, take-append-drop}
use lib.Seq.{length-take-le, take-suc, take-take, drop_at}
use borrow.Author.Tests.{eq-eqb, ne_eqb, ltb-false}
use Rattle.coxeter.specs.declared.Kind.{Kind}
use Rattle.coxeter.specs.Kinds.{least}
use Rattle.coxeter.specs.Checks.{wrong_letter}
use Rattle.coxeter.specs.NormalForm.{levels}
use Rattle.coxeter.proofs.LetterLaws.{letter_at}
use Rattle.rules.specs.Rules.{rules}
use Rattle.rules.proofs.Fits.{first_fitting_some}
use Rattle.traces.proofs.LeastWords.{Normal, normal_front, letters_left}
use Rattle.traces.proofs.TwoLetters.{commuting, commute_fits}
use Rattle.traces.proofs.Reading.{Reading, reading_inside, reading_before}
use Rattle.traces.proofs.ReadingSteps.{Stopped}

-- letters that do not commute, where the last level is n
rise_of_none : (n l x : ℕ) → commuting n n l x ≡ false → x ≤ l + 1
unfolding commuting
rise_of_none n l x e = elim (ℕ_discrete x n) [
  | no t ↦ ltb-false (l + 1) x (rw (ne_eqb x n t) at e)
  | yes t ↦ elim (ℕ_discrete (l + 1) n) [
    | yes c ↦ omega arith
    | no c ↦ let g : x ≤ l = ltb-false l x (rw (eq-eqb x n t, ne_eqb (l + 1) n c) at e) in omega arith
  ]
]

module _ {k : Kind} {n : ℕ} (h : least k ≤ n) {z : List ℕ} {q : ℕ} (r : Reading k n z q) where
  normal_upto : (t : ℕ) → t ≤ q → Normal k n (take t z)
  normal_upto t l =
      let m : Normal k n (take q z) = record {
        letters = letters_left n (take q z) (drop q z) (ap (wrong_letter n) (take-append-drop q z) ∙ r.letters);
        irreducible = reading_before k n h z q r;
      } in
      subst (Normal k n) (take-take t q z l)
      (normal_front k n h (take t (take q z)) (drop t (take q z)) (subst (Normal k n) (sym (take-append-drop t (take q z))) m))

  none_commute : (t : ℕ) → suc (suc t) ≤ q → commuting n (levels k n) (get_or z t 0) (get_or z (suc t) 0) ≡ false
  none_commute t l = none_commute_by_cases (commuting n (levels k n) (get_or z t 0) (get_or z (suc t) 0)) refl
    where
      i : q < length z
      i = reading_inside k n h z q r

      two : List ℕ
      two = get_or z t 0 ∷ get_or z (suc t) 0 ∷ []

      ends : drop t (take (suc (suc t)) z) ≡ two
      ends =
          ap (drop t)
          (take-suc z (suc t) 0 (omega (arith, i)) ∙ ap (λ (w : List ℕ). w ++ (get_or z (suc t) 0 ∷ [])) (take-suc z t 0 (omega (arith, i)))
          ∙ append_assoc (take t z) (get_or z t 0 ∷ []) (get_or z (suc t) 0 ∷ []))
          ∙ drop_at (take t z) two t (length-take-le t z (omega (arith, i)))

      none_commute_by_cases : (b : Bool) → commuting n (levels k n) (get_or z t 0) (get_or z (suc t) 0) ≡ b → b ≡ false
      none_commute_by_cases false e = refl
      none_commute_by_cases true e =
          let m = normal_upto (suc (suc t)) l in
          let x = (letter_at n z (suc t) (omega (arith, i)) r.letters).1 in
          let f = first_fitting_some (rules k n) (take (suc (suc t)) z) t _
          (commute_fits k n h (take (suc (suc t)) z) t (get_or z t 0) (get_or z (suc t) 0) m.letters ends x e) in
          absurd (true≢false (sym f.1 ∙ m.irreducible _ f.0 t))

  module _ (c : levels k n ≡ n) where
    rise : (t : ℕ) → suc (suc t) ≤ q → get_or z (suc t) 0 ≤ get_or z t 0 + 1
    rise t l = rise_of_none n (get_or z t 0) (get_or z (suc t) 0) (rw c at (none_commute t l))

    rises : (d v : ℕ) → suc (v + d) ≤ q → get_or z (v + d) 0 ≤ get_or z v 0 + d
    rises zero v l = let e : v + 0 ≡ v = omega arith in rw e (omega arith)
    rises (suc d) v l =
        let e : v + suc d ≡ suc (v + d) = omega arith in
        rw e (omega (arith, rise (v + d) (omega arith), rises d v (omega arith)))

    -- the letter at p is as far below the last one as it stands before it
    pub stopped_rising : {floor p : ℕ} → get_or z q 0 ≤ get_or z (q - 1) 0 → p + (get_or z (q - 1) 0 - get_or z q 0) + 1 ≡ q → get_or z p 0 ≡ get_or z q 0
        → Stopped z floor q (get_or z q 0) p
    stopped_rising {p} g e s = record { inside = omega arith; above = above; ends = inr (omega arith, omega arith) }
      where
        above : (v : ℕ) → p < v → v < q → get_or z q 0 < get_or z v 0
        above v a b =
            let d : v + (q - 1 - v) ≡ q - 1 = omega arith in
            omega (arith, rw d at (rises (q - 1 - v) v (omega arith)))
