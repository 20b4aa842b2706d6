-- The two words of a split from the windows in work arrays: each window is the front of its array, and any list of
-- allowed steps that strips the inverse leads to the two words of the definition.
-- Assumes nothing.
use mathlib.Core.Path.{◌≡◌, refl, sym, ◌∙◌}
use mathlib.Core.Bool.{Bool, true, false}
use mathlib.Core.List.{List}
use Prim.Native.Nat.{ℕ, ◌≤◌, ◌<◌}
use native.Mathlib.Nat.{lt_of_not-le}
use native.Mathlib.Decide.{dec_le}
use native.Mathlib.Omega.{arith}
use lib.Dec.{ltb}
use lib.IntN.{ℤ}
use lib.ListN.{length}
use borrow.Author.Tests.{ltb-true, ltb-false}
use Rattle.coxeter.specs.declared.Kind.{Kind}
use Rattle.coxeter.specs.answers.Answer as answer
use Rattle.coxeter.specs.Windows.{product, inverse}
use Rattle.coxeter.specs.Length.{window_length}
use Rattle.coxeter.specs.Checks.{WindowOf}
use Rattle.coxeter.specs.NormalForm.{normal_form}
use Rattle.coxeter.specs.Calls.{Yields, writes}
use Rattle.coxeter.proofs.Groups.{InRange, group_lanes_le}
use Rattle.coxeter.proofs.Levels.{accepted_of_refusal, refusal_of_accepted}
use Rattle.coxeter.proofs.Inverses.{length-inverse, inverse_accepted}
use Rattle.coxeter.proofs.Lengths.{length-normal_form}
use Rattle.shortest_words.specs.answers.Split.{Split}
use Rattle.shortest_words.specs.answers.Split.{Words, Refused}
use Rattle.shortest_words.specs.Allowed.{allows}
use Rattle.shortest_words.specs.Split.{first_word, second_word}
use Rattle.shortest_words.specs.SplitCalls.{split_outcome, SplitYields}
use Rattle.shortest_words.proofs.Shortest.{window_length-inverse}
use Rattle.shortest_words.proofs.SplitOutcomes.{first_short, second_short, parts_written}
use Rattle.shortest_words.proofs.Stripping.{Strips, rest_accepted, split_by_strips}
use Rattle.descents.proofs.Answers.{told_length, told_refused}

module _ (k : Kind) (n : ℕ) (w : List ℤ) (h : InRange k n) (g : WindowOf k n w) where
  -- the inverse of a window fits its work array
  pub inverse_small : length (inverse w) ≤ 64
  inverse_small = omega (arith, length-inverse w, (accepted_of_refusal k n w g).size, group_lanes_le k n h)

  -- the normal form of an inverse is as long as the window
  pub form_of_inverse : length (normal_form k n (inverse w)) ≡ window_length k w
  form_of_inverse =
      let a = accepted_of_refusal k n w g in
      length-normal_form k n (inverse w) (inverse_accepted k n w a) ∙ window_length-inverse k n w h.0 a

-- two words u and v, each to the front of its output; t says whether the second lacks room for its l letters
module _ (v second : List ℕ) {t : Bool} {l : ℕ} (e : t ≡ ltb (length second) l) (q : length v ≡ l) where
  pub second_lacks : (u first : List ℕ) → t ≡ true → SplitYields (split_outcome 0 u v first second) (Refused 14) first second
  second_lacks u first f =
      let s : length second < length v = rw q (ltb-true (length second) l (sym e ∙ f)) in
      elim (dec_le (length u) (length first)) [
        | yes g ↦ second_short u v first second (length u) (length v) refl refl g s
        | no g ↦ first_short u v first second (length u) 0 refl (lt_of_not-le g)
      ]

  pub second_fits : t ≡ false → length v ≤ length second
  second_fits f = rw q (ltb-false (length second) l (sym e ∙ f))

-- x is what the call for the first left, y what that for the second did
module _ (u v first second : List ℕ) {x : List ℕ} where
  pub first_lacks : (s : ℕ) → Yields (writes 0 u first) (answer.Refused s) x → SplitYields (split_outcome 0 u v first second) (Refused s) x second
  first_lacks s p =
      let d = told_refused 0 u first x (answer.Refused s) refl p s refl in
      rw (d.2, d.1) (first_short u v first second (length u) 0 refl d.0)

  pub both_written : (l m : ℕ) {y : List ℕ} → Yields (writes 0 u first) (answer.Length l) x → Yields (writes 0 v second) (answer.Length m) y
      → SplitYields (split_outcome 0 u v first second) (Words l m) x y
  both_written l m {y} i g =
      let c = told_length 0 u first x (answer.Length l) refl i l refl in
      let d = told_length 0 v second y (answer.Length m) refl g m refl in
      parts_written u v first second l m c.0 d.0 c.1 x y d.1 c.2 d.2

-- what is left, x, of the inverse of w
module _ (k : Kind) (n set : ℕ) (w : List ℤ) (h : InRange k n) (g : WindowOf k n w) {x : List ℤ} (s : Strips (allows set) k n (inverse w) x) where
  pub rest_passes : WindowOf k n x
  rest_passes = refusal_of_accepted k n x (rest_accepted (allows set) k n w x h.0 (accepted_of_refusal k n w g) s)

  pub parts_are : (first second : List ℕ) (r : Split) (i j : List ℕ)
      → SplitYields (split_outcome 0 (normal_form k n (product w x)) (normal_form k n (inverse x)) first second) r i j
      → SplitYields (split_outcome 0 (first_word (allows set) k n w) (second_word (allows set) k n w) first second) r i j
  parts_are first second r i j t =
      let e = split_by_strips (allows set) k n w h.0 (accepted_of_refusal k n w g) x s in
      rw (← e.0, ← e.1) t
