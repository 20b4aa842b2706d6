-- The verdict that `walk::decide` reaches, from what keeping letters left of the word and of the target.
-- Assumes nothing.
use mathlib.Core.Path.{◌≡◌, ap, ◌∙◌}
use mathlib.Core.Bool.{Bool, true, false}
use mathlib.Core.List.{List, []}
use Prim.Native.Nat.{ℕ, ◌≤◌, ◌<◌}
use native.Mathlib.Omega.{arith}
use lib.IntN.{ℤ}
use lib.ListN.{length}
use Rattle.coxeter.specs.declared.Kind.{Kind}
use Rattle.coxeter.specs.Kinds.{lanes}
use Rattle.coxeter.specs.Windows.{identity}
use Rattle.coxeter.specs.Checks.{wrong_letter, WordOf, WindowOf}
use Rattle.coxeter.specs.Calls.{front, same_window}
use Rattle.coxeter.proofs.Acceptance.{letters_accepted}
use Rattle.coxeter.proofs.Groups.{InRange, group_lanes_le}
use Rattle.coxeter.proofs.Levels.{Accepted, accepted_of_refusal}
use Rattle.shortest_words.specs.answers.Fallback.{Kept, No, Refused}
use Rattle.shortest_words.proofs.FallbackWalk.{left_over, places_kept, marked}
use Rattle.shortest_words.proofs.Verdicts.{Decided, decided_no, decided_short, decided_kept}

-- what `keep_letters` ensures
abbrev pub LettersKept : Kind → ℕ → List ℕ → List ℤ → List ℕ → List ℤ → ℕ → Type 0
LettersKept k n u w f x m =
    (m ≡ length (marked 0 f))
    × (marked 0 f ≡ places_kept k n u (length u) w [])
    × (x ≡ left_over k n u (length u) w)

module _ (k : Kind) (n : ℕ) (u : List ℕ) (w : List ℤ) (h : InRange k n) (a : WordOf n u) (b : WindowOf k n w) where
  letters : wrong_letter n u ≡ false
  letters = letters_accepted n u a

  accepted : Accepted k n w
  accepted = accepted_of_refusal k n w b

  pub left_length : (m : ℕ) → m ≡ length w → m ≤ 127
  left_length m e = omega (arith, group_lanes_le k n h, e ∙ accepted.size)

  -- f and x are the word and the target afterwards, m how many letters are kept, t whether the target is straight
  module _ (f : List ℕ) (x : List ℤ) (m : ℕ) (g : LettersKept k n u w f x m) (e : length x ≡ length w) {t : Bool}
      (s : t ≡ same_window x (identity (length x))) (places : List ℕ) where
    ends : t ≡ same_window x (identity (lanes k n))
    ends = s ∙ ap (λ (l : ℕ). same_window x (identity l)) (e ∙ accepted.size)

    pub decide_no : t ≡ false → Decided k n u w places No places
    decide_no z = decided_no k n u w places h.0 letters accepted x t g.2 ends z

    pub decide_short : t ≡ true → length places < m → Decided k n u w places (Refused 14) places
    decide_short z = decided_short k n u w places h.0 letters accepted x t g.2 ends z (marked 0 f) m g.1 g.0

    pub decide_kept : (after : List ℕ) → t ≡ true → m ≤ length places → after ≡ front (marked 0 f) places
        → Decided k n u w places (Kept m) after
    decide_kept after z = decided_kept k n u w places h.0 letters accepted x t g.2 ends z (marked 0 f) m g.1 g.0 after
