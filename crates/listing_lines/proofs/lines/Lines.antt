-- The lines of the listing put field by field, and their lengths, in the form in which the code meets them.
-- Assumes nothing.
use mathlib.Core.Path.{◌≡◌}
use mathlib.Core.List.{List, [], ◌∷◌, ◌++◌}
use Prim.Native.Nat.{ℕ, ◌+◌}
use native.Mathlib.Omega.{arith}
use lib.IntN.{ℤ}
use lib.ListN.{length, length-append}
use Rattle.coxeter.specs.declared.Kind.{Kind}
use Rattle.coxeter.proofs.Lists.{Stored, stored_append}
use Rattle.listing_text.specs.Text.{decimal, spaced, letters, entries, kind_letter, head, tail, preset_line}
use Rattle.listing_text.specs.Text.{refused_text, refused, refused_line}

-- ---- lengths

pub length_labelled : (u : List ℕ) (x : ℕ) → length (u ++ decimal x ++ (10 ∷ [])) ≡ length u + length (decimal x) + 1
length_labelled u x = simp length-append (omega arith)

pub length-refused_line : (i r : ℕ) → length (refused_line i r) ≡ length (decimal i) + length (refused_text ++ decimal r ++ (10 ∷ []))
unfolding refused_line refused
length-refused_line i r = length-append (decimal i) (refused r)

pub length-head : (i : ℕ) (k : Kind) (n l : ℕ) → length (head i k n l) ≡ length (decimal i) + 2 + length (spaced n) + length (spaced l) + 1
unfolding head
length-head i k n l = simp length-append (omega arith)

pub length-tail : (u : List ℕ) (w : List ℤ) → length (tail u w) ≡ length (letters u) + 2 + length (entries w) + 1
unfolding tail
length-tail u w = simp length-append (omega arith)

pub length-preset_line : (i : ℕ) (k : Kind) (n : ℕ) (u : List ℕ) (w : List ℤ)
    → length (preset_line i k n u w) ≡ length (head i k n (length u)) + length (tail u w)
unfolding preset_line
length-preset_line i k n u w = length-append (head i k n (length u)) (tail u w)

pub ruleset line_lengths = (length_labelled, length-refused_line, length-head, length-tail, length-preset_line)

-- ---- lines

pub kind_put : (o : List ℕ) (at : ℕ) (k : Kind) {y : ℕ} {out : List ℕ} {r : ℕ} → y ≡ kind_letter k → Stored o at (32 ∷ y ∷ []) out r
    → Stored o at (32 ∷ kind_letter k ∷ []) out r
kind_put o at k e h = rw (← e) h

module _ (o : List ℕ) (at : ℕ) {o₁ : List ℕ} {a : ℕ} {o₂ : List ℕ} {b : ℕ} where
  pub refused_line-put : (i r : ℕ) → Stored o at (decimal i) o₁ a → Stored o₁ a (refused_text ++ decimal r ++ (10 ∷ [])) o₂ b
      → Stored o at (refused_line i r) o₂ b
  unfolding refused_line refused
  refused_line-put i r h₁ h₂ = stored_append o at (decimal i) (refused r) h₁ h₂

  pub preset_line-put : (i : ℕ) (k : Kind) (n : ℕ) (u : List ℕ) (w : List ℤ) → Stored o at (head i k n (length u)) o₁ a → Stored o₁ a (tail u w) o₂ b
      → Stored o at (preset_line i k n u w) o₂ b
  unfolding preset_line
  preset_line-put i k n u w h₁ h₂ = stored_append o at (head i k n (length u)) (tail u w) h₁ h₂

  module _ {o₃ : List ℕ} {c : ℕ} where
    pub labelled_put : (u : List ℕ) (x : ℕ) → Stored o at u o₁ a → Stored o₁ a (decimal x) o₂ b → Stored o₂ b (10 ∷ []) o₃ c
        → Stored o at (u ++ decimal x ++ (10 ∷ [])) o₃ c
    labelled_put u x h₁ h₂ h₃ = stored_append o at (u ++ decimal x) (10 ∷ []) (stored_append o at u (decimal x) h₁ h₂) h₃

    module _ {o₄ : List ℕ} {d : ℕ} where
      pub tail-put : (u : List ℕ) (w : List ℤ) → Stored o at (letters u) o₁ a → Stored o₁ a (32 ∷ 124 ∷ []) o₂ b → Stored o₂ b (entries w) o₃ c
          → Stored o₃ c (10 ∷ []) o₄ d
          → Stored o at (tail u w) o₄ d
      unfolding tail
      tail-put u w h₁ h₂ h₃ h₄ =
          let h = stored_append o at (letters u) (32 ∷ 124 ∷ []) h₁ h₂ in
          let g = stored_append o at (letters u ++ (32 ∷ 124 ∷ [])) (entries w) h h₃ in
          stored_append o at (letters u ++ (32 ∷ 124 ∷ []) ++ entries w) (10 ∷ []) g h₄

      pub head-put : {o₅ : List ℕ} {e : ℕ} (i : ℕ) (k : Kind) (n l : ℕ) → Stored o at (decimal i) o₁ a → Stored o₁ a (32 ∷ kind_letter k ∷ []) o₂ b
          → Stored o₂ b (spaced n) o₃ c → Stored o₃ c (spaced l) o₄ d → Stored o₄ d (58 ∷ []) o₅ e → Stored o at (head i k n l) o₅ e
      unfolding head
      head-put i k n l h₁ h₂ h₃ h₄ h₅ =
          let y : ℕ = kind_letter k in
          let h = stored_append o at (decimal i) (32 ∷ y ∷ []) h₁ h₂ in
          let g = stored_append o at (decimal i ++ (32 ∷ y ∷ [])) (spaced n) h h₃ in
          let f = stored_append o at (decimal i ++ (32 ∷ y ∷ []) ++ spaced n) (spaced l) g h₄ in
          stored_append o at (decimal i ++ (32 ∷ y ∷ []) ++ spaced n ++ spaced l) (58 ∷ []) f h₅
