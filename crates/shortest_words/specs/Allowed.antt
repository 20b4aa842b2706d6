-- Allowed steps (S1 and C16 of the specification): a set of them as a test, which is asked of steps only, and as a
-- 64-bit number with its check.
use Rattle.std.specs.Prelude.{◌≡◌, Bool, true, ◌&&◌, List, [], ◌∷◌, ℕ, ◌-◌, ◌/◌, ◌%◌, ◌^◌, eqb, leb}
use Rattle.coxeter.specs.Checks.{check, ◌then◌, rank_refusal}

-- S2: every letter of the word is allowed
unfoldable pub over : (ℕ → Bool) → List ℕ → Bool
over allowed [] = true
over allowed (s ∷ u) = allowed s && over allowed u

-- S2: a word over allowed steps
abbrev pub Over : (ℕ → Bool) → List ℕ → Type 0
Over allowed u = over allowed u ≡ true

-- S1: step s, from 1 on, is allowed if bit s − 1 is 1
unfoldable pub allows : ℕ → ℕ → Bool
allows set s = eqb (set / 2 ^ (s - 1) % 2) 1

-- C16: the bits of the n steps make a number below 2 to the n
unfoldable pub wrong_set : ℕ → ℕ → Bool
wrong_set n set = leb (2 ^ n) set

-- I22, I23: checks 5, 6 and 16
unfoldable pub set_refusal : ℕ → ℕ → ℕ → ℕ
set_refusal k n set = rank_refusal k n then check 16 (wrong_set n set)
