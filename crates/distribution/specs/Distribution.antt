-- How many windows have each length (Y1 to Y3 of the specification). The delay table is the field's length
-- distribution.
use Rattle.std.specs.Prelude.{List, [], ◌∷◌, map, ℕ, zero, suc, ◌+◌, ◌*◌, ◌/◌, ◌^◌, eqb, length}
use Rattle.coxeter.specs.declared.Kind.{Kind}
use Rattle.coxeter.specs.declared.Kind.TheVariants.{A, B, D}
use Rattle.coxeter.specs.Kinds.{up}
use Rattle.coxeter.specs.Length.{window_length, greatest_length}
use Rattle.distribution.specs.AllWindows.{keep, windows}

-- Y1: the number of windows of length l
unfoldable pub of_length : Kind → ℕ → ℕ → ℕ
of_length k n l = length (keep (λ w. eqb (window_length k w) l) (windows k n))

-- Y1: the entries 0 to the greatest length, which is one more than that length
unfoldable pub distribution : Kind → ℕ → List ℕ
distribution k n = map (of_length k n) (up 0 (greatest_length k n + 1))

-- Helper of Y3: the sum of the entries.
unfoldable pub sum : List ℕ → ℕ
sum [] = 0
sum (x ∷ l) = x + sum l

-- Helper of Y3: n!
unfoldable pub factorial : ℕ → ℕ
factorial zero = 1
factorial (suc n) = suc n * factorial n

-- Y3: the number of windows, in the field's words the order of the group
abbrev pub order : Kind → ℕ → ℕ
order A n = factorial (n + 1)
order B n = 2 ^ n * factorial n
order D n = 2 ^ n * factorial n / 2
