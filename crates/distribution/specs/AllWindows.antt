-- The windows of a kind and rank as a list (Y2 of the specification): of all lists with an entry for each lane those
-- that pass checks 9 to 11. That each window is in it, none twice and nothing else: `windows_exactly` and
-- `windows_once` of proofs/AllWindows.antt.
use Rattle.std.specs.Prelude.{Bool, ℕ, zero, suc, eqb, ℤ, pos, negsuc}
use mathlib.Core.List.{List, [], ◌∷◌, ◌++◌, map, Memᴰ}
use Rattle.coxeter.specs.declared.Kind.{Kind}
use Rattle.coxeter.specs.Kinds.{pick, lanes, up}
use Rattle.coxeter.specs.Checks.{window_refusal}

-- Helper of Y2: x is in the list.
abbrev pub In : {X : Type 0} → X → List X → Type 0
In x l = Memᴰ x l

-- Y2: none is in the list twice
abbrev pub Once : {X : Type 0} → List X → Type 0
Once [] = Unit {0}
Once (x ∷ l) = (In x l → ⊥) × Once l

-- Helper of Y1 and Y2: those of the list for which the test holds.
unfoldable pub keep : {X : Type 0} → (X → Bool) → List X → List X
keep t [] = []
keep t (x ∷ l) = pick (t x) (x ∷ keep t l) (keep t l)

-- Helper of Y2: each of xs before each of the lists ls.
unfoldable pub cons_all : {X : Type 0} → List X → List (List X) → List (List X)
cons_all [] ls = []
cons_all (x ∷ xs) ls = map (λ l. x ∷ l) ls ++ cons_all xs ls

-- Helper of Y2: all lists of m elements out of xs.
unfoldable pub lists : {X : Type 0} → ℕ → List X → List (List X)
lists zero xs = [] ∷ []
lists (suc m) xs = cons_all xs (lists m xs)

-- W5: the entries 1, .., m and −1, .., −m; `negsuc s` is −(s + 1)
unfoldable pub possible_entries : ℕ → List ℤ
possible_entries m = map pos (up 1 m) ++ map negsuc (up 0 m)

-- W5, Y2: the windows of a kind and rank
unfoldable pub windows : Kind → ℕ → List (List ℤ)
windows k n = keep (λ w. eqb (window_refusal k n w) 0) (lists (lanes k n) (possible_entries (lanes k n)))
