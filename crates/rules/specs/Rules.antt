-- The rules, a finite list for each kind and rank (R1 to R15 of the specification).
use Rattle.std.specs.Prelude.{◌≡◌, Bool, true, false, ◌&&◌, ℕ, ◌+◌, ◌-◌, ◌*◌, eqb, length, take, drop}
use mathlib.Core.List.{List, [], ◌∷◌, ◌++◌, Memᴰ}
use Rattle.std.proofs.Math.Option.{Option, none, some}
use Rattle.coxeter.specs.declared.Kind.{Kind}
use Rattle.coxeter.specs.declared.Kind.TheVariants.{A, B, D}
use Rattle.coxeter.specs.Kinds.{pick}
use Rattle.coxeter.specs.NormalForm.{rise, block}

-- R1, R18, R19: family, i and j as one rewrite returns them, and the two sides
pub record Rule : Type 0 where
  pub family : ℕ
  pub i : ℕ
  pub j : ℕ
  pub left : List ℕ
  pub right : List ℕ

-- Helper of R2 to R12: a rule from its five fields.
abbrev pub rule : ℕ → ℕ → ℕ → List ℕ → List ℕ → Rule
rule f i j l r = record { family = f; i = i; j = j; left = l; right = r }

-- Helper of R2 to R9: the rules that `f` gives for each number of a list, in order.
unfoldable pub concat_map : (ℕ → List Rule) → List ℕ → List Rule
concat_map f [] = []
concat_map f (i ∷ is) = f i ++ concat_map f is

-- R2
unfoldable pub family1 : ℕ → List Rule
family1 n = concat_map (λ i. rule 1 i 0 (i ∷ i ∷ []) [] ∷ []) (rise 1 n)

-- R3, R4: i j → j i
abbrev pub commuted : ℕ → ℕ → Rule
commuted i j = rule 2 i j (i ∷ j ∷ []) (j ∷ i ∷ [])

-- R3 for A and B, R4 for D
unfoldable pub family2 : Kind → ℕ → List Rule
family2 A n = concat_map (λ i. concat_map (λ j. commuted i j ∷ []) (rise (i + 2) n)) (rise 1 n)
family2 B n = concat_map (λ i. concat_map (λ j. commuted i j ∷ []) (rise (i + 2) n)) (rise 1 n)
family2 D n =
    concat_map (λ i. concat_map (λ j. pick (eqb (i + 2) n && eqb j n) [] (commuted i j ∷ [])) (rise (i + 2) n)) (rise 1 n)
    ++ (commuted (n - 1) n ∷ [])

-- R5, R6, R7: [i,j] i → (i + 1) [i,j]
abbrev pub carried : Kind → ℕ → ℕ → ℕ → Rule
carried k n i j = rule 3 i j (block k n i j ++ (i ∷ [])) ((i + 1) ∷ block k n i j)

-- R5 for A, R6 for B, R7 for D
unfoldable pub family3 : Kind → ℕ → List Rule
family3 A n = concat_map (λ i. concat_map (λ j. carried A n i j ∷ []) (rise (i + 1) n)) (rise 1 n)
family3 B n = concat_map (λ i. concat_map (λ j. carried B n i j ∷ []) (rise (i + 1) (2 * n - i - 2))) (rise 1 n)
family3 D n =
    concat_map (λ i. concat_map (λ j. carried D n i j ∷ []) (rise (i + 1) (2 * n - i - 2))) (rise 1 (n - 3))
    ++ (carried D n (n - 2) (n - 1) ∷ [])

-- R8, R9: [i,2n−i] (i + 1) → (i + 1) [i,2n−i]
abbrev pub turned : Kind → ℕ → ℕ → Rule
turned k n i = rule 4 i 0 (block k n i (2 * n - i) ++ ((i + 1) ∷ [])) ((i + 1) ∷ block k n i (2 * n - i))

-- R8 for B, R9 for D
unfoldable pub family4 : Kind → ℕ → List Rule
family4 A n = []
family4 B n = concat_map (λ i. turned B n i ∷ []) (rise 1 (n - 1))
family4 D n = concat_map (λ i. turned D n i ∷ []) (rise 1 (n - 3))

-- R10, R11, R12, in this order
unfoldable pub families5to7 : Kind → ℕ → List Rule
families5to7 A n = []
families5to7 B n = []
families5to7 D n =
    rule 5 (n - 2) 0 ((n - 2) ∷ n ∷ (n - 2) ∷ []) (n ∷ (n - 2) ∷ n ∷ [])
    ∷ rule 6 (n - 2) 0 (block D n (n - 2) (n + 2) ++ (n ∷ [])) ((n - 1) ∷ block D n (n - 2) (n + 2))
    ∷ rule 7 (n - 2) 0 (block D n (n - 2) (n + 2) ++ ((n - 1) ∷ [])) (n ∷ block D n (n - 2) (n + 2))
    ∷ []

-- R2 to R12: the rules of a kind and rank
unfoldable pub rules : Kind → ℕ → List Rule
rules k n = family1 n ++ (family2 k n ++ (family3 k n ++ (family4 k n ++ families5to7 k n)))

-- R14: the word v begins with u
unfoldable pub begins : List ℕ → List ℕ → Bool
begins [] v = true
begins (a ∷ u) [] = false
begins (a ∷ u) (b ∷ v) = eqb a b && begins u v

-- R14: the rule fits at place p of u: its left side begins there and lies wholly inside
unfoldable pub fits : Rule → List ℕ → ℕ → Bool
fits r u p = begins r.left (drop p u)

-- R16: the first rule of a list that fits at place p. Of the rules of a kind and rank at most one does (R15),
-- so their order plays no part.
unfoldable pub first_fitting : List Rule → List ℕ → ℕ → Option Rule
first_fitting [] u p = none
first_fitting (r ∷ rs) u p = pick (fits r u p) (some r) (first_fitting rs u p)

-- R16, T9: what stands before, the right side, what stands after
unfoldable pub rewritten : Rule → List ℕ → ℕ → List ℕ
rewritten r u p = take p u ++ (r.right ++ drop (p + length r.left) u)

-- T10: of the rules of a list none fits, in document 01's words, at any place
abbrev pub Irreducible : List Rule → List ℕ → Type 0
Irreducible rs u = (r : Rule) → Memᴰ r rs → (p : ℕ) → fits r u p ≡ false
