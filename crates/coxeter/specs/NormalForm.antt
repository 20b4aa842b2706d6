-- Blocks and normal forms (section N of the specification): first blocks, then the normal form by peeling, then
-- what it has to be.
use Rattle.std.specs.Prelude.{◌≡◌, true, false, List, [], ◌∷◌, ◌++◌, ℕ, zero, suc, ◌-◌, ◌*◌, ◌≤◌, eqb, leb, ltb, ℤ, pos, negsuc, nat_abs, length}
use Rattle.coxeter.specs.declared.Kind.{Kind}
use Rattle.coxeter.specs.declared.Kind.TheVariants.{A, B, D}
use Rattle.coxeter.specs.Kinds.{pick, up}
use Rattle.coxeter.specs.Windows.{from, negate_first, window, place_from}
use Rattle.coxeter.specs.Dictionary.{shortlex}
use Rattle.coxeter.specs.Checks.{wrong_letter}

-- Helper of N6 and N8: the k numbers from i down: i, i − 1, ..
unfoldable pub down : ℕ → ℕ → List ℕ
down i zero = []
down i (suc k) = i ∷ down (i - 1) k

-- N4, N5, N7: the steps from i up to j, none if j is below i
unfoldable pub rise : ℕ → ℕ → List ℕ
rise i j = up i (suc j - i)

-- N6, N8: the steps from i down to j, none if j is above i
unfoldable pub fall : ℕ → ℕ → List ℕ
fall i j = down i (suc i - j)

-- N4 to N8, N11: the block [i,j]. In B and D it turns at n; D leaves n − 1 out on the way up.
unfoldable pub block : Kind → ℕ → ℕ → ℕ → List ℕ
block A n i j = rise i j
block B n i j = pick (leb j n) (rise i j) (rise i n ++ fall (n - 1) (2 * n - j))
block D n i j = pick (ltb j n) (rise i j) (rise i (n - 2) ++ (n ∷ fall (n - 1) (2 * n - j)))

-- N9: how many levels there are; they are document 01's i
abbrev pub levels : Kind → ℕ → ℕ
levels A n = n
levels B n = n
levels D n = n - 1

-- N9: the greatest j of level i
abbrev pub last_index : Kind → ℕ → ℕ → ℕ
last_index A n i = n
last_index B n i = 2 * n - i
last_index D n i = 2 * n - i

-- N9: the word of one block for each of the levels i, i + 1, .., whose js are listed; the higher levels stand to
-- the left
unfoldable pub blocks : Kind → ℕ → ℕ → List ℕ → List ℕ
blocks k n i [] = []
blocks k n i (j ∷ js) = blocks k n (suc i) js ++ block k n i j

-- N9: one j for each level from i to the last, each in its range
pub data Indices (k : Kind) (n : ℕ) : ℕ → List ℕ → Type 0 where
  none : {i : ℕ} → i ≡ suc (levels k n) → Indices k n i []
  level : {i j : ℕ} {js : List ℕ} → i ≤ levels k n → i ≤ suc j → j ≤ last_index k n i → Indices k n (suc i) js → Indices k n i (j ∷ js)

-- Helper of N10: w without its first entry of size i.
unfoldable pub without : ℕ → List ℤ → List ℤ
without i [] = []
without i (e ∷ w) = pick (eqb (nat_abs e) i) w (e ∷ without i w)

-- N10: the j of level i, from where i stands: p − 1 if i stands at position p, 2n − p if −i does
unfoldable pub index_of : ℕ → ℤ → ℕ
index_of n (pos p) = p - 1
index_of n (negsuc p) = 2 * n - suc p

-- N10: the window that is left when i is taken out. In D the last entry changes its sign if −i was taken out, so
-- that an even number of entries stays negative.
unfoldable pub rest_of : Kind → ℤ → List ℤ → List ℤ
rest_of A p w = w
rest_of B p w = w
rest_of D (pos p) w = w
rest_of D (negsuc p) w = from (length w - 1) negate_first w

-- N10: t levels from i on, with w at positions i, i + 1, ..: the block of level i is the end of the word
unfoldable pub normal_from : Kind → ℕ → ℕ → ℕ → List ℤ → List ℕ
normal_from k n zero i w = []
normal_from k n (suc t) i w =
    normal_from k n t (suc i) (rest_of k (place_from i w i) (without i w)) ++ block k n i (index_of n (place_from i w i))

-- N1, N10: the normal form of a window
unfoldable pub normal_form : Kind → ℕ → List ℤ → List ℕ
normal_form k n w = normal_from k n (levels k n) 1 w

-- N2: the normal form of a word of any length
abbrev pub word_normal_form : Kind → ℕ → List ℕ → List ℕ
word_normal_form k n u = normal_form k n (window k n u)

-- N1, N3: u is the normal form of w. That `normal_form` has this property is `normal_form-least` of the crate rules.
pub record IsNormalForm (k : Kind) (n : ℕ) (w : List ℤ) (u : List ℕ) : Type 0 where
  -- K6, W1: the letters are steps
  pub steps : wrong_letter n u ≡ false
  -- W4
  pub shows : window k n u ≡ w
  -- N3: every other word with this window, of any length (W6), is longer or comes later in the dictionary
  pub least : (v : List ℕ) → wrong_letter n v ≡ false → window k n v ≡ w → (v ≡ u → ⊥) → shortlex u v ≡ true
