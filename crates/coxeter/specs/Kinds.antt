-- Kinds, ranks and lanes (section K of the specification). A step is a generator, in a word a letter; a lane is an
-- entry of the window.
use Rattle.std.specs.Prelude.{Bool, true, false, List, [], ◌∷◌, ℕ, zero, suc, ◌+◌, eqb}
-- K2, D11: the three kinds; no other can be named. They are the code's enum `Kind`.
use Rattle.coxeter.specs.declared.Kind.{Kind}
use Rattle.coxeter.specs.declared.Kind.TheVariants.{A, B, D}

-- Helper of every test: the first if the test holds, else the second.
abbrev pub pick : {X : Type 0} → Bool → X → X → X
pick true x y = x
pick false x y = y

-- K2: the kind of a number. Other numbers never get here: C5 refuses them first.
unfoldable pub kind_of : ℕ → Kind
kind_of k = pick (eqb k 1) A (pick (eqb k 2) B D)

-- K2: the number of a kind, which is where `kind_of` comes from
abbrev pub kind_number : Kind → ℕ
kind_number A = 1
kind_number B = 2
kind_number D = 3

-- K3: the number of document 01's lanes, and of the entries of a window
abbrev pub lanes : Kind → ℕ → ℕ
lanes A n = n + 1
lanes B n = n
lanes D n = n

-- K4, K5: the lowest rank of a kind
abbrev pub least : Kind → ℕ
least A = 1
least B = 2
least D = 4

-- K4: the highest rank of a kind; books of the first edition have lower ones (B12)
abbrev pub greatest : Kind → ℕ
greatest A = 63
greatest B = 64
greatest D = 64

-- Helper of W3 and N5: the k numbers from i on: i, i + 1, ..
unfoldable pub up : ℕ → ℕ → List ℕ
up i zero = []
up i (suc k) = i ∷ up (suc i) k
