-- Blocks by their letters (N4 to N9 and N11 of the specification): how many letters a block has and which letter
-- stands at each place, the same of the runs of numbers that blocks are made of, and words of one block a level.
--
-- Sections: runs of numbers; blocks; words of blocks.
-- Assumes nothing.
use mathlib.Core.Path.{◌≡◌, refl, sym, ap, ◌∙◌}
use mathlib.Core.Logic.{◌↔◌}
use mathlib.Core.List.{List, [], ◌∷◌, ◌++◌, append_assoc, append-nil}
use Prim.Native.Nat.{ℕ, zero, suc, ◌+◌, ◌-◌, ◌*◌, ◌≤◌, ◌<◌}
use native.Mathlib.Nat.{add-zero, add-suc, suc-add}
use native.Mathlib.Numerals.{add-one}
use native.Mathlib.Omega.{arith}
use lib.ListN.{length, get_or, length-append, get_or-append}
use lib.Seq.{get_or_at}
use borrow.Author.Tests.{le-leb, lt-leb, lt-ltb, le-ltb}
use Rattle.coxeter.specs.declared.Kind.{Kind}
use Rattle.coxeter.specs.declared.Kind.TheVariants.{A, B, D}
use Rattle.coxeter.specs.Kinds.{up}
use Rattle.coxeter.specs.NormalForm.{down, rise, fall, block, levels, last_index, blocks, Indices, none, level}
use Rattle.coxeter.proofs.Basics.{length_up}
use Rattle.coxeter.proofs.Lists.{get_or-joined}
use Rattle.coxeter.proofs.Products.{get_or-up}
use Rattle.coxeter.proofs.LetterRuns.{span_nil, block_up}

-- ---- runs of numbers

-- W3, N5: the run of k numbers from i up has the number i + p at place p
pub up-entries : (i k : ℕ) → (length (up i k) ≡ k) × ((p : ℕ) → p < k → get_or (up i k) p 0 ≡ i + p)
up-entries i k = (length_up i k, λ p h. get_or-up i k p 0 h)

get_or-down : (i k p : ℕ) → p < k → get_or (down i k) p 0 ≡ i - p
unfolding down
get_or-down i zero p h = absurd (omega arith)
get_or-down i (suc k) zero h = omega arith
get_or-down i (suc k) (suc p) h = get_or-down (i - 1) k p (omega arith) ∙ omega arith

-- N6, N8: the run of k numbers from i down has the number i − p at place p
pub down-entries : (i k : ℕ) → (length (down i k) ≡ k) × ((p : ℕ) → p < k → get_or (down i k) p 0 ≡ i - p)
unfolding down
down-entries i zero = (refl, get_or-down i 0)
down-entries i (suc k) = (ap suc (down-entries (i - 1) k).0, get_or-down i (suc k))

-- ---- blocks

rise-entries : (i j : ℕ) → (length (rise i j) ≡ j + 1 - i) × ((p : ℕ) → p < j + 1 - i → get_or (rise i j) p 0 ≡ i + p)
unfolding rise
rise-entries i j = rw add-one (up-entries i (suc j - i))

-- the way up of kind D ends at n − 2
short-entries : (n i : ℕ) → 1 ≤ i → i < n → (length (rise i (n - 2)) ≡ n - 1 - i) × ((p : ℕ) → p < n - 1 - i → get_or (rise i (n - 2)) p 0 ≡ i + p)
short-entries n i o h = let e : n - 2 + 1 - i ≡ n - 1 - i = omega arith in rw e at (rise-entries i (n - 2))

-- the way down to 2n − j
fall-entries : (n j : ℕ) → 1 ≤ n → n ≤ j → j ≤ 2 * n
    → (length (fall (n - 1) (2 * n - j)) ≡ j - n) × ((p : ℕ) → p < j - n → get_or (fall (n - 1) (2 * n - j)) p 0 ≡ n - 1 - p)
unfolding fall
fall-entries n j o h l = let e : suc (n - 1) - (2 * n - j) ≡ j - n = omega arith in rw e (down-entries (n - 1) (j - n))

-- N4: the block [i,j] is empty if j = i − 1
pub block_empty : (k : Kind) (n i j : ℕ) → i ≤ n → j + 1 ≡ i → block k n i j ≡ []
block_empty k n i j h e = block_up k n i j (omega arith) ∙ span_nil i (suc j) (omega arith)

-- N5, N7: in kinds A and B for i ≤ j ≤ n, in kind D for i ≤ j < n, the block [i,j] is i, i + 1, .., j
pub block_rises : (k : Kind) (n i j : ℕ) → i ≤ j → j ≤ n → (k ≡ D → j < n)
    → (length (block k n i j) ≡ j + 1 - i) × ((p : ℕ) → p < j + 1 - i → get_or (block k n i j) p 0 ≡ i + p)
unfolding block
block_rises A n i j h l d = rise-entries i j
block_rises B n i j h l d = rw (le-leb j n l) (rise-entries i j)
block_rises D n i j h l d = rw (lt-ltb j n (d refl)) (rise-entries i j)

-- N6: in kind B for n < j ≤ 2n − i the block [i,j] goes up from i to n and then down from n − 1 to 2n − j
pub block_turns_in_B : (n i j : ℕ) → n < j → j ≤ 2 * n - i
    → (length (block B n i j) ≡ j + 1 - i)
    × ((p : ℕ) → p < n + 1 - i → get_or (block B n i j) p 0 ≡ i + p)
    × ((p : ℕ) → p < j - n → get_or (block B n i j) (n + 1 - i + p) 0 ≡ n - 1 - p)
unfolding block
block_turns_in_B n i j h l =
    let u : List ℕ = rise i n in
    let v : List ℕ = fall (n - 1) (2 * n - j) in
    let a = rise-entries i n in
    let b = fall-entries n j (omega arith) (omega arith) (omega arith) in
    rw (lt-leb j n h) (
      length-append u v ∙ omega arith,
      λ p g. get_or-append u v 0 p (omega arith) ∙ a.1 p g,
      λ p g. get_or-joined (n + 1 - i) u v p a.0 ∙ b.1 p g,
    )

-- N8, N11: in kind D for n ≤ j ≤ 2n − i the block [i,j] goes up from i to n − 2, takes n, and goes down from n − 1 to
-- 2n − j
pub block_turns_in_D : (n i j : ℕ) → 1 ≤ i → i < n → n ≤ j → j ≤ 2 * n - i
    → (length (block D n i j) ≡ j - i)
    × ((p : ℕ) → p < n - 1 - i → get_or (block D n i j) p 0 ≡ i + p)
    × (get_or (block D n i j) (n - 1 - i) 0 ≡ n)
    × ((p : ℕ) → p < j - n → get_or (block D n i j) (n - i + p) 0 ≡ n - 1 - p)
unfolding block
block_turns_in_D n i j o h g l =
    let u : List ℕ = rise i (n - 2) in
    let v : List ℕ = fall (n - 1) (2 * n - j) in
    let a = short-entries n i o h in
    let b = fall-entries n j (omega arith) g (omega arith) in
    rw (le-ltb j n g) (
      length-append u (n ∷ v) ∙ omega arith,
      λ p q. get_or-append u (n ∷ v) 0 p (omega arith) ∙ a.1 p q,
      get_or_at u n v 0 (n - 1 - i) a.0,
      λ p q. let e : n - i + p ≡ n - 1 - i + suc p = omega arith in rw e (get_or-joined (n - 1 - i) u (n ∷ v) (suc p) a.0 ∙ b.1 p q),
    )

-- ---- words of blocks

blocks_snoc : (k : Kind) (n i : ℕ) (js : List ℕ) (j : ℕ) → blocks k n i (js ++ (j ∷ [])) ≡ block k n (i + length js) j ++ blocks k n i js
unfolding blocks
blocks_snoc k n i [] j = rw add-zero (sym (append-nil (block k n i j)))
blocks_snoc k n i (x ∷ js) j = rw (blocks_snoc k n (suc i) js j, append_assoc, add-suc, suc-add)

-- N9: a word of blocks from level i on has no letter if no j is listed, and one j more puts the block of one level
-- more in front
pub blocks_level_by_level : (k : Kind) (n i : ℕ) → (blocks k n i [] ≡ [])
    × ((js : List ℕ) (j : ℕ) → blocks k n i (js ++ (j ∷ [])) ≡ block k n (i + length js) j ++ blocks k n i js)
unfolding blocks
blocks_level_by_level k n i = (refl, blocks_snoc k n i)

-- each j is in the range of its level, where the first is of level i
InRange : Kind → ℕ → ℕ → List ℕ → Type 0
InRange k n i js = (p : ℕ) → p < length js → (i + p ≤ get_or js p 0 + 1) × (get_or js p 0 ≤ last_index k n (i + p))

range_of_indices : {k : Kind} {n i : ℕ} {js : List ℕ} → Indices k n i js → (i + length js ≡ levels k n + 1) × InRange k n i js
unfolding InRange
range_of_indices (none e) = (omega arith, λ p h. absurd (omega arith))
range_of_indices {k} {n} (level {i} {j} {js} a b c r) = (omega (arith, (range_of_indices r).0), in_range_cons (range_of_indices r).1)
  where
    in_range_cons : InRange k n (suc i) js → InRange k n i (j ∷ js)
    in_range_cons f zero h = rw add-zero (omega arith, c)
    in_range_cons f (suc p) h = rw (add-suc i p, ← suc-add i p) (f p (omega arith))

indices_of_range : (k : Kind) (n i : ℕ) (js : List ℕ) → i + length js ≡ levels k n + 1 → InRange k n i js → Indices k n i js
unfolding InRange
indices_of_range k n i [] e f = none {i = i} (omega arith)
indices_of_range k n i (j ∷ js) e f =
    let first = rw add-zero at (f 0 (omega arith)) in
    level {i = i} {j = j} (omega arith) (omega arith) first.1
    (indices_of_range k n (suc i) js (omega arith) (λ p h. rw (add-suc i p, ← suc-add i p) at (f (suc p) (omega arith))))

-- N9: the js of a word of blocks from level i on are exactly one for each level up to the last, each from its level
-- less 1 to the greatest j of its level
pub indices_exactly : (k : Kind) (n i : ℕ) (js : List ℕ) → Indices k n i js
    ↔ ((i + length js ≡ levels k n + 1)
    × ((p : ℕ) → p < length js → (i + p ≤ get_or js p 0 + 1) × (get_or js p 0 ≤ last_index k n (i + p))))
unfolding InRange
indices_exactly k n i js = (range_of_indices, λ (e, f). indices_of_range k n i js e f)
