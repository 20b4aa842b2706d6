-- The search for a rule that begins a word: its letters are followed along the way of the blocks [i,j] of its first
-- letter i, and the letter that leaves the way decides the rule. Shown here, letter by letter: the search follows a
-- block to its end.
--
-- Sections: the search; one letter; the letters of a block.
-- Not here: that the search finds every rule (ScanFamilies), and rules of the list alone (ScanRules).
-- Assumes nothing.
use mathlib.Core.Path.{◌≡◌, refl, sym, ap, ◌∙◌}
use mathlib.Core.List.{List, [], ◌∷◌, ◌++◌, append_assoc}
use mathlib.Core.Option.{Option, none, some}
use Prim.Native.Nat.{ℕ, zero, suc, ◌+◌, ◌-◌, ◌*◌, ◌≤◌, ◌<◌}
use native.Mathlib.Nat.{lt_of_not-le}
use native.Mathlib.Decide.{dec_le, ℕ_discrete}
use native.Mathlib.Numerals.{add-one}
use native.Mathlib.Omega.{arith}
use lib.Dec.{eqb, ltb}
use lib.ListN.{length, take}
use borrow.Author.Tests.{eq-eqb, ne_eqb, lt-ltb, le-ltb}
use Rattle.coxeter.specs.declared.Kind.{Kind}
use Rattle.coxeter.specs.declared.Kind.TheVariants.{A, B, D}
use Rattle.coxeter.specs.Kinds.{pick, least}
use Rattle.coxeter.specs.NormalForm.{block, levels, last_index}
use Rattle.coxeter.proofs.KindLaws.{levels_le, le_levels}
use Rattle.coxeter.proofs.LetterRuns.{IsBlock}
use Rattle.rules.specs.Rules.{Rule, rule}
use Rattle.rules.proofs.NextLetter.{le_last_index, last_index_le}
use Rattle.rules.proofs.Extending.{block_climb, block-top, block-fall}
use Rattle.rules.proofs.Letters.{block_one}

-- ---- the search

-- the index after the letter x on the way of the blocks [i,j], or 0 where x leaves the way; c is the last level
-- and m the last index of level i
unfoldable pub next_index : ℕ → ℕ → ℕ → ℕ → ℕ → ℕ
next_index n c m j x =
    pick (ltb j n)
    (pick (eqb x n) (pick (eqb (j + 1) c) n 0) (pick (eqb x (j + 1)) x 0))
    (pick (ltb j m) (pick (eqb (x + j + 1) (2 * n)) (j + 1) 0) 0)

-- the step after which the way of kind D's blocks goes on with n − 1 or with n
abbrev pub fork : Kind → ℕ → ℕ
fork A n = 0
fork B n = 0
fork D n = n - 2

-- the family whose left side is [i,2n−i] x, or 0; f is the fork
unfoldable pub family_at_end : ℕ → ℕ → ℕ → ℕ → ℕ
family_at_end n f i x = pick (eqb i f) (pick (eqb x n) 6 (pick (eqb x (i + 1)) 7 0)) (pick (eqb x (i + 1)) 4 0)

-- the family whose left side is [i,j] x, where x leaves the way, or 0
unfoldable pub family_at : ℕ → ℕ → ℕ → ℕ → ℕ → ℕ
family_at n f i j x =
    pick (eqb j i)
    (pick (eqb x i) 1 (pick (ltb i x) 2 0))
    (pick (eqb (i + j) (2 * n))
    (family_at_end n f i x)
    (pick (eqb x i) (pick (eqb i f) (pick (eqb j n) 5 3) 3) 0))

-- the j that a rule of the family shows
unfoldable pub shown_index : ℕ → ℕ → ℕ → ℕ
shown_index f j x = pick (eqb f 2) x (pick (eqb f 3) j 0)

-- the letter that a rule of families 2 to 7 puts before the block
unfoldable pub first_letter : ℕ → ℕ → ℕ → ℕ → ℕ
first_letter n f i j = pick (eqb f 2) j (pick (ltb f 5) (i + 1) (pick (eqb f 6) (n - 1) n))

-- the rule that shows the family f, i and j and has the left side s: its right side is empty, or a letter and then
-- s without its last
unfoldable pub shown_rule : ℕ → ℕ → ℕ → ℕ → List ℕ → Rule
shown_rule n f i j s = rule f i j s (pick (eqb f 1) [] (first_letter n f i j ∷ take (length s - 1) s))

-- the number of letters on its right side, where its left side has l
unfoldable pub right_length : ℕ → ℕ → ℕ
right_length f l = pick (eqb f 1) 0 l

-- the rule of family f with the left side [i,j] x
unfoldable pub rule_at : Kind → ℕ → ℕ → ℕ → ℕ → ℕ → Rule
rule_at k n i j x f =
    rule f i (shown_index f j x) (block k n i j ++ (x ∷ []))
    (pick (eqb f 1) [] (first_letter n f i (shown_index f j x) ∷ block k n i j))

unfoldable pub found : Kind → ℕ → ℕ → ℕ → ℕ → ℕ → Option Rule
found k n i j x f = pick (eqb f 0) none (some (rule_at k n i j x f))

-- the search after the block [i,j]
unfoldable pub walk : Kind → ℕ → ℕ → ℕ → List ℕ → Option Rule
walk k n i j [] = none
walk k n i j (x ∷ v) =
    let s = next_index n (levels k n) (last_index k n i) j x in
    pick (eqb s 0) (found k n i j x (family_at n (fork k n) i j x)) (walk k n i s v)

-- the rule that begins the word
unfoldable pub scan : Kind → ℕ → List ℕ → Option Rule
scan k n [] = none
scan k n (i ∷ v) = walk k n i i v

-- ---- one letter

-- the letter x goes on from [i,j] neither up, nor at the top, nor down
pub record Leaving (n c m j x : ℕ) : Type 0 where
  pub not_up : j < n → x < n → x ≡ suc j → ⊥
  pub not_top : j < n → x ≡ n → suc j ≡ c → ⊥
  pub not_down : n ≤ j → j < m → suc (x + j) ≡ 2 * n → ⊥

-- what the next index is
pub data Going (n c m j x : ℕ) : ℕ → Type 0 where
  climbs : x ≡ suc j → x < n → Going n c m j x x
  tops : suc j ≡ c → j < n → x ≡ n → Going n c m j x n
  falls : n ≤ j → j < m → suc (x + j) ≡ 2 * n → Going n c m j x (suc j)
  leaves : Leaving n c m j x → Going n c m j x 0

next_index_climb : (n c m j x : ℕ) → x ≡ suc j → x < n → next_index n c m j x ≡ x
unfolding next_index
next_index_climb n c m j x e h = rw (lt-ltb j n (omega arith), ne_eqb x n (omega arith), eq-eqb x (j + 1) (omega arith))

next_index-top : (n c m j x : ℕ) → suc j ≡ c → j < n → x ≡ n → next_index n c m j x ≡ n
unfolding next_index
next_index-top n c m j x e h g = rw (lt-ltb j n h, eq-eqb x n g, eq-eqb (j + 1) c (omega arith))

next_index-fall : (n c m j x : ℕ) → n ≤ j → j < m → suc (x + j) ≡ 2 * n → next_index n c m j x ≡ suc j
unfolding next_index
next_index-fall n c m j x h g e = rw (le-ltb j n h, lt-ltb j m g, eq-eqb (x + j + 1) (2 * n) (omega arith)) (add-one j)

pub next_index_leave : (n c m j x : ℕ) → x ≤ n → Leaving n c m j x → next_index n c m j x ≡ 0
unfolding next_index
next_index_leave n c m j x l w = elim (dec_le n j) [ yes h ↦ falling h | no h ↦ rising (lt_of_not-le h) ]
  where
    rising : j < n → next_index n c m j x ≡ 0
    rising h =
        elim (ℕ_discrete x n) [
          | yes e ↦ rw (lt-ltb j n h, eq-eqb x n e, ne_eqb (j + 1) c (λ q. w.not_top h e (omega arith)))
          | no e ↦ rw (lt-ltb j n h, ne_eqb x n e, ne_eqb x (j + 1) (λ q. w.not_up h (omega arith) (omega arith)))
        ]

    falling : n ≤ j → next_index n c m j x ≡ 0
    falling h =
        elim (dec_le m j) [
          | yes g ↦ rw (le-ltb j n h, le-ltb j m g)
          | no g ↦ let t : j < m = lt_of_not-le g in
              rw (le-ltb j n h, lt-ltb j m t, ne_eqb (x + j + 1) (2 * n) (λ q. w.not_down h t (omega arith)))
        ]

pub going : (n c m j x : ℕ) → x ≤ n → Going n c m j x (next_index n c m j x)
going n c m j x l = elim (dec_le n j) [ yes h ↦ falling h | no h ↦ rising (lt_of_not-le h) ]
  where
    left : Leaving n c m j x → Going n c m j x (next_index n c m j x)
    left w = rw (next_index_leave n c m j x l w) (leaves w)

    rising : j < n → Going n c m j x (next_index n c m j x)
    rising h =
        elim (ℕ_discrete x n) [
          | yes e ↦
              elim (ℕ_discrete (suc j) c) [
                | yes q ↦ rw (next_index-top n c m j x q h e) (tops q h e)
                | no q ↦ left (record { not_up = λ a b. omega arith; not_top = λ a b. q; not_down = λ a. omega arith })
              ]
          | no e ↦
              elim (ℕ_discrete x (suc j)) [
                | yes q ↦ let t : x < n = omega arith in rw (next_index_climb n c m j x q t) (climbs q t)
                | no q ↦ left (record { not_up = λ a b. q; not_top = λ a b. absurd (e b); not_down = λ a. omega arith })
              ]
        ]

    falling : n ≤ j → Going n c m j x (next_index n c m j x)
    falling h =
        elim (dec_le m j) [
          | yes g ↦ left (record { not_up = λ a. omega arith; not_top = λ a. omega arith; not_down = λ a b. omega arith })
          | no g ↦
              let t : j < m = lt_of_not-le g in
              elim (ℕ_discrete (suc (x + j)) (2 * n)) [
                | yes q ↦ rw (next_index-fall n c m j x h t q) (falls h t q)
                | no q ↦ left (record { not_up = λ a. omega arith; not_top = λ a. omega arith; not_down = λ a b. q })
              ]
        ]

-- ---- the letters of a block

-- a place on the way of level i: the first letter alone, or further on
pub data Along (k : Kind) (n i j : ℕ) : Type 0 where
  start : 1 ≤ i → i ≤ n → j ≡ i → Along k n i j
  further : 1 ≤ i → i < levels k n → i < j → j ≤ last_index k n i → Along k n i j

-- the last level has no way down
pub last_index-top : (k : Kind) (n i : ℕ) → i ≡ n → last_index k n i ≡ n
last_index-top A n i e = refl
last_index-top B n i e = omega arith
last_index-top D n i e = omega arith

-- a letter that stays on the way makes the block longer
pub along_next : (k : Kind) (n i j x : ℕ) {s : ℕ} → Along k n i j → Going n (levels k n) (last_index k n i) j x s → (s ≡ 0 → ⊥)
    → Along k n i s × (block k n i s ≡ block k n i j ++ (x ∷ []))
along_next k n i j x (start o l e) (climbs q r) z = (
  further o (omega (arith, le_levels k n)) (omega arith) (le_last_index k n i x l (omega arith)),
  block_climb k n i j x (omega arith) q r,
)
along_next k n i j x (start o l e) (tops q r t) z = (
  further o (omega arith) (omega arith) (le_last_index k n i n l (omega arith)),
  rw t (block-top k n o (omega arith) q),
)
along_next k n i j x (start o l e) (falls q r t) z =
    absurd (omega (arith, last_index-top k n i (omega arith)))
along_next k n i j x (further o l g f) (climbs q r) z =
    (further o l (omega arith) (le_last_index k n i x (omega arith) (omega arith)), block_climb k n i j x (omega arith) q r)
along_next k n i j x (further o l g f) (tops q r t) z = (
  further o l (omega arith) (le_last_index k n i n (omega arith) (omega arith)),
  rw t (block-top k n o (omega arith) q),
)
along_next k n i j x (further o l g f) (falls q r t) z =
    let b : IsBlock k n i (suc j) = omega arith in
    (further o l (omega arith) r, block-fall x b q t)
along_next k n i j x a (leaves w) z = absurd (z refl)

pub walk_next : (k : Kind) (n i j x : ℕ) {s : ℕ} (v : List ℕ) → next_index n (levels k n) (last_index k n i) j x ≡ s → (s ≡ 0 → ⊥)
    → walk k n i j (x ∷ v) ≡ walk k n i s v
unfolding walk
walk_next k n i j x {s} v e z = rw (e, ne_eqb s 0 z)

-- the search follows the block [i,j] to its end
abbrev pub Followed : Kind → ℕ → ℕ → ℕ → Type 0
Followed k n i j = (v : List ℕ) → scan k n (block k n i j ++ v) ≡ walk k n i j v

-- one letter of a block: the search goes on after it
scan_longer : (k : Kind) (n i j x : ℕ) {s : ℕ} → Followed k n i j
    → block k n i s ≡ block k n i j ++ (x ∷ []) → next_index n (levels k n) (last_index k n i) j x ≡ s → (s ≡ 0 → ⊥) → Followed k n i s
scan_longer k n i j x w b e z v =
    ap (λ (u : List ℕ). scan k n (u ++ v)) b ∙ ap (scan k n) (append_assoc (block k n i j) (x ∷ []) v) ∙ w (x ∷ v) ∙ walk_next k n i j x v e z

scan-one : (k : Kind) (n i : ℕ) → least k ≤ n → i ≤ n → Followed k n i i
unfolding scan
scan-one k n i h l v = rw (block_one k n i h l)

scan-up : (k : Kind) (n i t : ℕ) {j : ℕ} → least k ≤ n → 1 ≤ i → j ≡ i + t → j < n → Followed k n i j
scan-up k n i zero {j} h o e g = let q : j ≡ i = omega arith in rw q (scan-one k n i h (omega arith))
scan-up k n i (suc t) {j} h o e g =
    scan_longer k n i (i + t) j (scan-up k n i t h o refl (omega arith))
    (block_climb k n i (i + t) j (omega arith) (omega arith) g)
    (next_index_climb n (levels k n) (last_index k n i) (i + t) j (omega arith) g)
    (omega arith)

scan-down : (k : Kind) (n i t : ℕ) {j : ℕ} → least k ≤ n → 1 ≤ i → i < levels k n → j ≡ n + t → j ≤ last_index k n i → Followed k n i j
scan-down k n i zero {j} h o l e g =
    let q : j ≡ n = omega arith in
    let c : ℕ = levels k n - 1 in
    let f : suc c ≡ levels k n = omega arith in
    let r : c < n = omega (arith, levels_le k n) in
    rw q
    (scan_longer k n i c n (scan-up k n i (c - i) h o (omega arith) r)
    (block-top k n o (omega arith) f)
    (next_index-top n (levels k n) (last_index k n i) c n f r refl)
    (omega arith))
scan-down k n i (suc t) {j} h o l e g =
    let x : ℕ = 2 * n - j in
    let q : j ≡ suc (n + t) = omega arith in
    let f : suc (x + (n + t)) ≡ 2 * n = omega (arith, last_index_le k n i) in
    let b : IsBlock k n i (suc (n + t)) = omega (arith, levels_le k n) in
    scan_longer k n i (n + t) x (scan-down k n i t h o l refl (omega arith))
    (ap (block k n i) q ∙ block-fall x b (omega arith) f)
    (next_index-fall n (levels k n) (last_index k n i) (n + t) x (omega arith) (omega arith) f ∙ sym q)
    (omega arith)

pub scan-block : (k : Kind) (n i j : ℕ) → least k ≤ n → Along k n i j → Followed k n i j
scan-block k n i j h (start o l e) = rw e (scan-one k n i h l)
scan-block k n i j h (further o l g f) = elim (dec_le n j) [
  | yes t ↦ scan-down k n i (j - n) h o l (omega arith) f
  | no t ↦ scan-up k n i (j - i) h o (omega arith) (lt_of_not-le t)
]
