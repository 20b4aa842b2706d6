-- A block [i,j] followed by one more letter of its level is a block again, or a rule fits at its end.
-- By the cases of NextLetter and one fact: for i ≤ x the block [i,j] ends in [x,j], while x is still on its way up.
-- Assumes nothing.
use mathlib.Core.Path.{◌≡◌, sym, ap, ◌∙◌}
use mathlib.Core.Logic.{◌⊎◌, inl, inr}
use mathlib.Core.List.{List, [], ◌∷◌, ◌++◌, append_assoc, append-nil}
use Prim.Native.Nat.{ℕ, suc, ◌+◌, ◌-◌, ◌*◌, ◌≤◌, ◌<◌}
use native.Mathlib.Nat.{lt_of_not-le}
use native.Mathlib.Decide.{dec_le}
use native.Mathlib.Omega.{arith}
use Rattle.coxeter.specs.declared.Kind.{Kind}
use Rattle.coxeter.specs.NormalForm.{block, levels, last_index}
use Rattle.coxeter.proofs.KindLaws.{levels_le, le_levels}
use Rattle.coxeter.proofs.LetterRuns.{Corner, corner_le, span, span_cut, span_snoc, slide, slide_snoc, IsBlock, block_up, block_turn, slide-one}
use Rattle.rules.proofs.Families.{RuleOf, square, commutation, carry, turn, five, six, seven, IsD}
use Rattle.rules.proofs.Rewriting.{Rewrites, within}
use Rattle.rules.proofs.NextLetter.{Last, rising, falling, Next, climbs, tops, falls, repeats}
use Rattle.rules.proofs.NextLetter.{commutes, carries, turns, fives, sixes, sevens, levels-D}
use Rattle.rules.proofs.NextLetter.{le_last_index, le_last_index_of, level_le_last, last_index_le, next_rising, next_falling}
use Rattle.rules.proofs.Letters.{slide_three}

-- ---- words that a rule fits into

abbrev pub Reducible : Kind → ℕ → List ℕ → Type 0
Reducible k n u = (v : List ℕ) × Rewrites k n u v

pub rewrites_within : {k : Kind} {n : ℕ} {u v : List ℕ} (p s : List ℕ) → Rewrites k n u v → Rewrites k n (p ++ (u ++ s)) (p ++ (v ++ s))
rewrites_within p s (within x y {l} {r} w) = rw (regroup l, regroup r) (within (p ++ x) (y ++ s) w)
  where
    regroup : (m : List ℕ) → p ++ ((x ++ (m ++ y)) ++ s) ≡ (p ++ x) ++ (m ++ (y ++ s))
    regroup m = simp append_assoc

pub reducible_within : {k : Kind} {n : ℕ} {u : List ℕ} (p s : List ℕ) → Reducible k n u → Reducible k n (p ++ (u ++ s))
reducible_within p s r = (p ++ (r.0 ++ s), rewrites_within p s r.1)

-- w ends in a left side without its last letter x
reducible_end : {k : Kind} {n : ℕ} {w : List ℕ} (p l : List ℕ) {r : List ℕ} (x : ℕ) → w ≡ p ++ l → RuleOf k n (l ++ (x ∷ [])) r → Reducible k n (w ++ (x ∷ []))
reducible_end p l {r} x e t =
    let f : p ++ ((l ++ (x ∷ [])) ++ []) ≡ (p ++ l) ++ (x ∷ []) = simp (append_assoc, append-nil) in
    rw e (p ++ (r ++ []), rw f at (within p [] t))

-- ---- the ends of blocks

pub block_cut : {k : Kind} {n i x j : ℕ} → 1 ≤ i → i ≤ x → IsBlock k n x j → block k n i j ≡ span i x ++ block k n x j
block_cut {k} {n} {i} {x} {j} o h b = elim (dec_le n j) [ yes t ↦ after t | no t ↦ before (lt_of_not-le t) ]
  where
    before : j < n → block k n i j ≡ span i x ++ block k n x j
    before t =
        block_up k n i j t ∙ span_cut i x (suc j) h b.at_least
        ∙ ap (λ (w : List ℕ). span i x ++ w) (sym (block_up k n x j t))

    after : n ≤ j → block k n i j ≡ span i x ++ block k n x j
    after t =
        let d : ℕ = 2 * n - j in
        let q : d + j ≡ 2 * n = omega (arith, last_index_le k n x) in
        let y : x ≤ d = level_le_last k (omega (arith, levels_le k n)) b.at_most q in
        let a : IsBlock k n i j = omega (arith, le_last_index_of k n x i j b.at_most (omega arith)) in
        block_turn d a t q
        ∙ ap (λ (w : List ℕ). w ++ slide (suc n) d) (span_cut i x (levels k n) h b.level)
        ∙ append_assoc (span i x) (span x (levels k n)) (slide (suc n) d)
        ∙ ap (λ (w : List ℕ). span i x ++ w) (sym (block_turn d b t q))

block_turn_snoc : {k : Kind} {n i j : ℕ} (d : ℕ) → IsBlock k n i j → n ≤ j → d + j ≡ 2 * n
    → block k n i j ≡ (span i (levels k n) ++ slide (suc n) (suc d)) ++ (d ∷ [])
block_turn_snoc {k} {n} {i} d b g q =
    block_turn d b g q
    ∙ ap (λ (w : List ℕ). span i (levels k n) ++ w) (slide_snoc (suc n) d (omega arith))
    ∙ sym (append_assoc (span i (levels k n)) (slide (suc n) (suc d)) (d ∷ []))

-- one letter more on the way up, at its top and on the way down
pub block_climb : (k : Kind) (n i j x : ℕ) → i ≤ x → x ≡ suc j → x < n → block k n i x ≡ block k n i j ++ (x ∷ [])
block_climb k n i j x h q r =
    block_up k n i x r ∙ span_snoc i x h
    ∙ ap (λ (w : List ℕ). w ++ (x ∷ [])) (sym (block_up k n i j (omega arith) ∙ ap (span i) (sym q)))

pub block-top : (k : Kind) (n : ℕ) {i j : ℕ} → 1 ≤ i → i ≤ levels k n → suc j ≡ levels k n → block k n i n ≡ block k n i j ++ (n ∷ [])
block-top k n {i} {j} o h q =
    let l = levels_le k n in
    let b : IsBlock k n i n = omega (arith, le_last_index k n i n (omega arith) (omega arith)) in
    block_turn n b (omega arith) (omega arith)
    ∙ ap (λ (w : List ℕ). span i (levels k n) ++ w) (slide-one (suc n) n (omega arith))
    ∙ ap (λ (w : List ℕ). w ++ (n ∷ [])) (sym (block_up k n i j (omega arith) ∙ ap (span i) q))

pub block-fall : {k : Kind} {n i j : ℕ} (x : ℕ) → IsBlock k n i (suc j) → n ≤ j → suc (x + j) ≡ 2 * n → block k n i (suc j) ≡ block k n i j ++ (x ∷ [])
block-fall {k} {n} {i} {j} x b q r =
    let a : IsBlock k n i j = omega (arith, levels_le k n) in
    block_turn_snoc x b (omega arith) (omega arith) ∙ ap (λ (w : List ℕ). w ++ (x ∷ [])) (sym (block_turn (suc x) a q (omega arith)))

pub block_last : {k : Kind} {n i j l : ℕ} → IsBlock k n i j → Last n i j l → (p : List ℕ) × (block k n i j ≡ p ++ (l ∷ []))
block_last {k} {n} {i} {j} b (rising q a h) = (span i j, block_up k n i j h ∙ span_snoc i j a ∙ ap (λ (y : ℕ). span i j ++ (y ∷ [])) (sym q))
block_last {k} {n} {i} {l = l} b (falling a q) = (span i (levels k n) ++ slide (suc n) (suc l), block_turn_snoc l b a q)

level_le : {k : Kind} {n i j l : ℕ} → IsBlock k n i j → Last n i j l → i ≤ l
level_le b (rising q a h) = omega arith
level_le {k} {n} b (falling a q) = level_le_last k (omega (arith, levels_le k n)) b.at_most q

-- the same by the corner of the kind, at any level
level_le_of_corner : (k : Kind) {n : ℕ} (c : ℕ) {i j l : ℕ} → Corner k n c → i ≤ c → j ≤ last_index k n i → Last n i j l → i ≤ l
level_le_of_corner k c e h g (rising q a b) = omega arith
level_le_of_corner k {n} c e h g (falling a q) = level_le_last k (omega (arith, corner_le k n c e)) g q

-- ---- the turn of kind D, with a = n − 2

block_turn_D : {k : Kind} {n i j : ℕ} (a d : ℕ) → IsD k → IsBlock k n i j → i ≤ a → a + 2 ≡ n → n ≤ j → d + j ≡ 2 * n
    → block k n i j ≡ span i a ++ (a ∷ slide (suc n) d)
block_turn_D {k} {n} {i} a d w b h f g q =
    let t : levels k n ≡ suc a = omega (arith, levels-D k n w) in
    block_turn d b g q
    ∙ ap (λ (l : List ℕ). l ++ slide (suc n) d) (ap (span i) t ∙ span_snoc i a h)
    ∙ append_assoc (span i a) (a ∷ []) (slide (suc n) d)

block_turn_D_three : {k : Kind} {n i j : ℕ} (a : ℕ) → IsD k → IsBlock k n i j → a + 2 ≡ n → j ≡ n + 2
    → block k n i j ≡ span i a ++ (a ∷ n ∷ (a + 1) ∷ a ∷ [])
block_turn_D_three {n = n} {i} {j} a w b f q =
    let e : a + j ≡ 2 * n = omega arith in
    block_turn_D a a w b (level_le b (falling (omega arith) e)) f (omega arith) e ∙ ap (λ (l : List ℕ). span i a ++ (a ∷ l)) (slide_three n a f)

-- ---- one more letter

-- a block of level i that is not empty, or reducible
abbrev pub Extended : Kind → ℕ → ℕ → List ℕ → Type 0
Extended k n i w = ((j : ℕ) × (i ≤ j) × (j ≤ last_index k n i) × (w ≡ block k n i j)) ⊎ Reducible k n w

extended_next : {k : Kind} {n i j x : ℕ} → IsBlock k n i j → i ≤ x → x ≤ n → Next k n i j x → Extended k n i (block k n i j ++ (x ∷ []))
extended_next {k} {n} {i} {j} {x} s a b (climbs q r) = inl (x, a, le_last_index k n i x (omega arith) b, sym (block_climb k n i j x a q r))
extended_next {k} {n} {i} s a b (tops q r) =
    inl (n, omega arith, le_last_index k n i n (omega arith) (omega arith), rw r (sym (block-top k n s.positive s.level q)))
extended_next {k} {n} {i} {j} {x} s a b (falls q r t) =
    let f : IsBlock k n i (suc j) = omega arith in
    inl (suc j, omega arith, t, sym (block-fall x f q r))
extended_next {x = x} s a b (repeats t) =
    let z = block_last s t in
    inr (reducible_end z.0 (x ∷ []) x z.1 (square (omega arith) b))
extended_next {x = x} s a b (commutes {l} t w) =
    let z = block_last s t in
    inr (reducible_end z.0 (l ∷ []) x z.1 (commutation (omega (arith, level_le s t)) b w))
extended_next {k} {n} {i} {j} {x} s a b (carries q r t w) =
    let f : IsBlock k n x j = omega (arith, le_levels k n) in
    inr (reducible_end (span i x) (block k n x j) x (block_cut s.positive a f) (carry (omega arith) q w))
extended_next {k} {n} {i} {j} s a b (turns {d} q r t p w) =
    let e : j ≡ 2 * n - d = omega arith in
    let y : i ≤ d = level_le s (falling q r) in
    let f : IsBlock k n d j = omega (arith, le_levels k n, le_last_index_of k n i d j s.at_most (omega arith)) in
    rw (← p)
    (inr (reducible_end (span i d) (block k n d (2 * n - d)) (d + 1)
    (block_cut s.positive y f ∙ ap (λ (l : ℕ). span i d ++ block k n d l) e)
    (turn (omega arith) w)))
extended_next {n = n} {i} {x = x} s a b (fives w q r) =
    inr (reducible_end (span i x) (x ∷ n ∷ []) x
    (block_turn_D x n w s a r (omega arith) (omega arith) ∙ ap (λ (l : List ℕ). span i x ++ (x ∷ l)) (slide-one (suc n) n (omega arith)))
    (five w r))
extended_next {n = n} {i} s a b (sixes y w f q r) =
    rw r (inr (reducible_end (span i y) (y ∷ n ∷ (y + 1) ∷ y ∷ []) n (block_turn_D_three y w s f q) (six w f)))
extended_next {n = n} {i} s a b (sevens y w f q r) =
    rw r (inr (reducible_end (span i y) (y ∷ n ∷ (y + 1) ∷ y ∷ []) (y + 1) (block_turn_D_three y w s f q) (seven w f)))

-- the block is not empty, or only the top is left of its way up, as for the empty block of the last level
pub extended_letter : {k : Kind} {n i j x : ℕ} → IsBlock k n i j → (i ≤ j) ⊎ (suc j ≡ levels k n) → i ≤ x → x ≤ n → Extended k n i (block k n i j ++ (x ∷ []))
extended_letter {n = n} {j = j} s e a b =
    extended_next s a b (elim (dec_le n j) [ yes t ↦ next_falling t s.at_most s.positive a b | no t ↦ next_rising e (lt_of_not-le t) a b ])
