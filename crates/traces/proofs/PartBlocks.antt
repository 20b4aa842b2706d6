-- A part of a normal form that begins with i and has no lower letter is a block [i,j]; j is told by its last letter
-- and its length.
--
-- Sections: the block; its last letter and its length; where it stands on its way.
-- Assumes nothing.
use mathlib.Core.Path.{◌≡◌, refl, sym, ap, ◌∙◌}
use mathlib.Core.Bool.{false}
use mathlib.Core.Logic.{◌⊎◌, inl, inr}
use mathlib.Core.List.{List, [], ◌∷◌}
use Prim.Native.Nat.{ℕ, suc, ◌+◌, ◌-◌, ◌*◌, ◌≤◌, ◌<◌}
use native.Mathlib.Nat.{lt_of_not-le}
use native.Mathlib.Decide.{dec_le, ℕ_discrete}
use native.Mathlib.Omega.{arith}
use lib.Dec.{eqb, ltb}
use lib.ListN.{length, get_or, length-append}
use lib.Seq.{get_or_at}
use borrow.Author.Tests.{eq-eqb, ne_eqb, lt-ltb, le-ltb}
use Rattle.coxeter.specs.declared.Kind.{Kind}
use Rattle.coxeter.specs.declared.Kind.TheVariants.{A, B, D}
use Rattle.coxeter.specs.Kinds.{pick, up, least}
use Rattle.coxeter.specs.Checks.{wrong_letter}
use Rattle.coxeter.specs.NormalForm.{block, rise, levels, last_index}
use Rattle.coxeter.proofs.LetterLaws.{letter_within_cons}
use Rattle.coxeter.proofs.Lengths.{block_length, length-block}
use Rattle.coxeter.proofs.KindLaws.{levels_le}
use Rattle.coxeter.proofs.LetterRuns.{IsBlock}
use Rattle.rules.specs.Rules.{rules, Irreducible}
use Rattle.rules.proofs.NextLetter.{Last, rising, falling, last_index_le}
use Rattle.rules.proofs.Extending.{Reducible, block_last}
use Rattle.rules.proofs.Irreducible.{Letters, one_block}
use Rattle.rules.proofs.Completeness.{not_rewritten_of_irreducible}
use Rattle.rules.proofs.Scan.{Along, start, further}

-- ---- the block

letters-from : (i n : ℕ) (u : List ℕ) → wrong_letter n u ≡ false → ((t : ℕ) → t < length u → i ≤ get_or u t 0) → Letters i n u
letters-from i n [] w f = tt
letters-from i n (x ∷ u) w f =
    let a = letter_within_cons n x u w in
    (f 0 (omega arith), a.1, letters-from i n u a.2 (λ t l. f (suc t) (omega arith)))

-- the j that a block of m letters with the last letter l has
abbrev pub past : Kind → ℕ → ℕ
past A j = j
past B j = j
past D j = j + 1

unfoldable pub index_by : Kind → ℕ → ℕ → ℕ → ℕ → ℕ
index_by k n i m l = pick (eqb l n) n (pick (ltb (i + m - 1) n) (i + m - 1) (past k (i + m - 1)))

-- ---- its last letter and its length

module _ (k : Kind) (n i j : ℕ) (o : 1 ≤ i) (g : i ≤ levels k n) (a : i ≤ j) (b : j ≤ last_index k n i) where
  last_of : (l : ℕ) × Last n i j l
  last_of = elim (dec_le n j) [
    | yes t ↦ (2 * n - j, falling {d = 2 * n - j} t (omega (arith, last_index_le k n i)))
    | no t ↦ (j, rising refl a (lt_of_not-le t))
  ]

  -- the letter at the end
  last_is : (m : ℕ) → suc m ≡ length (block k n i j) → Last n i j (get_or (block k n i j) m 0)
  last_is m e =
      let x = last_of in
      let c : IsBlock k n i j = omega arith in
      let s = block_last c x.1 in
      let q : length s.0 ≡ m = omega (arith, ap length s.1, length-append s.0 (x.0 ∷ [])) in
      let y : get_or (block k n i j) m 0 ≡ x.0 = ap (λ (w : List ℕ). get_or w m 0) s.1 ∙ get_or_at s.0 x.0 [] 0 m q in
      rw y x.1

  pub index_is : (m l : ℕ) → suc m ≡ length (block k n i j) → l ≡ get_or (block k n i j) m 0 → j ≡ index_by k n i (suc m) l
  unfolding index_by
  index_is m l e f = index_is_by_last (rw (← f) at (last_is m e))
    where
      length_is_block_length : suc m ≡ block_length k n i j
      length_is_block_length = e ∙ length-block k n i j o g b

      turned : (k : Kind) → n < j → suc m ≡ block_length k n i j → j ≤ last_index k n i → i ≤ n → (n ≤ i + suc m - 1) × (j ≡ past k (i + suc m - 1))
      turned A t q r s = absurd (omega arith)
      turned B t q r s = omega arith
      turned D t q r s = let y : suc m ≡ j - i = q ∙ rw (le-ltb j n (omega arith)) in omega arith

      up_to : (k : Kind) → j < n → suc m ≡ block_length k n i j → i + suc m - 1 ≡ j
      up_to A t q = omega arith
      up_to B t q = omega arith
      up_to D t q = let y : suc m ≡ suc j - i = q ∙ rw (lt-ltb j n t) in omega arith

      index_is_by_last : Last n i j l → j ≡ pick (eqb l n) n (pick (ltb (i + suc m - 1) n) (i + suc m - 1) (past k (i + suc m - 1)))
      index_is_by_last (rising q s t) =
          let y = up_to k t length_is_block_length in
          rw (ne_eqb l n (omega arith), lt-ltb (i + suc m - 1) n (omega arith)) (sym y)
      index_is_by_last (falling s q) = elim (ℕ_discrete j n) [
        | yes t ↦ rw (eq-eqb l n (omega arith)) t
        | no t ↦
            let y = turned k (omega arith) length_is_block_length b (omega (arith, levels_le k n)) in
            rw (ne_eqb l n (omega arith), le-ltb (i + suc m - 1) n y.0) y.1
      ]

-- ---- where it stands on its way

-- in kind D no block of the last level begins with n - 1 but that letter alone
first_of_last : (n j : ℕ) → 4 ≤ n → n ≤ j → get_or (block D n (n - 1) j) 0 0 ≡ n
unfolding block rise up
first_of_last n j h g =
    let z : suc (n - 2) - (n - 1) ≡ 0 = omega arith in
    rw (le-ltb j n g, z)

along_of : {k : Kind} {n i j : ℕ} → least k ≤ n → 1 ≤ i → i < n → i ≤ j → j ≤ last_index k n i → get_or (block k n i j) 0 0 ≡ i → Along k n i j
along_of {k} {n} {i} {j} h o g a b e = elim (ℕ_discrete j i)
    [ yes t ↦ start o (omega arith) t | no t ↦ further o (inner k h b e (omega arith)) (omega arith) b ]
  where
    inner : (k : Kind) → least k ≤ n → j ≤ last_index k n i → get_or (block k n i j) 0 0 ≡ i → i < j → i < levels k n
    inner A h b e t = g
    inner B h b e t = g
    inner D h b e t = elim (ℕ_discrete i (n - 1)) [
      | yes q ↦
          let f : get_or (block D n (n - 1) j) 0 0 ≡ i = ap (λ (y : ℕ). get_or (block D n y j) 0 0) (sym q) ∙ e in
          absurd (omega (arith, first_of_last n j h (omega arith), f))
      | no q ↦ omega arith
    ]

-- a part of a normal form
pub part-block : {k : Kind} {n i : ℕ} {u : List ℕ} → least k ≤ n → 1 ≤ i → i < n → wrong_letter n u ≡ false → ((t : ℕ) → t < length u → i ≤ get_or u t 0)
    → Irreducible (rules k n) (i ∷ u)
    → (j : ℕ) × Along k n i j × (i ∷ u ≡ block k n i j) × ((m l : ℕ) → suc m ≡ length (i ∷ u) → l ≡ get_or (i ∷ u) m 0 → j ≡ index_by k n i (suc m) l)
part-block {k} {n} {i} {u} h o g w f r = part-block_by_cases (one_block k n i u h o low (letters-from i n u w f))
  where
    low : i ≤ levels k n
    low = below k h
      where
        below : (k : Kind) → least k ≤ n → i ≤ levels k n
        below A h = omega arith
        below B h = omega arith
        below D h = omega arith

    part-block_by_cases : ((j : ℕ) × (i ≤ suc j) × (j ≤ last_index k n i) × (i ∷ u ≡ block k n i j)) ⊎ Reducible k n (i ∷ u)
        → (j : ℕ) × Along k n i j × (i ∷ u ≡ block k n i j) × ((m l : ℕ) → suc m ≡ length (i ∷ u) → l ≡ get_or (i ∷ u) m 0 → j ≡ index_by k n i (suc m) l)
    part-block_by_cases (inr s) = absurd (not_rewritten_of_irreducible k n (i ∷ u) h r s.0 s.1)
    part-block_by_cases (inl (j, a, b, e)) =
        let c : i ≤ j = nonempty j a b e in (
          j,
          along_of h o g c b (ap (λ (y : List ℕ). get_or y 0 0) (sym e)),
          e,
          λ m l p q. index_is k n i j o low c b m l (p ∙ ap length e) (q ∙ ap (λ (y : List ℕ). get_or y m 0) e),
        )
      where
        nonempty : (j : ℕ) → i ≤ suc j → j ≤ last_index k n i → i ∷ u ≡ block k n i j → i ≤ j
        nonempty j a b e = elim (dec_le i j) [
          | yes t ↦ t
          | no t ↦ absurd (short k t (ap length e ∙ length-block k n i j o low b))
        ]
          where
            short : (k : Kind) → (i ≤ j → ⊥) → suc (length u) ≡ block_length k n i j → ⊥
            short A t q = omega arith
            short B t q = omega arith
            short D t q = let y : suc (length u) ≡ suc j - i = q ∙ rw (lt-ltb j n (omega arith)) in omega arith
