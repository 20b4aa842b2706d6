-- Wrong definitions of words, windows, relations and blocks, each ruled out by a law that a clause cites. The law
-- stands here as a predicate of the definition that it speaks of: of the right definition it is the law itself, of the
-- wrong one it is false, so that the law could not be proved if that definition stood in its place.
--
-- Sections: words and windows; counts of pairs; relations; blocks.
-- Not here: definitions of the crates above `coxeter` (WrongDefinitionsAbove).
-- Assumes nothing.
use mathlib.Core.Path.{◌≡◌, refl, ap}
use mathlib.Core.Bool.{Bool, true, ◌&&◌, false≢true}
use mathlib.Core.Logic.{◌↔◌, ◌⊎◌, inl, inr}
use mathlib.Core.List.Memᴰ
use mathlib.Core.List.{List, [], ◌∷◌, Memᴰ}
use Prim.Native.Nat.{ℕ, ◌+◌, ◌-◌, ◌≤◌, ◌<◌}
use native.Mathlib.Omega.{arith}
use lib.Dec.{eqb, leb}
use lib.IntN.{ℤ, pos, negsuc, neg_ℤ}
use lib.ListN.{length, get_or, replicate, length-replicate, get_or-replicate}
use borrow.Author.Tests.{lt-leb}
use Rattle.coxeter.specs.declared.Kind.{Kind}
use Rattle.coxeter.specs.declared.Kind.TheVariants.{A, B, D}
use Rattle.coxeter.specs.Kinds.{pick, kind_of, lanes, up}
use Rattle.coxeter.specs.Windows.{window, product}
use Rattle.coxeter.specs.Length.{later, one, negative, negatives, later_than, inversions, negative_sum_pairs}
use Rattle.coxeter.specs.Relations.{Relation}
use Rattle.coxeter.specs.NormalForm.{rise, block}
use Rattle.coxeter.specs.Checks.{◌then◌, first_of, wrong_kind, wrong_rank, wrong_lanes, has_size, negative_in_A, wrong_at, wrong_entry, odd}
use Rattle.coxeter.specs.Checks.{odd_negatives, too_short, rank_refusal, word_refusal, window_refusal, RankOf, WordOf}
use Rattle.coxeter.specs.Calls.{Outcome, answer_of, writes, product_of_windows, same_entry, same_window, equal_words, hands_back}
use Rattle.coxeter.proofs.ChecksExactly.{word_exactly}
use Rattle.coxeter.proofs.FirstRefusals.{product_of_windows-first_of}
use Rattle.coxeter.proofs.Orders.{hands_back_exactly}
use Rattle.coxeter.proofs.CountedPairs.{inversions_counted, negative_sum_pairs_counted}
use Rattle.coxeter.proofs.RelationSides.{relation_sides}
use Rattle.coxeter.proofs.BlockEntries.{block_rises}

-- the law holds of the right definition and is false of the wrong one
abbrev pub TellsApart {ℓ ℓ'} : {X : Type ℓ} → (X → Type ℓ') → X → X → Type ℓ'
TellsApart law right wrong = law right × (law wrong → ⊥)

-- ---- words and windows

-- words of more than 4,000 letters are never equal
abbrev pub equal_up_to4000 : Kind → ℕ → List ℕ → List ℕ → Bool
equal_up_to4000 k n u v = leb (length u) 4000 && (leb (length v) 4000 && equal_words k n u v)

abbrev pub hands_back_up_to4000 : ℕ → ℕ → List ℕ → List ℕ → Bool
hands_back_up_to4000 k n u v = eqb (rank_refusal k n then word_refusal n u then word_refusal n v) 0 && equal_up_to4000 (kind_of k) n u v

-- V3, V5, I16, I17: the law `hands_back_exactly`
abbrev pub HandsBackExactly : (ℕ → ℕ → List ℕ → List ℕ → Bool) → Type 0
HandsBackExactly hands =
    (k n : ℕ) (u v : List ℕ)
    → (hands k n u v ≡ true) ↔ (RankOf k n × WordOf n u × WordOf n v × (window (kind_of k) n u ≡ window (kind_of k) n v))

-- Q12, V3: the law rules out that words of more than 4,000 letters are never equal, by one of 4,001 letters and
-- itself
pub hands_back_up_to4000_ruled_out : TellsApart HandsBackExactly hands_back hands_back_up_to4000
unfolding rank_refusal wrong_kind wrong_rank kind_of
hands_back_up_to4000_ruled_out = (hands_back_exactly, λ law. fails law (ones 4001 (omega arith) (omega arith)))
  where
    ones : (m : ℕ) → 4000 < m → m ≤ 4096 → (u : List ℕ) × (4000 < length u) × WordOf 1 u
    ones m h g =
        let u : List ℕ = replicate m 1 in
        let l : length u ≡ m = length-replicate m 1 in
        (u, omega arith, (word_exactly 1 u).1 (omega arith, λ i q. rw (get_or-replicate {A = ℕ} m i 1 0 (omega arith)) (omega arith, omega arith)))

    fails : HandsBackExactly hands_back_up_to4000 → (u : List ℕ) × (4000 < length u) × WordOf 1 u → ⊥
    fails law (u, h, w) = false≢true (rw (w, lt-leb (length u) 4000 h) at ((law 1 1 u u).1 (refl, w, w, refl)))

-- if the first window is refused 11, the second is looked at before it
abbrev pub second_window_before11 : ℕ → ℕ → List ℤ → List ℤ → List ℤ → Outcome ℤ
second_window_before11 k n u v out =
    let first = window_refusal (kind_of k) n u in
    let second = window_refusal (kind_of k) n v in
    writes (rank_refusal k n then pick (eqb first 11) (second then first) (first then second)) (product u v) out

-- I9, CO4: the law `product_of_windows-first_of`
abbrev pub ProductOfWindowsFirstOf : (ℕ → ℕ → List ℤ → List ℤ → List ℤ → Outcome ℤ) → Type 0
ProductOfWindowsFirstOf call =
    (k n : ℕ) (u v out : List ℤ) → let l = length (product u v) in
    (call k n u v out).answer
    ≡ answer_of
    (first_of
    ((5, wrong_kind k) ∷ (6, wrong_rank (kind_of k) n)
    ∷ (9, wrong_lanes (kind_of k) n u) ∷ (10, wrong_entry (kind_of k) (lanes (kind_of k) n) u) ∷ (11, odd_negatives (kind_of k) u)
    ∷ (9, wrong_lanes (kind_of k) n v) ∷ (10, wrong_entry (kind_of k) (lanes (kind_of k) n) v) ∷ (11, odd_negatives (kind_of k) v)
    ∷ (14, too_short l out)
    ∷ []))
    l

-- Q12, CO4: the law rules out that the second window is looked at before 11, by −1 2 3 4 in D₄ and no entries
pub second_window_before11_ruled_out : TellsApart ProductOfWindowsFirstOf product_of_windows second_window_before11
unfolding rank_refusal window_refusal wrong_kind wrong_rank kind_of wrong_lanes wrong_entry wrong_at has_size negative_in_A odd_negatives odd negatives negative one
    writes answer_of
second_window_before11_ruled_out = (
  product_of_windows-first_of,
  λ law.
      let e = law 3 4 (negsuc 0 ∷ pos 2 ∷ pos 3 ∷ pos 4 ∷ []) [] [] in
      let z : ◌≡◌ {A = ℕ} 9 11 = cc in
      omega arith,
)

-- ---- counts of pairs

-- a window of B₇ with no plain pair and one pair against a mirrored lane
abbrev pub window_of_B7 : List ℤ
window_of_B7 = pos 1 ∷ pos 2 ∷ pos 3 ∷ pos 4 ∷ pos 5 ∷ negsuc 6 ∷ negsuc 5 ∷ []

-- in that window the one pair is counted as the other sort, and the total stays
abbrev pub one_plain_pair_more : List ℤ → ℕ
one_plain_pair_more w = inversions w + pick (same_window w window_of_B7) 1 0

abbrev pub one_mirrored_pair_less : List ℤ → ℕ
one_mirrored_pair_less w = negative_sum_pairs w - pick (same_window w window_of_B7) 1 0

-- L2: the law `inversions_counted`
abbrev pub InversionsCounted : (List ℤ → ℕ) → Type 0
InversionsCounted number =
    (w : List ℤ) → (ps : List (ℕ × ℕ))
    × ((a b : ℕ) → a < b → b < length ps → get_or ps a (0, 0) ≡ get_or ps b (0, 0) → ⊥)
    × ((i j : ℕ) → Memᴰ (i, j) ps ↔ ((i < j) × (j < length w) × (later (get_or w i (pos 0)) (get_or w j (pos 0)) ≡ true)))
    × (length ps ≡ number w)

-- L3: the law `negative_sum_pairs_counted`
abbrev pub NegativeSumPairsCounted : (List ℤ → ℕ) → Type 0
NegativeSumPairsCounted number =
    (w : List ℤ) → (ps : List (ℕ × ℕ))
    × ((a b : ℕ) → a < b → b < length ps → get_or ps a (0, 0) ≡ get_or ps b (0, 0) → ⊥)
    × ((i j : ℕ) → Memᴰ (i, j) ps ↔ ((i < j) × (j < length w) × (later (get_or w i (pos 0)) (neg_ℤ (get_or w j (pos 0))) ≡ true)))
    × (length ps ≡ number w)

-- Q12, L2: the law rules out that a plain pair too many is counted in one window
pub one_plain_pair_more_ruled_out : TellsApart InversionsCounted inversions one_plain_pair_more
unfolding inversions later_than later one same_window same_entry
one_plain_pair_more_ruled_out = (
  inversions_counted,
  λ law.
      let r = law window_of_B7 in
      let s = inversions_counted window_of_B7 in
      none r.0 s.0 (λ i j m. (s.2 i j).1 ((r.2 i j).0 m)) r.3 s.3,
)
  where
    none : (ps qs : List (ℕ × ℕ)) → ((i j : ℕ) → Memᴰ (i, j) ps → Memᴰ (i, j) qs) → length ps ≡ 1 → length qs ≡ 0 → ⊥
    none [] qs f e z = omega arith
    none ((i, j) ∷ ps) [] f e z = Memᴰ.not-nil (f i j (Memᴰ.head refl))
    none ((i, j) ∷ ps) (q ∷ qs) f e z = omega arith

-- Q12, L3: the law rules out that the pair of its last two entries is not counted
pub one_mirrored_pair_less_ruled_out : TellsApart NegativeSumPairsCounted negative_sum_pairs one_mirrored_pair_less
unfolding negative_sum_pairs later_than later one same_window same_entry
one_mirrored_pair_less_ruled_out = (
  negative_sum_pairs_counted,
  λ law. let r = law window_of_B7 in some_pair r.0 ((r.2 5 6).1 (omega arith, omega arith, refl)) r.3,
)
  where
    some_pair : (ps : List (ℕ × ℕ)) → Memᴰ (5, 6) ps → length ps ≡ 0 → ⊥
    some_pair [] m e = Memᴰ.not-nil m
    some_pair (p ∷ ps) m e = omega arith

-- ---- relations

-- a relation, or any two words that act alike
abbrev pub RelatedOrAlike : Kind → ℕ → List ℕ → List ℕ → Type 0
RelatedOrAlike k n l r = Relation k n l r ⊎ (window k n l ≡ window k n r)

-- E1 to E5: the law `relation_sides`
abbrev pub RelationSides : (Kind → ℕ → List ℕ → List ℕ → Type 0) → Type 0
RelationSides related =
    (k : Kind) (n : ℕ) (l r : List ℕ) → related k n l r
    → ((a : ℕ) × (1 ≤ a) × (a ≤ n) × (l ≡ a ∷ a ∷ []) × (r ≡ []))
    ⊎ ((a b : ℕ) × (1 ≤ a) × (a < b) × (b ≤ n)
    × (((l ≡ a ∷ b ∷ []) × (r ≡ b ∷ a ∷ []))
    ⊎ ((l ≡ a ∷ b ∷ a ∷ []) × (r ≡ b ∷ a ∷ b ∷ []))
    ⊎ ((l ≡ a ∷ b ∷ a ∷ b ∷ []) × (r ≡ b ∷ a ∷ b ∷ a ∷ []))))

-- Q12, E1 to E5: the law rules out that words that act alike are a relation, by the empty word and itself
pub RelatedOrAlike_ruled_out : TellsApart RelationSides Relation RelatedOrAlike
RelatedOrAlike_ruled_out = (
  relation_sides,
  λ law. elim (law A 1 [] [] (inr refl)) [
    | inl (a, o, h, e, f) ↦ let z = ap length e in omega arith
    | inr (a, b, o, h, g, inl (e, f)) ↦ let z = ap length e in omega arith
    | inr (a, b, o, h, g, inr (inl (e, f))) ↦ let z = ap length e in omega arith
    | inr (a, b, o, h, g, inr (inr (e, f))) ↦ let z = ap length e in omega arith
  ],
)

-- ---- blocks

-- in B₅ the blocks [1,4] and [1,5] swapped
abbrev pub two_blocks_swapped : Kind → ℕ → ℕ → ℕ → List ℕ
two_blocks_swapped A n i j = block A n i j
two_blocks_swapped B n i j = block B n i (pick (eqb n 5 && eqb i 1) (pick (eqb j 4) 5 (pick (eqb j 5) 4 j)) j)
two_blocks_swapped D n i j = block D n i j

-- N5, N7: the law `block_rises`
abbrev pub BlockRises : (Kind → ℕ → ℕ → ℕ → List ℕ) → Type 0
BlockRises made =
    (k : Kind) (n i j : ℕ) → i ≤ j → j ≤ n → (k ≡ D → j < n)
    → (length (made k n i j) ≡ j + 1 - i) × ((p : ℕ) → p < j + 1 - i → get_or (made k n i j) p 0 ≡ i + p)

-- Q12, N5: the law rules out that two blocks of B₅ are swapped, since [1,4] has four letters
pub two_blocks_swapped_ruled_out : TellsApart BlockRises block two_blocks_swapped
unfolding block rise up
two_blocks_swapped_ruled_out = (block_rises, λ law. let e = (law B 5 1 4 (omega arith) (omega arith) (λ d. omega arith)).0 in omega arith)
