-- The block before the letter: where the lower of the last two letters stands, all up to before the letter is a
-- block, whose last letter and length tell which; the rule of that block and the letter is the one that ends with
-- the letter.
-- Assumes nothing.
use mathlib.Core.Path.{◌≡◌, refl, sym, ap, subst, ◌∙◌}
use mathlib.Core.Bool.{false}
use mathlib.Core.Logic.{⊎_elim}
use mathlib.Core.List.{List, [], ◌∷◌, ◌++◌}
use Prim.Native.Nat.{ℕ, suc, ◌+◌, ◌-◌, ◌*◌, ◌≤◌, ◌<◌}
use native.Mathlib.Nat.{lt_of_not-le}
use native.Mathlib.Decide.{dec_le, ℕ_discrete}
use native.Mathlib.Omega.{arith}
use lib.Dec.{eqb}
use lib.ListN.{length, get_or, take, drop, length-drop, take-append-drop}
use lib.Seq.{length-take-le, take-suc, drop-cons, drop_at, drop-append-le, get_or-take, get_or-drop}
use borrow.Author.Tests.{eq-eqb, ne_eqb, lt-ltb, le-ltb}
use Rattle.coxeter.specs.declared.Kind.{Kind}
use Rattle.coxeter.specs.Kinds.{pick, least}
use Rattle.coxeter.specs.Checks.{wrong_letter}
use Rattle.coxeter.specs.NormalForm.{block, levels, last_index}
use Rattle.coxeter.proofs.LetterLaws.{letter_within_cons, letter_at}
use Rattle.rules.specs.Rules.{rules, Irreducible}
use Rattle.rules.proofs.Letters.{block_one}
use Rattle.rules.proofs.BlockWords.{block-short}
use Rattle.rules.proofs.Scan.{next_index, fork, family_at, shown_index, first_letter, walk, scan, Along, start, further, scan-block}
use Rattle.traces.specs.Traces.{lowest_redex}
use Rattle.traces.proofs.PartBlocks.{index_by, part-block}
use Rattle.traces.proofs.LeftSideShapes.{lower}
use Rattle.traces.proofs.TwoLetters.{commuting}
use Rattle.traces.proofs.LeastWords.{letters_left, Normal, normal_back}
use Rattle.traces.proofs.Reading.{Reading, reading_inside, reading_before}
use Rattle.rewriter.specs.declared.ending.Ending.{Ending}
use Rattle.std.specs.Prelude.{Option as Maybe, Some, None}
use Rattle.rewriter.proofs.search.Searches.{Searching, Searchable, along_le, searching_next, searching_found, searching_end}
use Rattle.rewriter.proofs.ending.Ends.{Begun, told, block_ending, ending_of, upto_one, ending_none, ending_found}

module _ {k : Kind} {n : ℕ} (h : least k ≤ n) {w : List ℕ} {q : ℕ} (r : Reading k n w q) (o : 1 ≤ q) (p : ℕ) (b : Begun w n q p)
    (d : get_or w (q - 1) 0 ≡ get_or w q 0 → ⊥) (t : commuting n (levels k n) (get_or w (q - 1) 0) (get_or w q 0) ≡ false) where
  end_inside : q < length w
  end_inside = reading_inside k n h w q r

  letters_within : (t : ℕ) → t < length w → get_or w t 0 ≤ n
  letters_within t l = (letter_at n w t l r.letters).1

  abbrev before : ℕ
  before = get_or w (q - 1) 0

  abbrev letter : ℕ
  letter = get_or w q 0

  module _ (e : get_or w p 0 ≡ lower before letter) where
    -- i is the lower of the two, p is before the letter, and all from p up to before the letter is i or higher
    record Low : Type 0 where
      pub one_le : 1 ≤ lower before letter
      pub below_n : lower before letter < n
      pub before_q : p < q
      pub at_least : (t : ℕ) → p < t → t < q → lower before letter ≤ get_or w t 0

    low : Low
    low = elim (dec_le letter before) [ yes c ↦ falling c | no c ↦ rising (lt_of_not-le c) ]
      where
        x_in : (1 ≤ letter) × (letter ≤ n)
        x_in = letter_at n w q end_inside r.letters

        l_in : (1 ≤ before) × (before ≤ n)
        l_in = letter_at n w (q - 1) (omega (arith, end_inside)) r.letters

        falling : letter ≤ before → Low
        falling c =
            let m : letter < before = elim (ℕ_discrete letter before) [ yes y ↦ absurd (d (sym y)) | no y ↦ omega arith ] in
            let s = b.2 c in
            let i : lower before letter ≡ letter = rw (lt-ltb letter before m) in
            record {
              one_le = rw i x_in.0;
              below_n = rw i (omega (arith, l_in));
              before_q = ⊎_elim (λ y. omega (arith, x_in)) (λ y. y.0) s.ends;
              at_least = λ t u v. rw i (omega (arith, s.above t u v));
            }

        rising : before < letter → Low
        rising c =
            let s = b.1 c in
            let i : lower before letter ≡ before = rw (le-ltb letter before (omega arith)) in
            record {
              one_le = rw i l_in.0;
              below_n = rw i (omega (arith, x_in));
              before_q = omega (arith, s.inside);
              at_least = λ t u v. rw i (elim (ℕ_discrete t (q - 1)) [ yes y ↦ rw y (omega arith) | no y ↦ omega (arith, s.above t u (omega arith)) ]);
            }

    abbrev i : ℕ
    i = lower before letter

    -- the letters from p up to before the letter
    abbrev part : List ℕ
    part = drop p (take q w)

    part_size : length part ≡ q - p
    part_size = length-drop p (take q w) ∙ rw (length-take-le q w (omega (arith, end_inside)))

    normal_part : Normal k n part
    normal_part =
        normal_back k n h (take p (take q w)) part
        (subst (Normal k n) (sym (take-append-drop p (take q w)))
        (record {
          letters = letters_left n (take q w) (drop q w) (ap (wrong_letter n) (take-append-drop q w) ∙ r.letters);
          irreducible = reading_before k n h w q r;
        }))

    part_cons : part ≡ i ∷ drop (suc p) (take q w)
    part_cons =
        drop-cons (take q w) p 0 (rw (length-take-le q w (omega (arith, end_inside))) low.before_q)
        ∙ ap (λ (y : ℕ). y ∷ drop (suc p) (take q w)) (get_or-take q w p 0 low.before_q ∙ e)

    there : (j : ℕ) × Along k n i j × (i ∷ drop (suc p) (take q w) ≡ block k n i j)
        × ((m l : ℕ) → suc m ≡ length (i ∷ drop (suc p) (take q w)) → l ≡ get_or (i ∷ drop (suc p) (take q w)) m 0 → j ≡ index_by k n i (suc m) l)
    there =
        part-block h low.one_le low.below_n
        (letter_within_cons n i (drop (suc p) (take q w)) (subst (λ (u : List ℕ). wrong_letter n u ≡ false) part_cons normal_part.letters)).2
        (λ t l.
        let v : suc p + t < q = omega (arith, length-drop (suc p) (take q w), length-take-le q w (omega (arith, end_inside))) in
        rw (get_or-drop (suc p) (take q w) t 0, get_or-take q w (suc p + t) 0 v) (low.at_least (suc p + t) (omega arith) v))
        (subst (Irreducible (rules k n)) part_cons normal_part.irreducible)

    index_there : there.0 ≡ index_by k n (lower (get_or w (q - 1) 0) (get_or w q 0)) (q - p) (get_or w (q - 1) 0)
    index_there =
        let m : ℕ = q - p - 1 in
        let s : suc m ≡ q - p = omega (arith, low.before_q) in
        let z : p + m ≡ q - 1 = omega (arith, low.before_q) in
        rw s at
        (there.3 m before (s ∙ sym (sym (ap length part_cons) ∙ part_size))
        (sym (ap (λ (u : List ℕ). get_or u m 0) (sym part_cons) ∙ get_or-drop p (take q w) m 0 ∙ ap (λ (t : ℕ). get_or (take q w) t 0) z
        ∙ get_or-take q w (q - 1) 0 (omega arith))))

    along_short : (j : ℕ) → Along k n i j → length (block k n i j) ≤ 2 * n
    along_short j (start o l t) = rw (t, block_one k n i h l) (omega arith)
    along_short j (further o l g m) = omega (arith, block-short k n i j o (omega arith) m)

    pub size_there : n ≤ 64 → (lower (get_or w (q - 1) 0) (get_or w q 0) ≤ n) × (1 ≤ q - p) × (q - p ≤ 128)
    size_there g =
        omega (
          arith,
          low.below_n,
          low.before_q,
          along_short there.0 there.1,
          ap length there.2,
          ap length part_cons,
          part_size,
        )

    -- v is the lower of the two letters, and j the index of the block, as they were computed
    module _ (v j : ℕ) (u : v ≡ lower (get_or w (q - 1) 0) (get_or w q 0)) (f : j ≡ index_by k n v (q - p) (get_or w (q - 1) 0)) where
      index_is : j ≡ there.0
      index_is = rw u at f ∙ sym index_there

      pub index_small : (v ≤ n) × (j ≤ 2 * n) × (get_or w q 0 ≤ n)
      index_small = (omega (arith, low.below_n), omega (arith, index_is, along_le k n i there.0 there.1), letters_within q end_inside)

    -- the search of one rewrite comes to the letter with this block
    searching : Searching k n (take (q + 1) w) p i there.0 q
    searching =
        let j = there.0 in
        let one : take (q + 1) w ≡ take q w ++ (letter ∷ []) = upto_one q w ∙ take-suc w q 0 end_inside in
        let size : length (take q w) ≡ q = length-take-le q w (omega (arith, end_inside)) in
        let last : drop q (take (q + 1) w) ≡ letter ∷ [] = ap (drop q) one ∙ drop_at (take q w) (letter ∷ []) q size in
        let whole : drop p (take (q + 1) w) ≡ block k n i j ++ (letter ∷ []) =
        ap (drop p) one ∙ drop-append-le p (take q w) (letter ∷ []) (omega (arith, low.before_q))
        ∙ ap (λ (u : List ℕ). u ++ (letter ∷ [])) (part_cons ∙ there.2) in
        record {
          inside = rw (upto_one q w, length-take-le (suc q) w end_inside) (omega arith);
          along = there.1;
          passed = omega (arith, low.before_q, ap length there.2, ap length part_cons, part_size);
          rest = ap (scan k n) whole ∙ scan-block k n i j h there.1 (letter ∷ []) ∙ ap (walk k n i j) (sym last);
        }

    searchable : Searchable k n (take (q + 1) w)
    searchable = record {
      rank = h;
      letters = letters_left n (take (q + 1) w) (drop (q + 1) w) (ap (wrong_letter n) (take-append-drop (q + 1) w) ∙ r.letters);
    }

    last_letter : get_or (take (q + 1) w) q 0 ≡ letter
    last_letter = get_or-take (q + 1) w q 0 (omega arith)

    long_enough : q < length (take (q + 1) w)
    long_enough = rw (upto_one q w, length-take-le (suc q) w end_inside) (omega arith)

    -- the rule with the left side [i,j] x, as the code tells it
    abbrev rule_told : ℕ → ℕ → Maybe Ending
    rule_told s f = pick (eqb s 0) (pick (eqb f 0) None (Some (told f p (first_letter n f i (shown_index f there.0 letter))))) None

    by_numbers : {s f : ℕ} → s ≡ next_index n (levels k n) (last_index k n i) there.0 letter → f ≡ family_at n (fork k n) i there.0 letter
        → rule_told s f ≡ ending_of (lowest_redex k n (take (suc q) w))
    by_numbers {s} {f} x y = elim (ℕ_discrete s 0) [ yes z ↦ leaves z | no z ↦ stays z ]
      where
        stays : (s ≡ 0 → ⊥) → rule_told s f ≡ ending_of (lowest_redex k n (take (suc q) w))
        stays z =
            let v = searching_next k n (take (q + 1) w) searchable searching long_enough (rw last_letter x) z in
            let u = searching_end k n (take (q + 1) w) searchable p i s (q + 1) v (rw (upto_one q w, length-take-le (suc q) w end_inside) (omega arith)) in
            rw (ne_eqb s 0 z) (ending_none k n h w q r o p b d t refl (sym u))

        leaves : s ≡ 0 → rule_told s f ≡ ending_of (lowest_redex k n (take (suc q) w))
        leaves z =
            let v =
            rw last_letter at
            (searching_found k n (take (q + 1) w) searchable searching long_enough {f = f} (rw last_letter (sym x ∙ z)) (rw last_letter (sym y))) in
            elim (ℕ_discrete f 0) [
              | yes g ↦ rw (eq-eqb s 0 z, eq-eqb f 0 g) (ending_none k n h w q r o p b d t refl (v ∙ rw (eq-eqb f 0 g)))
              | no g ↦
                  let m = shown_index f there.0 letter in
                  rw (eq-eqb s 0 z, ne_eqb f 0 g) (ending_found k n h w q r o p b d t refl f i m (q + 1 - p) (v ∙ rw (ne_eqb f 0 g)) refl)
            ]

    pub ending_block : {v j : ℕ} {a : Maybe Ending} → v ≡ lower (get_or w (q - 1) 0) (get_or w q 0) → j ≡ index_by k n v (q - p) (get_or w (q - 1) 0)
        → a ≡ block_ending k n p v j (get_or w q 0) → a ≡ ending_of (lowest_redex k n (take (suc q) w))
    ending_block {v} {j} u f g = (rw (index_is v j u f, u) at g) ∙ by_numbers refl refl
