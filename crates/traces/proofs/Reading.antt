-- Reading a word letter by letter, rewriting at the lowest place. What has been read is a normal form and one
-- letter that rules carry to the left: the rule that ends with that letter is at the lowest place of the whole
-- word, and after it the letter stands at that place, or is gone with an equal one. If no rule ends with it,
-- what has been read is a normal form (Inserting), and the next letter is read. So each letter takes at most as
-- many steps as letters stand before it, and no rewriting has more steps than the word has pairs of letters.
--
-- Sections: lists; the letter that moves; the rule that it ends; the number of steps.
-- Assumes nothing.
use mathlib.Core.Path.{◌≡◌, refl, sym, ap, ap₂, subst, ◌∙◌}
use mathlib.Core.Bool.{true, false}
use mathlib.Core.List.{List, [], ◌∷◌, ◌++◌, append_assoc, append-nil, Memᴰ}
use mathlib.Core.Option.{Option, none, some}
use Prim.Native.Nat.{ℕ, zero, suc, ◌+◌, ◌-◌, ◌*◌, ◌/◌, ◌≤◌, ◌<◌}
use native.Mathlib.Nat.{zero-add, mul-zero, suc-mul, mul-suc, mul-le-mul_left}
use native.Mathlib.Decide.{ℕ_discrete}
use native.Mathlib.Omega.{arith}
use lib.ListN.{length, get_or, take, drop, drop_of_length-le, length-append}
use lib.Seq.{append_snoc, take_at}
use Rattle.coxeter.specs.declared.Kind.{Kind}
use Rattle.coxeter.specs.Kinds.{least}
use Rattle.coxeter.specs.Windows.{window}
use Rattle.coxeter.specs.Checks.{wrong_letter}
use Rattle.coxeter.proofs.LetterLaws.{letter_within_cons}
use Rattle.rules.specs.Rules.{rules, fits, rewritten, Irreducible}
use Rattle.rules.proofs.Rewriting.{Rewrites}
use Rattle.rules.proofs.Fits.{fits_split, rewritten_split, fits-past, first_fitting_some, left_nonempty}
use Rattle.rules.proofs.Completeness.{rewrites_letters, rewrites_window, rewrites_length}
use Rattle.shortest_words.proofs.Shortest.{letters_snoc}
use Rattle.traces.specs.Traces.{Redex, lowest_redex, Trace, trace}
use Rattle.traces.proofs.LeftSideShapes.{left_two}
use Rattle.traces.proofs.LeftSides.{Sides, drops, moves, sides_of_rule}
use Rattle.traces.proofs.Traces.{Lowest, after, lowest_some, lowest_is, irreducible_of_none, none_of_irreducible, lowest_rewrites}
use Rattle.traces.proofs.Traces.{trace_none, trace_some}
use Rattle.traces.proofs.Endings.{ends_there, lowest_of_ending}
use Rattle.traces.proofs.LeastWords.{letters_left, letters_right, Normal, normal_front}
use Rattle.traces.proofs.Inserting.{Below, normal_without, normal_with}

-- ---- lists

snoc_same : (u v : List ℕ) (a b : ℕ) → u ++ (a ∷ []) ≡ v ++ (b ∷ []) → (u ≡ v) × (a ≡ b)
snoc_same [] [] a b e = (refl, ap (λ (w : List ℕ). get_or w 0 0) e)
snoc_same [] (y ∷ v) a b e = let z : 1 ≡ suc (length (v ++ (b ∷ []))) = ap length e in absurd (omega (arith, length-append v (b ∷ [])))
snoc_same (x ∷ u) [] a b e = let z : suc (length (u ++ (a ∷ []))) ≡ 1 = ap length e in absurd (omega (arith, length-append u (a ∷ [])))
snoc_same (x ∷ u) (y ∷ v) a b e =
    let r = snoc_same u v a b (ap (drop 1) e) in
    let z : x ≡ y = ap (λ (w : List ℕ). get_or w 0 0) e in
    (cc, r.1)

length_nil : (u : List ℕ) → length u ≤ 0 → u ≡ []
length_nil u = drop_of_length-le u

pub nil_irreducible : (k : Kind) (n : ℕ) → least k ≤ n → Irreducible (rules k n) []
nil_irreducible k n h r m p = fits-past r [] p (left_nonempty k n h r m) (omega arith)

-- ---- the letter that moves

-- z has been read, and the letter at place q moves: without it z is a normal form, with it z has the window of that
-- normal form and one more step, and the letter behind it is lower
pub record Reading (k : Kind) (n : ℕ) (z : List ℕ) (q : ℕ) : Type 0 where
  pub front : List ℕ
  pub letter : ℕ
  pub back : List ℕ
  pub is : z ≡ front ++ (letter ∷ back)
  pub place : length front ≡ q
  pub letters : wrong_letter n z ≡ false
  pub normal : Normal k n (front ++ back)
  pub above : Below letter back
  pub step : ℕ
  pub low : 1 ≤ step
  pub high : step ≤ n
  pub shows : window k n z ≡ window k n ((front ++ back) ++ (step ∷ []))

-- one more letter behind a normal form
pub reading_next : (k : Kind) (n : ℕ) (w : List ℕ) (x : ℕ) → Normal k n w → 1 ≤ x → x ≤ n → Reading k n (w ++ (x ∷ [])) (length w)
reading_next k n w x m o l = record {
  front = w;
  letter = x;
  back = [];
  is = refl;
  place = refl;
  letters = letters_snoc n w x m.letters o l;
  normal = rw append-nil m;
  above = λ c d e. let z : 0 ≡ suc (length d) = ap length e in absurd (omega arith);
  step = x;
  low = o;
  high = l;
  shows = rw append-nil;
}

module _ (k : Kind) (n : ℕ) (h : least k ≤ n) (z : List ℕ) (q : ℕ) (r : Reading k n z q) where
  -- what has been read up to the letter
  pub upto : take (suc q) z ≡ r.front ++ (r.letter ∷ [])
  upto =
      ap (take (suc q)) (r.is ∙ sym (append_snoc r.front r.letter r.back))
      ∙ take_at (r.front ++ (r.letter ∷ [])) r.back (suc q) (rw length-append (omega (arith, r.place)))

  pub reading_inside : q < length z
  reading_inside = omega (arith, r.place, simp length-append at (ap length r.is))

  -- no rule fits before the letter
  pub reading_before : Irreducible (rules k n) (take q z)
  reading_before =
      subst (Irreducible (rules k n)) (sym (ap (take q) r.is ∙ take_at r.front (r.letter ∷ r.back) q r.place))
      (normal_front k n h r.front r.back r.normal).irreducible

  -- where no rule ends with the letter, z is a normal form
  pub reading_ends : lowest_redex k n (take (suc q) z) ≡ none → Normal k n z
  reading_ends e =
      let p : Normal k n (r.front ++ (r.letter ∷ [])) = record {
        letters = letters_left n (r.front ++ (r.letter ∷ [])) r.back
            (ap (wrong_letter n) (append_snoc r.front r.letter r.back ∙ sym r.is) ∙ r.letters);
        irreducible = irreducible_of_none k n _ h (ap (lowest_redex k n) (sym upto) ∙ e);
      } in
      subst (Normal k n) (sym r.is)
      (normal_with k n h r.front r.letter r.back r.step r.normal p r.above r.low r.high
      (ap (window k n) (sym r.is) ∙ r.shows))

  -- ---- the rule that it ends

  module _ (s : Redex) (e : lowest_redex k n (take (suc q) z) ≡ some s) where
    -- the rule is of the list, and fits there
    pub fitting : Memᴰ s.rule (rules k n) × (fits s.rule (r.front ++ (r.letter ∷ [])) s.place ≡ true)
    fitting = first_fitting_some (rules k n) _ s.place s.rule (lowest_some k n _ s (ap (lowest_redex k n) (sym upto) ∙ e)).fitting

    none_before : Irreducible (rules k n) r.front
    none_before = (normal_front k n h r.front r.back r.normal).irreducible

    pub reading_length : s.place + length s.rule.left ≡ suc q
    reading_length = ends_there k n h r.front r.letter none_before s.rule fitting.0 s.place fitting.1 ∙ ap suc r.place

    -- it is at the lowest place, whatever follows
    pub reading_lowest : (rest : List ℕ) → Lowest k n (z ++ rest) s
    reading_lowest rest =
        subst (λ (w : List ℕ). Lowest k n w s)
        (sym (ap (λ (w : List ℕ). w ++ rest) r.is ∙ append_assoc r.front (r.letter ∷ r.back) rest))
        (lowest_of_ending k n h r.front r.letter none_before s.rule fitting.0 s.place fitting.1 (r.back ++ rest))

    -- the left side stands at the end of what has been read up to the letter
    pub split : (x : List ℕ) × (length x ≡ s.place) × (r.front ++ (r.letter ∷ []) ≡ x ++ s.rule.left)
    split =
        let l : s.place ≤ length (r.front ++ (r.letter ∷ [])) = rw length-append (omega (arith, reading_length, r.place)) in
        let t = fits_split s.rule (r.front ++ (r.letter ∷ [])) s.place l fitting.1 in
        let y : t.1 ≡ [] = length_nil t.1 (omega (arith, simp length-append at (ap length t.3), reading_length, r.place, t.2)) in
        (t.0, t.2, t.3 ∙ rw (y, append-nil))

    pub z_split : z ≡ split.0 ++ (s.rule.left ++ r.back)
    z_split =
        r.is ∙ sym (append_snoc r.front r.letter r.back) ∙ ap (λ (w : List ℕ). w ++ r.back) split.2
        ∙ append_assoc split.0 s.rule.left r.back

    pub after_is : after z s ≡ split.0 ++ (s.rule.right ++ r.back)
    after_is = ap₂ (rewritten s.rule) z_split (sym split.1) ∙ rewritten_split s.rule split.0 r.back

    -- what follows is not touched
    pub after_rest : (rest : List ℕ) → after (z ++ rest) s ≡ after z s ++ rest
    after_rest rest =
        ap₂ (rewritten s.rule) (ap (λ (w : List ℕ). w ++ rest) z_split ∙ simp append_assoc) (sym split.1)
        ∙ rewritten_split s.rule split.0 (r.back ++ rest)
        ∙ sym (ap (λ (w : List ℕ). w ++ rest) after_is ∙ simp append_assoc)

    -- the place is lower than the letter's
    pub reading_lower : s.place < q
    reading_lower = omega (arith, reading_length, left_two k n h s.rule fitting.0)

    rewrites : Rewrites k n z (after z s)
    rewrites = lowest_rewrites h (subst (λ (w : List ℕ). Lowest k n w s) (append-nil z) (reading_lowest []))

    after-window : window k n (after z s) ≡ window k n z
    after-window = sym (rewrites_window k n h rewrites)

    -- family 1 leaves a normal form
    pub reading_dropped : s.rule.family ≡ 1 → Normal k n (after z s)
    reading_dropped g = reading_dropped_by_cases (sides_of_rule k n h s.rule fitting.0)
      where
        reading_dropped_by_cases : Sides s.rule → Normal k n (after z s)
        reading_dropped_by_cases (moves c y b l f p t i) = absurd (f g)
        reading_dropped_by_cases (drops c f l t) =
            let x = split.0 in
            let u = snoc_same r.front (x ++ (c ∷ [])) r.letter c (split.2 ∙ ap (λ (w : List ℕ). x ++ w) l ∙ sym (append_snoc x c (c ∷ []))) in
            let v : r.front ++ r.back ≡ x ++ (c ∷ r.back) = ap (λ (w : List ℕ). w ++ r.back) u.0 ∙ append_snoc x c r.back in
            let a : after z s ≡ x ++ r.back = after_is ∙ ap (λ (w : List ℕ). x ++ (w ++ r.back)) t in
            subst (Normal k n) (sym a)
            (normal_without k n h x c r.back r.step (subst (Normal k n) v r.normal) r.low r.high
            (ap (window k n) (sym a) ∙ after-window ∙ r.shows ∙ ap (λ (w : List ℕ). window k n (w ++ (r.step ∷ []))) v))

    -- after any other family the letter stands at the place of the rule
    pub reading_moved : (s.rule.family ≡ 1 → ⊥) → Reading k n (after z s) s.place
    reading_moved g = reading_moved_by_cases (sides_of_rule k n h s.rule fitting.0)
      where
        reading_moved_by_cases : Sides s.rule → Reading k n (after z s) s.place
        reading_moved_by_cases (drops c f l t) = absurd (g f)
        reading_moved_by_cases (moves c y b l f p t i) =
            let x = split.0 in
            let u = snoc_same r.front (x ++ (b ∷ l)) r.letter c
            (split.2 ∙ ap (λ (w : List ℕ). x ++ w) p ∙ sym (append_assoc x (b ∷ l) (c ∷ []))) in
            let v : r.front ++ r.back ≡ x ++ (b ∷ (l ++ r.back)) =
            ap (λ (w : List ℕ). w ++ r.back) u.0 ∙ append_assoc x (b ∷ l) r.back in
            record {
              front = x;
              letter = y;
              back = b ∷ (l ++ r.back);
              is = after_is ∙ ap (λ (w : List ℕ). x ++ (w ++ r.back)) t;
              place = split.1;
              letters = rewrites_letters rewrites r.letters;
              normal = subst (Normal k n) v r.normal;
              above = λ d w e. omega (arith, ap (λ (j : List ℕ). get_or j 0 0) e);
              step = r.step;
              low = r.low;
              high = r.high;
              shows = after-window ∙ r.shows ∙ ap (λ (w : List ℕ). window k n (w ++ (r.step ∷ []))) v;
            }

-- ---- the number of steps

-- one letter more makes a pair with each of the others
pub pairs-suc : (r : ℕ) → suc r * (suc r - 1) / 2 ≡ r + r * (r - 1) / 2
pairs-suc zero = omega arith
pairs-suc (suc r) =
    let a : suc (suc r) - 1 ≡ suc r = omega arith in
    let b : suc r - 1 ≡ r = omega arith in
    rw (a, b) (omega (arith, suc-mul (suc r) (suc r), mul-suc (suc r) r))

module _ (k : Kind) (n : ℕ) (h : least k ≤ n) where
  abbrev pub steps : List ℕ → ℕ
  steps u = length (trace k n u).lines

  -- the step of the whole word
  pub steps_step : (z : List ℕ) (q : ℕ) (rest : List ℕ) (r : Reading k n z q) (s : Redex) → lowest_redex k n (take (suc q) z) ≡ some s
      → wrong_letter n (z ++ rest) ≡ false
      → (steps (z ++ rest) ≡ suc (steps (after z s ++ rest))) × (wrong_letter n (after z s ++ rest) ≡ false) × (length (after z s) ≤ length z)
  steps_step z q rest r s e l =
      let a = reading_lowest k n h z q r s e rest in
      let b = after_rest k n h z q r s e rest in (
        ap (λ (t : Trace). length t.lines) (trace_some k n h (z ++ rest) s l (lowest_is k n (z ++ rest) s a)) ∙ ap (λ (w : List ℕ). suc (steps w)) b,
        ap (wrong_letter n) (sym b) ∙ rewrites_letters (lowest_rewrites h a) l,
        rewrites_length (rewrites k n h z q r s e),
      )

  -- the letter moves over at most q places, and the rest takes at most m steps
  steps_reading : (t : ℕ) (z : List ℕ) (q : ℕ) (rest : List ℕ) (m : ℕ) → q < t → Reading k n z q → wrong_letter n (z ++ rest) ≡ false
      → ((w : List ℕ) → Normal k n w → length w ≤ length z → wrong_letter n (w ++ rest) ≡ false → steps (w ++ rest) ≤ m) → steps (z ++ rest) ≤ q + m
  steps_reading zero z q rest m g r l f = absurd (omega arith)
  steps_reading (suc t) z q rest m g r l f =
      steps_reading_by_cases (lowest_redex k n (take (suc q) z)) refl (λ v p. steps_reading t v p rest m)
    where
      steps_reading_by_cases : (o : Option Redex) → lowest_redex k n (take (suc q) z) ≡ o
          → ((v : List ℕ) (p : ℕ) → p < t → Reading k n v p → wrong_letter n (v ++ rest) ≡ false
          → ((w : List ℕ) → Normal k n w → length w ≤ length v → wrong_letter n (w ++ rest) ≡ false → steps (w ++ rest) ≤ m) → steps (v ++ rest) ≤ p + m)
          → steps (z ++ rest) ≤ q + m
      steps_reading_by_cases none e ih = omega (arith, f z (reading_ends k n h z q r e) (omega arith) l)
      steps_reading_by_cases (some s) e ih =
          let b = steps_step z q rest r s e l in
          let d = reading_lower k n h z q r s e in
          elim (ℕ_discrete s.rule.family 1) [
            | yes c ↦ omega (arith, b.0, d, f (after z s) (reading_dropped k n h z q r s e c) b.2 b.1)
            | no c ↦
                let a = ih (after z s) s.place (omega arith) (reading_moved k n h z q r s e c) b.1 (λ w i j. f w i (omega (arith, b.2))) in
                omega (arith, b.0, d)
          ]

  -- each letter of the rest moves over at most the letters before it: those of w, and those of the rest
  steps_normal : (rest w : List ℕ) → Normal k n w → wrong_letter n (w ++ rest) ≡ false
      → steps (w ++ rest) ≤ length rest * length w + length rest * (length rest - 1) / 2
  steps_normal [] w m l =
      rw append-nil (omega (arith, ap (λ (t : Trace). length t.lines) (trace_none k n h w (none_of_irreducible k n w m.irreducible))))
  steps_normal (x ∷ rest) w m l =
      let a = letter_within_cons n x rest (letters_right n w (x ∷ rest) l) in
      let b = length-append w (x ∷ []) in
      let c = steps_reading (suc (length w)) (w ++ (x ∷ [])) (length w) rest (length rest * suc (length w) + length rest * (length rest - 1) / 2)
      (omega arith) (reading_next k n w x m a.0 a.1) (ap (wrong_letter n) (append_snoc w x rest) ∙ l)
      (λ v i j e. let d : length rest * length v ≤ length rest * suc (length w) = mul-le-mul_left (length rest) (omega arith) in
      omega (arith, steps_normal rest v i e)) in
      omega (arith, ap steps (append_snoc w x rest), suc-mul (length rest) (length w), mul-suc (length rest) (length w), pairs-suc (length rest))

-- the number of steps is at most the number of pairs of the word's letters
pub steps_at_most : (k : Kind) (n : ℕ) → least k ≤ n → (u : List ℕ) → wrong_letter n u ≡ false
    → length (trace k n u).lines ≤ length u * (length u - 1) / 2
unfolding wrong_letter
steps_at_most k n h u l =
    rw (mul-zero, zero-add) at (steps_normal k n h u [] (record { letters = refl; irreducible = nil_irreducible k n h }) l)
