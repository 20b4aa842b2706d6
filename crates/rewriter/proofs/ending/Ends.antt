-- The turns of the module `ending`: its loop goes back over letters above i; what stands from where it stops is a
-- block, and the rule of that block and the letter is the one that ends with the letter.
--
-- Sections: the search; the rule.
-- Not here: the block before the letter (BlockEnds).
-- Assumes nothing.
use mathlib.Core.Path.{◌≡◌, refl, sym, ap, subst, ◌∙◌}
use mathlib.Core.Bool.{false}
use mathlib.Core.List.{List}
use mathlib.Core.Option.{Option, none, some, none-ne-some}
use Prim.Native.Nat.{ℕ, suc, ◌+◌, ◌-◌, ◌*◌, ◌≤◌, ◌<◌, min}
use native.Mathlib.Nat.{lt_of_not-le}
use native.Mathlib.Decide.{dec_le}
use native.Mathlib.Omega.{arith}
use lib.Dec.{eqb}
use lib.ListN.{length, get_or, take, drop, length-take}
use borrow.Author.Tests.{ne_eqb, lt-ltb, le-ltb}
use Rattle.coxeter.specs.declared.Kind.{Kind}
use Rattle.coxeter.specs.Kinds.{pick, least}
use Rattle.coxeter.specs.NormalForm.{levels, last_index}
use Rattle.coxeter.proofs.LetterLaws.{letter_at}
use Rattle.rules.specs.Rules.{Rule, rules, first_fitting}
use Rattle.rules.proofs.Scan.{next_index, fork, family_at, shown_index, first_letter, shown_rule}
use Rattle.traces.specs.Traces.{Redex, lowest_redex}
use Rattle.traces.proofs.LeftSideShapes.{lower}
use Rattle.traces.proofs.Traces.{lowest_some}
use Rattle.traces.proofs.TwoLetters.{commuting}
use Rattle.traces.proofs.Reading.{Reading, reading_inside, reading_lower}
use Rattle.traces.proofs.ReadingSteps.{Stopped, redex_of_fitting, square_redex, first-letter, place_rising, place_falling, after_dropped, letters_dropped}
use Rattle.std.specs.Prelude.{Option as Maybe, Some, None}
use Rattle.rewriter.specs.declared.search.Fitting.{Fitting}
use Rattle.rewriter.specs.declared.ending.Ending.{Ending}
use Rattle.rewriter.proofs.Rewrites.{Fitted, fitted}
use Rattle.rewriter.proofs.search.Searches.{shown, fitting_of}

-- ---- the search

-- all letters from t up to before `from` are above i
pub record LettersAbove (w : List ℕ) (from i t : ℕ) : Type 0 where
  pub inside : t ≤ from
  pub above : (v : ℕ) → t ≤ v → v < from → i < get_or w v 0

-- where `place_of` has stopped
abbrev pub Begun : List ℕ → ℕ → ℕ → ℕ → Type 0
Begun w n q p =
    (p ≤ q) × (get_or w (q - 1) 0 < get_or w q 0 → Stopped w (suc q - 2 * n) (q - 1) (get_or w (q - 1) 0) p)
    × (get_or w q 0 ≤ get_or w (q - 1) 0 → Stopped w (suc q - 2 * n) q (get_or w q 0) p)

module _ (w : List ℕ) (n q : ℕ) {l x floor : ℕ} (p : ℕ) (e : floor ≡ q + 1 - 2 * n) (f : l ≡ get_or w (q - 1) 0) (g : x ≡ get_or w q 0) where
  floor_is : floor ≡ suc q - 2 * n
  floor_is = omega (arith, e)

  pub begun_falling : x ≤ l → Stopped w floor q x p → Begun w n q p
  begun_falling h s = (s.inside, λ a. absurd (omega arith), λ a. rw (← floor_is, ← g) s)

-- ---- the rule

-- the rule of family f that begins at place p and puts y first on its right side
abbrev pub told : ℕ → ℕ → ℕ → Ending
told f p y = record { family = f; place = p; first = y }

-- the rule with the left side [i,j] x that begins at p, or none
abbrev pub block_ending : Kind → ℕ → ℕ → ℕ → ℕ → ℕ → Maybe Ending
block_ending k n p i j x =
    let f = family_at n (fork k n) i j x in
    pick (eqb (next_index n (levels k n) (last_index k n i) j x) 0)
    (pick (eqb f 0) None (Some (told f p (first_letter n f i (shown_index f j x)))))
    None

-- the rule at the lowest place, as the search hands it on
abbrev pub ending_of : Option Redex → Maybe Ending
ending_of o = elim o [ none ↦ None | some s ↦ Some (told s.rule.family s.place (get_or s.rule.right 0 0)) ]

-- the lower of two letters, as the library's method has it
pub min_lower : (l x : ℕ) → min l x ≡ lower l x
min_lower l x = elim (dec_le l x) [
  | yes h ↦ rw (le-ltb x l h) (omega arith)
  | no h ↦ rw (lt-ltb x l (lt_of_not-le h)) (omega arith)
]

-- the letter is not the first
pub one : {q : ℕ} → (q ≡ 0 → ⊥) → 1 ≤ q
one f = omega arith

-- the letters up to the one at q
pub upto_one : (q : ℕ) (w : List ℕ) → take (q + 1) w ≡ take (suc q) w
upto_one q w = let e : q + 1 ≡ suc q = omega arith in rw e

-- none ends with the first letter
pub ending_front : {k : Kind} {n : ℕ} → least k ≤ n → {w : List ℕ} {q : ℕ} → Reading k n w q → q ≡ 0
    → None ≡ ending_of (lowest_redex k n (take (suc q) w))
ending_front {k} {n} h {w} {q} r e = ending_front_by_cases (lowest_redex k n (take (suc q) w)) refl
  where
    ending_front_by_cases : (o : Option Redex) → lowest_redex k n (take (suc q) w) ≡ o → None ≡ ending_of o
    ending_front_by_cases none t = refl
    ending_front_by_cases (some s) t = absurd (omega (arith, reading_lower k n h w q r s t))

module _ (k : Kind) (n : ℕ) (h : least k ≤ n) (w : List ℕ) (q : ℕ) (r : Reading k n w q) (o : 1 ≤ q) where
  abbrev before : ℕ
  before = get_or w (q - 1) 0

  abbrev letter : ℕ
  letter = get_or w q 0

  back : q ≡ suc (q - 1)
  back = omega arith

  reading : Reading k n w (suc (q - 1))
  reading = subst (Reading k n w) back r

  pub letters_within : (t : ℕ) → t < length w → get_or w t 0 ≤ n
  letters_within t l = (letter_at n w t l r.letters).1

  pub end_inside : q < length w
  end_inside = reading_inside k n h w q r

  pub ending_square : before ≡ letter → Some (told 1 (q - 1) 0) ≡ ending_of (lowest_redex k n (take (suc q) w))
  ending_square e =
      let u = square_redex k n h w (q - 1) reading (ap (λ (t : ℕ). get_or w t 0) (sym back) ∙ sym e) (letters_within (q - 1) (omega (arith, end_inside))) in
      sym (ap ending_of (ap (λ (t : ℕ). lowest_redex k n (take (suc t) w)) back ∙ u))

  module _ (p : ℕ) (b : Begun w n q p) (d : before ≡ letter → ⊥) (t : commuting n (levels k n) before letter ≡ false) where
    -- a rule that ends with the letter begins there
    place_is : (s : Redex) → lowest_redex k n (take (suc q) w) ≡ some s → s.place ≡ p
    place_is s e =
        let e' : lowest_redex k n (take (suc (suc (q - 1))) w) ≡ some s = ap (λ (i : ℕ). lowest_redex k n (take (suc i) w)) (sym back) ∙ e in
        let x : get_or w (suc (q - 1)) 0 ≡ letter = ap (λ (i : ℕ). get_or w i 0) (sym back) in
        let f : suc q - 2 * n ≡ suc (suc (q - 1)) - 2 * n = ap (λ (i : ℕ). suc i - 2 * n) back in
        elim (dec_le letter before) [
          | yes c ↦
              place_falling k n h w (q - 1) reading s e' (suc q - 2 * n) p (rw x (omega arith)) f
              (rw x (subst (λ (i : ℕ). Stopped w (suc q - 2 * n) i letter p) back (b.2 c)))
          | no c ↦
              place_rising k n h w (q - 1) reading s e' (suc q - 2 * n) p (rw x (lt_of_not-le c)) (rw x (letters_within q end_inside)) (rw x t) f
              (b.1 (lt_of_not-le c))
        ]

    -- the letter there is not the lower of the last two
    pub ending_other : (get_or w p 0 ≡ lower before letter → ⊥) → None ≡ ending_of (lowest_redex k n (take (suc q) w))
    ending_other f = ending_other_by_cases (lowest_redex k n (take (suc q) w)) refl
      where
        ending_other_by_cases : (y : Option Redex) → lowest_redex k n (take (suc q) w) ≡ y → None ≡ ending_of y
        ending_other_by_cases none j = refl
        ending_other_by_cases (some s) j =
            let e : lowest_redex k n (take (suc (suc (q - 1))) w) ≡ some s = ap (λ (i : ℕ). lowest_redex k n (take (suc i) w)) (sym back) ∙ j in
            let x : get_or w (suc (q - 1)) 0 ≡ letter = ap (λ (i : ℕ). get_or w i 0) (sym back) in
            absurd (f (ap (λ (i : ℕ). get_or w i 0) (sym (place_is s j)) ∙ (first-letter k n h w (q - 1) reading s e).0 ∙ ap (lower before) x))

    -- a is what the search of one rewrite answers
    module _ {a : Maybe Fitting} (e : a ≡ fitting_of (first_fitting (rules k n) (take (q + 1) w) p)) where
      pub ending_none : a ≡ None → None ≡ ending_of (lowest_redex k n (take (suc q) w))
      ending_none z = ending_none_by_cases (lowest_redex k n (take (suc q) w)) refl
        where
          nothing : (y : Option Rule) → fitting_of y ≡ None → y ≡ none
          nothing none j = refl
          nothing (some x) j = cc

          ending_none_by_cases : (y : Option Redex) → lowest_redex k n (take (suc q) w) ≡ y → None ≡ ending_of y
          ending_none_by_cases none j = refl
          ending_none_by_cases (some s) j =
              absurd (none-ne-some s.rule
              (sym (ap (λ (i : List ℕ). first_fitting (rules k n) i p) (sym (upto_one q w)) ∙ nothing (first_fitting (rules k n) (take (q + 1) w) p) (sym e ∙ z))
              ∙ ap (first_fitting (rules k n) (take (suc q) w)) (sym (place_is s j)) ∙ (lowest_some k n _ s j).fitting))

      module _ (f i j l : ℕ) (z : a ≡ Some (shown f i j l)) where
        handed : Fitted k n (take (q + 1) w) p (shown f i j l)
        handed = fitted h (rw (upto_one q w) (simp length-take (omega (arith, end_inside, b.0)))) e z

        found_redex : lowest_redex k n (take (suc q) w) ≡ some (record { place = p; rule = shown_rule n f i j (take l (drop p (take (q + 1) w))) })
        found_redex =
            redex_of_fitting k n h w q r p (shown_rule n f i j (take l (drop p (take (q + 1) w))))
            (ap (λ (c : List ℕ). first_fitting (rules k n) c p) (sym (upto_one q w)) ∙ handed.fitting)

        -- equal letters were told before
        not_square : f ≡ 1 → ⊥
        unfolding shown_rule
        not_square c =
            let g = after_dropped k n h w q r _ found_redex c in
            d (ap (λ (m : ℕ). get_or w m 0) (omega (arith, g.0)) ∙ letters_dropped k n h w q r _ found_redex c ∙ ap (λ (m : ℕ). get_or w m 0) g.0)

        pub ending_found : {y : ℕ} → y ≡ first_letter n f i j → Some (told f p y) ≡ ending_of (lowest_redex k n (take (suc q) w))
        unfolding shown_rule
        ending_found c = sym (ap ending_of found_redex ∙ rw (ne_eqb f 1 not_square, c))
