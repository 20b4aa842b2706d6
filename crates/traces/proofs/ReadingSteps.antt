-- One step while a word is read, as it is found and made: the letters by which the rule that ends with the moving
-- letter is found, from that letter back to the first of the left side, and what the word is after it.
--
-- Sections: the search for its first letter; the rule that fits; its place; the word after it.
-- Assumes nothing.
use mathlib.Core.Path.{◌≡◌, sym, ap, ◌∙◌}
use mathlib.Core.Bool.{true, false}
use mathlib.Core.Logic.{◌⊎◌, ⊎_elim}
use mathlib.Core.List.{List, [], ◌∷◌, ◌++◌, append_assoc}
use mathlib.Core.Option.{some, none-ne-some}
use Prim.Native.Nat.{ℕ, suc, ◌+◌, ◌-◌, ◌*◌, ◌≤◌, ◌<◌}
use native.Mathlib.Decide.{ℕ_discrete}
use native.Mathlib.Omega.{arith}
use lib.ListN.{length, get_or, take, drop, length-append, length-take, length-drop, take-append-drop}
use lib.Seq.{append_snoc, take_at, drop_at, take-suc, get_or-take, get_or_at, length-take-le}
use borrow.Author.Tests.{lt-ltb, le-ltb}
use Rattle.coxeter.specs.declared.Kind.{Kind}
use Rattle.coxeter.specs.Kinds.{least}
use Rattle.coxeter.specs.Checks.{wrong_letter}
use Rattle.coxeter.specs.NormalForm.{levels}
use Rattle.coxeter.proofs.Order.{less, same, more, compared}
use Rattle.rules.specs.Rules.{Rule, rules, rule, first_fitting, rewritten, commuted}
use Rattle.rules.proofs.Fits.{first_fitting_some}
use Rattle.traces.specs.Traces.{Redex, lowest_redex}
use Rattle.traces.proofs.LeftSideShapes.{lower}
use Rattle.traces.proofs.LeftSides.{Sides, drops, moves, sides_of_rule}
use Rattle.traces.proofs.Traces.{after, lowest_some, lowest_is}
use Rattle.traces.proofs.Endings.{lowest_of_ending, EndsBehind, first_of_ending, between_of_ending}
use Rattle.traces.proofs.TwoLetters.{commuting, commute_fits, no_commute_none, square_fits}
use Rattle.traces.proofs.LeastWords.{normal_front, letters_left}
use Rattle.traces.proofs.Reading.{Reading, upto, reading_inside, fitting, reading_length, reading_lower, split, z_split, after_is}

-- ---- the search for its first letter

-- where the search from the place `from` back to `floor` for a letter not above i has ended
pub record Stopped (w : List ℕ) (floor from i p : ℕ) : Type 0 where
  pub inside : p ≤ from
  pub above : (t : ℕ) → p < t → t < from → i < get_or w t 0
  pub ends : (p ≤ floor) ⊎ ((p < from) × (get_or w p 0 ≤ i))

-- what the search for the rule that ends at place q is asked with: the letter there does not pass the one before it
pub record Stuck (k : Kind) (n : ℕ) (w : List ℕ) (q : ℕ) : Type 0 where
  pub least_le : least k ≤ n
  pub rank_le : n ≤ 64
  pub reading : Reading k n w q
  pub place_le : q ≤ 4096
  pub stays : 1 ≤ q → commuting n (levels k n) (get_or w (q - 1) 0) (get_or w q 0) ≡ false

-- a place of the letter i in that range with only higher ones behind it is where it ended
stopped-at : {w : List ℕ} {floor from i p t : ℕ} → Stopped w floor from i p → floor ≤ t → t < from → get_or w t 0 ≡ i
    → ((v : ℕ) → t < v → v < from → i < get_or w v 0) → t ≡ p
stopped-at {p} {t} s g l e f = elim (compared t p) [
  | less c ↦ absurd (⊎_elim (λ a. omega arith) (λ a. omega (arith, f p c a.0)) s.ends)
  | same c ↦ c
  | more c ↦ absurd (omega (arith, s.above t c l))
]

-- ---- the rule that fits

module _ (k : Kind) (n : ℕ) (h : least k ≤ n) (z : List ℕ) (q : ℕ) (r : Reading k n z q) where
  -- a rule that fits in what has been read up to the letter is at the lowest place
  pub redex_of_fitting : (p : ℕ) (x : Rule) → first_fitting (rules k n) (take (suc q) z) p ≡ some x
      → lowest_redex k n (take (suc q) z) ≡ some (record { place = p; rule = x })
  redex_of_fitting p x e =
      let u = upto k n h z q r in
      let f = first_fitting_some (rules k n) (r.front ++ (r.letter ∷ [])) p x (ap (λ (w : List ℕ). first_fitting (rules k n) w p) (sym u) ∙ e) in
      ap (lowest_redex k n) u
      ∙ lowest_is k n (r.front ++ (r.letter ∷ [])) (record { place = p; rule = x })
      (lowest_of_ending k n h r.front r.letter (normal_front k n h r.front r.back r.normal).irreducible x f.0 p f.1 [])

  read_letters : wrong_letter n (take (suc q) z) ≡ false
  read_letters =
      letters_left n (take (suc q) z) (drop (suc q) z) (ap (wrong_letter n) (take-append-drop (suc q) z) ∙ r.letters)

-- the last two letters
module _ (k : Kind) (n : ℕ) (h : least k ≤ n) (z : List ℕ) (q : ℕ) (r : Reading k n z (suc q)) where
  abbrev before : ℕ
  before = get_or z q 0

  abbrev letter : ℕ
  letter = get_or z (suc q) 0

  last_two : drop q (take (suc (suc q)) z) ≡ before ∷ letter ∷ []
  last_two =
      let i = reading_inside k n h z (suc q) r in
      let e : take (suc (suc q)) z ≡ take q z ++ (before ∷ letter ∷ []) =
      take-suc z (suc q) 0 i ∙ ap (λ (w : List ℕ). w ++ (letter ∷ [])) (take-suc z q 0 (omega arith)) ∙ append_assoc (take q z) (before ∷ []) (letter ∷ []) in
      ap (drop q) e ∙ drop_at (take q z) (before ∷ letter ∷ []) q (length-take-le q z (omega arith))

  -- family 2
  pub commute_redex : letter ≤ n → commuting n (levels k n) before letter ≡ true
      → lowest_redex k n (take (suc (suc q)) z) ≡ some (record { place = q; rule = commuted before letter })
  commute_redex l t =
      redex_of_fitting k n h z (suc q) r q (commuted before letter)
      (commute_fits k n h (take (suc (suc q)) z) q before letter (read_letters k n h z (suc q) r) last_two l t)

  -- family 1
  pub square_redex : letter ≡ before → before ≤ n
      → lowest_redex k n (take (suc (suc q)) z) ≡ some (record { place = q; rule = rule 1 before 0 (before ∷ before ∷ []) [] })
  square_redex e l =
      redex_of_fitting k n h z (suc q) r q (rule 1 before 0 (before ∷ before ∷ []) [])
      (square_fits k n h (take (suc (suc q)) z) q before letter (read_letters k n h z (suc q) r) last_two e l)

  -- ---- its place

  -- the rule begins less than 2n places before, with the lower of the two letters; those between are higher
  module _ (s : Redex) (e : lowest_redex k n (take (suc (suc q)) z) ≡ some s) where
    in_z : (t : ℕ) → t < suc (suc q) → get_or (take (suc (suc q)) z) t 0 ≡ get_or z t 0
    in_z t l = get_or-take (suc (suc q)) z t 0 l

    low : s.place < suc q
    low = reading_lower k n h z (suc q) r s e

    fits_there : EndsBehind k n s.rule (take (suc (suc q)) z) s.place q
    fits_there =
        let f = first_fitting_some (rules k n) _ s.place s.rule (lowest_some k n _ s e).fitting in
        record { rank = h; listed = f.0; fit = f.1; ends = reading_length k n h z (suc q) r s e }

    pub first-letter : (get_or z s.place 0 ≡ lower (get_or z q 0) (get_or z (suc q) 0)) × (suc (suc q) ≤ s.place + 2 * n)
    first-letter =
        let f = first_of_ending fits_there in
        (sym (in_z s.place (omega (arith, low))) ∙ f.0 ∙ rw (in_z q (omega arith), in_z (suc q) (omega arith)), f.1)

    between : (t : ℕ) → s.place < t → t < q → get_or z s.place 0 < get_or z t 0
    between t a b =
        rw (← in_z s.place (omega (arith, low)), ← in_z t (omega arith))
        (between_of_ending fits_there t a b)

    -- two rising letters that do not commute
    pub place_rising : (floor p : ℕ) → before < letter → letter ≤ n → commuting n (levels k n) before letter ≡ false → floor ≡ suc (suc q) - 2 * n
        → Stopped z floor q before p → s.place ≡ p
    place_rising floor p l o t f d =
        let c : get_or z s.place 0 ≡ before = first-letter.0 ∙ rw (le-ltb letter before (omega arith)) in
        stopped-at d (omega (arith, first-letter.1)) less_q c (λ v a b. rw (← c) (between v a b))
      where
        less_q : s.place < q
        less_q = elim (ℕ_discrete s.place q) [
          | yes y ↦
              absurd (none-ne-some s.rule
              (sym (no_commute_none k n h (take (suc (suc q)) z) q before letter (read_letters k n h z (suc q) r) last_two l o t)
              ∙ ap (first_fitting (rules k n) (take (suc (suc q)) z)) (sym y) ∙ (lowest_some k n _ s e).fitting))
          | no y ↦ omega (arith, low)
        ]

    -- two falling letters
    pub place_falling : (floor p : ℕ) → letter < before → floor ≡ suc (suc q) - 2 * n → Stopped z floor (suc q) letter p → s.place ≡ p
    place_falling floor p l f d =
        let c : get_or z s.place 0 ≡ letter = first-letter.0 ∙ rw (lt-ltb letter before l) in
        stopped-at d (omega (arith, first-letter.1)) low c
        (λ v a b. elim (ℕ_discrete v q) [ yes y ↦ rw y l | no y ↦ rw (← c) (between v a (omega arith)) ])

-- ---- the word after it

module _ (k : Kind) (n : ℕ) (h : least k ≤ n) (z : List ℕ) (q : ℕ) (r : Reading k n z q) (s : Redex) (e : lowest_redex k n (take (suc q) z) ≡ some s) where
  sides : Sides s.rule
  sides = sides_of_rule k n h s.rule (fitting k n h z q r s e).0

  -- family 1: two letters are gone
  pub after_dropped : s.rule.family ≡ 1 → (suc s.place ≡ q) × (after z s ≡ take s.place z ++ drop (suc q) z)
  unfolding rewritten
  after_dropped f = after_dropped_by_cases sides
    where
      after_dropped_by_cases : Sides s.rule → (suc s.place ≡ q) × (after z s ≡ take s.place z ++ drop (suc q) z)
      after_dropped_by_cases (moves c y b l g p t i) = absurd (g f)
      after_dropped_by_cases (drops c g l t) =
          let a = reading_length k n h z q r s e in
          (omega (arith, a, ap length l), rw (a, t))

  -- they were equal
  pub letters_dropped : s.rule.family ≡ 1 → get_or z s.place 0 ≡ get_or z (suc s.place) 0
  letters_dropped f = letters_dropped_by_cases sides
    where
      letters_dropped_by_cases : Sides s.rule → get_or z s.place 0 ≡ get_or z (suc s.place) 0
      letters_dropped_by_cases (moves c y b l g p t i) = absurd (g f)
      letters_dropped_by_cases (drops c g l t) =
          let v = split k n h z q r s e in
          let x = v.0 in
          let a : z ≡ x ++ (c ∷ c ∷ r.back) = z_split k n h z q r s e ∙ ap (λ (w : List ℕ). x ++ (w ++ r.back)) l in
          let d : length (x ++ (c ∷ [])) ≡ suc s.place = length-append x (c ∷ []) ∙ omega (arith, v.1) in
          ap (λ (w : List ℕ). get_or w s.place 0) a ∙ get_or_at x c _ 0 s.place v.1
          ∙ sym (ap (λ (w : List ℕ). get_or w (suc s.place) 0) (a ∙ sym (append_snoc x c (c ∷ r.back)))
          ∙ get_or_at (x ++ (c ∷ [])) c r.back 0 (suc s.place) d)

  pub length_dropped : s.rule.family ≡ 1 → length (after z s) + 2 ≡ length z
  length_dropped f =
      let a = after_dropped f in
      ap (λ (w : List ℕ). length w + 2) a.1
      ∙ simp (length-append, length-take, length-drop) (omega (arith, a.0, reading_inside k n h z q r))

  -- any other family: a letter is put first, and the left side moves by one place
  pub after_moved : (s.rule.family ≡ 1 → ⊥) → (length (after z s) ≡ length z)
      × (after z s ≡ take s.place z ++ ((get_or s.rule.right 0 0 ∷ take (q - s.place) (drop s.place z)) ++ drop (suc q) z))
  after_moved f = after_moved_by_cases sides
    where
      after_moved_by_cases : Sides s.rule → (length (after z s) ≡ length z)
          × (after z s ≡ take s.place z ++ ((get_or s.rule.right 0 0 ∷ take (q - s.place) (drop s.place z)) ++ drop (suc q) z))
      after_moved_by_cases (drops c g l t) = absurd (f g)
      after_moved_by_cases (moves c y b l g p t i) =
          let v = split k n h z q r s e in
          let x = v.0 in
          let a = z_split k n h z q r s e in
          let d : length s.rule.left ≡ suc (length (b ∷ l)) = ap length p ∙ length-append (b ∷ l) (c ∷ []) ∙ omega arith in
          let m : length (b ∷ l) ≡ q - s.place = omega (arith, reading_length k n h z q r s e) in
          let one : take s.place z ≡ x = ap (take s.place) a ∙ take_at x _ s.place v.1 in
          let two : take (q - s.place) (drop s.place z) ≡ b ∷ l =
          ap (λ (w : List ℕ). take (q - s.place) (drop s.place w)) a
          ∙ ap (take (q - s.place)) (drop_at x _ s.place v.1 ∙ ap (λ (w : List ℕ). w ++ r.back) p ∙ append_assoc (b ∷ l) (c ∷ []) r.back)
          ∙ take_at (b ∷ l) _ (q - s.place) m in
          let three : drop (suc q) z ≡ r.back =
          ap (drop (suc q)) (a ∙ sym (append_assoc x s.rule.left r.back))
          ∙ drop_at (x ++ s.rule.left) r.back (suc q) (length-append x s.rule.left ∙ omega (arith, v.1, reading_length k n h z q r s e)) in
          let out = after_is k n h z q r s e in
          let first : get_or s.rule.right 0 0 ≡ y = ap (λ (w : List ℕ). get_or w 0 0) t in (
            ap length out
                ∙ simp length-append (omega (arith, ap length t, d, simp length-append at (ap length a))),
            out ∙ ap (λ (w : List ℕ). x ++ (w ++ r.back)) t ∙ sym (rw (one, two, three, first)),
          )
