-- The split by its definition has the properties of S2 to S6: allowed steps that make the inverse of the window
-- shorter are taken until none does, and each lowers the length by one, so that the lengths of the two words add
-- up. Any such list of steps leads to the same two words.
--
-- Sections: the lowest step; steps taken; the two words; the split.
-- Assumes nothing.
use mathlib.Core.Path.{◌≡◌, refl, sym, ap, ap₂, ◌∙◌}
use mathlib.Core.Bool.{Bool, true, false, true≢false, ◌&&◌, and-eq-true_iff}
use mathlib.Core.List.{List, [], ◌∷◌, ◌++◌, reverse, reverse-cons}
use mathlib.Core.Option.{Option, none, some}
use Prim.Native.Nat.{ℕ, zero, suc, ◌+◌, ◌≤◌, ◌<◌}
use native.Mathlib.Decide.{ℕ_discrete}
use native.Mathlib.Omega.{arith}
use lib.IntN.{ℤ}
use lib.ListN.{length, length-append, length-reverse}
use Rattle.coxeter.specs.declared.Kind.{Kind}
use Rattle.coxeter.specs.Kinds.{pick, least, lanes}
use Rattle.coxeter.specs.Windows.{act, window_from, identity, window, product, inverse}
use Rattle.coxeter.specs.Length.{window_length}
use Rattle.coxeter.specs.Checks.{wrong_letter}
use Rattle.coxeter.specs.NormalForm.{normal_form}
use Rattle.coxeter.proofs.Levels.{Accepted, act_accepted, window_accepted, window_from_accepted}
use Rattle.coxeter.proofs.LetterLaws.{letter_within_cons}
use Rattle.coxeter.proofs.Relations.{letters-append, wrong_letter_cons}
use Rattle.coxeter.proofs.Steps.{act_involution}
use Rattle.coxeter.proofs.Products.{product_assoc, product-identity, identity-product, window_from-product, window-append}
use Rattle.coxeter.proofs.Inverses.{inverse_accepted, accepted_between, product-inverse, inverse-inverse, window-reverse}
use Rattle.coxeter.proofs.NormalForms.{window-normal_form, normal_form-letters}
use Rattle.coxeter.proofs.Lengths.{length-normal_form}
use Rattle.shortest_words.specs.OneLetter.{Shortest}
use Rattle.shortest_words.specs.Descents.{is_descent}
use Rattle.shortest_words.specs.Allowed.{over, Over}
use Rattle.shortest_words.specs.Split.{NoneBegins, IsSplit, lowest, stripped, rest_inverse, first_word, second_word}
use Rattle.shortest_words.proofs.Shortest.{letters-reverse, window_length_le, normal_form_normal, length_of_shortest, window_length-inverse}
use Rattle.shortest_words.proofs.Exchange.{window_snoc}
use Rattle.shortest_words.proofs.Descents.{descent_of_shorter, not_descent, length_of_descent}
use Rattle.shortest_words.proofs.Allowed.{over_cons, over-normal_form}
use Rattle.shortest_words.proofs.Splitting.{split_unique, none_allowed, all_allowed}

module _ (allowed : ℕ → Bool) (k : Kind) (n : ℕ) where
  -- ---- the lowest step

  -- step j is one of the t steps from s on, is allowed and makes x shorter
  record DescentFound (t s : ℕ) (x : List ℤ) (j : ℕ) : Type 0 where
    above : s ≤ j
    below : j < s + t
    is_allowed : allowed j ≡ true
    shorter : is_descent k n j x ≡ true

  -- no allowed one of the t steps from s on makes x shorter
  abbrev pub NoDescent : ℕ → ℕ → List ℤ → Type 0
  NoDescent t s x = (j : ℕ) → s ≤ j → j < s + t → allowed j ≡ true → is_descent k n j x ≡ false

  data LowestDescent (t s : ℕ) (x : List ℤ) : Option ℕ → Type 0 where
    found : {j : ℕ} → DescentFound t s x j → LowestDescent t s x (some j)
    ended : NoDescent t s x → LowestDescent t s x none

  data Lowest (t s : ℕ) (x : List ℤ) : Option ℕ → Type 0 where
    found : {j : ℕ} → DescentFound t s x j → Lowest t s x (some j)
    ended : NoDescent t s x → Lowest t s x none

  lowest_is : (t s : ℕ) (x : List ℤ) → LowestDescent t s x (lowest allowed k n t s x)
  unfolding lowest
  lowest_is zero s x = ended (λ j g l a. absurd (omega arith))
  lowest_is (suc t) s x = lowest_is_by_cases (allowed s && is_descent k n s x) refl (lowest_is t (suc s) x)
    where
      higher : (allowed s ≡ true → is_descent k n s x ≡ false) → {o : Option ℕ} → LowestDescent t (suc s) x o → LowestDescent (suc t) s x o
      higher f (found {j} q) =
          let (l, g) : (s ≤ j) × (j < s + suc t) = (omega (arith, q.above), omega (arith, q.below)) in
          found {j = j} (record { above = l; below = g; is_allowed = q.is_allowed; shorter = q.shorter })
      higher f (ended q) =
          ended (λ j g l a. elim (ℕ_discrete s j) [ yes e ↦ rw (← e) (f (rw e a)) | no e ↦ q j (omega arith) (omega arith) a ])

      lowest_is_by_cases : (b : Bool) → (allowed s && is_descent k n s x) ≡ b → LowestDescent t (suc s) x (lowest allowed k n t (suc s) x)
          → LowestDescent (suc t) s x (pick b (some s) (lowest allowed k n t (suc s) x))
      lowest_is_by_cases true e r =
          let c = (and-eq-true_iff (allowed s) (is_descent k n s x)).0 e in
          found {j = s} (record { above = omega arith; below = omega arith; is_allowed = c.0; shorter = c.1 })
      lowest_is_by_cases false e r = higher (λ a. rw a at e) r

  -- ---- steps taken

  -- a word over allowed steps leads from x to y, each of its letters lowers the length, and no allowed step makes y
  -- shorter
  pub record Strips (x y : List ℤ) : Type 0 where
    pub word : List ℕ
    pub steps : wrong_letter n word ≡ false
    pub over : Over allowed word
    pub leads : window_from k n x word ≡ y
    pub lowers : window_length k x ≡ length word + window_length k y
    pub ended : NoDescent n 1 y

  pub strips_nothing : (x : List ℤ) → NoDescent n 1 x → Strips x x
  unfolding wrong_letter window_from over
  strips_nothing x e = record { word = []; steps = refl; over = refl; leads = refl; lowers = omega arith; ended = e }

  -- one step more, before the others
  pub strips_first : {x y : List ℤ} (s : ℕ) → least k ≤ n → Accepted k n x → 1 ≤ s → s ≤ n → allowed s ≡ true → is_descent k n s x ≡ true
      → Strips (act k n s x) y → Strips x y
  unfolding window_from
  strips_first {x} s h a o l is t r =
      record {
        word = s ∷ r.word;
        steps = wrong_letter_cons n s r.word o l ∙ r.steps;
        over = over_cons allowed s r.word is r.over;
        leads = r.leads;
        lowers = omega (arith, length_of_descent k n s x h o l a t, r.lowers);
        ended = r.ended;
      }

  -- the definition strips
  stripped_strips : (t : ℕ) (x : List ℤ) → least k ≤ n → Accepted k n x → window_length k x ≤ t → Strips x (stripped allowed k n t x)
  unfolding stripped
  stripped_strips zero x h a l = strips_nothing x (λ j g m b. not_descent k n j x (omega arith))
  stripped_strips (suc t) x h a l = stripped_strips_by_cases (lowest_is n 1 x) (λ s. stripped_strips t (act k n s x) h (act_accepted k n s x a))
    where
      after : ℕ → List ℤ
      after s = stripped allowed k n t (act k n s x)

      stripped_strips_by_cases : {o : Option ℕ} → LowestDescent n 1 x o → ((s : ℕ) → window_length k (act k n s x) ≤ t → Strips (act k n s x) (after s))
          → Strips x (elim o [ none ↦ x | some s ↦ after s ])
      stripped_strips_by_cases (ended e) r = strips_nothing x e
      stripped_strips_by_cases (found {j} f) r =
          let m : j ≤ n = omega (arith, f.below) in
          let shorter = length_of_descent k n j x h f.above m a f.shorter in
          strips_first j h a f.above m f.is_allowed f.shorter (r j (omega (arith, shorter)))

-- ---- the two words

-- a step that begins a shortest word of a window makes its inverse shorter
front_descent : (k : Kind) (n s : ℕ) (u : List ℕ) (x : List ℤ) → least k ≤ n → Accepted k n x → Shortest k n (s ∷ u)
    → window k n (s ∷ u) ≡ inverse x → is_descent k n s x ≡ true
front_descent k n s u x h a m q =
    let short = window_length_le k n (reverse u) h (letters-reverse n u (letter_within_cons n s u m.steps).2) in
    descent_of_shorter k n s x (rw (back, long) (omega (arith, short, length-reverse u)))
  where
    turned : x ≡ act k n s (window k n (reverse u))
    turned =
        sym (inverse-inverse k n x a) ∙ ap inverse (sym q) ∙ sym (window-reverse k n (s ∷ u)) ∙ ap (window k n) (reverse-cons s u)
        ∙ window_snoc k n (reverse u) s

    back : act k n s x ≡ window k n (reverse u)
    back = ap (act k n s) turned ∙ act_involution k n s (window k n (reverse u))

    long : window_length k x ≡ suc (length u)
    long = sym (window_length-inverse k n x h a) ∙ ap (window_length k) (sym q) ∙ sym (length_of_shortest k n (s ∷ u) h m)

-- w stripped from the front to the inverse of x
module _ (allowed : ℕ → Bool) (k : Kind) (n : ℕ) (w x : List ℤ) (h : least k ≤ n) (a : Accepted k n w) (r : Strips allowed k n (inverse w) x) where
  pub rest_accepted : Accepted k n x
  rest_accepted = rw (← r.leads) (window_from_accepted k n (inverse w) r.word (inverse_accepted k n w a))

  -- what was taken off is the window of the steps taken
  taken : product w x ≡ window k n r.word
  taken =
      ap (product w) (sym r.leads ∙ window_from-product k n (inverse w) r.word (inverse_accepted k n w a).size)
      ∙ sym (product_assoc w (inverse w) (window k n r.word))
      ∙ ap (λ (v : List ℤ). product v (window k n r.word)) (product-inverse k n w a)
      ∙ identity-product (lanes k n) (window k n r.word) (accepted_between k n (window k n r.word) (window_accepted k n r.word))

  taken_accepted : Accepted k n (product w x)
  taken_accepted = rw taken (window_accepted k n r.word)

  abbrev first : List ℕ
  first = normal_form k n (product w x)

  abbrev second : List ℕ
  second = normal_form k n (inverse x)

  first_window : window k n first ≡ product w x
  first_window = window-normal_form k n (product w x) taken_accepted

  second_window : window k n second ≡ inverse x
  second_window = window-normal_form k n (inverse x) (inverse_accepted k n x rest_accepted)

  joined : product (window k n first) (window k n second) ≡ w
  joined =
      ap₂ product first_window second_window
      ∙ product_assoc w x (inverse x)
      ∙ ap (product w) (product-inverse k n x rest_accepted ∙ ap identity (sym a.size))
      ∙ product-identity w

  second_length : length second ≡ window_length k x
  second_length = length-normal_form k n (inverse x) (inverse_accepted k n x rest_accepted) ∙ window_length-inverse k n x h rest_accepted

  -- the steps taken are as many as the length lost, and no word is shorter than its window's length
  lengths_add : length first + length second ≡ window_length k w
  lengths_add =
      let front = length-normal_form k n (product w x) taken_accepted ∙ ap (window_length k) taken in
      let letters = letters-append n first second (normal_form-letters k n (product w x) taken_accepted)
      (normal_form-letters k n (inverse x) (inverse_accepted k n x rest_accepted)) in
      let whole = ap (window_length k) (window-append k n first second ∙ joined) in
      omega (
        arith,
        front,
        second_length,
        whole,
        r.lowers,
        window_length_le k n r.word h r.steps,
        window_length-inverse k n w h a,
        window_length_le k n (first ++ second) h letters,
        length-append first second,
      )

  none_begins_second : NoneBegins allowed k n (window k n second)
  none_begins_second s u b m q =
      let l = letter_within_cons n s u m.steps in
      let shorter = front_descent k n s u x h rest_accepted m (q ∙ second_window) in
      true≢false (sym shorter ∙ r.ended s l.0 (omega (arith, l.1)) b)

  split_of_strips : IsSplit allowed k n w (normal_form k n (product w x)) (normal_form k n (inverse x))
  split_of_strips =
      record {
        over = rw taken (over-normal_form allowed k n r.word h r.steps r.over);
        none_begins = none_begins_second;
        first_normal = normal_form_normal k n (product w x) h taken_accepted;
        second_normal = normal_form_normal k n (inverse x) h (inverse_accepted k n x rest_accepted);
        joins = joined;
        lengths = lengths_add;
      }

-- ---- the split

module _ (allowed : ℕ → Bool) (k : Kind) (n : ℕ) (w : List ℤ) (h : least k ≤ n) (a : Accepted k n w) where
  -- the definition has the properties
  pub split_is : IsSplit allowed k n w (first_word allowed k n w) (second_word allowed k n w)
  unfolding first_word second_word rest_inverse
  split_is =
      let enough = window_length-inverse k n w h a in
      split_of_strips allowed k n w (rest_inverse allowed k n w) h a
      (stripped_strips allowed k n (window_length k w) (inverse w) h (inverse_accepted k n w a) (omega (arith, enough)))

  -- and no other two words have them
  pub split_only : (u v : List ℕ) → IsSplit allowed k n w u v → (u ≡ first_word allowed k n w) × (v ≡ second_word allowed k n w)
  split_only u v s = split_unique h s split_is

  -- any list of allowed steps that strips the inverse leads to them, whichever step is taken when
  pub split_by_strips : (x : List ℤ) → Strips allowed k n (inverse w) x
      → (normal_form k n (product w x) ≡ first_word allowed k n w) × (normal_form k n (inverse x) ≡ second_word allowed k n w)
  split_by_strips x r = split_only (normal_form k n (product w x)) (normal_form k n (inverse x)) (split_of_strips allowed k n w x h a r)

  -- S8
  pub split_none : ((s : ℕ) → 1 ≤ s → s ≤ n → allowed s ≡ false) → first_word allowed k n w ≡ []
  split_none f = none_allowed allowed k n w (first_word allowed k n w) (second_word allowed k n w) f split_is

  pub split_all : ((s : ℕ) → 1 ≤ s → s ≤ n → allowed s ≡ true) → second_word allowed k n w ≡ []
  split_all f = all_allowed allowed k n w (first_word allowed k n w) (second_word allowed k n w) h f split_is
