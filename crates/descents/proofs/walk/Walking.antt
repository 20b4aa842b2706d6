-- The turns of the loops of the module `walk`: letters kept or made 0 from the last to the first, the straight
-- window, and the places that are left.
--
-- Sections: letters kept; places of letters; the straight window.
-- Assumes nothing.
use mathlib.Core.Path.{◌≡◌, refl, sym, ap, ◌∙◌}
use mathlib.Core.Bool.{Bool, true, false}
use mathlib.Core.List.{List, [], ◌∷◌}
use Prim.Native.Nat.{ℕ, suc, ◌+◌, ◌≤◌, ◌<◌}
use native.Mathlib.Decide.{ℕ_discrete}
use native.Mathlib.Nat.{le_refl}
use native.Mathlib.Numerals.{add-one}
use native.Mathlib.Omega.{arith}
use lib.IntN.{ℤ, pos}
use lib.ListN.{length, get_or, take, drop, set, length-set, length-drop, drop_of_length-le}
use lib.Seq.{drop-cons, get_or-take, take_all, take-suc, take-take, take-set-le, drop-set-lt, get_or-set_same}
use lib.Signed.{mag}
use mir.Syntax.{w8}
use mir.Val.{to_z, of_z}
use borrow.Author.Tests.{eq-eqb, ne_eqb}
use Rattle.coxeter.specs.declared.Kind.{Kind}
use Rattle.coxeter.specs.Kinds.{pick}
use Rattle.coxeter.specs.Windows.{act, identity}
use Rattle.coxeter.specs.Checks.{wrong_letter, WindowOf}
use Rattle.coxeter.specs.Calls.{front, same_window}
use Rattle.coxeter.proofs.Basics.{by_pick, length-identity}
use Rattle.coxeter.proofs.Order.{same_window_true, same_window_of_eq}
use Rattle.coxeter.proofs.Products.{get_or-identity}
use Rattle.refusals.proofs.Bytes.{element_back, cast_back}
use Rattle.coxeter.proofs.Lists.{Storing, storing_next, storing_room, stored_of_storing}
use Rattle.coxeter.proofs.LetterLaws.{letter_at}
use Rattle.coxeter.proofs.Theorems.{act_passes}
use Rattle.coxeter.proofs.FrontLaws.{sets-front}
use Rattle.shortest_words.specs.Descents.{is_descent}
use Rattle.shortest_words.proofs.Lifting.{descended}
use Rattle.shortest_words.proofs.FallbackWalk.{left_over, places_kept, marked}

-- ---- letters kept

-- the first i letters of u are still to be looked at: f is the word with the letters that were not kept made 0, w
-- what is left of the target
pub record Walking (k : Kind) (n : ℕ) (u : List ℕ) (w₀ : List ℤ) (f : List ℕ) (w : List ℤ) (i kept : ℕ) : Type 0 where
  pub inside : i ≤ length u
  pub size : length f ≡ length u
  pub front : take i f ≡ take i u
  pub passes : WindowOf k n w
  pub target : left_over k n u (length u) w₀ ≡ left_over k n u i w
  pub places : places_kept k n u (length u) w₀ [] ≡ places_kept k n u i w (marked i (drop i f))
  pub count : kept ≡ length (marked i (drop i f))

marked_le : (i : ℕ) (u : List ℕ) → length (marked i u) ≤ length u
unfolding marked
marked_le i [] = le_refl 0
marked_le i (s ∷ u) = let l = marked_le (suc i) u in elim (ℕ_discrete s 0) [ yes e ↦ rw (eq-eqb s 0 e) (omega arith) | no f ↦ rw (ne_eqb s 0 f) (omega arith) ]

-- a letter that is not 0 is marked, and one that is 0 is not
marked_kept : (f : List ℕ) (i : ℕ) → i < length f → (get_or f i 0 ≡ 0 → ⊥) → marked i (drop i f) ≡ i ∷ marked (suc i) (drop (suc i) f)
unfolding marked
marked_kept f i h g = rw (drop-cons f i 0 h, ne_eqb (get_or f i 0) 0 g)

marked_left : (f : List ℕ) (i : ℕ) → i < length f → get_or f i 0 ≡ 0 → marked i (drop i f) ≡ marked (suc i) (drop (suc i) f)
unfolding marked
marked_left f i h g = rw (drop-cons f i 0 h, eq-eqb (get_or f i 0) 0 g)

module _ (k : Kind) (n : ℕ) (u : List ℕ) (w₀ : List ℤ) where
  pub walking_start : WindowOf k n w₀ → Walking k n u w₀ u w₀ (length u) 0
  unfolding marked
  walking_start p =
      let none : drop (length u) u ≡ [] = drop_of_length-le u (le_refl (length u)) in
      record { inside = le_refl (length u); size = refl; front = refl; passes = p; target = refl; places = rw none; count = rw none }

  -- the next letter is at j
  module _ {f : List ℕ} {w : List ℤ} {i : ℕ} (j : ℕ) {kept : ℕ} (h : Walking k n u w₀ f w i kept) (g : i ≡ suc j) where
    here : j < length u
    here = omega (arith, h.inside)

    here_too : j < length f
    here_too = rw h.size here

    letter : get_or f j 0 ≡ get_or u j 0
    letter = sym (get_or-take i f j 0 (omega arith)) ∙ ap (λ (l : List ℕ). get_or l j 0) h.front ∙ get_or-take i u j 0 (omega arith)

    pub walking_within : wrong_letter n u ≡ false → (1 ≤ get_or f j 0) × (get_or f j 0 ≤ n)
    walking_within e = rw letter (letter_at n u j here e)

    pub walking_room : kept + i ≤ length u
    walking_room = omega (arith, h.count, marked_le i (drop i f), length-drop i f, h.size, h.inside)

    front_next : take j f ≡ take j u
    front_next = sym (take-take j i f (omega arith)) ∙ ap (take j) h.front ∙ take-take j i u (omega arith)

    -- v is the target after the letter, and t whether it was kept
    module _ {t : Bool} {v : List ℤ} (e : t ≡ is_descent k n (get_or f j 0) w) (q : v ≡ pick t (act k n (get_or f j 0) w) w) where
      is_descended : v ≡ descended k n (get_or u j 0) w
      unfolding descended
      is_descended = q ∙ rw (e, letter)

      passed : WindowOf k n v
      passed = rw q (by_pick (λ (x : List ℤ). WindowOf k n x) t _ w (act_passes k n (get_or f j 0) w h.passes) h.passes)

      target_next : left_over k n u (length u) w₀ ≡ left_over k n u j v
      unfolding left_over
      target_next = rw g at h.target ∙ rw is_descended

      places_next : places_kept k n u (length u) w₀ [] ≡ places_kept k n u j v (pick t (j ∷ marked i (drop i f)) (marked i (drop i f)))
      unfolding places_kept
      places_next = rw g (rw g at h.places ∙ rw (is_descended, e, letter))

      pub walking_kept : t ≡ true → wrong_letter n u ≡ false → Walking k n u w₀ f v j (kept + 1)
      walking_kept z s =
          let m : marked j (drop j f) ≡ j ∷ marked i (drop i f) = rw g (marked_kept f j here_too (λ y. omega (arith, walking_within s))) in
          record {
            inside = omega (arith, here);
            size = h.size;
            front = front_next;
            passes = passed;
            target = target_next;
            places = rw m (rw z at places_next);
            count = rw m (omega (arith, h.count));
          }

      pub walking_left : t ≡ false → Walking k n u w₀ (set f j 0) v j kept
      walking_left z =
          let inside_set : j < length (set f j 0) = rw length-set here_too in
          let m : marked j (drop j (set f j 0)) ≡ marked i (drop i f) =
          rw g (marked_left (set f j 0) j inside_set (get_or-set_same f j 0 0 here_too) ∙ rw (drop-set-lt (suc j) f j 0 (omega arith))) in
          record {
            inside = omega (arith, here);
            size = length-set f j 0 ∙ h.size;
            front = take-set-le j f j 0 (le_refl j) ∙ front_next;
            passes = passed;
            target = target_next;
            places = rw m (rw z at places_next);
            count = rw m h.count;
          }

  pub walking_end : {f : List ℕ} {w : List ℤ} {i kept : ℕ} → Walking k n u w₀ f w i kept → i ≤ 0
      → (kept ≡ length (marked 0 f)) × (marked 0 f ≡ places_kept k n u (length u) w₀ []) × (w ≡ left_over k n u (length u) w₀)
  unfolding left_over places_kept
  walking_end {i} h z = let e : i ≡ 0 = omega arith in (rw e at h.count, sym (rw e at h.places), sym (rw e at h.target))

-- ---- places of letters

-- the places of u are stored, those from letter i on are left
module _ (u o out : List ℕ) (at i : ℕ) (h : i < length u) (s : Storing o 0 (marked 0 u) out at (marked i (drop i u))) where
  module _ (g : get_or u i 0 ≡ 0 → ⊥) where
    pub writing_room : length (marked 0 u) ≤ length o → at < length out
    writing_room l = storing_room (omega arith) (rw (marked_kept u i h g) at s)

    pub writing_kept : Storing o 0 (marked 0 u) (set out at i) (at + 1) (marked (i + 1) (drop (i + 1) u))
    writing_kept = rw (add-one i) (storing_next (rw (marked_kept u i h g) at s))

  pub writing_left : get_or u i 0 ≡ 0 → Storing o 0 (marked 0 u) out at (marked (i + 1) (drop (i + 1) u))
  writing_left g = rw (add-one i, ← marked_left u i h g) s

pub writing_end : (u : List ℕ) {o out : List ℕ} (at i : ℕ) → length u ≤ i → length (marked 0 u) ≤ length o
    → Storing o 0 (marked 0 u) out at (marked i (drop i u)) → out ≡ front (marked 0 u) o
unfolding marked
writing_end u {o} {out} at i h l s =
    let none : drop i u ≡ [] = drop_of_length-le u h in
    let t : Storing o 0 (marked 0 u) out at [] = rw none at s in
    (stored_of_storing t).1 ∙ sets-front (marked 0 u) o l

-- ---- the straight window
module _ (w : List ℤ) (i : ℕ) (h : i < length w) where
  entry-identity : get_or (identity (length w)) i (pos 0) ≡ pos (i + 1)
  entry-identity = rw (add-one i) (get_or-identity (length w) i h)

  pub identity_next : length w ≤ 127 → mag (get_or w i (pos 0)) < 128 → of_z w8 (get_or w i (pos 0)) ≡ i + 1
      → take i w ≡ take i (identity (length w)) → take (i + 1) w ≡ take (i + 1) (identity (length w))
  identity_next l b e t =
      let entry : get_or w i (pos 0) ≡ pos (i + 1) = sym (element_back (get_or w i (pos 0)) b) ∙ ap (to_z w8) e ∙ cast_back (i + 1) (omega arith) in
      let inside : i < length (identity (length w)) = rw length-identity h in
      rw (add-one i, take-suc w i (pos 0) h, take-suc (identity (length w)) i (pos 0) inside, t, entry, entry-identity)

  pub identity_differs : (of_z w8 (get_or w i (pos 0)) ≡ i + 1 → ⊥) → false ≡ same_window w (identity (length w))
  identity_differs f = identity_differs_by_cases (same_window w (identity (length w))) refl
    where
      identity_differs_by_cases : (t : Bool) → same_window w (identity (length w)) ≡ t → false ≡ t
      identity_differs_by_cases true e =
          let q = same_window_true w (identity (length w)) e in
          absurd (f (ap (λ (x : ℤ). of_z w8 x) (ap (λ (l : List ℤ). get_or l i (pos 0)) q ∙ entry-identity)))
      identity_differs_by_cases false e = refl

pub identity_end : (w : List ℤ) (i : ℕ) → length w ≤ i → take i w ≡ take i (identity (length w)) → true ≡ same_window w (identity (length w))
identity_end w i l t =
    let whole : length (identity (length w)) ≤ i = rw length-identity l in
    sym (same_window_of_eq w (identity (length w)) (sym (take_all i w l) ∙ t ∙ take_all i (identity (length w)) whole))
