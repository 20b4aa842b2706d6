-- Check 10 from the last entry to the first: the sizes of the entries behind are marked, so that a repeated size is
-- seen at once.
-- Assumes nothing.
use mathlib.Core.Path.{◌≡◌, sym, ap, ◌∙◌, subst}
use mathlib.Core.Bool.{Bool, true, false, or-true}
use mathlib.Core.List.{List, [], ◌∷◌}
use Prim.Native.Nat.{ℕ, zero, suc, ◌+◌, ◌-◌, ◌≤◌, ◌<◌}
use native.Mathlib.Decide.{ℕ_discrete}
use native.Mathlib.Nat.{le_refl}
use native.Mathlib.Omega.{arith}
use lib.IntN.{ℤ, pos, nat_abs}
use lib.ListN.{length, get_or, set, length-set, drop, drop_of_length-le}
use lib.Seq.{get_or-set_same, get_or-set_other}
use borrow.Author.Tests.{eq-eqb, ne_eqb}
use Rattle.coxeter.specs.declared.Kind.{Kind}
use Rattle.coxeter.specs.Checks.{wrong_at, wrong_entry, has_size, negative_in_A}
use Rattle.coxeter.proofs.Lists.{drop_next}
use Rattle.refusals.proofs.checks.Tests.{wrong_at-negative, wrong_at_zero, wrong_at-above, wrong_at_repeats, wrong_at_else}

-- an entry that is wrong behind is wrong in the whole
wrong_entry-drop : (k : Kind) (m : ℕ) (w : List ℤ) (i : ℕ) → wrong_entry k m (drop i w) ≡ true → wrong_entry k m w ≡ true
unfolding wrong_entry
wrong_entry-drop k m w zero h = h
wrong_entry-drop k m [] (suc i) h = h
wrong_entry-drop k m (e ∷ w) (suc i) h = rw (wrong_entry-drop k m w i h) (or-true (wrong_at k m e w))

-- the entries from j on passed, and their sizes are marked: place p stands for the size p + 1
pub record MarkedFrom (k : Kind) (m : ℕ) (w : List ℤ) (marks : List Bool) (j : ℕ) : Type 0 where
  pub inside : j ≤ length w
  pub room : length marks ≡ 64
  pub marked : (p : ℕ) → p < 64 → get_or marks p false ≡ has_size (suc p) (drop j w)
  pub right : wrong_entry k m (drop j w) ≡ false

pub marked_from_none : {k : Kind} {m : ℕ} {w : List ℤ} {marks : List Bool} → (length marks ≡ 64) × ((p : ℕ) → p < 64 → get_or marks p false ≡ false)
    → MarkedFrom k m w marks (length w)
unfolding has_size wrong_entry
marked_from_none {w} h =
    record {
      inside = le_refl (length w);
      room = h.0;
      marked = λ p l. rw (drop_of_length-le w (le_refl (length w))) (h.1 p l);
      right = rw (drop_of_length-le w (le_refl (length w)));
    }

pub whole_passed : {k : Kind} {m : ℕ} {w : List ℤ} {marks : List Bool} {j : ℕ} → MarkedFrom k m w marks j → j ≡ 0 → wrong_entry k m w ≡ false
whole_passed {k} {m} {w} h z = subst (λ (x : ℕ). wrong_entry k m (drop x w) ≡ false) z h.right

-- one entry further to the front: the entry at j - 1
module _ (k : Kind) (m : ℕ) (w : List ℤ) (marks : List Bool) (j : ℕ) (h : MarkedFrom k m w marks j) (l : 0 < j) where
  abbrev e : ℤ
  e = get_or w (j - 1) (pos 0)

  next : drop (j - 1) w ≡ e ∷ drop j w
  next =
      let i : j - 1 + 1 ≡ j = omega arith in
      drop_next w (j - 1) (pos 0) (omega (arith, h.inside)) ∙ ap (λ (x : ℕ). e ∷ drop x w) i

  wrong : wrong_at k m e (drop j w) ≡ true → true ≡ wrong_entry k m w
  unfolding wrong_entry
  wrong t = sym (wrong_entry-drop k m w (j - 1) (rw (next, t)))

  pub negative_wrong : negative_in_A k e ≡ true → true ≡ wrong_entry k m w
  negative_wrong n = wrong (wrong_at-negative k m e (drop j w) n)

  -- it is not negative in kind A, and has the size s
  module _ (n : negative_in_A k e ≡ false) {s : ℕ} (q : s ≡ nat_abs e) where
    pub zero_wrong : s ≡ 0 → true ≡ wrong_entry k m w
    zero_wrong z = wrong (wrong_at_zero k m s e (drop j w) q z)

    module _ (f : s ≡ 0 → ⊥) where
      pub above_wrong : m < s → true ≡ wrong_entry k m w
      above_wrong g = wrong (wrong_at-above k m s e (drop j w) q f g)

      module _ (g : s ≤ m) (c : m ≤ 64) where
        mark : get_or marks (s - 1) false ≡ has_size s (drop j w)
        mark =
            let i : suc (s - 1) ≡ s = omega arith in
            subst (λ (x : ℕ). get_or marks (s - 1) false ≡ has_size x (drop j w)) i (h.marked (s - 1) (omega arith))

        pub repeated_wrong : get_or marks (s - 1) false ≡ true → true ≡ wrong_entry k m w
        repeated_wrong t = wrong (wrong_at_repeats k m s e (drop j w) q f g (sym mark ∙ t))

        pub marked_from_next : get_or marks (s - 1) false ≡ false → MarkedFrom k m w (set marks (s - 1) true) (j - 1)
        unfolding has_size wrong_entry
        marked_from_next t =
            record {
              inside = omega (arith, h.inside);
              room = length-set marks (s - 1) true ∙ h.room;
              marked = λ p b. rw next (sized p b);
              right = rw (next, wrong_at_else k m s e (drop j w) q f g (sym mark ∙ t) ∙ n) h.right;
            }
          where
            sized : (p : ℕ) → p < 64 → get_or (set marks (s - 1) true) p false ≡ has_size (suc p) (e ∷ drop j w)
            sized p b =
                elim (ℕ_discrete p (s - 1)) [
                  | yes a ↦ rw (a, get_or-set_same marks (s - 1) true false (omega (arith, h.room)), eq-eqb (nat_abs e) (suc (s - 1)) (sym q ∙ omega arith))
                  | no d ↦ rw (get_or-set_other marks (s - 1) p true false d, ne_eqb (nat_abs e) (suc p) (λ x. d (omega (arith, x, q)))) (h.marked p b)
                ]
