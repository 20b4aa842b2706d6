-- There is one complete normalized presentation of a group, Métivier's uniqueness: by any of them a word is irreducible
-- exactly if it is the normal form of its window, so that all have the same irreducible words; then each left side of
-- one holds a left side of another, and that one a left side of the first, which can only be the same one.
--
-- Sections: congruent words and descendants; irreducible words; entries; two presentations.
-- Assumes nothing.
use mathlib.Core.Path.{◌≡◌, refl, sym, ap, subst, subst₂, ◌∙◌}
use mathlib.Core.Bool.{true, false, true≢false}
use mathlib.Core.Logic.{◌↔◌, ◌⊎◌, inl, inr, ⊎_elim}
use mathlib.Core.List.{List, [], ◌++◌, append_assoc, append-nil, map, Memᴰ}
use mathlib.Core.List.Memᴰ
use Prim.Native.Nat.{ℕ, ◌+◌, ◌≤◌}
use native.Mathlib.Nat.{le_antisymm}
use native.Mathlib.Omega.{arith}
use lib.ListN.{length, length-append, length-map, drop_of_length-le}
use Rattle.coxeter.specs.declared.Kind.{Kind}
use Rattle.coxeter.specs.Kinds.{least}
use Rattle.coxeter.specs.Windows.{window}
use Rattle.coxeter.specs.Checks.{wrong_letter}
use Rattle.coxeter.specs.Dictionary.{shortlex}
use Rattle.coxeter.specs.Relations.{forth, back, Congruent, alone, next}
use Rattle.coxeter.specs.NormalForm.{normal_form, word_normal_form}
use Rattle.coxeter.proofs.Congruence.{congruent_sym, congruent_one}
use Rattle.coxeter.proofs.Order.{shortlex_trans, shortlex_irrefl, shortlex_asymm}
use Rattle.coxeter.proofs.Relations.{congruent_window, congruent_letters}
use Rattle.rules.specs.Rules.{Rule, Irreducible}
use Rattle.rules.proofs.Completeness.{normal_form_congruent, normal_form-least-window}
use Rattle.distribution.specs.AllWindows.{In, Once}
use Rattle.distribution.proofs.Members.{length_le_of_map}
use Rattle.presentation.specs.Reductions.{Pair, pair, Reduces, within, Reductions, stays, step, ReducesTo}
use Rattle.presentation.specs.Presentations.{CompletePresentation}
use Rattle.presentation.proofs.Reducing.{reduces_exactly, irreducible_exactly, irreducible_stops, reducible_or, reduces_to_one}
use Rattle.presentation.proofs.Reducing.{reduces_to_trans, reduces_to_same, reduces_congruent, reduces_to_congruent, shortlex_within}
use Rattle.presentation.proofs.Entries.{entry_of, or_others, once_of_others}

-- ---- congruent words and descendants

-- no word with its window comes before a normal form
not_earlier : (k : Kind) (n : ℕ) → least k ≤ n → (u v : List ℕ) → wrong_letter n v ≡ false → window k n v ≡ window k n u
    → shortlex v (word_normal_form k n u) ≡ true → ⊥
not_earlier k n low u v e q t =
    let f = word_normal_form k n u in
    let other : v ≡ f → ⊥ = λ d. true≢false (sym t ∙ ap (λ (w : List ℕ). shortlex w f) d ∙ shortlex_irrefl f) in
    true≢false (sym ((normal_form-least-window k n u low).least v e q other) ∙ shortlex_asymm v f t)

-- what holds by any complete presentation
module _ (k : Kind) (n : ℕ) (low : least k ≤ n) (rs : List Rule) (c : CompletePresentation k n rs) where
  -- words congruent under the rules have one window, and steps with steps alone
  pair_window : (u v : List ℕ) → Congruent (Pair rs) u v → window k n u ≡ window k n v
  pair_window u v q = congruent_window k n ((c.presenting u v).0 q)

  pair_letters : (u v : List ℕ) → Congruent (Pair rs) u v → wrong_letter n u ≡ false → wrong_letter n v ≡ false
  pair_letters u v q = congruent_letters k n ((c.presenting u v).0 q)

  -- a reduction leads to an earlier word
  reduces_earlier : {u v : List ℕ} → Reduces rs u v → shortlex v u ≡ true
  reduces_earlier (within b a x m) = shortlex_within b x.right x.left a (c.descending x m)

  -- the last word is the first or earlier
  reductions_earlier : {t : ℕ} {u v : List ℕ} → Reductions rs t u v → (u ≡ v) ⊎ (shortlex v u ≡ true)
  reductions_earlier stays = inl refl
  reductions_earlier (step {u = u} {v = v} {w = w} r p) =
      inr (⊎_elim (λ e. subst (λ (x : List ℕ). shortlex x u ≡ true) e (reduces_earlier r)) (λ l. shortlex_trans w v u l (reduces_earlier r))
      (reductions_earlier p))

  -- congruent words have a descendant in common
  church_rosser : {u v : List ℕ} → Congruent (Pair rs) u v → wrong_letter n u ≡ false → (z : List ℕ) × ReducesTo rs u z × ReducesTo rs v z
  church_rosser alone e = (_, (0, stays), (0, stays))
  church_rosser (next (forth b a (pair x m)) q) e =
      let r = within b a x m in
      let (z, p, s) = church_rosser q (pair_letters _ _ (reduces_congruent r) e) in
      (z, reduces_to_trans (reduces_to_one r) p, s)
  church_rosser (next (back b a (pair x m)) q) e =
      let r = within b a x m in
      let f = pair_letters _ _ (congruent_sym (reduces_congruent r)) e in
      let (z, p, s) = church_rosser q f in
      let (w, d, g) = c.confluent _ _ z f (reduces_to_one r) p in
      (w, d, reduces_to_trans s g)

  -- ---- irreducible words

  normal_of_irreducible : (u : List ℕ) → wrong_letter n u ≡ false → Irreducible rs u → u ≡ word_normal_form k n u
  normal_of_irreducible u e i =
      let f = word_normal_form k n u in
      let (z, p, q) = church_rosser ((c.presenting u f).1 (normal_form_congruent k n u low e)) e in
      let s : u ≡ z = reduces_to_same i p in
      elim (reductions_earlier q.1) [
        | inl t ↦ s ∙ sym t
        | inr t ↦ absurd (not_earlier k n low u u e refl (subst (λ (w : List ℕ). shortlex w f ≡ true) (sym s) t))
      ]

  irreducible_of_normal : (u : List ℕ) → wrong_letter n u ≡ false → u ≡ word_normal_form k n u → Irreducible rs u
  irreducible_of_normal u e q = (irreducible_stops rs u).1 (λ v r.
      let p = reduces_congruent r in
      not_earlier k n low u v (pair_letters u v p e) (sym (pair_window u v p))
      (subst (λ (w : List ℕ). shortlex v w ≡ true) q (reduces_earlier r)))

  -- U7: by any complete normalized presentation the irreducible words of steps are the normal forms
  pub complete_irreducible : (u : List ℕ) → wrong_letter n u ≡ false → Irreducible rs u ↔ (u ≡ word_normal_form k n u)
  complete_irreducible u e = (normal_of_irreducible u e, irreducible_of_normal u e)

  -- U7: of the descendants of a word just its normal form is irreducible
  pub complete_normal_form : (u v : List ℕ) → wrong_letter n u ≡ false → (ReducesTo rs u v × Irreducible rs v) ↔ (v ≡ word_normal_form k n u)
  complete_normal_form u v e = (
    λ (p, i).
        let q = reduces_to_congruent p in
        normal_of_irreducible v (pair_letters u v q e) i ∙ ap (normal_form k n) (sym (pair_window u v q)),
    λ q. rw q (
      let (z, p, s) = church_rosser ((c.presenting u f).1 (normal_form_congruent k n u low e)) e in
          subst (ReducesTo rs u) (sym (reduces_to_same irreducible s)) p,
      irreducible,
    ),
  )
    where
      f : List ℕ
      f = word_normal_form k n u

      irreducible : Irreducible rs f
      irreducible =
          let least = normal_form-least-window k n u low in
          irreducible_of_normal f least.steps (ap (normal_form k n) (sym least.shows))

  -- ---- entries

  -- an entry whose left side stands in that of another is the same entry
  pub same_entry : (x y : Rule) → Memᴰ x rs → Memᴰ y rs → (b a : List ℕ) → x.left ≡ b ++ (y.left ++ a) → y ≡ x
  same_entry x y m q b a e =
      let (front, rest, s) = entry_of m in
      elim (or_others front x y rest (subst (In y) s q)) [
        | inl t ↦ t
        | inr t ↦ absurd ((irreducible_exactly (front ++ rest) x.left).0 (c.left_irreducible front x rest s) y t b a e)
      ]

  -- nothing stands twice
  pub complete_once : Once rs
  complete_once = once_of_others rs (λ front x rest e m.
      (irreducible_exactly (front ++ rest) x.left).0 (c.left_irreducible front x rest e) x m [] [] (sym (append-nil x.left)))

  -- the right side of a rule is the normal form of its left side
  right_normal : (x : Rule) → Memᴰ x rs → x.right ≡ word_normal_form k n x.left
  right_normal x m =
      normal_of_irreducible x.right (c.steps x m).1 (c.right_irreducible x m)
      ∙ ap (normal_form k n) (sym (pair_window x.left x.right (congruent_one (pair x m))))

-- ---- two presentations

module _ (k : Kind) (n : ℕ) (low : least k ≤ n) (rs qs : List Rule) (c : CompletePresentation k n rs) (d : CompletePresentation k n qs) where
  -- a left side of one list holds a left side of the other
  holds_left : (x : Rule) → Memᴰ x rs → (y : Rule) × Memᴰ y qs × ((b a : List ℕ) × (x.left ≡ b ++ (y.left ++ a)))
  holds_left x m = elim (reducible_or qs x.left) [
    | inl i ↦
        let e = (c.steps x m).0 in
        let j = (complete_irreducible k n low rs c x.left e).1 ((complete_irreducible k n low qs d x.left e).0 i) in
        absurd ((irreducible_exactly rs x.left).0 j x m [] [] (sym (append-nil x.left)))
    | inr (v, r) ↦ let (b, a, y, q, e, f) = (reduces_exactly qs x.left v).0 r in (y, q, (b, a, e))
  ]

-- a word inside another that is no longer is that word
same_word : (u v b a : List ℕ) → u ≡ b ++ (v ++ a) → length u ≤ length v → u ≡ v
same_word u v b a e h =
    let l : length u ≡ length b + (length v + length a) = simp length-append at (ap length e) in
    e ∙ rw (drop_of_length-le b {i = 0} (omega arith), drop_of_length-le a {i = 0} (omega arith)) (append-nil v)

module _ (k : Kind) (n : ℕ) (low : least k ≤ n) (rs qs : List Rule) (c : CompletePresentation k n rs) (d : CompletePresentation k n qs) where
  -- each rule of one list is in the other, but for what it shows
  same_sides : (x : Rule) → Memᴰ x rs → (y : Rule) × Memᴰ y qs × (x.left ≡ y.left) × (x.right ≡ y.right)
  same_sides x m = (y, q, l, right_normal k n low rs c x m ∙ ap (word_normal_form k n) l ∙ sym (right_normal k n low qs d y q))
    where
      other : (y : Rule) × Memᴰ y qs × ((b a : List ℕ) × (x.left ≡ b ++ (y.left ++ a)))
      other = holds_left k n low rs qs c d x m

      y : Rule
      y = other.0

      q : Memᴰ y qs
      q = other.1

      again : (z : Rule) × Memᴰ z rs × ((b a : List ℕ) × (y.left ≡ b ++ (z.left ++ a)))
      again = holds_left k n low qs rs d c y q

      l : x.left ≡ y.left
      l =
          let (b, a, e) = other.2 in
          let (z, p, (g, h, f)) = again in
          let i : x.left ≡ (b ++ g) ++ (z.left ++ (h ++ a)) = e ∙ ap (λ (w : List ℕ). b ++ (w ++ a)) f ∙ simp append_assoc in
          let s : z ≡ x = same_entry k n low rs c x z m p (b ++ g) (h ++ a) i in
          same_word x.left y.left b a e
          (omega (arith, simp length-append at (ap length f), ap (λ (w : Rule). length w.left) s))

  pairs_within : (l r : List ℕ) → Pair rs l r → Pair qs l r
  pairs_within l r (pair x m) = let (y, q, e, f) = same_sides x m in subst₂ (Pair qs) (sym e) (sym f) (pair y q)

  -- one list is no longer than the other: no two of its rules have one left side
  length_le : length rs ≤ length qs
  length_le =
      omega (
        arith,
        length-map qs (λ x. x.left),
        length_le_of_map (λ x. x.left) rs (map (λ x. x.left) qs) (complete_once k n low rs c)
            (λ x y m q e. sym (same_entry k n low rs c x y m q [] [] (e ∙ sym (append-nil y.left))))
            (λ x m. let (y, q, e, f) = same_sides x m in Memᴰ.cast e (Memᴰ.map (λ (z : Rule). z.left) q)),
      )

-- U10: two complete normalized presentations of a group have the same sides, and as many rules
pub presentations_same : (k : Kind) (n : ℕ) → least k ≤ n → (rs qs : List Rule) → CompletePresentation k n rs → CompletePresentation k n qs
    → ((l r : List ℕ) → Pair rs l r ↔ Pair qs l r) × (length rs ≡ length qs)
presentations_same k n low rs qs c d = (
  λ l r. (pairs_within k n low rs qs c d l r, pairs_within k n low qs rs d c l r),
  le_antisymm (length_le k n low rs qs c d) (length_le k n low qs rs d c),
)
