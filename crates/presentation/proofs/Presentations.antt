-- The rules are the one complete normalized presentation: `rules_present` closes the claim of specs/Presentations.antt.
--
-- Sections: irreducible words; one reduction and one rewrite; the theorem.
-- Assumes nothing.
use mathlib.Core.Path.{◌≡◌, refl, sym, ap, subst, ◌∙◌}
use mathlib.Core.Bool.{false}
use mathlib.Core.Logic.{◌↔◌, inl, inr}
use mathlib.Core.List.Memᴰ
use mathlib.Core.List.{List, map}
use mathlib.Core.Option.{some}
use Prim.Native.Nat.{ℕ, ◌≤◌}
use native.Mathlib.Omega.{arith}
use lib.IntN.{ℤ}
use lib.ListN.{length-map}
use Rattle.coxeter.specs.declared.Kind.{Kind}
use Rattle.coxeter.specs.Kinds.{least}
use Rattle.coxeter.specs.Windows.{window}
use Rattle.coxeter.specs.Checks.{wrong_letter, WindowOf}
use Rattle.coxeter.specs.NormalForm.{blocks, Indices, normal_form}
use Rattle.coxeter.proofs.NormalForms.{normal_form-blocks}
use Rattle.coxeter.proofs.Theorems.{window_passes, window-normal_form, normal_form-letters}
use Rattle.rules.specs.Rules.{Rule, rules, first_fitting, rewritten, Irreducible}
use Rattle.rules.proofs.Fits.{left_nonempty, fits_of_rewrites, first_fitting_some, first_fitting_of_unique}
use Rattle.rules.proofs.Irreducible.{blocks_or_rewrites}
use Rattle.rules.proofs.ScanRules.{fitting_unique}
use Rattle.traces.proofs.LeftSideShapes.{fits_inside}
use Rattle.distribution.proofs.Members.{once_map}
use Rattle.distribution.proofs.Counted.{order_exactly}
use Rattle.distribution.specs.Distribution.{order}
use Rattle.presentation.specs.Reductions.{Reduces}
use Rattle.presentation.specs.Presentations.{IrreducibleWords, RulesPresentHolds}
use Rattle.presentation.proofs.Reducing.{irreducible_stops, reduces_of_fits}
use Rattle.presentation.proofs.Confluence.{rewrites_of_reduces, reduces_of_rewrites, irreducible_normal}
use Rattle.presentation.proofs.Counting.{rules-count}
use Rattle.presentation.proofs.Only.{complete_normal_form}
use Rattle.presentation.proofs.Complete.{rules_complete}
use Rattle.presentation.proofs.Exactly.{presentation_exactly}

module _ (k : Kind) (n : ℕ) (low : least k ≤ n) where
  -- ---- irreducible words

  rules-block_words : (u : List ℕ) → wrong_letter n u ≡ false
      → Irreducible (rules k n) u ↔ ((js : List ℕ) × Indices k n 1 js × (u ≡ blocks k n 1 js))
  rules-block_words u e = (
    λ i. elim (blocks_or_rewrites k n low u e) [
      | inl b ↦ b
      | inr (v, r) ↦ absurd ((irreducible_stops (rules k n) u).0 i v (reduces_of_rewrites k n low r))
    ],
    λ (js, x, q).
        (irreducible_normal k n low u e).1
        (q ∙ sym (normal_form-blocks k n js x) ∙ ap (λ (w : List ℕ). normal_form k n (window k n w)) (sym q)),
  )

  normal_irreducible : (w : List ℤ) → WindowOf k n w → (wrong_letter n (normal_form k n w) ≡ false) × Irreducible (rules k n) (normal_form k n w)
  normal_irreducible w h =
      let e = normal_form-letters k n w h in
      (e, (irreducible_normal k n low (normal_form k n w) e).1 (ap (normal_form k n) (sym (window-normal_form k n w h))))

  -- one for each window
  rules_irreducible_words : IrreducibleWords k n
  rules_irreducible_words =
      let (ws, once, exactly, number) = (order_exactly k n low (order k n)).0 refl in
      record {
        words = map (normal_form k n) ws;
        once = once_map (normal_form k n) ws (λ v w p q e.
            sym (window-normal_form k n v ((exactly v).0 p)) ∙ ap (window k n) e ∙ window-normal_form k n w ((exactly w).0 q)) once;
        exactly = λ u. (
          λ m.
              let (w, p, e) = Memᴰ.of_map (normal_form k n) ws m in
              subst (λ (u : List ℕ). (wrong_letter n u ≡ false) × Irreducible (rules k n) u) e (normal_irreducible w ((exactly w).0 p)),
          λ (e, i).
              Memᴰ.cast ((irreducible_normal k n low u e).0 i) (Memᴰ.map (normal_form k n) ((exactly (window k n u)).1 (window_passes k n u))),
        );
        number = length-map ws (normal_form k n) ∙ number;
      }

  -- ---- one reduction and one rewrite

  rules_rewrite : (u v : List ℕ) → Reduces (rules k n) u v
      ↔ ((p : ℕ) × (x : Rule) × (first_fitting (rules k n) u p ≡ some x) × (rewritten x u p ≡ v))
  rules_rewrite u v = (
    λ r.
        let (x, p, m, l, f, e) = fits_of_rewrites k n low (rewrites_of_reduces k n low r) in
        (p, x, first_fitting_of_unique (rules k n) u p x m f (λ y q g. fitting_unique k n u p low q m g f), e),
    λ (p, x, f, e).
        let (m, g) = first_fitting_some (rules k n) u p x f in
        let inside = fits_inside x u p (left_nonempty k n low x m) g in
        rw (← e) (reduces_of_fits (rules k n) x m u p (omega arith) g),
  )

-- ---- the theorem

-- U2 to U12: of every kind and every rank from its lowest on
pub rules_present : RulesPresentHolds
rules_present k n low = record {
  complete = rules_complete k n low;
  only = presentation_exactly k n low;
  normal-form = complete_normal_form k n low (rules k n) (rules_complete k n low);
  block_words = rules-block_words k n low;
  irreducible_words = rules_irreducible_words k n low;
  count = rules-count k n low;
  rewrite = rules_rewrite k n low;
}
