-- The rules are complete: every word of steps rewrites to the normal form of its window, which no rule rewrites and
-- which is the least word with that window. By induction on the measure `value`, since a word that is not a word of
-- blocks rewrites.
--
-- Sections: one rewriting; finitely many rewritings; the normal form is reached; irreducible words; the least word;
-- equal normal forms.
-- Assumes nothing.
use mathlib.Core.Path.{◌≡◌, refl, sym, ap, subst, ◌∙◌}
use mathlib.Core.Bool.{Bool, true, false, true≢false}
use mathlib.Core.Logic.{◌⊎◌, inl, inr, ⊎_elim, ◌↔◌}
use mathlib.Core.List.{List, Memᴰ}
use Prim.Native.Nat.{ℕ, zero, suc, ◌≤◌, ◌<◌}
use native.Mathlib.Decide.{dec_le}
use native.Mathlib.Omega.{arith}
use lib.IntN.{ℤ}
use lib.ListN.{length}
use Rattle.coxeter.specs.declared.Kind.{Kind}
use Rattle.coxeter.specs.Kinds.{least}
use Rattle.coxeter.specs.Windows.{window}
use Rattle.coxeter.specs.Checks.{wrong_letter}
use Rattle.coxeter.specs.Dictionary.{shortlex}
use Rattle.coxeter.specs.Relations.{Relation, Congruent, alone}
use Rattle.coxeter.specs.NormalForm.{normal_form, IsNormalForm}
use Rattle.coxeter.proofs.Levels.{Accepted, window_accepted}
use Rattle.coxeter.proofs.Congruence.{congruent_trans, congruent_sym, congruent_context, congruent_of_equal}
use Rattle.coxeter.proofs.Relations.{congruent_window}
use Rattle.coxeter.proofs.Order.{shortlex_trans, shortlex_cases}
use Rattle.coxeter.proofs.NormalForms.{normal_form-blocks, window-normal_form, normal_form-letters}
use Rattle.coxeter.proofs.Theorems.{normal_unique}
use Rattle.rules.specs.Rules.{rules, fits, Irreducible}
use Rattle.rules.proofs.Rewriting.{Rewrites, within}
use Rattle.rules.proofs.Derivations.{rule_congruent}
use Rattle.rules.proofs.Ending.{rule-letters, accepted_rewritten, value, rule_lowers, rule-shortlex}
use Rattle.rules.proofs.Irreducible.{blocks_or_rewrites}
use Rattle.rules.proofs.Fits.{left_nonempty, fits-past, rewrites_of_fits, fits_of_rewrites}

-- ---- one rewriting

rewrites_congruent : (k : Kind) (n : ℕ) {u v : List ℕ} → least k ≤ n → Rewrites k n u v → Congruent (Relation k n) u v
rewrites_congruent k n h (within x y q) = congruent_context x y (rule_congruent k n h q)

pub rewrites_window : (k : Kind) (n : ℕ) {u v : List ℕ} → least k ≤ n → Rewrites k n u v → window k n u ≡ window k n v
rewrites_window k n h r = congruent_window k n (rewrites_congruent k n h r)

pub rewrites_letters : {k : Kind} {n : ℕ} {u v : List ℕ} → Rewrites k n u v → wrong_letter n u ≡ false → wrong_letter n v ≡ false
rewrites_letters (within x y q) e = accepted_rewritten q x y e

pub rewrites_lowers : {k : Kind} {n : ℕ} {u v : List ℕ} → Rewrites k n u v → wrong_letter n u ≡ false → value n v < value n u
rewrites_lowers (within x y q) e = rule_lowers q x y e

pub rewrites_shortlex : {k : Kind} {n : ℕ} {u v : List ℕ} → Rewrites k n u v → shortlex v u ≡ true
rewrites_shortlex (within x y q) = rule-shortlex q x y

pub rewrites_length : {k : Kind} {n : ℕ} {u v : List ℕ} → Rewrites k n u v → length v ≤ length u
rewrites_length {u} {v} r = ⊎_elim (λ h. omega arith) (λ h. omega arith) (shortlex_cases v u (rewrites_shortlex r))

-- every letter of the new word stands in the old one
pub no_new_letter : {k : Kind} {n : ℕ} {u v : List ℕ} {a : ℕ} → Rewrites k n u v → Memᴰ a v → Memᴰ a u
no_new_letter (within x y q) m = rule-letters q x y m

-- ---- finitely many rewritings

pub data RewritesTo (k : Kind) (n : ℕ) : List ℕ → List ℕ → Type 0 where
  stays : {u : List ℕ} → RewritesTo k n u u
  step : {u v w : List ℕ} → Rewrites k n u v → RewritesTo k n v w → RewritesTo k n u w

rewrites_to_congruent : (k : Kind) (n : ℕ) {u v : List ℕ} → least k ≤ n → RewritesTo k n u v → Congruent (Relation k n) u v
rewrites_to_congruent k n h stays = alone
rewrites_to_congruent k n h (step r s) = congruent_trans (rewrites_congruent k n h r) (rewrites_to_congruent k n h s)

pub rewrites_to_window : (k : Kind) (n : ℕ) {u v : List ℕ} → least k ≤ n → RewritesTo k n u v → window k n u ≡ window k n v
rewrites_to_window k n h r = congruent_window k n (rewrites_to_congruent k n h r)

pub rewrites_to_letters : {k : Kind} {n : ℕ} {u v : List ℕ} → RewritesTo k n u v → wrong_letter n u ≡ false → wrong_letter n v ≡ false
rewrites_to_letters stays e = e
rewrites_to_letters (step r s) e = rewrites_to_letters s (rewrites_letters r e)

rewrites_to_value : {k : Kind} {n : ℕ} {u v : List ℕ} → RewritesTo k n u v → wrong_letter n u ≡ false → value n v ≤ value n u
rewrites_to_value stays e = omega arith
rewrites_to_value (step r s) e = omega (arith, rewrites_lowers r e, rewrites_to_value s (rewrites_letters r e))

-- the last word is the first, or earlier
pub rewrites_to_shortlex : {k : Kind} {n : ℕ} {u v : List ℕ} → RewritesTo k n u v → (u ≡ v) ⊎ (shortlex v u ≡ true)
rewrites_to_shortlex stays = inl refl
rewrites_to_shortlex (step {u} {v} {w} r s) =
    inr (⊎_elim (λ e. subst (λ (x : List ℕ). shortlex x u ≡ true) e (rewrites_shortlex r)) (λ l. shortlex_trans w v u l (rewrites_shortlex r))
    (rewrites_to_shortlex s))

-- a word that does not rewrite stays
rewrites_to_same : {k : Kind} {n : ℕ} {u v : List ℕ} → RewritesTo k n u v → ((w : List ℕ) → Rewrites k n u w → ⊥) → u ≡ v
rewrites_to_same stays h = refl
rewrites_to_same (step {v} r s) h = absurd (h v r)

-- ---- the normal form is reached

-- words of a measure below t
reached : (k : Kind) (n : ℕ) → least k ≤ n → (t : ℕ) (u : List ℕ) → value n u < t → wrong_letter n u ≡ false
    → RewritesTo k n u (normal_form k n (window k n u))
reached k n h zero u l e = absurd (omega arith)
reached k n h (suc t) u l e =
    elim (blocks_or_rewrites k n h u e) [
      | inl b ↦
          subst (RewritesTo k n u)
          (b.2 ∙ sym (normal_form-blocks k n b.0 b.1) ∙ ap (λ (w : List ℕ). normal_form k n (window k n w)) (sym b.2))
          stays
      | inr r ↦
          step r.1
          (subst (λ (w : List ℤ). RewritesTo k n r.0 (normal_form k n w)) (sym (rewrites_window k n h r.1))
          (reached k n h t r.0 (omega (arith, rewrites_lowers r.1 e)) (rewrites_letters r.1 e)))
    ]

-- every word of steps rewrites to the normal form of its window
pub rewrites_to_normal_form : (k : Kind) (n : ℕ) (u : List ℕ) → least k ≤ n → wrong_letter n u ≡ false → RewritesTo k n u (normal_form k n (window k n u))
rewrites_to_normal_form k n u h e = reached k n h (suc (value n u)) u (omega arith) e

-- ---- irreducible words

-- no rule rewrites the normal form of a window: the new word would rewrite to it again
normal_form_not_rewritten : (k : Kind) (n : ℕ) (w : List ℤ) {v : List ℕ} → least k ≤ n → Accepted k n w → Rewrites k n (normal_form k n w) v → ⊥
normal_form_not_rewritten k n w {v} h a r =
    let e : wrong_letter n (normal_form k n w) ≡ false = normal_form-letters k n w a in
    let f : wrong_letter n v ≡ false = rewrites_letters r e in
    let q : window k n v ≡ w = sym (rewrites_window k n h r) ∙ window-normal_form k n w a in
    let s : RewritesTo k n v (normal_form k n w) = subst (λ (x : List ℤ). RewritesTo k n v (normal_form k n x)) q (rewrites_to_normal_form k n v h f) in
    omega (arith, rewrites_lowers r e, rewrites_to_value s f)

pub normal_form_irreducible : (k : Kind) (n : ℕ) (u : List ℕ) {v : List ℕ} → least k ≤ n → Rewrites k n (normal_form k n (window k n u)) v → ⊥
normal_form_irreducible k n u h r = normal_form_not_rewritten k n (window k n u) h (window_accepted k n u) r

-- no rule of the list fits exactly when no rule rewrites the word
pub irreducible_of_not_rewritten : (k : Kind) (n : ℕ) (u : List ℕ) → least k ≤ n → ((v : List ℕ) → Rewrites k n u v → ⊥) → Irreducible (rules k n) u
irreducible_of_not_rewritten k n u h f r m p = elim (dec_le p (length u)) [
  | yes l ↦ irreducible_of_not_rewritten_by_cases (fits r u p) refl l
  | no l ↦ fits-past r u p (left_nonempty k n h r m) (omega arith)
]
  where
    irreducible_of_not_rewritten_by_cases : (t : Bool) → fits r u p ≡ t → p ≤ length u → fits r u p ≡ false
    irreducible_of_not_rewritten_by_cases true e l = absurd (f _ (rewrites_of_fits k n h r m u p l e))
    irreducible_of_not_rewritten_by_cases false e l = e

pub not_rewritten_of_irreducible : (k : Kind) (n : ℕ) (u : List ℕ) → least k ≤ n → Irreducible (rules k n) u → (v : List ℕ) → Rewrites k n u v → ⊥
not_rewritten_of_irreducible k n u h f v r =
    let s = fits_of_rewrites k n h r in
    true≢false (sym s.4 ∙ f s.0 s.2 s.1)

-- an irreducible word is the normal form of its window
pub irreducible_iff : (k : Kind) (n : ℕ) (u : List ℕ) → least k ≤ n → wrong_letter n u ≡ false → Irreducible (rules k n) u ↔ (u ≡ normal_form k n (window k n u))
irreducible_iff k n u h e = (
  λ f. rewrites_to_same (rewrites_to_normal_form k n u h e) (not_rewritten_of_irreducible k n u h f),
  λ q. irreducible_of_not_rewritten k n u h (λ v r. normal_form_irreducible k n u h (subst (λ (x : List ℕ). Rewrites k n x v) q r)),
)

-- ---- the least word

-- the normal form of an accepted window is the least word with that window
pub normal_form-least : (k : Kind) (n : ℕ) (w : List ℤ) → least k ≤ n → Accepted k n w → IsNormalForm k n w (normal_form k n w)
normal_form-least k n w h a = record {
  steps = normal_form-letters k n w a;
  shows = window-normal_form k n w a;
  least = λ v e q d.
      ⊎_elim (λ s. absurd (d s)) (λ s. s)
      (rewrites_to_shortlex (subst (λ (x : List ℤ). RewritesTo k n v (normal_form k n x)) q (rewrites_to_normal_form k n v h e)));
}

pub normal_form-least-window : (k : Kind) (n : ℕ) (u : List ℕ) → least k ≤ n → IsNormalForm k n (window k n u) (normal_form k n (window k n u))
normal_form-least-window k n u h = normal_form-least k n (window k n u) h (window_accepted k n u)

-- and the only one
pub normal_form_only : (k : Kind) (n : ℕ) (w : List ℤ) (u : List ℕ) → least k ≤ n → IsNormalForm k n w u → u ≡ normal_form k n w
normal_form_only k n w u h m =
    normal_unique k n w u (normal_form k n w) m (normal_form-least k n w h (subst (Accepted k n) m.shows (window_accepted k n u)))

-- ---- equal normal forms

pub normal_form_congruent : (k : Kind) (n : ℕ) (u : List ℕ) → least k ≤ n → wrong_letter n u ≡ false → Congruent (Relation k n) u (normal_form k n (window k n u))
normal_form_congruent k n u h e = rewrites_to_congruent k n h (rewrites_to_normal_form k n u h e)

pub same_normal_form_congruent : (k : Kind) (n : ℕ) (u v : List ℕ) → least k ≤ n → wrong_letter n u ≡ false → wrong_letter n v ≡ false
    → (normal_form k n (window k n u) ≡ normal_form k n (window k n v)) ↔ Congruent (Relation k n) u v
same_normal_form_congruent k n u v h e f = (
  λ q. congruent_trans (normal_form_congruent k n u h e) (congruent_trans (congruent_of_equal q) (congruent_sym (normal_form_congruent k n v h f))),
  λ s. ap (normal_form k n) (congruent_window k n s),
)
