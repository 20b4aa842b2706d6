-- A rule whose left side is two letters: which letters commute, told by two comparisons, and the rule of two
-- such letters and of a letter that stands twice. By the search, which such a word leaves at once.
--
-- Sections: letters that commute; the rule of two letters.
-- Assumes nothing.
use mathlib.Core.Path.{◌≡◌, refl, sym, ap, ◌∙◌}
use mathlib.Core.Bool.{Bool, true, false, true≢false}
use mathlib.Core.List.{List, [], ◌∷◌}
use mathlib.Core.Option.{none, some}
use Prim.Native.Nat.{ℕ, ◌+◌, ◌≤◌, ◌<◌}
use native.Mathlib.Decide.{ℕ_discrete}
use native.Mathlib.Omega.{arith}
use lib.Dec.{eqb, ltb}
use lib.ListN.{drop}
use borrow.Author.Tests.{eq-eqb, ne_eqb, lt-ltb, ltb-true}
use Rattle.coxeter.specs.declared.Kind.{Kind}
use Rattle.coxeter.specs.Kinds.{pick, least}
use Rattle.coxeter.specs.Checks.{wrong_letter}
use Rattle.coxeter.specs.NormalForm.{levels, last_index}
use Rattle.rules.specs.Rules.{rules, rule, commuted, first_fitting}
use Rattle.rules.proofs.Scan.{next_index, fork, family_at, found, walk, scan, Leaving, next_index_leave, last_index-top}
use Rattle.rules.proofs.LeavingLetters.{family_at_square, family_at_commute, rule_at_square, rule_at_commute}
use Rattle.rules.proofs.ScanRules.{scan_is_first_fitting}

-- ---- letters that commute

-- whether l x is the left side of a rule of family 2; c is the last level
unfoldable pub commuting : ℕ → ℕ → ℕ → ℕ → Bool
commuting n c l x = pick (eqb x n) (pick (eqb (l + 1) c) false (ltb l x)) (ltb (l + 1) x)

commuting_leaves : (n c m l x : ℕ) → x ≤ n → commuting n c l x ≡ true → (l < x) × (next_index n c m l x ≡ 0)
unfolding commuting next_index
commuting_leaves n c m l x h e = elim (ℕ_discrete x n) [ yes t ↦ top t | no t ↦ below t ]
  where
    top : x ≡ n → (l < x) × (next_index n c m l x ≡ 0)
    top t =
        elim (ℕ_discrete (l + 1) c) [
          | yes q ↦ absurd (true≢false (sym (rw (eq-eqb x n t, eq-eqb (l + 1) c q) at e)))
          | no q ↦
              let g : l < x = ltb-true l x (rw (eq-eqb x n t, ne_eqb (l + 1) c q) at e) in
              (g, rw (lt-ltb l n (omega arith), eq-eqb x n t, ne_eqb (l + 1) c q))
        ]

    below : (x ≡ n → ⊥) → (l < x) × (next_index n c m l x ≡ 0)
    below t =
        let g : l + 1 < x = ltb-true (l + 1) x (rw (ne_eqb x n t) at e) in
        (omega arith, rw (lt-ltb l n (omega arith), ne_eqb x n t, ne_eqb x (l + 1) (omega arith)))

leaves_commuting : (n c m l x : ℕ) → x ≤ n → l < x → next_index n c m l x ≡ 0 → commuting n c l x ≡ true
unfolding commuting next_index
leaves_commuting n c m l x h g e = elim (ℕ_discrete x n) [ yes t ↦ top t | no t ↦ below t ]
  where
    top : x ≡ n → commuting n c l x ≡ true
    top t =
        elim (ℕ_discrete (l + 1) c) [
          | yes q ↦
              let z : n ≡ 0 = rw (lt-ltb l n (omega arith), eq-eqb x n t, eq-eqb (l + 1) c q) at e in
              absurd (omega arith)
          | no q ↦ rw (eq-eqb x n t, ne_eqb (l + 1) c q, lt-ltb l x g)
        ]

    below : (x ≡ n → ⊥) → commuting n c l x ≡ true
    below t =
        elim (ℕ_discrete x (l + 1)) [
          | yes q ↦
              let z : x ≡ 0 = rw (lt-ltb l n (omega arith), ne_eqb x n t, eq-eqb x (l + 1) q) at e in
              absurd (omega arith)
          | no q ↦ rw (ne_eqb x n t, lt-ltb (l + 1) x (omega arith))
        ]

-- ---- the rule of two letters

module _ (k : Kind) (n : ℕ) (h : least k ≤ n) (u : List ℕ) (q l x : ℕ) (w : wrong_letter n u ≡ false) (e : drop q u ≡ l ∷ x ∷ []) where
  -- the search of the two letters
  searched : first_fitting (rules k n) u q ≡ walk k n l l (x ∷ [])
  unfolding scan
  searched = sym (scan_is_first_fitting k n h u q w) ∙ rw e

  two_leave : next_index n (levels k n) (last_index k n l) l x ≡ 0 → first_fitting (rules k n) u q ≡ found k n l l x (family_at n (fork k n) l l x)
  unfolding walk
  two_leave z = searched ∙ rw z

  pub commute_fits : x ≤ n → commuting n (levels k n) l x ≡ true → first_fitting (rules k n) u q ≡ some (commuted l x)
  unfolding found
  commute_fits g t =
      let s = commuting_leaves n (levels k n) (last_index k n l) l x g t in
      two_leave s.1 ∙ rw (family_at_commute n (fork k n) l l x refl s.0) (ap some (rule_at_commute k n l x h (omega arith)))

  -- of two rising letters that do not commute no rule fits
  pub no_commute_none : l < x → x ≤ n → commuting n (levels k n) l x ≡ false → first_fitting (rules k n) u q ≡ none
  unfolding walk
  no_commute_none g o t = elim (ℕ_discrete (next_index n (levels k n) (last_index k n l) l x) 0) [
    | yes z ↦ absurd (true≢false (sym (leaves_commuting n (levels k n) (last_index k n l) l x o g z) ∙ t))
    | no z ↦ searched ∙ rw (ne_eqb (next_index n (levels k n) (last_index k n l) l x) 0 z)
  ]

  pub square_fits : x ≡ l → l ≤ n → first_fitting (rules k n) u q ≡ some (rule 1 l 0 (l ∷ l ∷ []) [])
  unfolding found
  square_fits t o =
      let f : Leaving n (levels k n) (last_index k n l) l x = record {
        not_up = omega arith;
        not_top = λ a b c. omega arith;
        not_down = λ a b. omega (arith, last_index-top k n l (omega arith));
      } in
      two_leave (next_index_leave n (levels k n) (last_index k n l) l x (omega arith) f)
      ∙ rw (family_at_square n (fork k n) l l x refl t, t) (ap some (rule_at_square k n l h o))
