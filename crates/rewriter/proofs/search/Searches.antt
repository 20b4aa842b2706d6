-- The turns of the module `search`: its loop keeps the search of the word from the place on, and ends with the rule
-- that fits.
-- Assumes nothing.
use mathlib.Core.Path.{◌≡◌, refl, sym, ap, ◌∙◌}
use mathlib.Core.Bool.{false}
use mathlib.Core.List.{List, [], ◌∷◌}
use mathlib.Core.Option.{Option, none, some}
use Prim.Native.Nat.{ℕ, ◌+◌, ◌-◌, ◌*◌, ◌≤◌, ◌<◌}
use native.Mathlib.Decide.{ℕ_discrete}
use native.Mathlib.Omega.{arith}
use lib.Dec.{eqb}
use lib.ListN.{length, get_or, drop, length-append, drop_of_length-le}
use borrow.Author.Tests.{eq-eqb, ne_eqb}
use Rattle.coxeter.specs.declared.Kind.{Kind}
use Rattle.coxeter.specs.Kinds.{pick, least}
use Rattle.coxeter.specs.Checks.{wrong_letter}
use Rattle.coxeter.specs.NormalForm.{block, levels, last_index}
use Rattle.coxeter.proofs.KindLaws.{levels_le}
use Rattle.coxeter.proofs.Lists.{drop_next}
use Rattle.coxeter.proofs.LetterLaws.{letter_at}
use Rattle.rewriter.specs.declared.search.Fitting.{Fitting}
use Rattle.std.specs.Prelude.{Option as Maybe, Some, None}
use Rattle.rules.specs.Rules.{Rule, rules, first_fitting}
use Rattle.rules.proofs.NextLetter.{last_index_le}
use Rattle.rules.proofs.Scan.{fork, next_index, family_at, shown_index, rule_at, found, walk, scan, going, Along, start, further, along_next, walk_next}
use Rattle.rules.proofs.ScanRules.{scan_is_first_fitting}
use Rattle.rules.proofs.Letters.{block_one}

-- the rule of family f that shows i and j, with l letters on its left side, as the search hands it on
abbrev pub shown : ℕ → ℕ → ℕ → ℕ → Fitting
shown f i j l = record { family = f; i = i; j = j; left = l }

-- a rule that fits, as the search hands it on
abbrev pub fitting_of : Option Rule → Maybe Fitting
fitting_of o = elim o [ none ↦ None | some x ↦ Some (shown x.family x.i x.j (length x.left)) ]

-- the search has followed the block [i,j] from place p up to t
pub record Searching (k : Kind) (n : ℕ) (u : List ℕ) (p i j t : ℕ) : Type 0 where
  pub inside : t ≤ length u
  pub along : Along k n i j
  pub passed : p + length (block k n i j) ≡ t
  pub rest : scan k n (drop p u) ≡ walk k n i j (drop t u)

-- what the search may take for granted
pub record Searchable (k : Kind) (n : ℕ) (u : List ℕ) : Type 0 where
  pub rank : least k ≤ n
  pub letters : wrong_letter n u ≡ false

pub along_le : (k : Kind) (n i j : ℕ) → Along k n i j → (i ≤ n) × (j ≤ 2 * n)
along_le k n i j (start o l e) = (l, omega arith)
along_le k n i j (further o l e g) = (omega (arith, levels_le k n), omega (arith, last_index_le k n i))

fitting_of-found : (k : Kind) (n i j x f l : ℕ) → length (block k n i j) + 1 ≡ l
    → fitting_of (found k n i j x f) ≡ pick (eqb f 0) None (Some (shown f i (shown_index f j x) l))
unfolding found rule_at
fitting_of-found k n i j x f l e = elim (ℕ_discrete f 0) [
  | yes z ↦ rw (eq-eqb f 0 z)
  | no z ↦ rw (ne_eqb f 0 z, length-append (block k n i j) (x ∷ []), e)
]

module _ (k : Kind) (n : ℕ) (u : List ℕ) (w : Searchable k n u) where
  pub searching_start : (p : ℕ) → p < length u → Searching k n u p (get_or u p 0) (get_or u p 0) (p + 1)
  unfolding scan
  searching_start p h =
      let l = letter_at n u p h w.letters in
      record {
        inside = omega arith;
        along = start l.0 l.1 refl;
        passed = rw (block_one k n (get_or u p 0) w.rank l.1);
        rest = rw (drop_next u p 0 h);
      }

  module _ {p i j t : ℕ} (q : Searching k n u p i j t) (h : t < length u) where
    abbrev letter : ℕ
    letter = get_or u t 0

    pub searching_next : {s : ℕ} → s ≡ next_index n (levels k n) (last_index k n i) j (get_or u t 0) → (s ≡ 0 → ⊥) → Searching k n u p i s (t + 1)
    searching_next {s} e z =
        let g = along_next k n i j letter q.along (rw (sym e) at (going n (levels k n) (last_index k n i) j letter (letter_at n u t h w.letters).1)) z in
        record {
          inside = omega arith;
          along = g.0;
          passed = rw (g.1, length-append (block k n i j) (letter ∷ [])) (omega (arith, q.passed));
          rest = q.rest ∙ ap (walk k n i j) (drop_next u t 0 h) ∙ walk_next k n i j letter (drop (t + 1) u) (sym e) z;
        }

    pub searching_found : {f : ℕ} → next_index n (levels k n) (last_index k n i) j (get_or u t 0) ≡ 0
        → family_at n (fork k n) i j (get_or u t 0) ≡ f
        → fitting_of (first_fitting (rules k n) u p) ≡ pick (eqb f 0) None (Some (shown f i (shown_index f j (get_or u t 0)) (t + 1 - p)))
    unfolding walk
    searching_found {f} e g =
        let o : walk k n i j (letter ∷ drop (t + 1) u) ≡ found k n i j letter f = rw (e, g) in
        ap fitting_of
        (sym (scan_is_first_fitting k n w.rank u p w.letters) ∙ q.rest ∙ ap (walk k n i j) (drop_next u t 0 h) ∙ o)
        ∙ fitting_of-found k n i j letter f (t + 1 - p) (omega (arith, q.passed))

    pub searching_left : next_index n (levels k n) (last_index k n i) j (get_or u t 0) ≡ 0 → family_at n (fork k n) i j (get_or u t 0) ≡ 0
        → None ≡ fitting_of (first_fitting (rules k n) u p)
    searching_left e g = sym (searching_found e g)

    pub searching_fits : {f v : ℕ} → next_index n (levels k n) (last_index k n i) j (get_or u t 0) ≡ 0
        → f ≡ family_at n (fork k n) i j (get_or u t 0) → (f ≡ 0 → ⊥) → v ≡ shown_index f j (get_or u t 0)
        → Some (shown f i v (t + 1 - p)) ≡ fitting_of (first_fitting (rules k n) u p)
    searching_fits {f} e g z a = sym (searching_found e (sym g) ∙ rw (ne_eqb f 0 z, ← a))

  pub searching_end : (p i j t : ℕ) → Searching k n u p i j t → length u ≤ t → None ≡ fitting_of (first_fitting (rules k n) u p)
  unfolding walk
  searching_end p i j t q h =
      sym (ap fitting_of
      (sym (scan_is_first_fitting k n w.rank u p w.letters) ∙ q.rest ∙ ap (walk k n i j) (drop_of_length-le u h)))
