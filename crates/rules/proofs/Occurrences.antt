-- What it means that a rule fits, what a rewrite makes of the word, which words are accepted, and which refusal a
-- call gets whose word, place or rank is not (R14, R16, T1, I19 of the specification), in terms of parts of words and
-- of the list of checks.
--
-- Sections: occurrences of a left side; checks.
-- Assumes nothing.
use mathlib.Core.Path.{◌≡◌, refl, sym, ap, subst, ◌∙◌}
use mathlib.Core.Bool.{Bool, true, false, true≢false}
use mathlib.Core.Logic.{◌↔◌}
use mathlib.Core.List.{List, [], ◌∷◌, ◌++◌}
use mathlib.Core.Option.{Option, none, some}
use Prim.Native.Nat.{ℕ, ◌≤◌}
use native.Mathlib.Nat.{lt_of_not-le}
use native.Mathlib.Decide.{dec_le, ℕ_discrete}
use native.Mathlib.Omega.{arith}
use lib.Dec.{leb}
use lib.ListN.{length}
use borrow.Author.Tests.{eq-eqb, ne_eqb}
use Rattle.coxeter.specs.Kinds.{pick, kind_of}
use Rattle.coxeter.specs.Checks.{check, ◌then◌, first_of, wrong_kind, wrong_rank, too_long, wrong_letter, rank_refusal, word_refusal}
use Rattle.coxeter.proofs.Refusals.{then_zero}
use Rattle.coxeter.proofs.FirstFailing.{rank_then, word_then}
use Rattle.coxeter.proofs.FirstRefusals.{word_checks}
use Rattle.coxeter.proofs.TestLaws.{impossible}
use Rattle.rules.specs.declared.Rewrite.{Rewrite}
use Rattle.rules.specs.declared.Rewrite.TheVariants.{Refused}
use Rattle.rules.specs.Rules.{Rule, rules, fits, first_fitting, rewritten}
use Rattle.rules.specs.Calls.{past_end, Interface, changed, unchanged, rewrite_by, rewrite_at, Rewrote, single}
use Rattle.rules.specs.Runs.{AcceptedWord}
use Rattle.rules.proofs.Fits.{fits_split, fits-at, fits-past, rewritten_split}

-- ---- occurrences of a left side

-- R14: a rule fits exactly where its left side stands wholly inside the word
pub fits_exactly : (x : Rule) (u : List ℕ) (p : ℕ) → 1 ≤ length x.left
    → (fits x u p ≡ true) ↔ ((before after : List ℕ) × (length before ≡ p) × (u ≡ before ++ (x.left ++ after)))
fits_exactly x u p l = (
  λ e. elim (dec_le (length u) p) [
    | yes m ↦ absurd (true≢false (sym e ∙ fits-past x u p l m))
    | no m ↦ let g = lt_of_not-le m in fits_split x u p (omega arith) e
  ],
  λ t. subst (λ (q : ℕ). fits x u q ≡ true) t.2 (rw t.3 (fits-at x t.0 t.1)),
)

-- R16, T9: one rewrite puts the right side in the place of the left side and changes nothing else
pub rewritten_exactly : (x : Rule) (before after : List ℕ) → rewritten x (before ++ (x.left ++ after)) (length before) ≡ before ++ (x.right ++ after)
rewritten_exactly = rewritten_split

-- ---- checks

-- the checks of a call on a word at a place, as one list
place_checks : (k n : ℕ) (u : List ℕ) (p : ℕ) → (rank_refusal k n then word_refusal n u then check 12 (past_end u p))
    ≡ first_of ((5, wrong_kind k) ∷ (6, wrong_rank (kind_of k) n) ∷ (7, too_long u) ∷ (8, wrong_letter n u) ∷ (12, past_end u p) ∷ [])
place_checks k n u p = rank_then k n (word_then n u refl)

-- T1: a word is accepted exactly if it passes checks 5 to 8
pub accepted_exactly : (k n : ℕ) (u : List ℕ) → AcceptedWord k n u
    ↔ (first_of ((5, wrong_kind k) ∷ (6, wrong_rank (kind_of k) n) ∷ (7, too_long u) ∷ (8, wrong_letter n u) ∷ []) ≡ 0)
accepted_exactly k n u =
    let e = word_checks k n u in (
      λ h. sym e ∙ rw (h.rank, h.word),
      λ z. let p = then_zero (rank_refusal k n) (word_refusal n u) (e ∙ z) in record { rank = p.0; word = p.1 },
    )

-- I19, CO3, CO6: if one of checks 5, 6, 7, 8 and 12 fails, the first of them refuses the call, whatever the word and
-- the outputs; nothing is written, and the word stays
pub rewrite_refused : (s : Interface) (k n : ℕ) (u : List ℕ) (p : ℕ) (o : s.Outputs)
    → let r = first_of ((5, wrong_kind k) ∷ (6, wrong_rank (kind_of k) n) ∷ (7, too_long u) ∷ (8, wrong_letter n u) ∷ (12, past_end u p) ∷ []) in
    (r ≡ 0 → ⊥) → rewrite_at s k n u p o ≡ record { answer = s.refused r; outputs = o; word = u }
unfolding rewrite_at
rewrite_refused s k n u p o f = rw (place_checks k n u p, ne_eqb _ 0 f)

-- I19, T3: a call meets its contract exactly if its answer and its outputs afterwards are those of one rewrite, for every
-- input
pub rewrote_exactly : (s : Interface) (k n : ℕ) (u : List ℕ) (p : ℕ) (before after : s.Outputs) (a : s.Answer) → Rewrote s k n u p before after a
    ↔ ((a ≡ (rewrite_at s k n u p before).answer) × (after ≡ (rewrite_at s k n u p before).outputs))
rewrote_exactly s k n u p before after a = (λ w. (w.answer, w.outputs), λ w. record { answer = w.0; outputs = w.1 })

-- I19, CO3: the library's own call is refused, other than by 14, exactly with the number of the first of these
-- checks that fails; T8 says when it is refused 14
pub rewrite_refused_exactly : {k n : ℕ} {u : List ℕ} {p : ℕ} {before after : List ℕ} {a : Rewrite} → Rewrote single k n u p before after a
    → (r : ℕ) → (r ≡ 14 → ⊥) → (a ≡ Refused r)
    ↔ ((first_of ((5, wrong_kind k) ∷ (6, wrong_rank (kind_of k) n) ∷ (7, too_long u) ∷ (8, wrong_letter n u) ∷ (12, past_end u p) ∷ []) ≡ r) × (r ≡ 0 → ⊥))
unfolding rewrite_at rewrite_by
rewrite_refused_exactly {k} {n} {u} {p} {before} w r f =
    elim (ℕ_discrete c 0) [
      | yes z ↦ (λ e. absurd (passed z (sym w.answer ∙ e)), λ t. absurd (t.1 (sym t.0 ∙ z)))
      | no g ↦ (
        λ e.
            let q : Refused c ≡ Refused r = sym (w.answer ∙ refused g) ∙ e in
            let same : c ≡ r = cc in
            (same, λ z. g (same ∙ z)),
        λ t. w.answer ∙ refused g ∙ ap Refused t.0,
      )
    ]
  where
    c : ℕ
    c = first_of ((5, wrong_kind k) ∷ (6, wrong_rank (kind_of k) n) ∷ (7, too_long u) ∷ (8, wrong_letter n u) ∷ (12, past_end u p) ∷ [])

    refused : (c ≡ 0 → ⊥) → (rewrite_at single k n u p before).answer ≡ Refused c
    refused g = rw (place_checks k n u p, ne_eqb _ 0 g)

    passed_by_rule : (o : Option Rule) → (rewrite_by single o u p before).answer ≡ Refused r → ⊥
    passed_by_rule none e = impossible (cc)
    passed_by_rule (some x) e = passed_by_room (leb (length (rewritten x u p)) (length before)) e
      where
        passed_by_room : (t : Bool) → (pick t (changed single x (rewritten x u p) before) (unchanged single (Refused 14) u before)).answer ≡ Refused r → ⊥
        passed_by_room true e = impossible (cc)
        passed_by_room false e = f (cc)

    passed : c ≡ 0 → (rewrite_at single k n u p before).answer ≡ Refused r → ⊥
    passed z e = passed_by_rule (first_fitting (rules (kind_of k) n) u p) (rw (place_checks k n u p, eq-eqb c 0 z) at e)
