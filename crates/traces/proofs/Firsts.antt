-- Which refusal comes: the checks of the rewriting to its end and of the call for its steps, each as one list in the
-- order in which the call makes them (I20, I21 and CO2 of the specification). The answer is made of the number of the
-- first check in the list that fails, or of 0 if none does; what an answer made of a number is comes first.
-- Assumes nothing.
use mathlib.Core.Path.{◌≡◌, refl, ap}
use mathlib.Core.Logic.{◌↔◌}
use mathlib.Core.List.{List, [], ◌∷◌}
use Prim.Native.Nat.{ℕ}
use lib.ListN.{length}
use Rattle.coxeter.specs.Kinds.{kind_of}
use Rattle.coxeter.specs.Checks.{first_of, wrong_kind, wrong_rank, too_long, wrong_letter, too_short}
use Rattle.coxeter.specs.Calls.{answer_of}
use Rattle.coxeter.proofs.Refusals.{refused_exactly, then_assoc, good_exactly}
use Rattle.coxeter.proofs.FirstFailing.{check_then, rank_then, word_then}
use Rattle.coxeter.proofs.FirstRefusals.{word_checks}
use Rattle.traces.specs.answers.ToEnd.{Ended, Refused}
use Rattle.traces.specs.Traces.{trace, too_few_places, to_end_of, traced_by, rewriting_to_end, number_of_steps}

-- G17, CO3: an answer on a rewriting names the refusal if that is not 0; else it says the steps and the final length
pub to_end_of_exactly : (r s l : ℕ)
    → ((c : ℕ) → (to_end_of r s l ≡ Refused c) ↔ ((r ≡ c) × (c ≡ 0 → ⊥)))
    × ((p q : ℕ) → (to_end_of r s l ≡ Ended p q) ↔ ((r ≡ 0) × (s ≡ p) × (l ≡ q)))
unfolding to_end_of
to_end_of_exactly r s l = (
  λ c. refused_exactly Refused (Ended s l) r c (λ e. cc) (λ e. cc),
  λ p q.
      let e = good_exactly Refused (Ended s l) r (Ended p q) (λ e. cc) in
      (λ h. let g = e.0 h in (g.0, cc g.1, cc g.1), λ h. e.1 (h.0, rw (h.1, h.2))),
)

-- I21, CO2: the call for the number of steps makes checks 5, 6, 7 and 8, in this order
pub number_of_steps-first_of : (k n : ℕ) (u : List ℕ)
    → number_of_steps k n u
    ≡ answer_of
    (first_of ((5, wrong_kind k) ∷ (6, wrong_rank (kind_of k) n) ∷ (7, too_long u) ∷ (8, wrong_letter n u) ∷ []))
    (length (trace (kind_of k) n u).lines)
unfolding number_of_steps
number_of_steps-first_of k n u = ap (λ r. answer_of r (length (trace (kind_of k) n u).lines)) (word_checks k n u)

-- I20, C15, CO2: the rewriting to its end makes checks 5, 6, 7 and 8, then 15, by the number of steps, and last 14, by
-- the length of the final word
pub rewriting_to_end-first_of : (k n : ℕ) (u families places lengths out : List ℕ)
    → let s = length (trace (kind_of k) n u).lines in let l = length (trace (kind_of k) n u).final in
    (rewriting_to_end k n u families places lengths out).answer
    ≡ to_end_of
    (first_of
    ((5, wrong_kind k)
    ∷ (6, wrong_rank (kind_of k) n)
    ∷ (7, too_long u)
    ∷ (8, wrong_letter n u)
    ∷ (15, too_few_places s families places lengths)
    ∷ (14, too_short l out)
    ∷ []))
    s
    l
unfolding rewriting_to_end traced_by
rewriting_to_end-first_of k n u families places lengths out =
    let s = length (trace (kind_of k) n u).lines in
    let l = length (trace (kind_of k) n u).final in
    ap (λ r. to_end_of r s l) (rw then_assoc (rank_then k n (word_then n u (check_then 14 (too_few_places s families places lengths) refl))))
