-- How many steps a rewriting to its end has at most, as the calls tell it: one for each pair of the word's letters.
-- So many places in each list are always enough. By the bound on the trace (Reading) for the words that pass their
-- checks.
--
-- Sections: what is counted; at most; enough places.
-- Assumes nothing.
use mathlib.Core.Path.{◌≡◌}
use mathlib.Core.Bool.{false}
use mathlib.Core.List.{List}
use Prim.Native.Nat.{ℕ, ◌-◌, ◌*◌, ◌/◌, ◌≤◌}
use native.Mathlib.Decide.{ℕ_discrete}
use native.Mathlib.Omega.{arith}
use lib.ListN.{length}
use borrow.Author.Tests.{le-ltb}
use Rattle.coxeter.specs.answers.Answer as answer
use Rattle.coxeter.specs.Kinds.{kind_of}
use Rattle.coxeter.specs.Checks.{check, ◌then◌, too_short, rank_refusal, word_refusal}
use Rattle.coxeter.proofs.Refusals.{then_zero, then_none, then_some, check_le, then_le, rank_refusal_le, word_refusal_le}
use Rattle.coxeter.proofs.AnswersExactly.{answer_of_exactly}
use Rattle.rules.specs.Runs.{AcceptedWord}
use Rattle.rules.proofs.Calls.{accepted_least, accepted_letters}
use Rattle.traces.specs.answers.ToEnd as to_end
use Rattle.traces.specs.Traces.{trace, too_few_places, traced_by, rewriting_to_end, number_of_steps}
use Rattle.traces.proofs.Firsts.{to_end_of_exactly}
use Rattle.traces.proofs.Reading.{steps_at_most}

-- ---- what is counted

accepted_of_zero : (k n : ℕ) (u : List ℕ) → (rank_refusal k n then word_refusal n u) ≡ 0 → AcceptedWord k n u
accepted_of_zero k n u z = let a = then_zero (rank_refusal k n) (word_refusal n u) z in record { rank = a.0; word = a.1 }

-- a number of steps is told of an accepted word, and is that of its rewriting
pub counted_steps : (k n : ℕ) (u : List ℕ) (s : ℕ) → number_of_steps k n u ≡ answer.Length s
    → AcceptedWord k n u × (length (trace (kind_of k) n u).lines ≡ s)
unfolding number_of_steps
counted_steps k n u s e = let g = ((answer_of_exactly _ _).1 s).0 e in (accepted_of_zero k n u g.0, g.1)

pub ended_steps : {k n : ℕ} {u : List ℕ} (families places lengths out : List ℕ) {s : ℕ} (l : ℕ)
    → (rewriting_to_end k n u families places lengths out).answer ≡ to_end.Ended s l
    → AcceptedWord k n u × (length (trace (kind_of k) n u).lines ≡ s)
unfolding rewriting_to_end traced_by
ended_steps {k} {n} {u} families places lengths out {s} l e =
    let g = ((to_end_of_exactly _ _ _).1 s l).0 e in
    (accepted_of_zero k n u (then_zero _ _ g.0).0, g.1)

-- ---- at most

accepted_at_most : (k n : ℕ) (u : List ℕ) → AcceptedWord k n u → length (trace (kind_of k) n u).lines ≤ length u * (length u - 1) / 2
accepted_at_most k n u h = steps_at_most (kind_of k) n (accepted_least h) u (accepted_letters h)

-- the number that is answered beforehand
pub number_of_steps-at_most : (k n : ℕ) (u : List ℕ) (s : ℕ) → number_of_steps k n u ≡ answer.Length s → s ≤ length u * (length u - 1) / 2
number_of_steps-at_most k n u s e =
    let a = counted_steps k n u s e in
    omega (arith, a.1, accepted_at_most k n u a.0)

-- and that of the call that fills the lists
pub rewriting_to_end-at_most : (k n : ℕ) (u families places lengths out : List ℕ) {s l : ℕ}
    → (rewriting_to_end k n u families places lengths out).answer ≡ to_end.Ended s l → s ≤ length u * (length u - 1) / 2
rewriting_to_end-at_most k n u families places lengths out {l = l} e =
    let a = ended_steps families places lengths out l e in
    omega (arith, a.1, accepted_at_most k n u a.0)

-- ---- enough places

places_few : (m : ℕ) (families places lengths : List ℕ) → m ≤ length families → m ≤ length places → m ≤ length lengths
    → too_few_places m families places lengths ≡ false
unfolding too_few_places too_short
places_few m families places lengths f p l = rw (le-ltb (length families) m f, le-ltb (length places) m p, le-ltb (length lengths) m l)

preset_refusal_le : (k n : ℕ) (u : List ℕ) → (rank_refusal k n then word_refusal n u) ≤ 8
preset_refusal_le k n u = then_le (rank_refusal k n) (word_refusal n u) 8 (omega (arith, rank_refusal_le k n)) (word_refusal_le n u)

-- lists with a place for each pair of letters are never refused
pub enough_places : (k n : ℕ) (u families places lengths out : List ℕ) → length u * (length u - 1) / 2 ≤ length families
    → length u * (length u - 1) / 2 ≤ length places → length u * (length u - 1) / 2 ≤ length lengths
    → (rewriting_to_end k n u families places lengths out).answer ≡ to_end.Refused 15 → ⊥
unfolding rewriting_to_end traced_by
enough_places k n u families places lengths out f p g e =
    let t = trace (kind_of k) n u in
    let r = rank_refusal k n then word_refusal n u in
    let x = check 14 (too_short (length t.final) out) in
    let c = check 15 (too_few_places (length t.lines) families places lengths) then x in
    let small : x ≤ 14 = check_le 14 (too_short (length t.final) out) 14 (omega arith) in
    let all : (r then c) ≤ 14 = elim (ℕ_discrete r 0) [
      | yes z ↦
          let m = accepted_at_most k n u (accepted_of_zero k n u z) in
          let d : c ≡ x = rw (places_few (length t.lines) families places lengths (omega (arith, m)) (omega (arith, m)) (omega (arith, m))) in
          omega (arith, then_none r c z, d, small)
      | no z ↦ omega (arith, then_some r c z, preset_refusal_le k n u)
    ] in
    omega (arith, all, (((to_end_of_exactly (r then c) (length t.lines) (length t.final)).0 15).0 e).0)
