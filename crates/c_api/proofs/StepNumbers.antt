-- The calls for C on the rewriting to its end: a number of steps fits an `i64`, a kind and a rank are taken as
-- bytes, and the final word's length goes to a list, which has room for it or not.
--
-- Sections: numbers of steps; kinds and ranks; the final length; a final length without room.
-- Assumes nothing.
use mathlib.Core.Path.{◌≡◌, refl, sym}
use mathlib.Core.Bool.{true, false}
use mathlib.Core.Logic.{◌⊎◌, inl, inr}
use mathlib.Core.List.{List, [], ◌∷◌}
use Prim.Native.Nat.{ℕ, ◌≤◌, ◌<◌}
use native.Mathlib.Omega.{arith}
use lib.IntN.{ℤ, pos}
use lib.ListN.{length, drop}
use borrow.Author.Tests.{ne_eqb, lt-ltb, le-ltb}
use Rattle.coxeter.specs.answers.Answer.{Answer}
use Rattle.coxeter.specs.answers.Answer as answer
use Rattle.coxeter.specs.Kinds.{kind_of}
use Rattle.coxeter.specs.Checks.{check, ◌then◌, too_short, rank_refusal, word_refusal}
use Rattle.coxeter.specs.Calls as calls
use Rattle.coxeter.specs.Calls.{answer_of}
use Rattle.coxeter.proofs.Refusals.{then_assoc}
use Rattle.coxeter.proofs.AnswersExactly.{answer_of_exactly}
use Rattle.traces.specs.answers.ToEnd.{ToEnd}
use Rattle.traces.specs.answers.ToEnd as to_end
use Rattle.traces.specs.Traces.{trace, too_few_places, to_end_of, traced_by, rewriting_to_end, number_of_steps, TraceYields}
use Rattle.traces.proofs.Unchanged.{to_end_refused-unchanged}
use Rattle.traces.proofs.Tracing.{steps_few}
use Rattle.traces.proofs.StepBounds.{counted_steps, ended_steps}
use Rattle.c_api.specs.Calls.{refused, trace_numbers, rewriting_to_end_listed}
use Rattle.c_api.proofs.Bytes.{Refusable}
use Rattle.c_api.proofs.Lists.{trace-numbers, IsRefusal, roomless, roomless_answer, beside_stored, beside_alone, beside_roomless, room_last}

-- ---- numbers of steps

pub number_of_steps_few : (k n : ℕ) (u : List ℕ) (l : ℕ) → number_of_steps k n u ≡ answer.Length l → l ≤ 8386560
number_of_steps_few k n u l e =
    let a = counted_steps k n u l e in
    omega (arith, a.1, steps_few k n u a.0)

pub rewriting_to_end_few : (k n : ℕ) (u families places lengths out : List ℕ) {s l : ℕ}
    → (rewriting_to_end k n u families places lengths out).answer ≡ to_end.Ended s l → s ≤ 8386560
rewriting_to_end_few k n u families places lengths out {l = l} e =
    let a = ended_steps families places lengths out l e in
    omega (arith, a.1, steps_few k n u a.0)

-- ---- kinds and ranks

pub number_of_steps_refusable : (u : List ℕ) → Refusable (λ k n. number_of_steps k n u)
unfolding number_of_steps answer_of
number_of_steps_refusable u = record { refused_same = λ k n l m e f. rw (e, ne_eqb (rank_refusal k n) 0 f) (rw (ne_eqb (rank_refusal k n) 0 f) refl) }

pub rewriting_to_end_listed_refusable : (u families places lengths out written : List ℕ)
    → Refusable (λ k n. rewriting_to_end_listed k n u families places lengths out written)
unfolding rewriting_to_end_listed rewriting_to_end traced_by to_end_of calls.written
rewriting_to_end_listed_refusable u families places lengths out written = record { refused_same = λ k n l m e f. simp (e, ne_eqb (rank_refusal k n) 0 f) }

-- ---- the final length

module _ (k n : ℕ) (u families places lengths out written : List ℕ) {f p g o : List ℕ} where
  pub rewriting_to_end_listed_stored : {s l : ℕ} → TraceYields (rewriting_to_end k n u families places lengths out) (to_end.Ended s l) f p g o
      → 1 ≤ length written → (pos s, ((f, p, g, o), l ∷ drop 1 written)) ≡ rewriting_to_end_listed k n u families places lengths out written
  unfolding rewriting_to_end_listed trace_numbers
  rewriting_to_end_listed_stored {s} {l} y h =
      rw (← y.0, ← y.1, ← y.2, ← y.3, ← y.4) (beside_stored (pos s) (l ∷ []) written (f, p, g, o) (families, places, lengths, out) h)

  pub rewriting_to_end_listed-refused : {r : ℕ} {z : ℤ} → TraceYields (rewriting_to_end k n u families places lengths out) (to_end.Refused r) f p g o
      → z ≡ refused r → (z, ((f, p, g, o), written)) ≡ rewriting_to_end_listed k n u families places lengths out written
  unfolding rewriting_to_end_listed trace_numbers
  rewriting_to_end_listed-refused {z = z} y e =
      rw (← y.0, ← y.1, ← y.2, ← y.3, ← y.4, ← e) (beside_alone z (f, p, g, o) (families, places, lengths, out) written)

-- a refused rewriting writes nothing
pub rewriting_to_end_still : (k n : ℕ) (u families places lengths out : List ℕ) → let t = rewriting_to_end k n u families places lengths out in
    IsRefusal to_end.Refused t.answer
    → ◌≡◌ {A = List ℕ × List ℕ × List ℕ × List ℕ} (t.families, t.places, t.lengths, t.bytes) (families, places, lengths, out)
rewriting_to_end_still k n u families places lengths out h =
    let q = to_end_refused-unchanged k n u families places lengths out h.0 h.1 in
    rw (q.0, q.1, q.2, q.3)

-- ---- a final length without room

-- checks 5 to 8, then 15
abbrev pub lists_refusal : ℕ → ℕ → List ℕ → List ℕ → List ℕ → List ℕ → ℕ
lists_refusal k n u families places lengths =
    (rank_refusal k n then word_refusal n u) then check 15 (too_few_places (length (trace (kind_of k) n u).lines) families places lengths)

-- the number does not depend on the output
roomless-trace : (k n : ℕ) (u families places lengths out : List ℕ)
    → roomless (trace_numbers (rewriting_to_end k n u families places lengths out).answer) ≡ refused (lists_refusal k n u families places lengths then 14)
unfolding rewriting_to_end traced_by to_end_of trace_numbers roomless
roomless-trace k n u families places lengths out =
    let q = rank_refusal k n then word_refusal n u in
    let t = trace (kind_of k) n u in
    let c = check 15 (too_few_places (length t.lines) families places lengths) in
    let short = too_short (length t.final) out in
    rw (← then_assoc q c (check 14 short))
    (roomless_answer trace_numbers (to_end.Ended (length t.lines) (length t.final)) to_end.Refused (q then c) (check 14 short) refl (λ r. refl)
    (room_last short))

module _ (k n : ℕ) (u families places lengths : List ℕ) where
  pub rewriting_to_end_listed-roomless : {out written : List ℕ} {r : ℕ} {z : ℤ} → length written < 1
      → r ≡ lists_refusal k n u families places lengths → z ≡ refused (r then 14)
      → (z, ((families, places, lengths, out), written)) ≡ rewriting_to_end_listed k n u families places lengths out written
  unfolding rewriting_to_end_listed
  rewriting_to_end_listed-roomless {out} {written} h e f =
      let t = rewriting_to_end k n u families places lengths out in
      rw (f, e, ← roomless-trace k n u families places lengths out)
      (sym (beside_roomless (trace-numbers t.answer) (t.families, t.places, t.lengths, t.bytes) (families, places, lengths, out) written (omega arith) h
      (rewriting_to_end_still k n u families places lengths out)))

  -- refused before check 15
  pub lists_refused : {r : ℕ} → answer.Refused r ≡ number_of_steps k n u → r ≡ lists_refusal k n u families places lengths
  unfolding number_of_steps
  lists_refused {r} e =
      let q = rank_refusal k n then word_refusal n u in
      let j = ((answer_of_exactly q (length (trace (kind_of k) n u).lines)).0 r).0 (sym e) in
      rw (j.0, ne_eqb r 0 j.1)

  module _ {s : ℕ} (e : answer.Length s ≡ number_of_steps k n u) where
    lists_by_steps : check 15 (too_few_places s families places lengths) ≡ lists_refusal k n u families places lengths
    unfolding number_of_steps
    lists_by_steps =
        let q = rank_refusal k n then word_refusal n u in
        let j = ((answer_of_exactly q (length (trace (kind_of k) n u).lines)).1 s).0 (sym e) in
        rw (j.0, j.1)

    pub few_places : (length families < s)
        ⊎ (((s ≤ length families) × (length places < s)) ⊎ ((s ≤ length families) × (s ≤ length places) × (length lengths < s)))
        → 15 ≡ lists_refusal k n u families places lengths
    unfolding too_few_places too_short
    few_places h =
        let few : too_few_places s families places lengths ≡ true = elim h [
          | inl f ↦ rw (lt-ltb (length families) s f)
          | inr (inl f) ↦ rw (le-ltb (length families) s f.0, lt-ltb (length places) s f.1)
          | inr (inr f) ↦ rw (le-ltb (length families) s f.0, le-ltb (length places) s f.1, lt-ltb (length lengths) s f.2)
        ] in
        rw few at lists_by_steps

    pub enough_places : s ≤ length families → s ≤ length places → s ≤ length lengths → 0 ≡ lists_refusal k n u families places lengths
    unfolding too_few_places too_short
    enough_places f g h =
        let few : too_few_places s families places lengths ≡ false =
        rw (le-ltb (length families) s f, le-ltb (length places) s g, le-ltb (length lengths) s h) in
        rw few at lists_by_steps
