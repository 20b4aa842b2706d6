-- What the two calls on the rewriting to its end answer at each of their returns is what their definitions say, in
-- the checking order.
-- Assumes nothing.
use mathlib.Core.Path.{◌≡◌, refl}
use mathlib.Core.List.{List}
use Prim.Native.Nat.{ℕ, ◌≤◌, ◌<◌}
use lib.ListN.{length}
use borrow.Author.Tests.{ne_eqb, lt-ltb, le-ltb}
use Rattle.coxeter.specs.answers.Answer as answer
use Rattle.std.specs.Prelude.{Result, Ok, Err, IsErr, IsErrAnd}
use Rattle.std.specs.Borrow.{Bor}
use Rattle.coxeter.specs.Kinds.{kind_of}
use Rattle.coxeter.specs.declared.Word.{Word}
use Rattle.coxeter.specs.declared.Refusal.{Refusal}
use Rattle.coxeter.specs.Refusals.{number}
use Rattle.coxeter.specs.answers.Answer.{as_answer}
use Rattle.traces.specs.declared.Rewriting.{Rewriting}
use Rattle.coxeter.specs.Checks.{◌then◌, too_short, rank_refusal, word_refusal}
use Rattle.coxeter.specs.Calls.{front, written}
use Rattle.coxeter.proofs.Acceptance.{two_accepted}
use Rattle.coxeter.proofs.Groups.{number_positive}
use Rattle.coxeter.proofs.Outcomes.{answer_refused, answer_length}
use Rattle.rules.specs.Runs.{AcceptedWord}
use Rattle.traces.specs.answers.ToEnd.{Ended, Refused, as_to_end}
use Rattle.traces.specs.Traces.{trace, families_of, places_of, lengths_of, too_few_places, to_end_of, traced_by, rewriting_to_end, number_of_steps, TraceYields}

-- a word that was handed on is the one that was checked
pub checked_trace : (w : Word) (k n : ℕ) (u : Bor (List ℕ)) → (w.group.kind ≡ kind_of k) × (w.group.rank ≡ n) × (w.letters ≡ u)
    → trace w.group.kind w.group.rank w.letters.now ≡ trace (kind_of k) n u.now
checked_trace w k n u e = rw (e.0, e.1, e.2) refl

module _ (k n : ℕ) (u : List ℕ) where
  pub accepted : 0 ≡ (rank_refusal k n then word_refusal n u) → AcceptedWord k n u
  accepted e = let a = two_accepted (rank_refusal k n) (word_refusal n u) 0 e refl in record { rank = a.0; word = a.1 }

  -- q is the refusal that `?` hands on
  module _ (q : Refusal) (e : number q ≡ (rank_refusal k n then word_refusal n u)) where
    pub steps_refused : (r : Result ℕ Refusal) → IsErr r × IsErrAnd r (λ (x : Refusal). x ≡ q) → as_answer r ≡ number_of_steps k n u
    unfolding number_of_steps
    steps_refused (Ok x) h = absurd h.1
    steps_refused (Err x) h =
        rw h.1 (answer_refused (rank_refusal k n then word_refusal n u) (number q) (length (trace (kind_of k) n u).lines) e (number_positive q))

    pub traced_refused : (families places lengths out : List ℕ) (r : Result Rewriting Refusal) → IsErr r × IsErrAnd r (λ (x : Refusal). x ≡ q)
        → TraceYields (rewriting_to_end k n u families places lengths out) (as_to_end r) families places lengths out
    unfolding rewriting_to_end traced_by to_end_of written
    traced_refused families places lengths out (Ok x) h = absurd h.1
    traced_refused families places lengths out (Err x) h =
        rw h.1 (rw (← e, ne_eqb (number q) 0 (number_positive q)) (rw (ne_eqb (number q) 0 (number_positive q)) (refl, refl, refl, refl, refl)))

  pub steps_counted : (steps : ℕ) → 0 ≡ (rank_refusal k n then word_refusal n u) → steps ≡ length (trace (kind_of k) n u).lines
      → answer.Length steps ≡ number_of_steps k n u
  unfolding number_of_steps
  steps_counted steps e l = answer_length (rank_refusal k n then word_refusal n u) 0 (length (trace (kind_of k) n u).lines) steps e refl l

  module _ (families places lengths out : List ℕ) where
    -- the call answers that it is refused, and leaves lists and output
    abbrev RefusedWith : ℕ → Type 0
    RefusedWith q = TraceYields (rewriting_to_end k n u families places lengths out) (Refused q) families places lengths out

    module _ {steps : ℕ} (e : 0 ≡ (rank_refusal k n then word_refusal n u)) (l : steps ≡ length (trace (kind_of k) n u).lines) where
      -- check 15
      pub families_short : length families < steps → RefusedWith 15
      unfolding rewriting_to_end traced_by to_end_of written too_few_places too_short
      families_short a = rw (← e, ← l, lt-ltb (length families) steps a) (refl, refl, refl, refl, refl)

      module _ (f : steps ≤ length families) where
        pub places_short : length places < steps → RefusedWith 15
        unfolding rewriting_to_end traced_by to_end_of written too_few_places too_short
        places_short a =
            rw (← e, ← l, le-ltb (length families) steps f, lt-ltb (length places) steps a) (refl, refl, refl, refl, refl)

        module _ (p : steps ≤ length places) where
          pub lengths_short : length lengths < steps → RefusedWith 15
          unfolding rewriting_to_end traced_by to_end_of written too_few_places too_short
          lengths_short a =
              rw (
                ← e,
                ← l,
                le-ltb (length families) steps f,
                le-ltb (length places) steps p,
                lt-ltb (length lengths) steps a,
              )
              (refl, refl, refl, refl, refl)

          -- check 14
          module _ (g : steps ≤ length lengths) {size : ℕ} (m : size ≡ length (trace (kind_of k) n u).final) where
            pub out_short : length out < size → RefusedWith 14
            unfolding rewriting_to_end traced_by to_end_of written too_few_places too_short
            out_short a =
                rw (
                  ← e,
                  ← l,
                  le-ltb (length families) steps f,
                  le-ltb (length places) steps p,
                  le-ltb (length lengths) steps g,
                  ← m,
                  lt-ltb (length out) size a,
                )
                (refl, refl, refl, refl, refl)

            pub traced_done : {families' places' lengths' out' : List ℕ} → size ≤ length out
                → families' ≡ front (families_of (trace (kind_of k) n u).lines) families
                → places' ≡ front (places_of (trace (kind_of k) n u).lines) places
                → lengths' ≡ front (lengths_of (trace (kind_of k) n u).lines) lengths → out' ≡ front (trace (kind_of k) n u).final out
                → TraceYields (rewriting_to_end k n u families places lengths out) (Ended steps size) families' places' lengths' out'
            unfolding rewriting_to_end traced_by to_end_of written too_few_places too_short
            traced_done a b c d o =
                rw (
                  ← e,
                  ← l,
                  le-ltb (length families) steps f,
                  le-ltb (length places) steps p,
                  le-ltb (length lengths) steps g,
                  ← m,
                  le-ltb (length out) size a,
                )
                (refl, b, c, d, o)
