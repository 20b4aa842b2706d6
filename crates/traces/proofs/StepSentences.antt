-- The number of steps of the rewriting to its end, and what it refuses, in plain terms (T25, I20, I21, C14 and C15 of
-- the specification).
-- Assumes nothing.
use mathlib.Core.Path.{◌≡◌, refl, sym, ap, subst, ◌∙◌}
use mathlib.Core.Bool.{Bool, true, false, true≢false, ◌||◌}
use mathlib.Core.Logic.{◌⊎◌, inl, inr, ⊎_elim, ◌↔◌}
use mathlib.Core.List.{List}
use Prim.Native.Nat.{ℕ, ◌≤◌, ◌<◌}
use native.Mathlib.Decide.{ℕ_discrete}
use native.Mathlib.Omega.{arith}
use borrow.Author.Tests.{eq-eqb, ne_eqb, ltb-true, ltb-false, lt-ltb, le-ltb}
use lib.Dec.{ltb}
use lib.ListN.{length}
use Rattle.coxeter.specs.answers.Answer as answer
use Rattle.coxeter.specs.Kinds.{kind_of}
use Rattle.coxeter.specs.Checks.{check, ◌then◌, too_short, rank_refusal, word_refusal, RankOf, WordOf}
use Rattle.coxeter.specs.NormalForm.{word_normal_form}
use Rattle.coxeter.specs.Calls.{answer_of}
use Rattle.coxeter.proofs.Refusals.{then_zero, then_none, then_assoc, check_zero, rank_refusal_le, word_refusal_le, then_exactly, then_avoids}
use Rattle.coxeter.proofs.Refusals.{check_avoids, check-number, check_exactly}
use Rattle.coxeter.proofs.Basics.{or_false_left, or_false_right}
use Rattle.coxeter.proofs.TestLaws.{impossible}
use Rattle.rules.specs.Runs.{AcceptedWord}
use Rattle.rules.proofs.Calls.{accepted_least, accepted_letters}
use Rattle.traces.specs.answers.ToEnd.{ToEnd}
use Rattle.traces.specs.answers.ToEnd.{Ended, Refused}
use Rattle.traces.specs.Traces.{Line, trace, too_few_places, to_end_of, traced_by, rewriting_to_end}
use Rattle.traces.specs.Traces.{TraceYields, number_of_steps, Replays}
use Rattle.traces.proofs.Traces.{trace-normal_form}
use Rattle.traces.proofs.Unchanged.{to_end_refused-unchanged}
use Rattle.traces.proofs.Replays.{trace_replays, replays_only}
use Rattle.traces.proofs.Firsts.{to_end_of_exactly}

-- ---- refusals and the number of steps

or_exactly : (a b c : Bool) → ((a || (b || c)) ≡ true) ↔ ((a ≡ true) ⊎ ((b ≡ true) ⊎ (c ≡ true)))
or_exactly true b c = (λ e. inl refl, λ e. refl)
or_exactly false true c = (λ e. inr (inl refl), λ e. refl)
or_exactly false false c = (λ e. inr (inr e), ⊎_elim (λ p. absurd (true≢false (sym p))) (⊎_elim (λ p. absurd (true≢false (sym p))) (λ p. p)))

few_exactly : (m : ℕ) (fs ps ls : List ℕ) → (too_few_places m fs ps ls ≡ true) ↔ ((length fs < m) ⊎ ((length ps < m) ⊎ (length ls < m)))
unfolding too_few_places too_short
few_exactly m fs ps ls =
    let o = or_exactly (ltb (length fs) m) (ltb (length ps) m) (ltb (length ls) m) in (
      λ e. ⊎_elim (λ b. inl (ltb-true _ _ b)) (⊎_elim (λ b. inr (inl (ltb-true _ _ b))) (λ b. inr (inr (ltb-true _ _ b)))) (o.0 e),
      λ e. o.1 (⊎_elim (λ b. inl (lt-ltb _ _ b)) (⊎_elim (λ b. inr (inl (lt-ltb _ _ b))) (λ b. inr (inr (lt-ltb _ _ b)))) e),
    )

enough_exactly : (m : ℕ) (fs ps ls : List ℕ) → (too_few_places m fs ps ls ≡ false) ↔ ((m ≤ length fs) × (m ≤ length ps) × (m ≤ length ls))
unfolding too_few_places too_short
enough_exactly m fs ps ls = (
  λ e.
      let b = or_false_right (ltb (length fs) m) (ltb (length ps) m || ltb (length ls) m) e in (
        ltb-false (length fs) m (or_false_left (ltb (length fs) m) _ e),
        ltb-false (length ps) m (or_false_left (ltb (length ps) m) (ltb (length ls) m) b),
        ltb-false (length ls) m (or_false_right (ltb (length ps) m) (ltb (length ls) m) b),
      ),
  λ e. rw (le-ltb (length fs) m e.0, le-ltb (length ps) m e.1, le-ltb (length ls) m e.2),
)

-- T25: the number of steps that is answered is that of the lines that can be replayed from the word to its normal
-- form
pub steps_exactly : (k n : ℕ) (u : List ℕ) (m : ℕ) → (number_of_steps k n u ≡ answer.Length m)
    ↔ (RankOf k n × WordOf n u
    × ((lines : List Line) × (length lines ≡ m) × Replays k n u lines (word_normal_form (kind_of k) n u)))
unfolding number_of_steps answer_of
steps_exactly k n u m = elim (ℕ_discrete (rank_refusal k n then word_refusal n u) 0) [
  | yes z ↦
      let p = then_zero (rank_refusal k n) (word_refusal n u) z in
      let a : AcceptedWord k n u = record { rank = p.0; word = p.1 } in
      let f = trace-normal_form (kind_of k) n (accepted_least a) u (accepted_letters a) in
      let t = (trace (kind_of k) n u).lines in
      rw (eq-eqb (rank_refusal k n then word_refusal n u) 0 z) (
        λ e. (p.0, p.1, (t, cc, subst (Replays k n u t) f (trace_replays k n u a))),
        λ q. ap answer.Length (sym (ap (λ (y : List Line). length y) (replays_only k n u a q.2.0 _ q.2.2).0) ∙ q.2.1),
      )
  | no f ↦
      rw (ne_eqb (rank_refusal k n then word_refusal n u) 0 f) (
        λ e. impossible (cc),
        λ q. absurd (f (then_none (rank_refusal k n) _ q.0 ∙ q.1)),
      )
]

-- it is that of the rewriting's lines, and comes only where no check refuses
counted : (k n : ℕ) (u : List ℕ) (m : ℕ) → number_of_steps k n u ≡ answer.Length m
    → ((rank_refusal k n then word_refusal n u) ≡ 0) × (length (trace (kind_of k) n u).lines ≡ m)
counted k n u m g =
    let p = (steps_exactly k n u m).0 g in
    let only = replays_only k n u (record { rank = p.0; word = p.1 }) p.2.0 (word_normal_form (kind_of k) n u) p.2.2 in
    (then_none (rank_refusal k n) _ p.0 ∙ p.1, sym (ap (λ (y : List Line). length y) only.0) ∙ p.2.1)

module _ (k n : ℕ) (u families places lengths out : List ℕ) (a : ToEnd) (fs ps ls after : List ℕ)
    (h : TraceYields (rewriting_to_end k n u families places lengths out) a fs ps ls after) where
  -- C15: just before 14; m is the number of steps
  pub trace_15_exactly : (a ≡ Refused 15)
      ↔ ((m : ℕ) × (number_of_steps k n u ≡ answer.Length m) × ((length families < m) ⊎ ((length places < m) ⊎ (length lengths < m))))
  unfolding rewriting_to_end traced_by number_of_steps answer_of
  trace_15_exactly =
      let q = rank_refusal k n then word_refusal n u in
      let m = length (trace (kind_of k) n u).lines in
      let few = too_few_places m families places lengths in
      let short = too_short (length (trace (kind_of k) n u).final) out in
      let e = (to_end_of_exactly (q then check 15 few then check 14 short) m (length (trace (kind_of k) n u).final)).0 15 in
      let c = check_exactly q 14 few (check 14 short) (then_avoids (rank_refusal k n) (word_refusal n u) 14
      (λ z. omega (arith, rank_refusal_le k n)) (λ z. omega (arith, word_refusal_le n u))) (check_avoids 14 14 short (λ z. omega arith)) in
      let o = few_exactly m families places lengths in (
        λ g. let p = c.0 (e.0 (sym h.0 ∙ g)).0 in (m, rw (eq-eqb q 0 p.0), o.0 p.1),
        λ g. let p = counted k n u g.0 g.1 in h.0 ∙ e.1 (c.1 (p.0, o.1 (rw p.1 g.2)), λ z. omega arith),
      )

  final_length : (rank_refusal k n then word_refusal n u) ≡ 0 → length (trace (kind_of k) n u).final ≡ length (word_normal_form (kind_of k) n u)
  final_length z =
      let p = then_zero (rank_refusal k n) (word_refusal n u) z in
      let w : AcceptedWord k n u = record { rank = p.0; word = p.1 } in
      ap (λ (v : List ℕ). length v) (trace-normal_form (kind_of k) n (accepted_least w) u (accepted_letters w))

  -- I20: a length is answered exactly when checks 5 to 8 accept, each list has a place for each step and the output
  -- has room for the normal form
  pub ended_exactly : (s l : ℕ) → (a ≡ Ended s l)
      ↔ ((number_of_steps k n u ≡ answer.Length s) × (s ≤ length families) × (s ≤ length places) × (s ≤ length lengths)
      × (l ≡ length (word_normal_form (kind_of k) n u)) × (l ≤ length out))
  unfolding rewriting_to_end traced_by number_of_steps answer_of too_short
  ended_exactly s l =
      let q = rank_refusal k n then word_refusal n u in
      let t = trace (kind_of k) n u in
      let few = too_few_places (length t.lines) families places lengths in
      let short = too_short (length t.final) out in
      let e = (to_end_of_exactly (q then check 15 few then check 14 short) (length t.lines) (length t.final)).1 s l in (
        λ g.
            let p = e.0 (sym h.0 ∙ g) in
            let z = then_zero q (check 15 few then check 14 short) p.0 in
            let y = then_zero (check 15 few) (check 14 short) z.1 in
            let r = (enough_exactly (length t.lines) families places lengths).0 (check_zero 15 few refl y.0) in
            let m = p.1 in
            let o = ltb-false (length out) (length t.final) (check_zero 14 short refl y.1) in
            (rw (eq-eqb q 0 z.0) (ap answer.Length m), omega arith, omega arith, omega arith, sym p.2 ∙ final_length z.0, omega (arith, o, p.2)),
        λ g.
            let p = counted k n u s g.0 in
            let m = p.1 in
            let f : few ≡ false = (enough_exactly (length t.lines) families places lengths).1 (omega arith, omega arith, omega arith) in
            let w = final_length p.0 in
            let o : short ≡ false = le-ltb (length out) (length t.final) (omega arith) in
            h.0 ∙ e.1 (then_none q (check 15 few then check 14 short) p.0 ∙ rw (f, o), m, w ∙ sym g.4),
      )

  -- C14: 14 exactly when only the room is missing
  pub trace_14_exactly : (a ≡ Refused 14)
      ↔ ((m : ℕ) × (number_of_steps k n u ≡ answer.Length m) × (m ≤ length families) × (m ≤ length places) × (m ≤ length lengths)
      × (length out < length (word_normal_form (kind_of k) n u)))
  unfolding rewriting_to_end traced_by number_of_steps answer_of too_short
  trace_14_exactly =
      let q = rank_refusal k n then word_refusal n u in
      let t = trace (kind_of k) n u in
      let m = length t.lines in
      let few = too_few_places m families places lengths in
      let short = too_short (length t.final) out in
      let e = (to_end_of_exactly (q then check 15 few then check 14 short) m (length t.final)).0 14 in
      let regroup = then_assoc q (check 15 few) (check 14 short) in
      let c = then_exactly (q then check 15 few) (check 14 short) 13 in
      let early = then_avoids q (check 15 few) 13 (then_avoids (rank_refusal k n) (word_refusal n u) 13
      (λ z. omega (arith, rank_refusal_le k n)) (λ z. omega (arith, word_refusal_le n u))) (check_avoids 15 13 few (λ z. omega arith)) in (
        λ g.
            let p = ⊎_elim (λ z. absurd (early z)) (λ z. z) (c.0 (regroup ∙ (e.0 (sym h.0 ∙ g)).0)) in
            let z = then_zero q (check 15 few) p.0 in
            let r = (enough_exactly m families places lengths).0 (check_zero 15 few refl z.1) in
            let o = ltb-true (length out) (length t.final) ((check-number 13 short).0 p.1) in
            let w = final_length z.0 in
            (m, rw (eq-eqb q 0 z.0), r.0, r.1, r.2, omega arith),
        λ g.
            let p = counted k n u g.0 g.1 in
            let same = p.1 in
            let f : few ≡ false = (enough_exactly m families places lengths).1 (omega arith, omega arith, omega arith) in
            let w = final_length p.0 in
            let o : short ≡ true = lt-ltb (length out) (length t.final) (omega arith) in
            h.0 ∙ e.1 (sym regroup ∙ c.1 (inr (then_none q (check 15 few) p.0 ∙ rw f, (check-number 13 short).1 o)), λ z. omega arith),
      )

  -- CO3: and before 15 the first check's number
  pub trace_first_refusal : (r : ℕ) → (r ≡ 0 → ⊥) → (rank_refusal k n then word_refusal n u) ≡ r → a ≡ Refused r
  unfolding rewriting_to_end traced_by to_end_of
  trace_first_refusal r f e = h.0 ∙ rw (e, ne_eqb r 0 f) (rw (ne_eqb r 0 f) refl)

  -- D6, CO9: a refused call changes no list and no byte
  pub trace-unchanged : (r : ℕ) → a ≡ Refused r → (fs ≡ families) × (ps ≡ places) × (ls ≡ lengths) × (after ≡ out)
  trace-unchanged r e = rw (h.1, h.2, h.3, h.4) (to_end_refused-unchanged k n u families places lengths out r (sym h.0 ∙ e))
