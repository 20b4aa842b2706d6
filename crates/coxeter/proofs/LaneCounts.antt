-- Checks that hand on the lane count: what a caller that takes the answer apart learns, and what is answered after one
-- more check. m is the lane count, q the refusal of the checks made so far.
-- Assumes nothing.
use mathlib.Core.Path.{◌≡◌, refl, sym, ap, ◌∙◌}
use mathlib.Core.List.{List}
use Prim.Native.Nat.{ℕ}
use borrow.Author.Tests.{ne_eqb}
use Rattle.std.specs.Prelude.{Result, Ok, Err, IsErr, IsErrAnd}
use Rattle.coxeter.specs.declared.Group.{Group}
use Rattle.coxeter.specs.declared.Refusal.{Refusal}
use Rattle.coxeter.specs.Refusals.{number}
use Rattle.coxeter.specs.answers.Lanes.{Lanes, as_lanes}
use Rattle.coxeter.specs.answers.Lanes.{Count, Refused}
use Rattle.coxeter.specs.Kinds.{kind_of, lanes}
use Rattle.coxeter.specs.Checks.{◌then◌, rank_refusal, word_refusal, RankOf, WordOf}
use Rattle.coxeter.specs.Calls.{lanes_of}
use Rattle.coxeter.proofs.Refusals.{then_zero, then_none, then_refused, then_next, then_assoc}
use Rattle.coxeter.proofs.Acceptance.{words_accepted}
use Rattle.coxeter.proofs.Groups.{number_positive}
use Rattle.coxeter.proofs.AnswersExactly.{lanes_of_exactly}

pub lanes-refused : (q m r : ℕ) → r ≡ q → (r ≡ 0 → ⊥) → Refused r ≡ lanes_of q m
unfolding lanes_of
lanes-refused q m r e f = rw (← e, ne_eqb r 0 f)

pub lanes_counted : (q m a : ℕ) → q ≡ 0 → a ≡ m → Count a ≡ lanes_of q m
unfolding lanes_of
lanes_counted q m a z v = rw (z, v)

-- a result that `?` makes of the refusal e
pub lanes_handed_on : (q m : ℕ) (r : Result Group Refusal) (e : Refusal) → IsErr r × IsErrAnd r (λ (x : Refusal). x ≡ e) → number e ≡ q → as_lanes r ≡ lanes_of q m
lanes_handed_on q m (Ok g) e h s = absurd h.1
lanes_handed_on q m (Err x) e h s = lanes-refused q m (number x) (ap number h.1 ∙ s) (number_positive x)

-- the answer r of checks with the refusal q
module _ (q m : ℕ) (r : Lanes) (e : r ≡ lanes_of q m) where
  pub refusal_of_lanes : (s : ℕ) → r ≡ Refused s → (s ≡ q) × (s ≡ 0 → ⊥)
  refusal_of_lanes s g = let p = ((lanes_of_exactly q m).0 s).0 (sym e ∙ g) in (sym p.0, p.1)

  pub count_of_lanes : (a : ℕ) → r ≡ Count a → (q ≡ 0) × (a ≡ m)
  count_of_lanes a g = let p = ((lanes_of_exactly q m).1 a).0 (sym e ∙ g) in (p.0, sym p.1)

  -- and then a check with the refusal t, which the code has as s
  pub lanes_then_refused : (t s : ℕ) → r ≡ Refused s → r ≡ lanes_of (q then t) m
  lanes_then_refused t s g =
      let p = refusal_of_lanes s g in
      g ∙ lanes-refused (q then t) m s (then_refused q s t p.0 p.1) p.1

  pub lanes_then_next : {t : ℕ} (s a : ℕ) → r ≡ Count a → s ≡ t → (s ≡ 0 → ⊥) → Refused s ≡ lanes_of (q then t) m
  lanes_then_next {t} s a g h f =
      let p = count_of_lanes a g in
      lanes-refused (q then t) m s (then_next q q t s refl p.0 h) f

  pub lanes_then_passed : {t : ℕ} (s a : ℕ) → r ≡ Count a → s ≡ t → s ≡ 0 → r ≡ lanes_of (q then t) m
  lanes_then_passed {t} s a g h z =
      let p = count_of_lanes a g in
      g ∙ lanes_counted (q then t) m a (then_none q t p.0 ∙ sym h ∙ z) p.1

-- the lane count of a preset, and of two words of one kind and rank
pub preset_counted : (k n : ℕ) (u : List ℕ) {a : ℕ} {r : Lanes} → r ≡ lanes_of (rank_refusal k n then word_refusal n u) (lanes (kind_of k) n)
    → r ≡ Count a → RankOf k n × ((a ≡ lanes (kind_of k) n) × WordOf n u)
preset_counted k n u {a} {r} e g =
    let p = count_of_lanes (rank_refusal k n then word_refusal n u) (lanes (kind_of k) n) r e a g in
    let passed = then_zero (rank_refusal k n) (word_refusal n u) p.0 in
    (passed.0, (p.1, passed.1))

pub words_counted : (k n : ℕ) (u v : List ℕ) {a : ℕ} {r : Lanes}
    → r ≡ lanes_of (rank_refusal k n then word_refusal n u then word_refusal n v) (lanes (kind_of k) n)
    → r ≡ Count a → RankOf k n × ((a ≡ lanes (kind_of k) n) × (WordOf n u × WordOf n v))
words_counted k n u v {a} {r} e g =
    let p = count_of_lanes (rank_refusal k n then word_refusal n u then word_refusal n v) (lanes (kind_of k) n) r e a g in
    let passed = words_accepted k n u v _ refl p.0 in
    (passed.0, (p.1, passed.1))

-- three checks in a row
pub lanes_assoc : (p q t m : ℕ) (r : Lanes) → r ≡ lanes_of ((p then q) then t) m → r ≡ lanes_of (p then (q then t)) m
lanes_assoc p q t m r e = e ∙ ap (λ (s : ℕ). lanes_of s m) (then_assoc p q t)
