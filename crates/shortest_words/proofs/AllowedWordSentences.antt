-- Words over allowed steps that lead from one window to another, in plain terms (section A and I23 of the
-- specification), at the answer and the bytes that the call left.
--
-- Sections: a way, the word; a way, refusals.
-- Assumes nothing.
use mathlib.Core.Path.{◌≡◌, sym, ap, ◌∙◌}
use mathlib.Core.Bool.{true, false}
use mathlib.Core.Logic.{◌⊎◌, inl, inr, ⊎_elim, ◌↔◌}
use mathlib.Core.List.{List}
use Prim.Native.Nat.{ℕ, suc, ◌≤◌, ◌<◌}
use native.Mathlib.Omega.{arith}
use borrow.Author.Tests.{lt-ltb, le-ltb}
use lib.IntN.{ℤ}
use lib.ListN.{length, take, drop}
use Rattle.coxeter.specs.answers.Answer.{Answer}
use Rattle.coxeter.specs.answers.Answer as answer
use Rattle.coxeter.specs.Kinds.{kind_of}
use Rattle.coxeter.specs.Windows.{window_from, window}
use Rattle.coxeter.specs.Dictionary.{before}
use Rattle.coxeter.specs.Checks.{check, ◌then◌, too_short, wrong_letter, window_refusal, RankOf, WindowOf}
use Rattle.coxeter.specs.NormalForm.{word_normal_form, IsNormalForm}
use Rattle.coxeter.specs.Calls.{Outcome, Yields, answer_of, writes}
use Rattle.coxeter.proofs.Refusals.{then_assoc}
use Rattle.coxeter.proofs.Refusals.{window_refusal_le, then_avoids, check_avoids}
use Rattle.coxeter.proofs.Order.{shortlex_cases}
use Rattle.coxeter.proofs.AnswersExactly.{answer_of_exactly}
use Rattle.shortest_words.specs.Allowed.{Over, allows, set_refusal}
use Rattle.shortest_words.specs.Between.{IsBetween, between}
use Rattle.shortest_words.specs.BetweenCalls.{unreachable, between_refusal, between_windows}
use Rattle.shortest_words.proofs.BetweenCalls.{between_leading, between_answers, between_of_word, between_refuses_19, between_equal}
use Rattle.shortest_words.proofs.BetweenCalls.{between_windows-unchanged}
use Rattle.shortest_words.proofs.AllowedSentences.{set_passes, set_refuses}

-- ---- a way, the word

module _ (k n set : ℕ) (v w : List ℤ) (out : List ℕ) (l : ℕ) (after : List ℕ)
    (h : Yields (between_windows k n set v w out) (answer.Length l) after) where
  wrote : IsBetween (allows set) (kind_of k) n v w (take l after) × (length (take l after) ≡ l) × (drop l after ≡ drop l out)
  wrote = rw h.1 (between_answers k n set v w out l (sym h.0))

  -- A2, A3
  pub word_leads : (wrong_letter n (take l after) ≡ false) × Over (allows set) (take l after) × (window_from (kind_of k) n v (take l after) ≡ w)
  word_leads = let m = wrote.0.leads in (m.steps, m.over, m.arrives)

  -- A4: of all words over those steps that lead there, of any length
  pub word_first : (z : List ℕ) → wrong_letter n z ≡ false → Over (allows set) z → window_from (kind_of k) n v z ≡ w → (z ≡ take l after → ⊥)
      → (l < length z) ⊎ ((l ≡ length z) × (before (take l after) z ≡ true))
  word_first z letters over arrives other =
      let s = shortlex_cases (take l after) z (wrote.0.least z (record { steps = letters; over = over; arrives = arrives }) other) in
      ⊎_elim (λ p. inl (omega (arith, p, wrote.1))) (λ p. inr (sym wrote.1 ∙ p.0, p.1)) s

  -- A3, N1: it is the normal form of its own window
  pub word_normal : IsNormalForm (kind_of k) n (window (kind_of k) n (take l after)) (take l after)
  word_normal = wrote.0.normal

  -- A3, N2: and of every such word
  pub word_of_every : (z : List ℕ) → wrong_letter n z ≡ false → Over (allows set) z → window_from (kind_of k) n v z ≡ w
      → take l after ≡ word_normal_form (kind_of k) n z
  word_of_every z letters over arrives =
      rw h.1 (between_of_word k n set v w out l z (sym h.0) (record { steps = letters; over = over; arrives = arrives }))

  -- I23, I2: as many letters as the answer says, and behind them the output keeps what it held
  pub word_written : (length (take l after) ≡ l) × (drop l after ≡ drop l out)
  word_written = (wrote.1, wrote.2)

-- ---- a way, refusals

module _ (k n set : ℕ) (v w : List ℤ) (out : List ℕ) (a : Answer) (after : List ℕ) (h : Yields (between_windows k n set v w out) a after) where
  abbrev last_check : ℕ
  last_check = check 14 (too_short (length (between (kind_of k) n v w)) out)

  between-refused : (c : ℕ) → (a ≡ answer.Refused (suc c)) ↔ ((between_refusal k n set v w then last_check) ≡ suc c)
  unfolding between_windows writes
  between-refused c =
      let e = (answer_of_exactly (between_refusal k n set v w then last_check) (length (between (kind_of k) n v w))).0 (suc c) in
      (λ q. (e.0 (sym h.0 ∙ q)).0, λ q. h.0 ∙ e.1 (q, λ z. omega arith))

  -- C16: right after the rank, before both windows
  pub between_16_exactly : (a ≡ answer.Refused 16) ↔ (RankOf k n × ((s : ℕ) × (n < s) × (allows set s ≡ true)))
  unfolding between_refusal
  between_16_exactly =
      let e = between-refused 15 in
      let far = unreachable (kind_of k) n set v w in
      let short = too_short (length (between (kind_of k) n v w)) out in
      let windows = window_refusal (kind_of k) n v then window_refusal (kind_of k) n w then check 19 far in
      let r = then_assoc (set_refusal k n set) windows last_check in
      let s = set_refuses k n set (windows then last_check) (then_avoids windows last_check 15
      (then_avoids (window_refusal (kind_of k) n v) _ 15 (λ z. omega (arith, window_refusal_le (kind_of k) n v))
      (then_avoids (window_refusal (kind_of k) n w) _ 15 (λ z. omega (arith, window_refusal_le (kind_of k) n w)) (check_avoids 19 15 far (λ z. omega arith))))
      (check_avoids 14 15 short (λ z. omega arith))) in
      (λ q. s.0 (sym r ∙ e.0 q), λ q. e.1 (r ∙ s.1 q))

  -- I23, C14: if some word leads there, its normal form is answered, or 14 if the output is too short for it
  module _ (rank : RankOf k n) (bits : (s : ℕ) → n < s → allows set s ≡ true → ⊥) (p : WindowOf (kind_of k) n v)
      (q : WindowOf (kind_of k) n w) (z : List ℕ) (letters : wrong_letter n z ≡ false) (over : Over (allows set) z)
      (arrives : window_from (kind_of k) n v z ≡ w) where
    leading : between_windows k n set v w out ≡ writes 0 (word_normal_form (kind_of k) n z) out
    leading =
        between_leading k n set v w ((set_passes k n set).1 (rank, bits)) p q z out (record { steps = letters; over = over; arrives = arrives })

    -- A3
    pub between_answered : length (word_normal_form (kind_of k) n z) ≤ length out → a ≡ answer.Length (length (word_normal_form (kind_of k) n z))
    unfolding writes answer_of too_short
    between_answered g = h.0 ∙ ap (λ (o : Outcome ℕ). o.answer) leading ∙ rw (le-ltb (length out) (length (word_normal_form (kind_of k) n z)) g)

    -- C14
    pub between_14 : length out < length (word_normal_form (kind_of k) n z) → a ≡ answer.Refused 14
    unfolding writes answer_of too_short
    between_14 g = h.0 ∙ ap (λ (o : Outcome ℕ). o.answer) leading ∙ rw (lt-ltb (length out) (length (word_normal_form (kind_of k) n z)) g)

  -- A6, C19: after both windows and before 14
  pub between_19_exactly : (a ≡ answer.Refused 19)
      ↔ (RankOf k n × ((s : ℕ) → n < s → allows set s ≡ true → ⊥) × WindowOf (kind_of k) n v × WindowOf (kind_of k) n w
      × ((z : List ℕ) → wrong_letter n z ≡ false → Over (allows set) z → window_from (kind_of k) n v z ≡ w → ⊥))
  between_19_exactly =
      let e = between_refuses_19 k n set v w out in
      let s = set_passes k n set in (
        λ q.
            let p = e.0 (sym h.0 ∙ q) in
            let r = s.0 p.0 in
            (r.0, r.1, p.1, p.2, λ z letters over arrives. p.3 (z, record { steps = letters; over = over; arrives = arrives })),
        λ p. h.0 ∙ e.1 (s.1 (p.0, p.1), p.2, p.3, λ g. p.4 g.0 g.1.steps g.1.over g.1.arrives),
      )

  -- D6: a refused call changes no byte
  pub between-unchanged : (r : ℕ) → a ≡ answer.Refused r → after ≡ out
  between-unchanged r e = h.1 ∙ between_windows-unchanged k n set v w out r (sym h.0 ∙ e)

-- A5: whatever steps are allowed and however short the output
pub empty_where_equal : (k n set : ℕ) (v : List ℤ) {out : List ℕ} {a : Answer} {after : List ℕ} → Yields (between_windows k n set v v out) a after
    → RankOf k n → ((s : ℕ) → n < s → allows set s ≡ true → ⊥) → WindowOf (kind_of k) n v → (a ≡ answer.Length 0) × (after ≡ out)
empty_where_equal k n set v {out} h r f p =
    let e = between_equal k n set v out ((set_passes k n set).1 (r, f)) p in
    (h.0 ∙ ap (λ (o : Outcome ℕ). o.answer) e, h.1 ∙ ap (λ (o : Outcome ℕ). o.bytes) e)
