-- What the call from one window to another answers and writes, over the definitions of specs/ alone: its definition
-- goes by one normal form, and these laws say what that is in the terms of section A of the specification. `allows
-- set` is the test that the 64-bit set makes.
--
-- Sections: the word that is written; equal windows, no step and all steps allowed.
-- Assumes nothing.
use mathlib.Core.Path.{◌≡◌, refl, sym, ap, ◌∙◌}
use mathlib.Core.Bool.{Bool, true, false, not, true≢false}
use mathlib.Core.Logic.{◌↔◌}
use mathlib.Core.List.{List, [], ◌∷◌}
use Prim.Native.Nat.{ℕ, ◌-◌, ◌^◌, ◌≤◌}
use native.Mathlib.Omega.{arith}
use lib.IntN.{ℤ}
use lib.ListN.{length, take, drop}
use lib.Seq.{take_at}
use lib.Pow.{pow_pos}
use borrow.Author.Tests.{le-ltb, lt-leb}
use Rattle.coxeter.specs.answers.Answer.{Length, Refused}
use Rattle.coxeter.specs.declared.Kind.{Kind}
use Rattle.coxeter.specs.Kinds.{kind_of, least}
use Rattle.coxeter.specs.Windows.{window_from, product, inverse}
use Rattle.coxeter.specs.Checks.{check, too_short, rank_refusal, wrong_letter, RankOf, WindowOf}
use Rattle.coxeter.specs.NormalForm.{word_normal_form}
use Rattle.coxeter.specs.Calls.{Outcome, answer_of, front, written, writes}
use Rattle.coxeter.proofs.Acceptance.{rank_within, lanes_le}
use Rattle.coxeter.proofs.Levels.{Accepted, accepted_of_refusal}
use Rattle.coxeter.proofs.Lengths.{length-normal_form}
use Rattle.coxeter.proofs.PairWeights.{window_length_le_4096}
use Rattle.coxeter.proofs.Refusals.{then_zero, then_none}
use Rattle.coxeter.proofs.Unchanged.{writes-unchanged, writes-past}
use Rattle.shortest_words.specs.Allowed.{over, allows, wrong_set, set_refusal}
use Rattle.shortest_words.specs.Between.{Leads, Reachable, IsBetween, between, reachable}
use Rattle.shortest_words.specs.BetweenCalls.{unreachable, between_refusal, between_windows}
use Rattle.shortest_words.proofs.Allowed.{over-head}
use Rattle.shortest_words.proofs.AllowedSets.{allows_none, allows_all}
use Rattle.shortest_words.proofs.Between as laws
use Rattle.shortest_words.proofs.BetweenChecks.{last, all_passed, all_passed_19, writes_19, writes-length}

-- ---- the word that is written

-- kind and rank of a set that passes
pub rank_of_set : (k n set : ℕ) → set_refusal k n set ≡ 0 → RankOf k n
unfolding set_refusal
rank_of_set k n set e = (then_zero (rank_refusal k n) _ e).0

check_none : (t : Bool) → check 19 (not t) ≡ 0 → t ≡ true
check_none true e = refl
check_none false e = absurd (omega arith)

module _ (k n set : ℕ) (v w : List ℤ) (a : set_refusal k n set ≡ 0) (b : WindowOf (kind_of k) n v) (c : WindowOf (kind_of k) n w) where
  rank : least (kind_of k) ≤ n
  rank = (rank_within k n (rank_of_set k n set a)).0

  first : Accepted (kind_of k) n v
  first = accepted_of_refusal (kind_of k) n v b

  second : Accepted (kind_of k) n w
  second = accepted_of_refusal (kind_of k) n w c

  exactly : (reachable (allows set) (kind_of k) n v w ≡ true) ↔ Reachable (allows set) (kind_of k) n v w
  exactly = laws.reachable_exactly (allows set) (kind_of k) n v w rank first second

  -- A3, A4: the word of these clauses is written, whatever word it is
  pub between-writes : (u out : List ℕ) → IsBetween (allows set) (kind_of k) n v w u → between_windows k n set v w out ≡ writes 0 u out
  unfolding between_windows unreachable
  between-writes u out m =
      let t = exactly.1 (u, m.leads) in
      rw (last k n set v w a b c, t, ← laws.between_only (allows set) (kind_of k) n v w rank first second u m)

  -- where some word over the allowed steps leads there, the normal form of that word is written, whichever it is
  pub between_leading : (u out : List ℕ) → Leads (allows set) (kind_of k) n v w u
      → between_windows k n set v w out ≡ writes 0 (word_normal_form (kind_of k) n u) out
  unfolding between_windows unreachable
  between_leading u out l =
      rw (last k n set v w a b c, exactly.1 (u, l), laws.between-normal_form (allows set) (kind_of k) n v w rank first second u l)

  -- and where no word over the allowed steps leads there the call is refused 19
  pub between-unreachable : (out : List ℕ) → (Reachable (allows set) (kind_of k) n v w → ⊥)
      → between_windows k n set v w out ≡ record { answer = Refused 19; bytes = out }
  unfolding between_windows unreachable writes answer_of written
  between-unreachable out f = rw (last k n set v w a b c, no_word (reachable (allows set) (kind_of k) n v w) refl)
    where
      no_word : (t : Bool) → reachable (allows set) (kind_of k) n v w ≡ t → reachable (allows set) (kind_of k) n v w ≡ false
      no_word true e = absurd (f (exactly.0 e))
      no_word false e = e

-- whatever the input
module _ (k n set : ℕ) (v w : List ℤ) (out : List ℕ) where
  -- A3, A4: of what an accepted call writes; the rest of the output keeps what it held (I2)
  pub between_answers : (l : ℕ) → (between_windows k n set v w out).answer ≡ Length l
      → IsBetween (allows set) (kind_of k) n v w (take l (between_windows k n set v w out).bytes)
      × (length (take l (between_windows k n set v w out).bytes) ≡ l)
      × (drop l (between_windows k n set v w out).bytes ≡ drop l out)
  unfolding between_windows unreachable
  between_answers l e =
      let h = writes-length (between_refusal k n set v w) (between (kind_of k) n v w) out l e in
      let p = all_passed k n set v w h.0 in
      let t = check_none (reachable (allows set) (kind_of k) n v w) p.3 in
      let f = take_at (between (kind_of k) n v w) (drop l out) l (sym h.1) in
      let r = rank k n set v w p.0 p.1 p.2 in
      let m = laws.between_is (allows set) (kind_of k) n v w r (first k n set v w p.0 p.1 p.2) (second k n set v w p.0 p.1 p.2) t in
      (rw (h.2, f) m, rw (h.2, f) (sym h.1), writes-past (between_refusal k n set v w) (between (kind_of k) n v w) out l e)

  -- A3, N2: the normal form of every word that leads there
  pub between_of_word : (l : ℕ) (u : List ℕ) → (between_windows k n set v w out).answer ≡ Length l → Leads (allows set) (kind_of k) n v w u
      → take l (between_windows k n set v w out).bytes ≡ word_normal_form (kind_of k) n u
  unfolding between_windows
  between_of_word l u e g =
      let h = writes-length (between_refusal k n set v w) (between (kind_of k) n v w) out l e in
      let p = all_passed k n set v w h.0 in
      let r = rank k n set v w p.0 p.1 p.2 in
      let f = take_at (between (kind_of k) n v w) (drop l out) l (sym h.1) in
      rw (h.2, f)
      (sym (laws.between-normal_form (allows set) (kind_of k) n v w r (first k n set v w p.0 p.1 p.2) (second k n set v w p.0 p.1 p.2) u g))

  -- A6, C19: just then
  pub between_refuses_19 : ((between_windows k n set v w out).answer ≡ Refused 19)
      ↔ ((set_refusal k n set ≡ 0) × WindowOf (kind_of k) n v × WindowOf (kind_of k) n w
      × (Reachable (allows set) (kind_of k) n v w → ⊥))
  unfolding between_windows unreachable
  between_refuses_19 = (there, λ h. ap (λ (o : Outcome ℕ). o.answer) (between-unreachable k n set v w h.0 h.1 h.2 out h.3))
    where
      there : (between_windows k n set v w out).answer ≡ Refused 19
          → (set_refusal k n set ≡ 0) × WindowOf (kind_of k) n v × WindowOf (kind_of k) n w
          × (Reachable (allows set) (kind_of k) n v w → ⊥)
      there e =
          let p = all_passed_19 k n set v w (writes_19 _ _ out e) in
          (p.0, p.1, p.2, λ f. true≢false (sym p.3 ∙ ap not ((exactly k n set v w p.0 p.1 p.2).1 f)))

  -- no more than the longest normal form
  pub between-fits : (l : ℕ) → (between_windows k n set v w out).answer ≡ Length l → l ≤ 4096
  unfolding between_windows between
  between-fits l e =
      let h = writes-length (between_refusal k n set v w) (between (kind_of k) n v w) out l e in
      let p = all_passed k n set v w h.0 in
      let x = product (inverse v) w in
      let a = laws.between_accepted (kind_of k) n v w (first k n set v w p.0 p.1 p.2) (second k n set v w p.0 p.1 p.2) in
      let m = window_length_le_4096 (kind_of k) n x a (lanes_le k n (length x) (rank_of_set k n set p.0) a.size) in
      rw (h.1, length-normal_form (kind_of k) n x a) m

  -- D6, CO6
  pub between_windows-unchanged : (r : ℕ) → (between_windows k n set v w out).answer ≡ Refused r → (between_windows k n set v w out).bytes ≡ out
  unfolding between_windows
  between_windows-unchanged = writes-unchanged (between_refusal k n set v w) (between (kind_of k) n v w) out

-- ---- equal windows, no step and all steps allowed

-- A5: whatever steps are allowed and whatever the output, even one of no length
pub between_equal : (k n set : ℕ) (v : List ℤ) (out : List ℕ) → set_refusal k n set ≡ 0 → WindowOf (kind_of k) n v
    → between_windows k n set v v out ≡ record { answer = Length 0; bytes = out }
unfolding between_windows unreachable writes answer_of written front too_short
between_equal k n set v out a b =
    let p = accepted_of_refusal (kind_of k) n v b in
    rw (
      last k n set v v a b b,
      laws.reachable_same (allows set) (kind_of k) n v p,
      laws.between_same (kind_of k) n v p,
      le-ltb (length out) 0 (omega arith),
    )

-- the set of no step passes check 16
set_of_none_passes : (k n : ℕ) → RankOf k n → set_refusal k n 0 ≡ 0
unfolding set_refusal wrong_set
set_of_none_passes k n r = then_none (rank_refusal k n) _ r ∙ rw (lt-leb (2 ^ n) 0 (pow_pos n))

-- the empty word leads to the window itself; with no step allowed no other does
empty_leads : (allowed : ℕ → Bool) (k : Kind) (n : ℕ) (v w : List ℤ) → v ≡ w → Leads allowed k n v w []
unfolding wrong_letter over window_from
empty_leads allowed k n v w q = record { steps = refl; over = refl; arrives = q }

none_leads : (k : Kind) (n : ℕ) (v w : List ℤ) (u : List ℕ) → Leads (allows 0) k n v w u → v ≡ w
unfolding window_from
none_leads k n v w [] l = l.arrives
none_leads k n v w (s ∷ u) l = absurd (true≢false (sym (over-head (allows 0) s u l.over) ∙ allows_none s))

-- with no step allowed only the window itself is reached
pub between_none_allowed : (k n : ℕ) (v w : List ℤ) (out : List ℕ) → RankOf k n → WindowOf (kind_of k) n v → WindowOf (kind_of k) n w
    → ((between_windows k n 0 v w out).answer ≡ Refused 19) ↔ (v ≡ w → ⊥)
between_none_allowed k n v w out r b c =
    let refused = between_refuses_19 k n 0 v w out in (
      λ e q. (refused.0 e).3 ([], empty_leads (allows 0) (kind_of k) n v w q),
      λ f. refused.1 (set_of_none_passes k n r, b, c, λ p. f (none_leads (kind_of k) n v w p.0 p.1)),
    )

-- with every step of the rank allowed 19 never comes
pub between_all_allowed : (k n set : ℕ) (v w : List ℤ) (out : List ℕ) → ((s : ℕ) → 1 ≤ s → s ≤ n → allows set s ≡ true)
    → (between_windows k n set v w out).answer ≡ Refused 19 → ⊥
between_all_allowed k n set v w out f e =
    let h = (between_refuses_19 k n set v w out).0 e in
    let r = rank k n set v w h.0 h.1 h.2 in
    let v_in = first k n set v w h.0 h.1 h.2 in
    let w_in = second k n set v w h.0 h.1 h.2 in
    h.3 ((exactly k n set v w h.0 h.1 h.2).0 (laws.reachable_all (allows set) (kind_of k) n v w r v_in w_in f))

pub between_set_of_all : (k n : ℕ) (v w : List ℤ) (out : List ℕ) → (between_windows k n (2 ^ n - 1) v w out).answer ≡ Refused 19 → ⊥
between_set_of_all k n v w out = between_all_allowed k n (2 ^ n - 1) v w out (allows_all n)
