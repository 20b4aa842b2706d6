-- How a call ends that writes, and what its answer says. If a length is answered, no check refused, and the bytes
-- answered stand at the front of the output; if not, the output is as it was lent. By the refusal before check 14
-- and the room of the output.
--
-- Sections: how a call ends; from the answer; from the refusal.
-- Assumes nothing.
use mathlib.Core.Path.{◌≡◌, refl, sym, ap, ◌∙◌}
use mathlib.Core.Logic.{◌↔◌}
use mathlib.Core.List.{List}
use Prim.Native.Nat.{ℕ, ◌≤◌, ◌<◌}
use native.Mathlib.Nat.{lt_of_not-le}
use native.Mathlib.Decide.{ℕ_discrete, dec_le}
use native.Mathlib.Omega.{arith}
use lib.ListN.{length, take, drop}
use Rattle.coxeter.specs.answers.Answer.{Answer}
use Rattle.coxeter.specs.answers.Answer.{Length, Refused}
use Rattle.coxeter.specs.Calls.{front, Yields, writes}
use Rattle.coxeter.proofs.FrontLaws.{take-front, drop-front}
use Rattle.coxeter.proofs.Outcomes.{writes-refused, writes_short, writes-written}
use Rattle.coxeter.proofs.TestLaws.{impossible}

-- ---- how a call ends

-- a call that is to write w, with q the refusal of the checks before 14: one of these refuses, or the output is too
-- short, or w is written
pub data WriteEnds {X : Type 0} (q : ℕ) (w before : List X) : Type 0 where
  refused : (q ≡ 0 → ⊥) → Yields (writes q w before) (Refused q) before → WriteEnds q w before
  short : q ≡ 0 → length before < length w → Yields (writes q w before) (Refused 14) before → WriteEnds q w before
  made : q ≡ 0 → length w ≤ length before → Yields (writes q w before) (Length (length w)) (front w before) → WriteEnds q w before

pub ended : {X : Type 0} (q : ℕ) (w before : List X) → WriteEnds q w before
ended q w before = elim (ℕ_discrete q 0) [
  | yes z ↦ elim (dec_le (length w) (length before)) [
    | yes g ↦ made z g (writes-written (writes q w before) q q w before refl refl (length w) (front w before) z refl g refl)
    | no g ↦ short z (lt_of_not-le g) (writes_short (writes q w before) q q w before refl refl (length w) z refl (lt_of_not-le g))
  ]
  | no f ↦ refused f (writes-refused (writes q w before) q q w before refl refl f)
]

-- one answer is not both
pub length_or_refused : {a : Answer} {l r : ℕ} → a ≡ Length l → a ≡ Refused r → ⊥
length_or_refused p q = impossible (cc)

-- ---- from the answer

-- the call answered the length l: w is the front of the output, and the rest is as it was lent
pub record Wrote {X : Type 0} (q : ℕ) (w before after : List X) (l : ℕ) : Type 0 where
  pub unrefused : q ≡ 0
  pub size : l ≡ length w
  pub room : l ≤ length before
  pub front : take l after ≡ w
  pub behind : drop l after ≡ drop l before

module _ {X : Type 0} (q : ℕ) (w before after : List X) where
  pub wrote : (l : ℕ) → Yields (writes q w before) (Length l) after → Wrote q w before after l
  wrote l h = elim (ended q w before) [
    | refused f e ↦ absurd (length_or_refused (sym h.0) (sym e.0))
    | short z g e ↦ absurd (length_or_refused (sym h.0) (sym e.0))
    | made z g e ↦
        let c : Length l ≡ Length (length w) = h.0 ∙ sym e.0 in
        let s : l ≡ length w = cc in
        let t : after ≡ front w before = h.1 ∙ sym e.1 in
        record {
          unrefused = z;
          size = s;
          room = omega arith;
          front = rw t (take-front w before l (sym s));
          behind = rw t (drop-front w before l (sym s));
        }
  ]

  -- ---- from the refusal

  module _ (a : Answer) (e : Yields (writes q w before) a after) where
    pub answers_refused : (q ≡ 0 → ⊥) → (a ≡ Refused q) × (after ≡ before)
    answers_refused f = let r = writes-refused (writes q w before) q q w before refl refl f in (e.0 ∙ sym r.0, e.1 ∙ sym r.1)

    pub answers_short : q ≡ 0 → length before < length w → (a ≡ Refused 14) × (after ≡ before)
    answers_short z h = let r = writes_short (writes q w before) q q w before refl refl (length w) z refl h in (e.0 ∙ sym r.0, e.1 ∙ sym r.1)

    pub answers_length : q ≡ 0 → length w ≤ length before → a ≡ Length (length w)
    answers_length z h = let r = writes-written (writes q w before) q q w before refl refl (length w) (front w before) z refl h refl in e.0 ∙ sym r.0

    -- a length exactly where no check refuses and the output has room
    pub answers_exactly : (l : ℕ) → (a ≡ Length l) ↔ ((q ≡ 0) × (l ≡ length w) × (l ≤ length before))
    answers_exactly l = (
      λ r. let t = wrote l (sym r ∙ e.0, e.1) in (t.unrefused, t.size, t.room),
      λ p. answers_length p.0 (rw (← p.1) p.2) ∙ ap Length (sym p.1),
    )
