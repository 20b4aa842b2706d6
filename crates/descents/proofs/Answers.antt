-- What the answer of a call that writes tells, where no check before check 14 refused: a length that there was room,
-- a refusal that there was none. And what `?` makes of a refusal.
-- Assumes nothing.
use mathlib.Core.Path.{◌≡◌, refl, sym, ap, ◌∙◌}
use mathlib.Core.List.{List}
use Prim.Native.Nat.{ℕ, ◌≤◌, ◌<◌}
use native.Mathlib.Nat.{lt_of_not-le}
use native.Mathlib.Decide.{dec_le}
use native.Mathlib.Omega.{arith}
use lib.ListN.{length, take}
use Rattle.std.specs.Prelude.{Result, Ok, Err, Option, IsErr, IsErrAnd}
use Rattle.coxeter.specs.declared.Refusal.{Refusal}
use Rattle.coxeter.specs.Refusals.{number}
use Rattle.coxeter.specs.answers.Answer.{Answer, as_answer}
use Rattle.coxeter.specs.answers.Answer as answer
use Rattle.coxeter.specs.Calls.{Yields, front, writes}
use Rattle.coxeter.proofs.FrontLaws.{length-take-front}
use Rattle.coxeter.proofs.Outcomes.{writes_short, writes-written}
use Rattle.coxeter.proofs.Writes.{length_or_refused}
use Rattle.shortest_words.specs.declared.SplitLengths.{SplitLengths}
use Rattle.shortest_words.specs.answers.Fallback.{as_fallback}
use Rattle.shortest_words.specs.answers.Fallback as fallback
use Rattle.shortest_words.specs.answers.Split.{as_split}
use Rattle.shortest_words.specs.answers.Split as split

module _ {X : Type 0} (r : ℕ) (l out v : List X) (a : Answer) (z : r ≡ 0) (e : Yields (writes r l out) a v) where
  fits : length l ≤ length out → (a ≡ answer.Length (length l)) × (v ≡ front l out)
  fits h =
      let d = writes-written (writes r l out) r r l out refl refl (length l) (front l out) z refl h refl in
      (e.0 ∙ sym d.0, e.1 ∙ sym d.1)

  short : length out < length l → (a ≡ answer.Refused 14) × (v ≡ out)
  short h = let d = writes_short (writes r l out) r r l out refl refl (length l) z refl h in (e.0 ∙ sym d.0, e.1 ∙ sym d.1)

  pub told_length : (m : ℕ) → a ≡ answer.Length m → (m ≡ length l) × (m ≤ length out) × (v ≡ front l out)
  told_length m q = elim (dec_le (length l) (length out)) [ yes h ↦ room h | no h ↦ absurd (none (lt_of_not-le h)) ]
    where
      room : length l ≤ length out → (m ≡ length l) × (m ≤ length out) × (v ≡ front l out)
      room h =
          let p : answer.Length m ≡ answer.Length (length l) = sym q ∙ (fits h).0 in
          let s : m ≡ length l = cc in
          (s, omega arith, (fits h).1)

      none : length out < length l → ⊥
      none h = length_or_refused q (short h).0

  pub told_refused : (s : ℕ) → a ≡ answer.Refused s → (length out < length l) × (v ≡ out) × (s ≡ 14)
  told_refused s q = elim (dec_le (length l) (length out)) [ yes h ↦ absurd (room h) | no h ↦ none (lt_of_not-le h) ]
    where
      room : length l ≤ length out → ⊥
      room h = length_or_refused (fits h).0 q

      none : length out < length l → (length out < length l) × (v ≡ out) × (s ≡ 14)
      none h =
          let p : answer.Refused s ≡ answer.Refused 14 = sym q ∙ (short h).0 in
          let e : s ≡ 14 = cc in
          (h, (short h).1, e)

-- with a length the answer stands at the front, as a part of that length
pub record AtFrontOf {X : Type 0} (l v : List X) (m : ℕ) : Type 0 where
  pub bound : m ≤ length v
  pub size : m ≡ length (take m v)
  pub part : take m v ≡ l

pub written_front : {X : Type 0} (l out : List X) {v : List X} (m : ℕ) → Yields (writes 0 l out) (answer.Length m) v → AtFrontOf l v m
written_front l out {v} m e =
    let d = told_length 0 l out v (answer.Length m) refl e m refl in
    let f = length-take-front m l out v (sym d.0) d.1 d.2 in
    record { bound = omega (arith, d.1, f.0); size = d.0 ∙ sym (ap length f.1); part = f.1 }

-- with room for every answer there is no refusal
pub never_refused : {X : Type 0} (l out : List X) {v : List X} (s : ℕ) → Yields (writes 0 l out) (answer.Refused s) v → length l ≤ length out → ⊥
never_refused l out {v} s e h = omega (arith, (told_refused 0 l out v (answer.Refused s) refl e s refl).0)

-- ---- the result that `?` makes of a refusal

pub answer_refused : (r : Result ℕ Refusal) (e : Refusal) → IsErr r × IsErrAnd r (λ (x : Refusal). x ≡ e) → as_answer r ≡ answer.Refused (number e)
answer_refused (Ok x) e h = absurd h.1
answer_refused (Err x) e h = ap (λ (y : Refusal). answer.Refused (number y)) h.1

pub fallback_refused : (r : Result (Option ℕ) Refusal) (e : Refusal) → IsErr r × IsErrAnd r (λ (x : Refusal). x ≡ e) → as_fallback r ≡ fallback.Refused (number e)
fallback_refused (Ok x) e h = absurd h.1
fallback_refused (Err x) e h = ap (λ (y : Refusal). fallback.Refused (number y)) h.1

pub split_refused : (r : Result SplitLengths Refusal) (e : Refusal) → IsErr r × IsErrAnd r (λ (x : Refusal). x ≡ e) → as_split r ≡ split.Refused (number e)
split_refused (Ok x) e h = absurd h.1
split_refused (Err x) e h = ap (λ (y : Refusal). split.Refused (number y)) h.1
