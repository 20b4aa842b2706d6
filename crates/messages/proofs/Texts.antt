-- A text that is written, the numbers that have no message, the messages' lengths, at most 255 each, and where each
-- message stands in a table of texts: by induction over the texts.
-- Assumes nothing.
use mathlib.Core.Path.{◌≡◌, refl, sym, ap, ◌∙◌}
use mathlib.Core.Bool.{Bool, true, false, ◌&&◌}
use mathlib.Core.List.{List, [], ◌∷◌, ◌++◌, append_assoc, map}
use Prim.Native.Nat.{ℕ, zero, suc, ◌+◌, ◌-◌, ◌≤◌, ◌<◌, zero-le}
use Prim.Native.Char.{code}
use Prim.Native.String.{String, len, char_at}
use native.Mathlib.Nat.{le_refl}
use native.Mathlib.Numerals.{add-one}
use native.Mathlib.Omega.{arith}
use lib.Dec.{T, leb, leb→le}
use lib.ListN.{length, get_or, take, drop, length-append, get_or-eq_default}
use lib.Seq.{take_all, take_at, drop_at}
use borrow.Author.Tests.{lt-ltb, le-ltb}
use Rattle.coxeter.specs.answers.Answer.{Answer, Length, Refused}
use Rattle.coxeter.specs.Kinds.{up}
use Rattle.coxeter.specs.Checks.{too_short}
use Rattle.coxeter.specs.Calls.{Yields, answer_of, written, writes, front}
use Rattle.coxeter.proofs.Outcomes.{writes-written}
use Rattle.coxeter.proofs.FrontLaws.{front_parts}
use Rattle.messages.specs.Messages.{codes_from, codes, messages, message, refusal_message}

-- ---- texts that are written

module _ (l out : List ℕ) where
  pub put-short : length out < length l → Yields (writes 0 l out) (Refused 14) out
  unfolding writes answer_of written too_short
  put-short h = rw (lt-ltb (length out) (length l) h) (refl, refl)

  pub put_copied : {after : List ℕ} {r : ℕ} → length l ≤ length out → r ≡ length l → after ≡ take (length l) l ++ drop (length l) out
      → Yields (writes 0 l out) (Length r) after
  put_copied {after} {r} h e v =
      writes-written (writes 0 l out) 0 0 l out refl refl r after refl (sym e) (omega arith)
      (v ∙ front_parts l out (length l) (take (length l) l) refl (take_all (length l) l (le_refl (length l))))

-- ---- messages

codes_from-map : (t : String) (l i : ℕ) → codes_from t l i ≡ map (λ (j : ℕ). code (char_at t j)) (up i l)
unfolding codes_from up
codes_from-map t zero i = refl
codes_from-map t (suc l) i = ap (λ (w : List ℕ). code (char_at t i) ∷ w) (rw add-one (codes_from-map t l (suc i)))

-- IC9: the message of refusal k + 1 is the codes of all characters of text k of the list
pub message-codes : (k : ℕ) → let t = get_or messages k "" in message (k + 1) ≡ map (λ (i : ℕ). code (char_at t i)) (up 0 (len t))
unfolding message codes
message-codes k = rw (add-one k) (codes_from-map (get_or messages k "") (len (get_or messages k "")) 0)

-- ---- numbers that have no message

-- a number above the last refusal has no message, as 0 has none
message_unknown : (k : ℕ) → 21 < k → message k ≡ message 0
unfolding message messages codes codes_from
message_unknown zero h = absurd (omega arith)
message_unknown (suc k) h = ap codes (get_or-eq_default messages "" {n = k} (omega arith))

pub unknown_alike : (k : ℕ) (out : List ℕ) → 21 < k → refusal_message k out ≡ refusal_message 0 out
unfolding refusal_message
unknown_alike k out h = ap (λ (s : List ℕ). writes 0 s out) (message_unknown k h)

-- then nothing is written
pub said_zero : (k : ℕ) (out : List ℕ) → k ≡ 0 → Yields (refusal_message k out) (Length 0) out
unfolding refusal_message message writes answer_of written front too_short
said_zero k out z = rw (z, le-ltb (length out) 0 (omega arith)) (refl, refl)

pub unsaid : (k : ℕ) (out : List ℕ) → 21 < k → Yields (refusal_message k out) (Length 0) out
unsaid k out h = rw (unknown_alike k out h) (said_zero 0 out refl)

-- ---- lengths

length-codes_from : (t : String) (l i : ℕ) → length (codes_from t l i) ≡ l
unfolding codes_from
length-codes_from t zero i = refl
length-codes_from t (suc l) i = ap suc (length-codes_from t l (i + 1))

-- no text of the list is longer than m
unfoldable short : ℕ → List String → Bool
short m [] = true
short m (t ∷ l) = leb (len t) m && short m l

both : (a b : Bool) → T (a && b) → T a × T b
both true b h = (tt, h)
both false b h = absurd h

len_short : (m : ℕ) (l : List String) → T (short m l) → (k : ℕ) → len (get_or l k "") ≤ m
unfolding short
len_short m [] h k = zero-le
len_short m (t ∷ l) h zero = leb→le (len t) m (both (leb (len t) m) (short m l) h).0
len_short m (t ∷ l) h (suc k) = len_short m l (both (leb (len t) m) (short m l) h).1 k

pub length-message : (k : ℕ) → length (message k) ≤ 255
unfolding message codes messages short
length-message zero = omega arith
length-message (suc k) = rw (length-codes_from (get_or messages k "") (len (get_or messages k "")) 0) (len_short 255 messages tt k)

-- ---- texts in a table

-- texts one after the other
unfoldable pub joined : List String → List ℕ
joined [] = []
joined (t ∷ l) = codes t ++ joined l

-- where each of them ends, if the first begins at a
unfoldable pub ends : ℕ → List String → List ℕ
ends a [] = []
ends a (t ∷ l) = (a + len t) ∷ ends (a + len t) l

-- a text stands among bytes, from place a up to e
pub record StandsAmong (text bytes : List ℕ) (a e : ℕ) : Type 0 where
  before : List ℕ
  after : List ℕ
  whole : bytes ≡ before ++ (text ++ after)
  start : length before ≡ a
  end : a + length text ≡ e

-- then it is that part of the bytes
module _ {text bytes : List ℕ} {a e : ℕ} (s : StandsAmong text bytes a e) where
  pub stands_rises : a ≤ e
  stands_rises = omega arith

  pub stands_within : e ≤ length bytes
  stands_within =
      let l : length bytes ≡ length s.before + (length text + length s.after) = ap length s.whole ∙ simp length-append in
      omega arith

  pub stands_part : take (e - a) (drop a bytes) ≡ text
  stands_part =
      let n : e - a ≡ length text = omega arith in
      rw (n, s.whole, ← s.start, drop_at, take_at)

-- each of the texts stands from one end to the next
joined_stands : (l : List String) (k a : ℕ) (before : List ℕ) → length before ≡ a → k < length l
    → StandsAmong (codes (get_or l k "")) (before ++ joined l) (get_or (a ∷ ends a l) k 0) (get_or (ends a l) k 0)
unfolding joined ends codes
joined_stands [] k a before e h = absurd (omega arith)
joined_stands (t ∷ l) zero a before e h =
    record { before = before; after = joined l; whole = refl; start = e; end = ap (λ (m : ℕ). a + m) (length-codes_from t (len t) 0) }
joined_stands (t ∷ l) (suc k) a before e h =
    let e' : length (before ++ codes t) ≡ a + len t = simp (length-append, length-codes_from t (len t) 0, e) in
    rw (← append_assoc) (joined_stands l k (a + len t) (before ++ codes t) e' (omega arith))

-- ---- messages in a table, the empty one of 0 too

pub message_stands : (k : ℕ) → k ≤ 21
    → StandsAmong (message k) (joined messages) (get_or (0 ∷ 0 ∷ ends 0 messages) k 0) (get_or (0 ∷ 0 ∷ ends 0 messages) (k + 1) 0)
unfolding message messages joined ends
message_stands zero h = record { before = []; after = joined messages; whole = refl; start = refl; end = refl }
message_stands (suc k) h = rw (add-one (suc k)) (joined_stands messages k 0 [] refl (omega arith))

pub said : (k : ℕ) (s out after : List ℕ) (a : Answer) → s ≡ message k → Yields (writes 0 s out) a after
    → Yields (refusal_message k out) a after
unfolding refusal_message
said k s out after a e y = rw (← e) y
