-- Calls on shortest words, as a call for C makes them: of a kind and a rank that are bytes, or that checks 5 and 6
-- refuse alike.
--
-- Sections: fallbacks; from one window to another.
-- Assumes nothing.
use mathlib.Core.Path.{◌≡◌, ap, ◌∙◌}
use mathlib.Core.Logic.{inl, inr}
use mathlib.Core.List.{List}
use Prim.Native.Nat.{ℕ, ◌≤◌}
use native.Mathlib.Omega.{arith}
use lib.IntN.{ℤ}
use borrow.Author.Tests.{ne_eqb}
use Rattle.coxeter.specs.Checks.{rank_refusal}
use Rattle.coxeter.specs.Calls.{answer_of, written, writes}
use Rattle.shortest_words.specs.answers.Fallback.{Fallback}
use Rattle.shortest_words.specs.answers.Fallback.{Kept}
use Rattle.shortest_words.specs.Calls.{FellBack}
use Rattle.shortest_words.specs.Allowed.{set_refusal}
use Rattle.shortest_words.specs.BetweenCalls.{between_refusal, between_windows}
use Rattle.shortest_words.proofs.Verdicts.{kept_le, fell_back_alike}
use Rattle.shortest_words.proofs.BetweenCalls.{between-fits}
use Rattle.c_api.specs.Shortest.{fallback_number, FallbackNumbered}
use Rattle.c_api.proofs.Lengths.{Small}
use Rattle.c_api.proofs.Bytes.{byte_of, bytes_or_refused, Refusable}

-- ---- fallbacks

module _ (k n : ℕ) {l m : ℕ} {present simpler places after : List ℕ} {a : Fallback} (e : l ≡ byte_of k) (f : m ≡ byte_of n)
    (h : FellBack l m present simpler places a after) where
  fell_back_as_bytes : FellBack k n present simpler places a after
  fell_back_as_bytes = elim (bytes_or_refused k n) [
    | inl b ↦ rw (e ∙ b.0, f ∙ b.1) at h
    | inr b ↦ fell_back_alike k n present simpler places after a (byte_of k) (byte_of n) b.0 b.1 (rw (e, f) at h)
  ]

  -- z is its number
  pub fallback_numbered : {z : ℤ} → z ≡ fallback_number a → FallbackNumbered k n present simpler places z after
  fallback_numbered p = let q = fell_back_as_bytes.answer in (p ∙ ap fallback_number q, rw q at fell_back_as_bytes)

pub fallback_size : {l m : ℕ} {present simpler places after : List ℕ} {s : ℕ} → FellBack l m present simpler places (Kept s) after → s ≤ 65535
fallback_size {l} {m} {present} {simpler} {places} {after} {s} h = omega (arith, kept_le l m present simpler places after s h)

-- ---- from one window to another

pub between_windows_refusable : (set : ℕ) (v w : List ℤ) (out : List ℕ) → Refusable (λ k n. between_windows k n set v w out)
unfolding between_windows between_refusal set_refusal writes answer_of written
between_windows_refusable set v w out = record { refused_same = λ k n l m e f. simp (e, ne_eqb (rank_refusal k n) 0 f) }

pub between_windows_small : (k n set : ℕ) (v w : List ℤ) (out : List ℕ) → Small (between_windows k n set v w out).answer
between_windows_small k n set v w out l e = omega (arith, between-fits k n set v w out l e)
