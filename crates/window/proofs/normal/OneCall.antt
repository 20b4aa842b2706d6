-- One call of the recursion. The word of a level is that of the levels above and then its block: what the calls that it
-- makes are asked, and what it leaves.
--
-- Sections: one level; one call.
-- Assumes nothing.
use mathlib.Core.Path.{◌≡◌, refl, sym, ap, ◌∙◌}
use mathlib.Core.Bool.{Bool, true, false, not}
use mathlib.Core.List.{List, [], ◌++◌}
use Prim.Native.Nat.{ℕ, suc, ◌+◌, ◌-◌, ◌*◌, ◌^◌, ◌≤◌, ◌<◌}
use native.Mathlib.Nat.{zero-add}
use native.Mathlib.Numerals.{add-one}
use native.Mathlib.Omega.{arith}
use lib.Bits.{xor_lt}
use lib.ListN.{length, length-append, get_or}
use lib.Pow.{pow-lt}
use lib.Seq.{sets, length-sets}
use Rattle.coxeter.specs.declared.Kind.{Kind}
use Rattle.coxeter.specs.declared.Kind.TheVariants.{A}
use Rattle.coxeter.specs.Kinds.{pick}
use Rattle.coxeter.specs.NormalForm.{block}
use Rattle.coxeter.proofs.Lists.{Stored, stored_append}
use Rattle.coxeter.proofs.PeelingByPlaces.{is_negative, position, Place, last_level, sign_changed, index_behind, left_at, odd_at, behind_at}
use Rattle.coxeter.proofs.PeelingByPlaces.{index_at, peeled_from, peeled_word}
use Rattle.window.proofs.normal.OneLevel.{one_entry, behind_le}

-- ---- one level

module _ (k : Kind) (m place left : ℕ) (h : Place k m place) (l : left < 2 ^ m) where
  pub left_fits : left_at place left < 2 ^ m
  unfolding left_at
  left_fits = xor_lt m left (2 ^ (position place - 1)) l (pow-lt (omega (arith, h.first, h.last)))

  few : behind_at place left ≤ m - 1
  unfolding behind_at
  few = behind_le m left (position place) (behind_at place left) (one_entry k m place h) l refl

  pub index_le : (odd : Bool) → index_at k m place left odd ≤ 2 * m
  unfolding index_at
  index_le odd = index_le_by_sign (pick (sign_changed k (behind_at place left) odd) (not (is_negative place)) (is_negative place)) (behind_at place left) few
    where
      index_le_by_sign : (t : Bool) (b : ℕ) → b ≤ m - 1 → index_behind m t b ≤ 2 * m
      index_le_by_sign true b f = omega arith
      index_le_by_sign false b f = omega arith

  -- in A every block goes up only
  pub index_lt : (odd : Bool) → k ≡ A → index_at k m place left odd < m
  unfolding index_at sign_changed
  index_lt odd e = rw (h.signs e, e) (omega (arith, few, one_entry k m place h))

-- ---- one call

-- the word of the levels above level i, which leaves `rest` and `next`
abbrev pub word_above : Kind → ℕ → List ℕ → ℕ → ℕ → Bool → List ℕ
word_above k m places i rest next = peeled_from k m places (last_level k m - i) (suc i) rest next

-- it is written, where there is a level above: `out` was o before, and `at` is the place behind it
pub record AboveWritten (k : Kind) (m : ℕ) (places : List ℕ) (i rest : ℕ) (next : Bool) (o out : List ℕ) (at : ℕ) : Type 0 where
  pub place : at ≡ length (word_above k m places i rest next)
  pub written : out ≡ sets o 0 (word_above k m places i rest next)

module _ (k : Kind) (m : ℕ) (places : List ℕ) (i rest : ℕ) (next : Bool) where
  above_is : i < last_level k m → word_above k m places i rest next ≡ peeled_word k m places (i + 1) rest next
  above_is l =
      let e : suc (last_level k m) - (i + 1) ≡ last_level k m - i = omega arith in
      rw (e, add-one)

  above_none : last_level k m ≤ i → word_above k m places i rest next ≡ []
  unfolding peeled_from
  above_none l =
      let e : last_level k m - i ≡ 0 = omega arith in
      rw e

  pub above_called : {o out : List ℕ} {at r : ℕ} {last : List ℕ} → i < last_level k m
      → (r ≡ length (peeled_word k m places (i + 1) rest next)) × (last ≡ sets o 0 (peeled_word k m places (i + 1) rest next)) → out ≡ last → at ≡ r
      → AboveWritten k m places i rest next o out at
  above_called {o} l e q s = record { place = s ∙ e.0 ∙ ap length (sym (above_is l)); written = q ∙ e.1 ∙ ap (sets o 0) (sym (above_is l)) }

  pub above_not_called : {o out : List ℕ} {at : ℕ} → last_level k m ≤ i → out ≡ o → at ≡ 0 → AboveWritten k m places i rest next o out at
  above_not_called {o} l q s = record { place = s ∙ ap length (sym (above_none l)); written = q ∙ ap (sets o 0) (sym (above_none l)) }

-- the level's index and what it leaves
module _ (k : Kind) (m : ℕ) (places : List ℕ) (i left : ℕ) (odd : Bool) {index rest : ℕ} {next : Bool} (within : i ≤ last_level k m)
    (h : (index ≡ index_at k m (get_or places (i - 1) 0) left odd) × (rest ≡ left_at (get_or places (i - 1) 0) left)
    × (next ≡ odd_at (get_or places (i - 1) 0) odd)) where
  whole : peeled_word k m places i left odd ≡ word_above k m places i rest next ++ block k m i index
  unfolding peeled_from
  whole =
      let e : suc (last_level k m) - i ≡ suc (last_level k m - i) = omega arith in
      rw (e, h.0, h.1, h.2)

  pub room_above : (n : ℕ) → i < last_level k m → length (peeled_word k m places i left odd) ≤ n → length (peeled_word k m places (i + 1) rest next) ≤ n
  room_above n l r =
      let u = word_above k m places i rest next in
      omega (arith, ap length whole, length-append u (block k m i index), ap length (above_is k m places i rest next l))

  module _ {o out : List ℕ} {at : ℕ} (a : AboveWritten k m places i rest next o out at) where
    pub room_block : length (peeled_word k m places i left odd) ≤ length o → at + length (block k m i index) ≤ length out
    room_block l =
        let u = word_above k m places i rest next in
        omega (arith, ap length whole, length-append u (block k m i index), a.place, ap length a.written, length-sets o 0 u)

    pub peeled_written : {last : List ℕ} {r : ℕ} → Stored out at (block k m i index) last r
        → (r ≡ length (peeled_word k m places i left odd)) × (last ≡ sets o 0 (peeled_word k m places i left odd))
    peeled_written {last} {r} e =
        let u = word_above k m places i rest next in
        let all : Stored o 0 (u ++ block k m i index) last r =
        stored_append o 0 u (block k m i index) (a.place ∙ sym (zero-add (length u)), a.written) e in
        rw whole (all.0 ∙ zero-add (length (u ++ block k m i index)), all.1)
