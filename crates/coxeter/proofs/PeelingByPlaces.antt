-- A normal form peeled off by the places of a window's entries. The place of an entry is its position, and 128 more if
-- the entry is negative; the places are listed by the entries' sizes. What is left at a level is a set of positions,
-- one binary digit a position, and whether an odd number of negative entries were taken out, which only D asks.
-- The contracts of the crate window name these definitions; that the word is the normal form is proved there.
--
-- Sections: places; one level; all levels.
-- Assumes nothing.
use mathlib.Core.Path.{◌≡◌}
use mathlib.Core.Bool.{Bool, false, not, ◌&&◌}
use mathlib.Core.List.{List, [], ◌++◌}
use Prim.Native.Nat.{ℕ, zero, suc, ◌+◌, ◌-◌, ◌/◌, ◌^◌, ◌≤◌, ◌<◌}
use lib.Bits.{bit_xor}
use lib.Count.{ones}
use lib.Dec.{eqb, leb}
use lib.IntN.{ℤ, pos, nat_abs}
use lib.ListN.{length, get_or}
use Rattle.coxeter.specs.declared.Kind.{Kind}
use Rattle.coxeter.specs.declared.Kind.TheVariants.{A, B, D}
use Rattle.coxeter.specs.Kinds.{pick}
use Rattle.coxeter.specs.Length.{negative}
use Rattle.coxeter.specs.NormalForm.{block}

-- ---- places

-- of the entry e at position p
abbrev pub place_of : ℤ → ℕ → ℕ
place_of e p = pick (negative e) (p + 128) p

-- the list has the place of each entry of w at the entry's size
abbrev pub PlacesOf : List ℤ → List ℕ → Type 0
PlacesOf w places = (p : ℕ) → p < length w → get_or places (nat_abs (get_or w p (pos 0)) - 1) 0 ≡ place_of (get_or w p (pos 0)) (p + 1)

-- whether it is the place of a negative entry, and the position
abbrev pub is_negative : ℕ → Bool
is_negative place = leb 128 place

abbrev pub position : ℕ → ℕ
position place = pick (is_negative place) (place - 128) place

-- one of m positions, and in A not that of a negative entry
pub record Place (k : Kind) (m place : ℕ) : Type 0 where
  pub first : 1 ≤ position place
  pub last : position place ≤ m
  pub signs : k ≡ A → is_negative place ≡ false

-- ---- one level

-- the last level of windows of m entries
abbrev pub last_level : Kind → ℕ → ℕ
last_level A m = m - 1
last_level B m = m
last_level D m = m - 1

-- a set of positions without position p
abbrev pub without_position : ℕ → ℕ → ℕ
without_position p left = bit_xor left (2 ^ (p - 1))

-- the sign of an entry with l entries behind it has changed: in D, each negative entry that is taken out changes the
-- sign of the last entry left
unfoldable pub sign_changed : Kind → ℕ → Bool → Bool
sign_changed A l odd = false
sign_changed B l odd = false
sign_changed D l odd = odd && eqb l 0

-- N10: the index of an entry with l entries behind it, at position m − l; t says whether it is negative
abbrev pub index_behind : ℕ → Bool → ℕ → ℕ
index_behind m t l = pick t (m + l) (m - 1 - l)

-- the entry at a place: what is left when it is taken out, how many are left behind it, and the index of its block
unfoldable pub left_at : ℕ → ℕ → ℕ
left_at place left = without_position (position place) left

unfoldable pub odd_at : ℕ → Bool → Bool
odd_at place odd = pick (is_negative place) (not odd) odd

unfoldable pub behind_at : ℕ → ℕ → ℕ
behind_at place left = ones (left / 2 / 2 ^ (position place - 1))

unfoldable pub index_at : Kind → ℕ → ℕ → ℕ → Bool → ℕ
index_at k m place left odd =
    index_behind m (pick (sign_changed k (behind_at place left) odd) (not (is_negative place)) (is_negative place)) (behind_at place left)

-- ---- all levels

-- t levels from i on; the block of level i is the end of the word
unfoldable pub peeled_from : Kind → ℕ → List ℕ → ℕ → ℕ → ℕ → Bool → List ℕ
peeled_from k m places zero i left odd = []
peeled_from k m places (suc t) i left odd =
    peeled_from k m places t (suc i) (left_at (get_or places (i - 1) 0) left) (odd_at (get_or places (i - 1) 0) odd)
    ++ block k m i (index_at k m (get_or places (i - 1) 0) left odd)

-- the levels from i to the last
abbrev pub peeled_word : Kind → ℕ → List ℕ → ℕ → ℕ → Bool → List ℕ
peeled_word k m places i left odd = peeled_from k m places (suc (last_level k m) - i) i left odd
