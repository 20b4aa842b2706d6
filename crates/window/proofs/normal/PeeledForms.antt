-- The word that the recursion peels off by the places of a window's entries is the window's normal form. By induction
-- on the levels: at level i the positions left are those of the entries of size i and more, and these, in D with the
-- sign of the last one changed if an odd number of negative entries were taken out, are what N10 leaves.
--
-- Sections: places; one level; all levels; the first level.
-- Assumes nothing.
use mathlib.Core.Path.{◌≡◌, refl, sym, ap, ap₂, ◌∙◌, subst}
use mathlib.Core.Bool.{Bool, true, false, not, true≢false}
use mathlib.Core.List.{List, [], ◌∷◌, ◌++◌}
use Prim.Native.Nat.{ℕ, zero, suc, ◌+◌, ◌-◌, ◌/◌, ◌^◌, ◌≤◌, ◌<◌}
use native.Mathlib.Numerals.{add-one}
use native.Mathlib.Omega.{arith}
use lib.Count.{ones}
use lib.Dec.{leb}
use lib.IntN.{ℤ, pos, negsuc, nat_abs}
use lib.ListN.{length, length-append, get_or}
use lib.Pow.{shr-shr}
use lib.Seq.{get_or-append_seam}
use borrow.Author.Tests.{le-leb, lt-leb}
use Rattle.coxeter.specs.declared.Kind.{Kind}
use Rattle.coxeter.specs.declared.Kind.TheVariants.{A, B, D}
use Rattle.coxeter.specs.Kinds.{pick, lanes}
use Rattle.coxeter.specs.Windows.{signed, place_from}
use Rattle.coxeter.specs.Length.{negative, negatives, one}
use Rattle.coxeter.specs.Checks.{has_size}
use Rattle.coxeter.specs.NormalForm.{block, levels, without, index_of, rest_of, normal_from}
use Rattle.coxeter.proofs.Levels.{Distinct, Signs, Accepted, level_has_size}
use Rattle.coxeter.proofs.Peeling.{Peeled, peeled_of_has_size, place_from_peeled, rest_of_peeled, index_of_positive, index_of-negative}
use Rattle.coxeter.proofs.Peeling.{negatives_middle, levels_le_lanes}
use Rattle.coxeter.proofs.PeelingByPlaces.{place_of, PlacesOf, is_negative, position, Place, sign_changed, index_behind, left_at, odd_at}
use Rattle.coxeter.proofs.PeelingByPlaces.{behind_at, index_at, peeled_from}
use Rattle.window.proofs.length.SizeSets.{digit_half}
use Rattle.window.proofs.normal.LeftPositions.{entries_from, entries_from-append, entries_from_own, entries_from_gone, entries_from_same}
use Rattle.window.proofs.normal.LeftPositions.{entries_from_all, entries_from_missing, positions_from, ones_positions, positions_behind}
use Rattle.window.proofs.normal.LeftPositions.{positions_all, positions_taken}
use Rattle.window.proofs.normal.Signs.{last_changed, TakenOut, taken}

-- ---- places

is_negative-place_of : (e : ℤ) (p : ℕ) → p < 128 → is_negative (place_of e p) ≡ negative e
is_negative-place_of e p l = is_negative-place_of_by_cases (negative e)
  where
    is_negative-place_of_by_cases : (t : Bool) → leb 128 (pick t (p + 128) p) ≡ t
    is_negative-place_of_by_cases true = le-leb 128 (p + 128) (omega arith)
    is_negative-place_of_by_cases false = lt-leb 128 p l

position-place_of : (e : ℤ) (p : ℕ) → p < 128 → position (place_of e p) ≡ p
position-place_of e p l = rw (is_negative-place_of e p l) (position-place_of_by_cases (negative e))
  where
    position-place_of_by_cases : (t : Bool) → pick t (pick t (p + 128) p - 128) (pick t (p + 128) p) ≡ p
    position-place_of_by_cases true = omega arith
    position-place_of_by_cases false = refl

-- the entry e of u ++ e ∷ v, of size i: that no other has its size, where it stands, and that it is positive in A
pub record Stands (k : Kind) (m : ℕ) (places : List ℕ) (i : ℕ) (u : List ℤ) (e : ℤ) (v : List ℤ) : Type 0 where
  pub size : nat_abs e ≡ i
  pub new : has_size i u ≡ false
  pub last : has_size i v ≡ false
  pub few : length u < m
  pub place : get_or places (i - 1) 0 ≡ place_of e (suc (length u))
  pub positive : k ≡ A → negative e ≡ false

distinct_right : (u : List ℤ) (e : ℤ) (v : List ℤ) → Distinct (u ++ (e ∷ v)) → has_size (nat_abs e) v ≡ false
distinct_right [] e v d = d.0
distinct_right (x ∷ u) e v d = distinct_right u e v d.1

not_negative : (t : Bool) (r : ℕ) → one t + r ≡ 0 → t ≡ false
unfolding one
not_negative true r z = absurd (omega arith)
not_negative false r z = refl

positive_in_A : (k : Kind) (u : List ℤ) (e : ℤ) (v : List ℤ) → Signs k (u ++ (e ∷ v)) → k ≡ A → negative e ≡ false
positive_in_A k u e v h q =
    let none : negatives (u ++ (e ∷ v)) ≡ 0 = rw q at h in
    not_negative (negative e) (negatives (u ++ v)) (sym (negatives_middle u e v) ∙ none)

stands : {k : Kind} {n m : ℕ} {places : List ℕ} {i : ℕ} {u : List ℤ} {e : ℤ} {v : List ℤ} → m ≡ lanes k n → Accepted k n (u ++ (e ∷ v))
    → PlacesOf (u ++ (e ∷ v)) places → nat_abs e ≡ i → has_size i u ≡ false → Stands k m places i u e v
stands {k} {u} {e} {v} q a p s z =
    let at : get_or (u ++ (e ∷ v)) (length u) (pos 0) ≡ e = get_or-append_seam u e v (pos 0) in
    let few : length u < length (u ++ (e ∷ v)) = omega (arith, length-append u (e ∷ v)) in
    record {
      size = s;
      new = z;
      last = rw s at (distinct_right u e v a.level.distinct);
      few = omega (arith, few, a.size);
      place = rw (at, s, add-one) at (p (length u) few);
      positive = positive_in_A k u e v a.signs;
    }

-- the window's entry of size i
pub record EntryFound (k : Kind) (m : ℕ) (places : List ℕ) (i : ℕ) (w : List ℤ) : Type 0 where
  pub left : List ℤ
  pub entry : ℤ
  pub right : List ℤ
  pub whole : w ≡ left ++ (entry ∷ right)
  pub there : Stands k m places i left entry right

pub found : {k : Kind} {n m : ℕ} {w : List ℤ} {places : List ℕ} {i : ℕ} → m ≡ lanes k n → Accepted k n w → PlacesOf w places → 1 ≤ i → i ≤ m
    → EntryFound k m places i w
found {k} {n} {m} {w} {places} {i} q a p o l = found_by_cases (peeled_of_has_size i w (level_has_size 1 i w a.level o (omega (arith, a.size))))
  where
    found_by_cases : Peeled i w → EntryFound k m places i w
    found_by_cases c =
        let g : Accepted k n (c.left ++ (c.entry ∷ c.right)) = subst (Accepted k n) c.whole a in
        let r : PlacesOf (c.left ++ (c.entry ∷ c.right)) places = subst (λ (x : List ℤ). PlacesOf x places) c.whole p in
        record {
          left = c.left;
          entry = c.entry;
          right = c.right;
          whole = c.whole;
          there = stands q g r c.size c.new;
        }

-- ---- one level

-- what the code reads off at level i
module _ (k : Kind) (m : ℕ) (places : List ℕ) (i : ℕ) (u : List ℤ) (e : ℤ) (v : List ℤ) (small : m ≤ 64) (h : Stands k m places i u e v) where
  sign_is : is_negative (get_or places (i - 1) 0) ≡ negative e
  sign_is = rw h.place (is_negative-place_of e (suc (length u)) (omega (arith, h.few)))

  position_is : position (get_or places (i - 1) 0) ≡ suc (length u)
  position_is = rw h.place (position-place_of e (suc (length u)) (omega (arith, h.few)))

  pub place_is : Place k m (get_or places (i - 1) 0)
  place_is = record { first = rw position_is (omega arith); last = rw position_is h.few; signs = λ q. sign_is ∙ h.positive q }

  left_is : left_at (get_or places (i - 1) 0) (positions_from i (u ++ (e ∷ v))) ≡ positions_from (suc i) (u ++ (e ∷ v))
  unfolding left_at
  left_is =
      let d : suc (length u) - 1 ≡ length u = omega arith in
      rw (position_is, d) (sym (positions_taken i u e v h.size h.new h.last))

  odd_is : (odd : Bool) → odd_at (get_or places (i - 1) 0) odd ≡ pick (negative e) (not odd) odd
  unfolding odd_at
  odd_is odd = rw sign_is

  behind_is : behind_at (get_or places (i - 1) 0) (positions_from i (u ++ (e ∷ v))) ≡ length (entries_from i v)
  unfolding behind_at positions_from
  behind_is =
      let d : suc (length u) - 1 ≡ length u = omega arith in
      let x : ℕ = positions_from i (u ++ (e ∷ v)) in
      let one_first : x / 2 / 2 ^ length u ≡ x / 2 ^ (1 + length u) = shr-shr x 1 (length u) in
      let one_last : x / 2 ^ length u / 2 ≡ x / 2 ^ (length u + 1) = shr-shr x (length u) 1 in
      let same : 1 + length u ≡ length u + 1 = omega arith in
      let rest : x / 2 / 2 ^ length u ≡ positions_from i v =
      one_first
      ∙ ap (λ (y : ℕ). x / 2 ^ y) same
      ∙ sym one_last
      ∙ ap (λ (y : ℕ). y / 2) (positions_behind i u (e ∷ v))
      ∙ digit_half (leb i (nat_abs e)) (positions_from i v) in
      rw (position_is, d) (ap ones rest ∙ ones_positions i v)

  index_is : (odd : Bool)
      → index_at k m (get_or places (i - 1) 0) (positions_from i (u ++ (e ∷ v))) odd
      ≡ index_behind m (pick (sign_changed k (length (entries_from i v)) odd) (not (negative e)) (negative e)) (length (entries_from i v))
  unfolding index_at
  index_is odd = rw (behind_is, sign_is)

  -- the entries left
  entries_are : entries_from i (u ++ (e ∷ v)) ≡ entries_from i u ++ (e ∷ entries_from i v)
  entries_are = entries_from-append i u (e ∷ v) ∙ ap (λ (l : List ℤ). entries_from i u ++ l) (entries_from_own i e v h.size)

  rest_is : entries_from (suc i) (u ++ (e ∷ v)) ≡ entries_from i u ++ entries_from i v
  rest_is =
      entries_from-append (suc i) u (e ∷ v)
      ∙ ap₂ ◌++◌ (entries_from_same i u h.new) (entries_from_gone i e v h.size ∙ entries_from_same i v h.last)

  next_count : suc (length (entries_from (suc i) (u ++ (e ∷ v)))) ≡ length (entries_from i (u ++ (e ∷ v)))
  next_count =
      omega (
        arith,
        ap length entries_are,
        ap length rest_is,
        length-append (entries_from i u) (e ∷ entries_from i v),
        length-append (entries_from i u)
            (entries_from i v),
      )

-- N10's index: a entries are left before the entry and b behind it
index_left : (k : Kind) (n : ℕ) {m i : ℕ} (a b : ℕ) (e : ℤ) → m ≡ lanes k n → (k ≡ A → negative e ≡ false) → 1 ≤ i → a + suc b + i ≡ suc m
    → index_of n (signed e (i + a)) ≡ index_behind m (negative e) b
unfolding negative
index_left k n {i = i} a b (pos x) q p o c = index_of_positive n x (i + a) ∙ omega arith
index_left A n a b (negsuc x) q p o c = absurd (true≢false (p refl))
index_left B n {i = i} a b (negsuc x) q p o c = index_of-negative n x (i + a) (omega arith) ∙ omega arith
index_left D n {i = i} a b (negsuc x) q p o c = index_of-negative n x (i + a) (omega arith) ∙ omega arith

block-lanes : (k : Kind) (n m i j : ℕ) → m ≡ lanes k n → block k m i j ≡ block k n i j
unfolding block
block-lanes A n m i j q = refl
block-lanes B n m i j q = rw q
block-lanes D n m i j q = rw q

sign_left : (k : Kind) (l : ℕ) (odd t : Bool) → k ≡ A → t ≡ false → pick (sign_changed k l odd) (not t) t ≡ false
unfolding sign_changed
sign_left k l odd t q z = rw (q, z)

module _ (k : Kind) (n m : ℕ) (places : List ℕ) (small : m ≤ 64) (q : m ≡ lanes k n) where
  level : (t : ℕ) {i : ℕ} (odd : Bool) {u : List ℤ} {e : ℤ} {v : List ℤ} → 1 ≤ i → Stands k m places i u e v
      → length (entries_from i (u ++ (e ∷ v))) + i ≡ suc m
      → ((s : Bool)
      → peeled_from k m places t (suc i) (positions_from (suc i) (u ++ (e ∷ v))) s
      ≡ normal_from k n t (suc i) (last_changed k s (entries_from (suc i) (u ++ (e ∷ v)))))
      → peeled_from k m places (suc t) i (positions_from i (u ++ (e ∷ v))) odd ≡ normal_from k n (suc t) i (last_changed k odd (entries_from i (u ++ (e ∷ v))))
  unfolding peeled_from normal_from
  level t {i} odd {u} {e} {v} o h c ih =
      let x : List ℤ = entries_from i u in
      let y : List ℤ = entries_from i v in
      let d : TakenOut k odd x e y = taken k odd x e y (omega (arith, h.size)) in
      let size : nat_abs d.entry ≡ i = d.size ∙ h.size in
      let new : has_size i x ≡ false = entries_from_missing i i u h.new in
      let whole : last_changed k odd (entries_from i (u ++ (e ∷ v))) ≡ x ++ (d.entry ∷ d.right) =
      ap (last_changed k odd) (entries_are k m places i u e v small h) ∙ d.whole in
      let count : length x + suc (length d.right) + i ≡ suc m =
      omega (arith, c, ap length (entries_are k m places i u e v small h), length-append x (e ∷ y), d.count) in
      let positive : k ≡ A → negative d.entry ≡ false = λ r. d.sign ∙ sign_left k (length y) odd (negative e) r (h.positive r) in
      let next : Bool = pick (negative e) (not odd) odd in
      let head : index_at k m (get_or places (i - 1) 0) (positions_from i (u ++ (e ∷ v))) odd
      ≡ index_of n (place_from i (last_changed k odd (entries_from i (u ++ (e ∷ v)))) i) =
      index_is k m places i u e v small h odd
      ∙ sym (ap (λ (w : List ℤ). index_of n (place_from i w i)) whole
      ∙ ap (index_of n) (place_from_peeled i i x d.entry d.right size new)
      ∙ index_left k n (length x) (length d.right) d.entry q positive o count
      ∙ ap₂ (index_behind m) d.sign d.count) in
      let tail : peeled_from k m places t (suc i) (left_at (get_or places (i - 1) 0) (positions_from i (u ++ (e ∷ v)))) (odd_at (get_or places (i - 1) 0) odd)
      ≡ normal_from k n t (suc i)
      (rest_of k (place_from i (last_changed k odd (entries_from i (u ++ (e ∷ v)))) i) (without i (last_changed k odd (entries_from i (u ++ (e ∷ v)))))) =
      ap₂ (peeled_from k m places t (suc i)) (left_is k m places i u e v small h) (odd_is k m places i u e v small h odd)
      ∙ ih next
      ∙ ap (λ (w : List ℤ). normal_from k n t (suc i) (last_changed k next w)) (rest_is k m places i u e v small h)
      ∙ ap (normal_from k n t (suc i)) (sym (ap (λ (w : List ℤ). rest_of k (place_from i w i) (without i w)) whole
      ∙ rest_of_peeled k i x d.entry d.right o size new
      ∙ d.rest)) in
      ap₂ ◌++◌ tail (block-lanes k n m i _ q ∙ ap (block k n i) head)

  -- ---- all levels

  module _ (w : List ℤ) (a : Accepted k n w) (p : PlacesOf w places) where
    peeled_normal : (t i : ℕ) (odd : Bool) → 1 ≤ i → t + i ≤ suc (levels k n) → length (entries_from i w) + i ≡ suc m
        → peeled_from k m places t i (positions_from i w) odd ≡ normal_from k n t i (last_changed k odd (entries_from i w))
    unfolding peeled_from normal_from
    peeled_normal zero i odd o l c = refl
    peeled_normal (suc t) i odd o l c =
        peeled_normal_by_cases (found q a p o (omega (arith, levels_le_lanes k n))) (λ s. peeled_normal t (suc i) s)
      where
        peeled_normal_by_cases : EntryFound k m places i w
            → ((s : Bool) → 1 ≤ suc i → t + suc i ≤ suc (levels k n) → length (entries_from (suc i) w) + suc i ≡ suc m
            → peeled_from k m places t (suc i) (positions_from (suc i) w) s ≡ normal_from k n t (suc i) (last_changed k s (entries_from (suc i) w)))
            → peeled_from k m places (suc t) i (positions_from i w) odd ≡ normal_from k n (suc t) i (last_changed k odd (entries_from i w))
        peeled_normal_by_cases f ih =
            let u : List ℤ = f.left in
            let e : ℤ = f.entry in
            let v : List ℤ = f.right in
            let now : length (entries_from i (u ++ (e ∷ v))) + i ≡ suc m = subst (λ (x : List ℤ). length (entries_from i x) + i ≡ suc m) f.whole c in
            let later : length (entries_from (suc i) w) + suc i ≡ suc m =
            omega (arith, now, ap (λ (x : List ℤ). length (entries_from (suc i) x)) f.whole, next_count k m places i u e v small f.there) in
            subst (λ (x : List ℤ). peeled_from k m places (suc t) i (positions_from i x) odd ≡ normal_from k n (suc t) i (last_changed k odd (entries_from i x)))
            (sym f.whole)
            (level t odd o f.there now
            (λ s. subst
            (λ (x : List ℤ). peeled_from k m places t (suc i) (positions_from (suc i) x) s ≡ normal_from k n t (suc i) (last_changed k s (entries_from (suc i) x)))
            f.whole (ih s (omega arith) (omega arith) later)))

    -- ---- the first level

    pub peeled_first : peeled_from k m places (levels k n) 1 (2 ^ m - 1) false ≡ normal_from k n (levels k n) 1 w
    peeled_first =
        let all = entries_from_all (1 + length w) w a.level.between in
        let set : 2 ^ m - 1 ≡ positions_from 1 w = sym (positions_all (1 + length w) w a.level.between ∙ ap (λ (x : ℕ). 2 ^ x - 1) (a.size ∙ sym q)) in
        ap (λ (x : ℕ). peeled_from k m places (levels k n) 1 x false) set
        ∙ peeled_normal (levels k n) 1 false (omega arith) (omega arith) (omega (arith, ap length all, a.size))
        ∙ ap (normal_from k n (levels k n) 1) all
