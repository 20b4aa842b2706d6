-- One level more: what the loop of `count` holds before each turn, that a turn's sums fit 64 bits, and what it
-- holds after it.
-- Sections: before a turn; a turn; after the last.
-- Assumes nothing.
use mathlib.Core.Path.{◌≡◌, refl, sym, ap, ap₂, ◌∙◌}
use mathlib.Core.List.{List, ◌++◌}
use Prim.Native.Nat.{ℕ, suc, ◌+◌, ◌^◌, ◌≤◌, ◌<◌}
use native.Mathlib.Omega.{arith}
use lib.ListN.{length, take, drop}
use Rattle.coxeter.specs.declared.Kind.{Kind}
use Rattle.coxeter.specs.Kinds.{lanes, least}
use Rattle.coxeter.specs.Length.{greatest_length}
use Rattle.coxeter.specs.NormalForm.{levels}
use Rattle.coxeter.proofs.Groups.{InRange}
use Rattle.distribution.specs.Distribution.{of_length, distribution}
use Rattle.distribution.specs.Calls.{greatest_tabled}
use Rattle.distribution.proofs.Sums.{below, below_same}
use Rattle.distribution.proofs.Factors.{factor, factor_same}
use Rattle.distribution.proofs.Products.{fewest, product, lanes-levels, top, degree, degree_le}
use Rattle.distribution.proofs.Products.{degree-greatest, product_beyond, of_length-product, below-product-fits, product-fits}
use Rattle.distribution.proofs.Values.{values, value_at, Fit, length-values, value_at-values, values_same, take-values, values-front}

-- ---- before a turn

-- the levels with less than c greater sizes are counted, so many are `done`, and the numbers from d on are 0
pub record Counted (k : Kind) (n : ℕ) (counts : List ℕ) (d c : ℕ) : Type 0 where
  pub done : ℕ
  pub level : c ≡ done + fewest k
  pub most : done ≤ levels k n
  pub ends : d ≡ degree k done + 1
  pub holds : counts ≡ values (product k done) (greatest_length k n + 1)

pub counted_length : {k : Kind} {n : ℕ} {counts : List ℕ} {d c : ℕ} → Counted k n counts d c → length counts ≡ greatest_length k n + 1
counted_length {k} {n} h = ap length h.holds ∙ length-values (product k h.done) (greatest_length k n + 1)

pub counted_none : {k : Kind} {n : ℕ} {counts : List ℕ} {m c : ℕ} → counts ≡ values (product k 0) m → m ≡ greatest_length k n + 1 → c ≡ fewest k
    → Counted k n counts 1 c
unfolding degree
counted_none {k} e s f =
    record { done = 0; level = omega arith; most = omega arith; ends = omega arith; holds = e ∙ ap (values (product k 0)) s }

-- ---- a turn

-- the level with c greater sizes, whose blocks have at most the length e, comes next
pub record Turn (k : Kind) (n : ℕ) (counts : List ℕ) (d c e : ℕ) : Type 0 where
  pub rank : (least k ≤ n) × (n ≤ greatest_tabled k)
  pub counted : Counted k n counts d c
  pub lower : c < lanes k n
  pub tops : e ≡ top k c

pub turn_of : (k : Kind) (n : ℕ) {counts : List ℕ} {d c m e : ℕ} → InRange k n → n ≤ greatest_tabled k → Counted k n counts d c → c < m → m ≡ lanes k n
    → e ≡ top k c → Turn k n counts d c e
turn_of k n r g h o l t = record { rank = (r.0, g); counted = h; lower = rw l at o; tops = t }

module _ {k : Kind} {n : ℕ} {counts : List ℕ} {d c e : ℕ} (turn : Turn k n counts d c e) where
  abbrev t : ℕ
  t = turn.counted.done

  one_more : suc t ≤ levels k n
  one_more = omega (arith, lanes-levels k n turn.rank.0, turn.counted.level)

  next_end : d + e ≡ degree k (suc t) + 1
  unfolding degree
  next_end = omega (arith, turn.tops ∙ ap (top k) turn.counted.level, turn.counted.ends)

  pub part-fits : d + e ≤ greatest_length k n + 1
  part-fits = omega (arith, next_end, degree_le k (suc t) (levels k n) one_more, degree-greatest k n turn.rank.0)

  part : take (d + e) counts ≡ values (product k t) (d + e)
  part = ap (take (d + e)) turn.counted.holds ∙ take-values (product k t) (d + e) (greatest_length k n + 1) part-fits

  part_at : (i : ℕ) → i < d + e → value_at (take (d + e) counts) i ≡ product k t i
  part_at i p = ap (λ (w : List ℕ). value_at w i) part ∙ value_at-values (product k t) (d + e) i p

  part_length : length (take (d + e) counts) ≡ d + e
  part_length = ap length part ∙ length-values (product k t) (d + e)

  -- its factor is the product of one level more
  part-factor : (i : ℕ) → i < d + e → factor k c (value_at (take (d + e) counts)) i ≡ product k (suc t) i
  unfolding product
  part-factor i p =
      factor_same k c (value_at (take (d + e) counts)) (product k t) i (λ j f. part_at j (omega arith))
      ∙ ap (λ (x : ℕ). factor k x (product k t) i) turn.counted.level

  pub part-sum-fits : below (value_at (take (d + e) counts)) (length (take (d + e) counts)) < 2 ^ 64
  part-sum-fits =
      rw (part_length, below_same (value_at (take (d + e) counts)) (product k t) (d + e) part_at)
      (below-product-fits k n t (d + e) turn.rank.1 turn.counted.most)

  pub part-factor-fits : Fit (factor k c (value_at (take (d + e) counts))) (length (take (d + e) counts))
  part-factor-fits l p =
      let f : l < d + e = omega (arith, part_length) in
      rw (part-factor l f) (product-fits k n (suc t) l turn.rank.1 one_more)

  pub counted_next : (x : List ℕ) → x ≡ values (factor k c (value_at (take (d + e) counts))) (length (take (d + e) counts))
      → Counted k n (x ++ drop (d + e) counts) (d + e) (c + 1)
  counted_next x f =
      record {
        done = suc t;
        level = omega (arith, turn.counted.level);
        most = one_more;
        ends = next_end;
        holds =
            ap₂ (λ (u v : List ℕ). u ++ drop (d + e) v)
            (f ∙ ap (values (factor k c (value_at (take (d + e) counts)))) part_length
            ∙ values_same (factor k c (value_at (take (d + e) counts))) (product k (suc t)) (d + e) part-factor)
            turn.counted.holds
            ∙ values-front (product k (suc t)) (product k t) (product k (suc t)) (d + e)
            (greatest_length k n + 1) part-fits (λ i p. refl) beyond;
      }
    where
      -- neither product goes so far
      beyond : (i : ℕ) → d + e ≤ i → product k t i ≡ product k (suc t) i
      beyond i p =
          product_beyond k t i (omega (arith, turn.counted.ends))
          ∙ sym (product_beyond k (suc t) i (omega (arith, next_end)))

-- ---- after the last

pub counted_all : {k : Kind} {n : ℕ} {counts : List ℕ} {d c : ℕ} → least k ≤ n → Counted k n counts d c → lanes k n ≤ c → counts ≡ distribution k n
counted_all {k} {n} a h g =
    let e : h.done ≡ levels k n = omega (arith, lanes-levels k n a, h.level, h.most) in
    h.holds
    ∙ ap (λ (t : ℕ). values (product k t) (greatest_length k n + 1)) e
    ∙ values_same (product k (levels k n)) (of_length k n) (greatest_length k n + 1) (λ i o. sym (of_length-product k n i))
    ∙ unfold values distribution in refl
