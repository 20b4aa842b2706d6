-- The signs of what is left at a level. In kind D each negative entry that is taken out changes the sign of the last
-- entry left; so the last one has its sign changed exactly if an odd number of negative entries were taken out. In A and
-- B no sign changes.
--
-- Sections: the last entry; one level.
-- Assumes nothing.
use mathlib.Core.Path.{◌≡◌, refl, sym, ap, ◌∙◌}
use mathlib.Core.Bool.{Bool, true, false, not, ◌&&◌}
use mathlib.Core.List.{List, [], ◌∷◌, ◌++◌}
use Prim.Native.Nat.{ℕ, zero, suc, ◌+◌, ◌-◌, ◌≤◌, ◌<◌}
use native.Mathlib.Omega.{arith}
use lib.IntN.{ℤ, pos, negsuc, neg_ℤ, nat_abs}
use lib.ListN.{length, length-append}
use borrow.Author.Tests.{ne_eqb}
use Rattle.coxeter.specs.declared.Kind.{Kind}
use Rattle.coxeter.specs.declared.Kind.TheVariants.{A, B, D}
use Rattle.coxeter.specs.Kinds.{pick}
use Rattle.coxeter.specs.Windows.{from, negate_first}
use Rattle.coxeter.specs.Length.{negative}
use Rattle.coxeter.specs.NormalForm.{rest_of}
use Rattle.coxeter.proofs.Peeling.{rest_of-rest_of, length-rest_of}
use Rattle.coxeter.proofs.PeelingByPlaces.{sign_changed}
use Rattle.coxeter.proofs.Sizes.{nat_abs-neg_ℤ}

-- ---- the last entry

-- what is left of the entries w, where an odd number of negative ones were taken out or not
abbrev pub last_changed : Kind → Bool → List ℤ → List ℤ
last_changed k odd w = pick odd (rest_of k (negsuc 0) w) w

from_beyond : (u : List ℤ) (p : ℕ) (f : List ℤ → List ℤ) (v : List ℤ) → from (length u + p) f (u ++ v) ≡ u ++ from p f v
unfolding from
from_beyond [] p f v = let e : 0 + p ≡ p = omega arith in rw e
from_beyond (x ∷ u) p f v =
    let e : suc (length u) + p ≡ suc (length u + p) = omega arith in
    rw e (ap (λ (l : List ℤ). x ∷ l) (from_beyond u p f v))

changed-append : (odd : Bool) (u v : List ℤ) → 0 < length v → last_changed D odd (u ++ v) ≡ u ++ last_changed D odd v
unfolding rest_of
changed-append true u v h =
    let e : length (u ++ v) - 1 ≡ length u + (length v - 1) = omega (arith, length-append u v) in
    rw e (from_beyond u (length v - 1) negate_first v)
changed-append false u v h = refl

changed-one : (odd : Bool) (e : ℤ) → last_changed D odd (e ∷ []) ≡ pick odd (neg_ℤ e) e ∷ []
unfolding rest_of from negate_first
changed-one true e = refl
changed-one false e = refl

-- an entry that is taken out changes the last sign again if it is negative
rest_of-changed : (e : ℤ) (odd : Bool) (w : List ℤ) → rest_of D e (last_changed D odd w) ≡ last_changed D (pick (negative e) (not odd) odd) w
unfolding rest_of negative
rest_of-changed (pos x) true w = refl
rest_of-changed (pos x) false w = refl
rest_of-changed (negsuc x) true w = rest_of-rest_of D (negsuc 0) w
rest_of-changed (negsuc x) false w = refl

negative-changed : (odd : Bool) (e : ℤ) → 1 ≤ nat_abs e → negative (pick odd (neg_ℤ e) e) ≡ pick odd (not (negative e)) (negative e)
unfolding negative
negative-changed true (pos zero) h = absurd (omega arith)
negative-changed true (pos (suc x)) h = refl
negative-changed true (negsuc x) h = refl
negative-changed false e h = refl

nat_abs-changed : (odd : Bool) (e : ℤ) → nat_abs (pick odd (neg_ℤ e) e) ≡ nat_abs e
nat_abs-changed true e = nat_abs-neg_ℤ e
nat_abs-changed false e = refl

length-changed : (k : Kind) (odd : Bool) (w : List ℤ) → length (last_changed k odd w) ≡ length w
length-changed k true w = length-rest_of k (negsuc 0) w
length-changed k false w = refl

-- ---- one level

-- the entry e of u ++ e ∷ v as it is left, and what taking it out leaves
pub record TakenOut (k : Kind) (odd : Bool) (u : List ℤ) (e : ℤ) (v : List ℤ) : Type 0 where
  pub entry : ℤ
  pub right : List ℤ
  pub whole : last_changed k odd (u ++ (e ∷ v)) ≡ u ++ (entry ∷ right)
  pub size : nat_abs entry ≡ nat_abs e
  pub count : length right ≡ length v
  pub sign : negative entry ≡ pick (sign_changed k (length v) odd) (not (negative e)) (negative e)
  pub rest : rest_of k entry (u ++ right) ≡ last_changed k (pick (negative e) (not odd) odd) (u ++ v)

plain : (k : Kind) (odd : Bool) (u : List ℤ) (e : ℤ) (v : List ℤ) → ((x : ℤ) (w : List ℤ) → rest_of k x w ≡ w) → sign_changed k (length v) odd ≡ false
    → TakenOut k odd u e v
plain k odd u e v f t =
    record {
      entry = e;
      right = v;
      whole = same odd (u ++ (e ∷ v));
      size = refl;
      count = refl;
      sign = rw t;
      rest = f e (u ++ v) ∙ sym (same (pick (negative e) (not odd) odd) (u ++ v));
    }
  where
    same : (t : Bool) (w : List ℤ) → last_changed k t w ≡ w
    same true w = f (negsuc 0) w
    same false w = refl

-- the last entry: what is left changes its sign exactly if the entry is negative as it is left
last_odd : (odd t : Bool) → pick (pick odd (not t) t) true false ≡ pick t (not odd) odd
last_odd true true = refl
last_odd true false = refl
last_odd false true = refl
last_odd false false = refl

last_sign : (odd t : Bool) → pick odd (not t) t ≡ pick (odd && true) (not t) t
last_sign true t = refl
last_sign false t = refl

other_sign : (odd t : Bool) → t ≡ pick (odd && false) (not t) t
other_sign true t = refl
other_sign false t = refl

pub taken : (k : Kind) (odd : Bool) (u : List ℤ) (e : ℤ) (v : List ℤ) → 1 ≤ nat_abs e → TakenOut k odd u e v
unfolding sign_changed rest_of
taken A odd u e v h = plain A odd u e v (λ x w. refl) refl
taken B odd u e v h = plain B odd u e v (λ x w. refl) refl
taken D odd u e [] h =
    let x : ℤ = pick odd (neg_ℤ e) e in
    record {
      entry = x;
      right = [];
      whole = changed-append odd u (e ∷ []) (omega arith) ∙ ap (λ (l : List ℤ). u ++ l) (changed-one odd e);
      size = nat_abs-changed odd e;
      count = refl;
      sign = negative-changed odd e h ∙ last_sign odd (negative e);
      rest =
          rest_of-changed x false (u ++ [])
          ∙ ap (λ (t : Bool). last_changed D (pick t true false) (u ++ [])) (negative-changed odd e h)
          ∙ ap (λ (t : Bool). last_changed D t (u ++ [])) (last_odd odd (negative e));
    }
taken D odd u e (y ∷ v) h =
    record {
      entry = e;
      right = last_changed D odd (y ∷ v);
      whole =
          changed-append odd u (e ∷ (y ∷ v)) (omega arith)
          ∙ ap (λ (l : List ℤ). u ++ l) (changed-append odd (e ∷ []) (y ∷ v) (omega arith));
      size = refl;
      count = length-changed D odd (y ∷ v);
      sign = rw (ne_eqb (suc (length v)) 0 (omega arith)) (other_sign odd (negative e));
      rest = ap (rest_of D e) (sym (changed-append odd u (y ∷ v) (omega arith))) ∙ rest_of-changed e odd (u ++ (y ∷ v));
    }
