-- Part-lists by their places: the letters at rising places inside a word are a part-list of it, and every part-list
-- is at such places. By recursion on the places and on the part-list.
--
-- Sections: from places to part-lists; from part-lists to places; fallbacks; the test; places one by one.
-- Assumes nothing.
use mathlib.Core.Path.{◌≡◌, refl, ap, ◌∙◌}
use mathlib.Core.Bool.{Bool, true, false, ◌||◌, or-true}
use mathlib.Core.Logic.{◌⊎◌, inl, inr, ⊎_elim, ◌↔◌}
use mathlib.Core.List.{List, [], ◌∷◌, map}
use Prim.Native.Nat.{ℕ, zero, suc, ◌+◌, ◌-◌, ◌≤◌, ◌<◌}
use native.Mathlib.Omega.{arith}
use lib.IntN.{ℤ}
use lib.ListN.{length, get_or, drop}
use lib.Seq.{drop-cons, drop-drop}
use Rattle.coxeter.specs.declared.Kind.{Kind}
use Rattle.coxeter.specs.Kinds.{lanes}
use Rattle.coxeter.specs.Windows.{act, window_from, identity, window}
use Rattle.coxeter.proofs.Order.{same_window_true, same_window_of_eq}
use Rattle.shortest_words.specs.Fallback.{Rising, subword_at, HasSubword, some_subword}
use Rattle.shortest_words.proofs.Subwords.{Subword, none, keep, leave}

-- ---- from places to part-lists

pub subword_nothing : (u : List ℕ) → Subword u []
subword_nothing [] = none
subword_nothing (a ∷ u) = leave (subword_nothing u)

subword_past : (d : ℕ) (u : List ℕ) {v : List ℕ} → Subword (drop d u) v → Subword u v
subword_past zero u p = p
subword_past (suc d) [] p = p
subword_past (suc d) (a ∷ u) p = leave (subword_past d u p)

-- the letters at rising places from `low` on
letters_subword : (u : List ℕ) (low : ℕ) (ps : List ℕ) → Rising (length u) low ps → Subword (drop low u) (subword_at u ps)
unfolding subword_at
letters_subword u low [] h = subword_nothing (drop low u)
letters_subword u low (p ∷ ps) (l, g, h) =
    let e : low + (p - low) ≡ p = omega arith in
    subword_past (p - low) (drop low u) (rw (drop-drop, e, drop-cons u p 0 g) (keep (letters_subword u (suc p) ps h)))

-- ---- from part-lists to places

rising_suc : (m low : ℕ) (ps : List ℕ) → Rising m low ps → Rising (suc m) (suc low) (map suc ps)
rising_suc m low [] h = tt
rising_suc m low (p ∷ ps) (l, g, h) = (omega arith, omega arith, rising_suc m (suc p) ps h)

pub rising_from : (m low start : ℕ) (ps : List ℕ) → start ≤ low → Rising m low ps → Rising m start ps
rising_from m low start [] l h = tt
rising_from m low start (p ∷ ps) l (o, g, h) = (omega arith, g, h)

letters-suc : (a : ℕ) (u ps : List ℕ) → subword_at (a ∷ u) (map suc ps) ≡ subword_at u ps
unfolding subword_at
letters-suc a u [] = refl
letters-suc a u (p ∷ ps) = ap (λ (l : List ℕ). get_or u p 0 ∷ l) (letters-suc a u ps)

subword_at_is_subword : {u v : List ℕ} → Subword u v → (ps : List ℕ) × Rising (length u) 0 ps × (subword_at u ps ≡ v)
unfolding subword_at
subword_at_is_subword none = ([], tt, refl)
subword_at_is_subword (keep {a} {u} p) =
    let (ps, h, e) = subword_at_is_subword p in
    (0 ∷ map suc ps, (omega arith, omega arith, rising_suc (length u) 0 ps h), ap (λ (l : List ℕ). a ∷ l) (letters-suc a u ps ∙ e))
subword_at_is_subword (leave {a} {u} p) =
    let (ps, h, e) = subword_at_is_subword p in
    (map suc ps, rising_from (suc (length u)) 1 0 (map suc ps) (omega arith) (rising_suc (length u) 0 ps h), letters-suc a u ps ∙ e)

-- ---- fallbacks

-- a part-list of u with the window w
pub record SubwordWith (k : Kind) (n : ℕ) (u : List ℕ) (w : List ℤ) : Type 0 where
  pub word : List ℕ
  pub subword : Subword u word
  pub shows : window k n word ≡ w

pub subword_of_fallback : (k : Kind) (n : ℕ) (u : List ℕ) (w : List ℤ) → HasSubword k n u w → SubwordWith k n u w
subword_of_fallback k n u w (ps, s) = record { word = subword_at u ps; subword = letters_subword u 0 ps s.rising; shows = s.shows }

pub fallback_of_subword : (k : Kind) (n : ℕ) (u v : List ℕ) (w : List ℤ) → Subword u v → window k n v ≡ w → HasSubword k n u w
fallback_of_subword k n u v w p e =
    let (ps, h, q) = subword_at_is_subword p in
    (ps, record { rising = h; shows = ap (window k n) q ∙ e })

-- ---- the test

some_of_subword : (k : Kind) (n : ℕ) (v w : List ℤ) {u x : List ℕ} → Subword u x → window_from k n v x ≡ w → some_subword k n v u w ≡ true
unfolding some_subword window_from
some_of_subword k n v w none e = same_window_of_eq v w e
some_of_subword k n v w (keep {a} p) e = rw (some_of_subword k n (act k n a v) w p e)
some_of_subword k n v w (leave {a} {u} p) e = rw (some_of_subword k n v w p e) (or-true (some_subword k n (act k n a v) u w))

either : (s t : Bool) → (s || t) ≡ true → (s ≡ true) ⊎ (t ≡ true)
either true t e = inl refl
either false t e = inr e

-- a part-list of u that leads from v to w
record SubwordFrom (k : Kind) (n : ℕ) (v : List ℤ) (u : List ℕ) (w : List ℤ) : Type 0 where
  word : List ℕ
  subword : Subword u word
  leads : window_from k n v word ≡ w

subword_of_some : (k : Kind) (n : ℕ) (v : List ℤ) (u : List ℕ) (w : List ℤ) → some_subword k n v u w ≡ true → SubwordFrom k n v u w
unfolding some_subword window_from
subword_of_some k n v [] w t = record { word = []; subword = none; leads = same_window_true v w t }
subword_of_some k n v (s ∷ u) w t =
    ⊎_elim
    (λ h. let p = subword_of_some k n (act k n s v) u w h in record { word = s ∷ p.word; subword = keep p.subword; leads = p.leads })
    (λ h. let p = subword_of_some k n v u w h in record { word = p.word; subword = leave p.subword; leads = p.leads })
    (either (some_subword k n (act k n s v) u w) (some_subword k n v u w) t)

-- the test is yes exactly when some part-list has the window
pub some_subword_exactly : (k : Kind) (n : ℕ) (u : List ℕ) (w : List ℤ) → (some_subword k n (identity (lanes k n)) u w ≡ true) ↔ HasSubword k n u w
unfolding window
some_subword_exactly k n u w = (
  λ t. let p = subword_of_some k n (identity (lanes k n)) u w t in fallback_of_subword k n u p.word w p.subword p.leads,
  λ f. let p = subword_of_fallback k n u w f in some_of_subword k n (identity (lanes k n)) w p.subword p.shows,
)

-- ---- places one by one

-- rising places one by one: each is inside, from `low` on, and below every later one
pub rising_bounds : (m low : ℕ) (ps : List ℕ) → Rising m low ps → (i : ℕ) → i < length ps → (low ≤ get_or ps i 0) × (get_or ps i 0 < m)
rising_bounds m low [] r i h = absurd (omega arith)
rising_bounds m low (p ∷ ps) r zero h = (r.0, r.1)
rising_bounds m low (p ∷ ps) r (suc i) h = let q = rising_bounds m (suc p) ps r.2 i (omega arith) in (omega (arith, r.0), q.1)

pub rising_apart : (m low : ℕ) (ps : List ℕ) → Rising m low ps → (i j : ℕ) → i < j → j < length ps → get_or ps i 0 < get_or ps j 0
rising_apart m low [] r i j l h = absurd (omega arith)
rising_apart m low (p ∷ ps) r i zero l h = absurd (omega arith)
rising_apart m low (p ∷ ps) r zero (suc j) l h = let q = rising_bounds m (suc p) ps r.2 j (omega arith) in omega (arith, q.0)
rising_apart m low (p ∷ ps) r (suc i) (suc j) l h = rising_apart m (suc p) ps r.2 i j (omega arith) (omega arith)

pub rising_of : (m low : ℕ) (ps : List ℕ) → ((i : ℕ) → i < length ps → (low ≤ get_or ps i 0) × (get_or ps i 0 < m))
    → ((i j : ℕ) → i < j → j < length ps → get_or ps i 0 < get_or ps j 0) → Rising m low ps
rising_of m low [] f g = tt
rising_of m low (p ∷ ps) f g =
    let a = f 0 (omega arith) in (
      a.0,
      a.1,
      rising_of m (suc p) ps (λ i h. (let q = g 0 (suc i) (omega arith) (omega arith) in omega (arith, q), (f (suc i) (omega arith)).1))
          (λ i j l h. g (suc i) (suc j) (omega arith) (omega arith)),
    )
