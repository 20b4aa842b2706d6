-- Lists in which none stands twice: what is in a list that was kept, mapped or made of parts, and that such a list
-- is no longer than one that holds all of its elements.
-- Sections: lengths; kept; mapped; joined; each before each; runs of numbers.
-- Assumes nothing.
use mathlib.Core.Path.{◌≡◌, refl, sym, ap, ◌∙◌}
use mathlib.Core.Bool.{Bool, true, false}
use mathlib.Core.Logic.{⊎_elim}
use mathlib.Core.List.Memᴰ
use mathlib.Core.List.{List, [], ◌∷◌, ◌++◌, map}
use Prim.Native.Nat.{ℕ, zero, suc, ◌+◌, ◌*◌, ◌≤◌, ◌<◌}
use native.Mathlib.Nat.{suc-mul, zero-mul, eq-or-lt_of_le}
use native.Mathlib.Omega.{arith}
use lib.ListN.{length, length-map, length-append}
use Rattle.coxeter.specs.Kinds.{pick, up}
use Rattle.distribution.specs.AllWindows.{In, Once, keep, cons_all, lists}

-- ---- lengths

-- the list without this place
dropped : {X : Type 0} {x : X} {l : List X} → In x l → List X
dropped {l = []} m = elim m [ ]
dropped {l = y ∷ l} (Memᴰ.head e) = l
dropped {l = y ∷ l} (Memᴰ.tail m) = y ∷ dropped m

length_dropped : {X : Type 0} {x : X} {l : List X} (m : In x l) → length l ≡ suc (length (dropped m))
unfolding dropped
length_dropped (Memᴰ.head e) = refl
length_dropped (Memᴰ.tail m) = ap suc (length_dropped m)

in_dropped : {X : Type 0} {x z : X} {l : List X} (m : In x l) → (z ≡ x → ⊥) → In z l → In z (dropped m)
unfolding dropped
in_dropped (Memᴰ.head e) f (Memᴰ.head q) = absurd (f (q ∙ sym e))
in_dropped (Memᴰ.head e) f (Memᴰ.tail i) = i
in_dropped (Memᴰ.tail m) f (Memᴰ.head q) = Memᴰ.head q
in_dropped (Memᴰ.tail m) f (Memᴰ.tail i) = Memᴰ.tail (in_dropped m f i)

-- a list without repetitions is no longer than a list that holds all of it
pub length_le_of_in : {X : Type 0} (xs ys : List X) → Once xs → ((x : X) → In x xs → In x ys) → length xs ≤ length ys
length_le_of_in [] ys o f = omega arith
length_le_of_in (x ∷ xs) ys o f =
    let m = f x (Memᴰ.head refl) in
    let rest = length_le_of_in xs (dropped m) o.1 (λ z i. in_dropped m (λ e. o.0 (Memᴰ.cast (sym e) i)) (f z (Memᴰ.tail i))) in
    omega (arith, length_dropped m)

-- ---- kept

keep_yes : {X : Type 0} (t : X → Bool) (x : X) (l : List X) → t x ≡ true → keep t (x ∷ l) ≡ x ∷ keep t l
unfolding keep
keep_yes t x l e = rw e

keep_no : {X : Type 0} (t : X → Bool) (x : X) (l : List X) → t x ≡ false → keep t (x ∷ l) ≡ keep t l
unfolding keep
keep_no t x l e = rw e

pub in_keep : {X : Type 0} (t : X → Bool) (x : X) (l : List X) → t x ≡ true → In x l → In x (keep t l)
unfolding keep
in_keep t x [] h m = elim m [ ]
in_keep t x (y ∷ l) h (Memᴰ.head e) = rw (ap t (sym e) ∙ h) (Memᴰ.head e)
in_keep t x (y ∷ l) h (Memᴰ.tail m) = in_keep_by_cases (t y) (in_keep t x l h m)
  where
    in_keep_by_cases : (b : Bool) → In x (keep t l) → In x (pick b (y ∷ keep t l) (keep t l))
    in_keep_by_cases true i = Memᴰ.tail i
    in_keep_by_cases false i = i

pub of_keep : {X : Type 0} (t : X → Bool) (x : X) (l : List X) → In x (keep t l) → In x l × (t x ≡ true)
of_keep t x [] m = unfold keep in elim m [ ]
of_keep t x (y ∷ l) m = of_keep_by_cases (t y) refl (of_keep t x l)
  where
    next : In x l × (t x ≡ true) → In x (y ∷ l) × (t x ≡ true)
    next h = (Memᴰ.tail h.0, h.1)

    of_keep_by_cases : (b : Bool) → t y ≡ b → (In x (keep t l) → In x l × (t x ≡ true)) → In x (y ∷ l) × (t x ≡ true)
    of_keep_by_cases true e ih = ⊎_elim (λ q. (Memᴰ.head q, ap t q ∙ e)) (λ i. next (ih i)) (Memᴰ.cases_cons (rw (keep_yes t y l e) at m))
    of_keep_by_cases false e ih = next (ih (rw (keep_no t y l e) at m))

pub once_keep : {X : Type 0} (t : X → Bool) (l : List X) → Once l → Once (keep t l)
unfolding keep
once_keep t [] o = tt
once_keep t (x ∷ l) o = once_keep_by_cases (t x) (once_keep t l o.1)
  where
    once_keep_by_cases : (b : Bool) → Once (keep t l) → Once (pick b (x ∷ keep t l) (keep t l))
    once_keep_by_cases true r = (λ m. o.0 (of_keep t x l m).0, r)
    once_keep_by_cases false r = r

-- ---- mapped

pub once_map : {X Y : Type 0} (f : X → Y) (l : List X) → ((x y : X) → In x l → In y l → f x ≡ f y → x ≡ y) → Once l → Once (map f l)
once_map f [] h o = tt
once_map f (x ∷ l) h o = (
  λ m.
      let p = Memᴰ.of_map f l m in
      o.0 (Memᴰ.cast (h x p.0 (Memᴰ.head refl) (Memᴰ.tail p.1) (sym p.2)) p.1),
  once_map f l (λ y z i j. h y z (Memᴰ.tail i) (Memᴰ.tail j)) o.1,
)

-- a list without repetitions is no longer than one that holds a different image of each of its elements
pub length_le_of_map : {X Y : Type 0} (f : X → Y) (xs : List X) (ys : List Y) → Once xs → ((x y : X) → In x xs → In y xs → f x ≡ f y → x ≡ y)
    → ((x : X) → In x xs → In (f x) ys) → length xs ≤ length ys
length_le_of_map f xs ys o h g =
    let l =
    length_le_of_in (map f xs) ys (once_map f xs h o) (λ y m. let p = Memᴰ.of_map f xs m in Memᴰ.cast (sym p.2) (g p.0 p.1)) in
    omega (arith, length-map xs f)

-- ---- joined

pub once_append : {X : Type 0} (a b : List X) → Once a → Once b → ((x : X) → In x a → In x b → ⊥) → Once (a ++ b)
once_append [] b p q h = q
once_append (x ∷ a) b p q h = (
  λ m. ⊎_elim (λ i. p.0 i) (λ i. h x (Memᴰ.head refl) i) (Memᴰ.append_cases a m),
  once_append a b p.1 q (λ y i. h y (Memᴰ.tail i)),
)

-- ---- each before each

pub in_cons_all : {X : Type 0} (x : X) (l : List X) (xs : List X) (ls : List (List X)) → In x xs → In l ls → In (x ∷ l) (cons_all xs ls)
unfolding cons_all
in_cons_all x l [] ls i m = elim i [ ]
in_cons_all x l (y ∷ xs) ls (Memᴰ.head e) m = Memᴰ.append_left (cons_all xs ls) (Memᴰ.cast (ap (λ z. z ∷ l) e) (Memᴰ.map (λ w. y ∷ w) m))
in_cons_all x l (y ∷ xs) ls (Memᴰ.tail i) m = Memᴰ.append_right (map (λ w. y ∷ w) ls) (in_cons_all x l xs ls i m)

-- a list that begins with one of xs and goes on with one of ls
pub record FirstAndRest {X : Type 0} (w : List X) (xs : List X) (ls : List (List X)) : Type 0 where
  pub first : X
  pub rest : List X
  pub whole : first ∷ rest ≡ w
  pub first_in : In first xs
  pub rest_in : In rest ls

pub of_cons_all : {X : Type 0} (w : List X) (xs : List X) (ls : List (List X)) → In w (cons_all xs ls) → FirstAndRest w xs ls
unfolding cons_all
of_cons_all w [] ls m = elim m [ ]
of_cons_all w (y ∷ xs) ls m = ⊎_elim here (λ i. later (of_cons_all w xs ls i)) (Memᴰ.append_cases (map (λ l. y ∷ l) ls) m)
  where
    here : In w (map (λ l. y ∷ l) ls) → FirstAndRest w (y ∷ xs) ls
    here i =
        let p = Memᴰ.of_map (λ l. y ∷ l) ls i in
        record { first = y; rest = p.0; whole = p.2; first_in = Memᴰ.head refl; rest_in = p.1 }

    later : FirstAndRest w xs ls → FirstAndRest w (y ∷ xs) ls
    later b = record { first = b.first; rest = b.rest; whole = b.whole; first_in = Memᴰ.tail b.first_in; rest_in = b.rest_in }

pub once_cons_all : {X : Type 0} (xs : List X) (ls : List (List X)) → Once xs → Once ls → Once (cons_all xs ls)
unfolding cons_all
once_cons_all [] ls p q = tt
once_cons_all {X} (x ∷ xs) ls p q =
    once_append (map (λ l. x ∷ l) ls) (cons_all xs ls) (once_map (λ l. x ∷ l) ls (λ a b i j e. cc) q) (once_cons_all xs ls p.1 q)
    (λ w i j. let m = Memᴰ.of_map (λ l. x ∷ l) ls i in apart w m.0 m.2 (of_cons_all w xs ls j))
  where
    apart : (w l : List X) → x ∷ l ≡ w → FirstAndRest w xs ls → ⊥
    apart w l e b = let s : x ≡ b.first = cc b.whole in p.0 (Memᴰ.cast s b.first_in)

pub length-cons_all : {X : Type 0} (xs : List X) (ls : List (List X)) → length (cons_all xs ls) ≡ length xs * length ls
unfolding cons_all
length-cons_all [] ls = sym (zero-mul (length ls))
length-cons_all (x ∷ xs) ls =
    omega (arith, length-append (map (λ l. x ∷ l) ls) (cons_all xs ls), length-map ls (λ l. x ∷ l), length-cons_all xs ls, suc-mul (length xs) (length ls))

pub once_lists : {X : Type 0} (m : ℕ) (xs : List X) → Once xs → Once (lists m xs)
unfolding lists
once_lists zero xs o = (λ i. elim i [ ], tt)
once_lists (suc m) xs o = once_cons_all xs (lists m xs) o (once_lists m xs o)

-- ---- runs of numbers

pub in_up : (s i c : ℕ) → i ≤ s → s < i + c → In s (up i c)
unfolding up
in_up s i zero h g = absurd (omega arith)
in_up s i (suc c) h g =
    ⊎_elim (λ e. Memᴰ.head (sym e)) (λ l. Memᴰ.tail (in_up s (suc i) c l (omega arith))) (eq-or-lt_of_le h)

pub of_up : (s i c : ℕ) → In s (up i c) → (i ≤ s) × (s < i + c)
unfolding up
of_up s i zero m = elim m [ ]
of_up s i (suc c) m =
    ⊎_elim (λ e. (omega arith, omega arith)) (λ l. let r = of_up s (suc i) c l in (omega arith, omega arith)) (Memᴰ.cases_cons m)

pub once_up : (i c : ℕ) → Once (up i c)
unfolding up
once_up i zero = tt
once_up i (suc c) = (λ m. let r = of_up i (suc i) c m in absurd (omega arith), once_up (suc i) c)
