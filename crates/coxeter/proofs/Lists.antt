-- Lists that code writes: parts, elements stored one by one, runs of stores. Laws that the kit's `lib.Seq` does not
-- have, over no definition of this crate.
-- Assumes nothing.
use mathlib.Core.Path.{◌≡◌, refl, sym, ap, ◌∙◌}
use mathlib.Core.List.{List, [], ◌∷◌, ◌++◌, append_assoc, append-nil}
use Prim.Native.Nat.{ℕ, zero, suc, ◌+◌, ◌-◌, ◌≤◌, ◌<◌}
use native.Mathlib.Nat.{le_refl, le_of_eq, add-suc, suc-add, add-zero}
use native.Mathlib.Numerals.{add-one}
use native.Mathlib.Omega.{arith}
use lib.ListN.{length, get_or, take, drop, length-drop, drop_of_length-le, length-append, set, length-set}
use lib.Seq.{drop-cons, drop-drop, get_or-append-add, take_all, take-suc, take-suc-set, sets, sets-eq}

-- the part of a list from a place to its end, as a slice's part is read
pub take_rest {ℓ} : {X : Type ℓ} (a : ℕ) (l : List X) → take (length l - a) (drop a l) ≡ drop a l
take_rest a l = take_all (length l - a) (drop a l) (le_of_eq (length-drop a l))

pub drop_next {ℓ} : {X : Type ℓ} (l : List X) (i : ℕ) (d : X) → i < length l → drop i l ≡ get_or l i d ∷ drop (i + 1) l
drop_next l i d h = drop-cons l i d h ∙ ap (λ (j : ℕ). get_or l i d ∷ drop j l) (sym (add-one i))

pub get_d_take {ℓ} : {X : Type ℓ} (j i : ℕ) (l : List X) (d : X) → i < j → get_or (take j l) i d ≡ get_or l i d
get_d_take zero i l d h = absurd (omega arith)
get_d_take (suc j) i [] d h = refl
get_d_take (suc j) zero (x ∷ l) d h = refl
get_d_take (suc j) (suc i) (x ∷ l) d h = get_d_take j i l d (omega arith)

-- behind the first c elements
pub get_or-joined : (c : ℕ) (u v : List ℕ) (p : ℕ) → length u ≡ c → get_or (u ++ v) (c + p) 0 ≡ get_or v p 0
get_or-joined c u v p e = rw (← e) (get_or-append-add u v p 0)

-- ---- lists written element by element

pub written_next : {X : Type 0} (i : ℕ) (x d : X) (l out : List X) → i < length l → i < length out → x ≡ get_or l i d → take i out ≡ take i l
    → take (i + 1) (set out i x) ≡ take (i + 1) l
written_next i x d l out h g e q = rw (add-one, take-suc-set out i x g, take-suc l i d h, e, q)

-- ---- runs of stores

pub sets-append : (o : List ℕ) (r : ℕ) (u v : List ℕ) → sets (sets o r u) (r + length u) v ≡ sets o r (u ++ v)
sets-append o r [] v = rw add-zero
sets-append o r (x ∷ u) v = rw (add-suc, ← suc-add) (sets-append (set o r x) (suc r) u v)

-- `out` and r are the list and the place after u was stored in o from `at` on
abbrev pub Stored : List ℕ → ℕ → List ℕ → List ℕ → ℕ → Type 0
Stored o at u out r = (r ≡ at + length u) × (out ≡ sets o at u)

pub stored_append : (o : List ℕ) (at : ℕ) (u : List ℕ) {out : List ℕ} {r : ℕ} (v : List ℕ) {out' : List ℕ} {r' : ℕ}
    → Stored o at u out r → Stored out r v out' r' → Stored o at (u ++ v) out' r'
stored_append o at u {r = r} v h g = (
  omega (arith, h.0, g.0, length-append u v),
  g.1 ∙ ap (λ (l : List ℕ). sets l r v) h.1 ∙ ap (λ (s : ℕ). sets (sets o at u) s v) h.0
      ∙ sets-append o at u v,
)

-- room for u and v is room for u, and for v after it
pub room_left : (at : ℕ) (u v : List ℕ) (m : ℕ) → at + length (u ++ v) ≤ m → at + length u ≤ m
room_left at u v m h = omega (arith, length-append u v)

pub room_right : (at : ℕ) (u v : List ℕ) (m r m' : ℕ) → at + length (u ++ v) ≤ m → r ≡ at + length u → m' ≡ m → r + length v ≤ m'
room_right at u v m r m' h e q = omega (arith, length-append u v)

-- u stored in o from `at` on is v stored in `out` from r on: what is left of a run of stores
pub record Storing (o : List ℕ) (at : ℕ) (u out : List ℕ) (r : ℕ) (v : List ℕ) : Type 0 where
  pub size : length out ≡ length o
  pub place : r + length v ≡ at + length u
  pub same : sets o at u ≡ sets out r v

pub storing_all : {o : List ℕ} {at : ℕ} {u : List ℕ} → Storing o at u o at u
storing_all = record { size = refl; place = refl; same = refl }

module _ {o : List ℕ} {at : ℕ} {u out : List ℕ} {r : ℕ} where
  pub storing_next : {x : ℕ} {v : List ℕ} → Storing o at u out r (x ∷ v) → Storing o at u (set out r x) (r + 1) v
  storing_next {x} h = record { size = length-set out r x ∙ h.size; place = omega arith; same = rw add-one h.same }

  pub storing_room : {x : ℕ} {v : List ℕ} → at + length u ≤ length o → Storing o at u out r (x ∷ v) → r < length out
  storing_room l h = omega arith

  pub stored_of_storing : Storing o at u out r [] → Stored o at u out r
  stored_of_storing h = (omega arith, sym h.same)

-- the next run, at the place where the last one ended
pub sets_next : (l : List ℕ) (i j : ℕ) (u v : List ℕ) → j ≡ i + length u → sets (sets l i u) j v ≡ sets l i (u ++ v)
sets_next l i j u v e = rw e (sets-append l i u v)

-- ---- copying a slice

-- `bytes` is the rest of l from p on after u was copied to its front
pub sets_copied : (l u bytes : List ℕ) (p : ℕ) → p + length u ≤ length l
    → bytes ≡ take (length u) u ++ drop (length u) (take (length l - p) (drop p l))
    → take p l ++ (bytes ++ drop (length l - p) (drop p l)) ≡ sets l p u
sets_copied l u bytes p h e =
    let rest : length (drop p l) ≤ length l - p = rw length-drop (omega arith) in
    rw (e, take_all (length u) u (le_refl (length u)), take_rest p l, drop-drop (length u) p l, drop_of_length-le (drop p l) rest, append-nil)
    (sym (sets-eq u l p h ∙ append_assoc (take p l) u (drop (p + length u) l)))
