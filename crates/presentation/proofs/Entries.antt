-- An entry of a list and the other entries: what stands before it and behind it.
-- Assumes nothing.
use mathlib.Core.Path.{◌≡◌, refl, sym, ap}
use mathlib.Core.Logic.{◌⊎◌, inl, inr, ⊎_elim}
use mathlib.Core.List.Memᴰ
use mathlib.Core.List.{List, [], ◌∷◌, ◌++◌}
use Rattle.distribution.specs.AllWindows.{In, Once}

module _ {X : Type 0} where
  -- what is in a list is one of its entries
  pub entry_of : {x : X} {l : List X} → In x l → (front rest : List X) × (l ≡ front ++ (x ∷ rest))
  entry_of {l = []} m = elim m [ ]
  entry_of {l = y ∷ l} (Memᴰ.head e) = ([], l, ap (λ (z : X). z ∷ l) (sym e))
  entry_of {l = y ∷ l} (Memᴰ.tail m) = let (front, rest, e) = entry_of m in (y ∷ front, rest, ap (λ (t : List X). y ∷ t) e)

  pub in_entry : (front : List X) (x : X) (rest : List X) → In x (front ++ (x ∷ rest))
  in_entry front x rest = Memᴰ.append_right front (Memᴰ.head refl)

  -- the others are in the list
  pub of_others : (front : List X) (x y : X) (rest : List X) → In y (front ++ rest) → In y (front ++ (x ∷ rest))
  of_others front x y rest m =
      ⊎_elim (Memᴰ.append_left (x ∷ rest)) (λ s. Memᴰ.append_right front (Memᴰ.tail s)) (Memᴰ.append_cases front m)

  -- what is in the list is the entry or one of the others
  pub or_others : (front : List X) (x y : X) (rest : List X) → In y (front ++ (x ∷ rest)) → (y ≡ x) ⊎ In y (front ++ rest)
  or_others front x y rest m =
      ⊎_elim
      (λ s. inr (Memᴰ.append_left rest s))
      (λ s. ⊎_elim (λ e. inl e) (λ t. inr (Memᴰ.append_right front t)) (Memᴰ.cases_cons s))
      (Memᴰ.append_cases front m)

  -- if nothing stands twice, the entry is none of the others
  pub once_others : (front : List X) (x : X) (rest : List X) → Once (front ++ (x ∷ rest)) → In x (front ++ rest) → ⊥
  once_others [] x rest o m = o.0 m
  once_others (y ∷ front) x rest o m =
      ⊎_elim (λ e. o.0 (Memᴰ.cast (sym e) (in_entry front x rest))) (once_others front x rest o.1) (Memᴰ.cases_cons m)

  -- and if that is so of every entry, nothing stands twice
  pub once_of_others : (l : List X) → ((front : List X) (x : X) (rest : List X) → l ≡ front ++ (x ∷ rest) → In x (front ++ rest) → ⊥) → Once l
  once_of_others [] f = tt
  once_of_others (y ∷ l) f = (
    f [] y l refl,
    once_of_others l (λ front x rest e m. f (y ∷ front) x rest (ap (λ (t : List X). y ∷ t) e) (Memᴰ.tail m)),
  )
