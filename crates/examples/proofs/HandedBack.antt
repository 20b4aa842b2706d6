-- What a call may not hand back: another part than the lent word itself, and places that do not rise. The contracts of
-- these calls are relations and no values of a definition, so that no row of the table of wrong routers shows it.
-- Assumes nothing.
use mathlib.Core.Path.{◌≡◌, refl, sym, ap, ◌∙◌}
use mathlib.Core.Bool.{Bool, true, false}
use mathlib.Core.List.{List, ◌∷◌}
use Prim.Native.Nat.{ℕ, ◌≤◌}
use native.Mathlib.Omega.{arith}
use denote.Ref.{Bor}
use Rattle.shortest_words.specs.answers.Fallback as fallbacks
use Rattle.coxeter.specs.Kinds.{pick}
use Rattle.coxeter.specs.Calls.{Better}
use Rattle.shortest_words.specs.Calls.{kept_count, FellBack}

-- ---- parts handed back

-- the better of two words is the lent word itself: not the other, not a copy elsewhere
pub second_for_the_first_ruled_out : (u v : Bor (List ℕ)) → (u ≡ v → ⊥) → Better true false u v v → ⊥
second_for_the_first_ruled_out u v f b = f (sym (b.whole refl))

pub copy_ruled_out : (second : Bool) (u v r : Bor (List ℕ)) → (r.ref_ptr ≡ (pick second v u).ref_ptr → ⊥) → Better true second u v r → ⊥
copy_ruled_out second u v r f b = f (ap (λ x. x.ref_ptr) (b.whole refl))

-- where neither is handed back it is no part of the second word
pub part_of_the_second_ruled_out : (second : Bool) (u v r : Bor (List ℕ)) → (u.ref_ptr ≡ v.ref_ptr → ⊥) → r.ref_ptr ≡ v.ref_ptr → Better false second u v r → ⊥
part_of_the_second_ruled_out second u v r f e b = f (sym (b.empty refl).1 ∙ e)

-- ---- places kept

module _ (k n : ℕ) (present simpler places : List ℕ) where
  -- the places kept rise
  pub falling_places_ruled_out : (p q : ℕ) (rest : List ℕ) → q ≤ p → FellBack k n present simpler places (fallbacks.Kept 2) (p ∷ q ∷ rest) → ⊥
  falling_places_ruled_out p q rest l h = let r = (h.kept 2 refl).subword.rising.2.0 in omega arith

  -- F5
  pub no_that_writes_ruled_out : (after : List ℕ) → (after ≡ places → ⊥) → FellBack k n present simpler places fallbacks.No after → ⊥
  unfolding kept_count
  no_that_writes_ruled_out after f h = f h.others
