-- The list of windows holds each window that passes checks 9 to 11, none twice and nothing else: an accepted window
-- is a list of entries with sizes from 1 to the lane count, so that it is among all the lists from which the
-- accepted ones are kept.
-- Assumes nothing.
use mathlib.Core.Path.{◌≡◌, refl, subst}
use mathlib.Core.Logic.{◌↔◌}
use mathlib.Core.List.Memᴰ
use mathlib.Core.List.{List, [], ◌∷◌, map}
use Prim.Native.Nat.{ℕ, zero, suc, ◌+◌, ◌≤◌, ◌<◌}
use native.Mathlib.Nat.{suc_inj}
use native.Mathlib.Omega.{arith}
use borrow.Author.Tests.{eqb-true, eq-eqb}
use lib.Dec.{eqb}
use lib.IntN.{ℤ, pos, negsuc, nat_abs}
use lib.ListN.{length}
use Rattle.coxeter.specs.declared.Kind.{Kind}
use Rattle.coxeter.specs.Kinds.{lanes, up}
use Rattle.coxeter.specs.Checks.{window_refusal, WindowOf}
use Rattle.coxeter.proofs.Levels.{Between, accepted_of_refusal}
use Rattle.coxeter.proofs.TestLaws.{impossible}
use Rattle.distribution.specs.AllWindows.{In, Once, lists, possible_entries, windows}
use Rattle.distribution.proofs.Members.{in_keep, of_keep, once_keep, once_map, once_append, in_cons_all, once_lists, in_up, once_up}

in_possible_entries : (e : ℤ) (m : ℕ) → 1 ≤ nat_abs e → nat_abs e < 1 + m → In e (possible_entries m)
unfolding possible_entries
in_possible_entries (pos s) m h g = Memᴰ.append_left (map negsuc (up 0 m)) (Memᴰ.map pos (in_up s 1 m h g))
in_possible_entries (negsuc s) m h g = Memᴰ.append_right (map pos (up 1 m)) (Memᴰ.map negsuc (in_up s 0 m (omega arith) (omega arith)))

once_possible_entries : (m : ℕ) → Once (possible_entries m)
unfolding possible_entries
once_possible_entries m =
    once_append (map pos (up 1 m)) (map negsuc (up 0 m))
    (once_map pos (up 1 m) (λ a b i j e. cc) (once_up 1 m))
    (once_map negsuc (up 0 m) (λ a b i j e. cc) (once_up 0 m))
    (λ x i j. apart (Memᴰ.of_map pos (up 1 m) i).2 (Memᴰ.of_map negsuc (up 0 m) j).2)
  where
    apart : {x : ℤ} {a b : ℕ} → pos a ≡ x → negsuc b ≡ x → ⊥
    apart p q = impossible (cc)

in_lists : (m c : ℕ) (w : List ℤ) → length w ≡ c → Between 1 (1 + m) w → In w (lists c (possible_entries m))
unfolding lists
in_lists m zero [] e b = Memᴰ.head refl
in_lists m zero (x ∷ w) e b = absurd (omega arith)
in_lists m (suc c) [] e b = absurd (omega arith)
in_lists m (suc c) (x ∷ w) e b =
    in_cons_all x w (possible_entries m) (lists c (possible_entries m)) (in_possible_entries x m b.0 b.1) (in_lists m c w (suc_inj e) b.2)

module _ (k : Kind) (n : ℕ) where
  in_windows : (w : List ℤ) → WindowOf k n w → In w (windows k n)
  unfolding windows
  in_windows w h =
      let a = accepted_of_refusal k n w h in
      let b : Between 1 (1 + lanes k n) w = subst (λ (c : ℕ). Between 1 (1 + c) w) a.size a.level.between in
      in_keep (λ v. eqb (window_refusal k n v) 0) w (lists (lanes k n) (possible_entries (lanes k n))) (eq-eqb (window_refusal k n w) 0 h)
      (in_lists (lanes k n) (lanes k n) w a.size b)

  of_windows : (w : List ℤ) → In w (windows k n) → WindowOf k n w
  unfolding windows
  of_windows w m =
      eqb-true (window_refusal k n w) 0 (of_keep (λ v. eqb (window_refusal k n v) 0) w (lists (lanes k n) (possible_entries (lanes k n))) m).1

  -- every window that passes checks 9 to 11 is in the list, and nothing else is
  pub windows_exactly : (w : List ℤ) → In w (windows k n) ↔ WindowOf k n w
  windows_exactly w = (of_windows w, in_windows w)

  -- none is in it twice
  pub windows_once : Once (windows k n)
  unfolding windows
  windows_once = once_keep _ (lists (lanes k n) (possible_entries (lanes k n)))
      (once_lists (lanes k n) (possible_entries (lanes k n)) (once_possible_entries (lanes k n)))
