-- The windows of a kind and a rank are the lists of indices, one j for each level, and the length of a window is
-- the sum of its blocks' lengths. So the windows of a length are as many as the lists of indices with that sum.
-- Sections: all lists of indices; as many.
-- Assumes nothing.
use mathlib.Core.Path.{◌≡◌, refl, sym, ap, ◌∙◌, subst}
use mathlib.Core.Bool.{Bool}
use mathlib.Core.List.Memᴰ
use mathlib.Core.List.{List, [], ◌∷◌}
use Prim.Native.Nat.{ℕ, zero, suc, ◌+◌, ◌-◌, ◌≤◌}
use native.Mathlib.Nat.{le_antisymm}
use native.Mathlib.Omega.{arith}
use borrow.Author.Tests.{eqb-true, eq-eqb}
use lib.Dec.{eqb}
use lib.IntN.{ℤ}
use lib.ListN.{length}
use Rattle.coxeter.specs.declared.Kind.{Kind}
use Rattle.coxeter.specs.Kinds.{up}
use Rattle.coxeter.specs.Windows.{window}
use Rattle.coxeter.specs.Length.{window_length}
use Rattle.coxeter.specs.NormalForm.{levels, last_index, blocks, Indices, none, level}
use Rattle.coxeter.proofs.Levels.{Accepted, accepted_of_refusal, window_accepted}
use Rattle.coxeter.proofs.Theorems.{window_passes}
use Rattle.coxeter.proofs.Indices.{indices, window-indices, indices-window, indices_in_range}
use Rattle.coxeter.proofs.FormLaws.{block_lengths, window_length-blocks}
use Rattle.distribution.specs.AllWindows.{In, Once, keep, cons_all, windows}
use Rattle.distribution.specs.Distribution.{of_length}
use Rattle.distribution.proofs.Members.{length_le_of_map, in_keep, of_keep, once_keep, in_cons_all, of_cons_all, once_cons_all, in_up, of_up, once_up}
use Rattle.distribution.proofs.AllWindows.{windows_exactly, windows_once}
use Rattle.distribution.proofs.Sums.{times_of}

-- ---- all lists of indices

-- the js of level i, from i − 1 to the last
unfoldable pub level_indices : Kind → ℕ → ℕ → List ℕ
level_indices k n i = up (i - 1) (last_index k n i + 2 - i)

-- the lists of js of t levels from i on
unfoldable pub index_lists : Kind → ℕ → ℕ → ℕ → List (List ℕ)
index_lists k n zero i = [] ∷ []
index_lists k n (suc t) i = cons_all (level_indices k n i) (index_lists k n t (suc i))

pub once_index_lists : (k : Kind) (n t i : ℕ) → Once (index_lists k n t i)
unfolding index_lists level_indices
once_index_lists k n zero i = (λ m. elim m [ ], tt)
once_index_lists k n (suc t) i =
    once_cons_all (level_indices k n i) (index_lists k n t (suc i)) (once_up (i - 1) (last_index k n i + 2 - i)) (once_index_lists k n t (suc i))

in_index_lists : (k : Kind) (n t : ℕ) {i : ℕ} {js : List ℕ} → 1 ≤ i → t + i ≡ suc (levels k n) → Indices k n i js → In js (index_lists k n t i)
unfolding index_lists level_indices
in_index_lists k n zero o e (none q) = Memᴰ.head refl
in_index_lists k n zero o e (level a b c d) = absurd (omega arith)
in_index_lists k n (suc t) o e (none q) = absurd (omega arith)
in_index_lists k n (suc t) {i} o e (level {j = j} {js = js} a b c d) =
    in_cons_all j js (level_indices k n i) (index_lists k n t (suc i)) (in_up j (i - 1) (last_index k n i + 2 - i) (omega arith) (omega arith))
    (in_index_lists k n t (omega arith) (omega arith) d)

of_index_lists : (k : Kind) (n t i : ℕ) (js : List ℕ) → 1 ≤ i → t + i ≡ suc (levels k n) → In js (index_lists k n t i) → Indices k n i js
unfolding index_lists level_indices
of_index_lists k n zero i js o e m = subst (Indices k n i) (sym (Memᴰ.eq_of_singleton m)) (none {i = i} (omega arith))
of_index_lists k n (suc t) i js o e m =
    let b = of_cons_all js (level_indices k n i) (index_lists k n t (suc i)) m in
    let r = of_up b.first (i - 1) (last_index k n i + 2 - i) b.first_in in
    subst (Indices k n i) b.whole
    (level {i = i} {j = b.first} {js = b.rest} (omega arith) (omega arith) (omega arith)
    (of_index_lists k n t (suc i) b.rest (omega arith) (omega arith) b.rest_in))

-- how many of them have blocks of the length l together
abbrev pub count_indices : Kind → ℕ → ℕ → ℕ → ℕ → ℕ
count_indices k n t i = times_of (block_lengths k n i) (index_lists k n t i)

-- ---- as many

module _ (k : Kind) (n : ℕ) where
  -- the window of a list of indices, and the indices of a window
  abbrev pub shown : List ℕ → List ℤ
  shown js = window k n (blocks k n 1 js)

  abbrev pub indices_of : List ℤ → List ℕ
  indices_of w = indices k n (levels k n) 1 w

  abbrev pub all : List (List ℕ)
  all = index_lists k n (levels k n) 1

  pub of_all : (js : List ℕ) → In js all → Indices k n 1 js
  of_all js m = of_index_lists k n (levels k n) 1 js (omega arith) (omega arith) m

  in_all : (js : List ℕ) → Indices k n 1 js → In js all
  in_all js h = in_index_lists k n (levels k n) (omega arith) (omega arith) h

  accepted_in : (w : List ℤ) → In w (windows k n) → Accepted k n w
  accepted_in w m = accepted_of_refusal k n w ((windows_exactly k n w).0 m)

  pub window_length_shown : (js : List ℕ) → Indices k n 1 js → window_length k (shown js) ≡ block_lengths k n 1 js
  window_length_shown js h = window_length-blocks k n (shown js) (window_accepted k n _) ∙ ap (block_lengths k n 1) (indices-window k n js h)

  -- the tests for the length l
  abbrev pub long : ℕ → List ℤ → Bool
  long l w = eqb (window_length k w) l

  abbrev pub long_indices : ℕ → List ℕ → Bool
  long_indices l js = eqb (block_lengths k n 1 js) l

  pub of_long : (l : ℕ) (js : List ℕ) → In js (keep (long_indices l) all) → Indices k n 1 js × (block_lengths k n 1 js ≡ l)
  of_long l js i = let m = of_keep (long_indices l) js all i in (of_all js m.0, eqb-true (block_lengths k n 1 js) l m.1)

  pub in_long : (l : ℕ) (js : List ℕ) → Indices k n 1 js → block_lengths k n 1 js ≡ l → In js (keep (long_indices l) all)
  in_long l js d e = in_keep (long_indices l) js all (eq-eqb (block_lengths k n 1 js) l e) (in_all js d)

  module _ (l : ℕ) where
    windows_le : length (keep (long l) (windows k n)) ≤ length (keep (long_indices l) all)
    windows_le =
        length_le_of_map indices_of (keep (long l) (windows k n)) (keep (long_indices l) all) (once_keep (long l) (windows k n) (windows_once k n))
        (λ v w i j e.
        sym (window-indices k n v (accepted_in v (of_keep (long l) v (windows k n) i).0))
        ∙ ap shown e
        ∙ window-indices k n w (accepted_in w (of_keep (long l) w (windows k n) j).0))
        (λ w i.
        let m = of_keep (long l) w (windows k n) i in
        let a = accepted_in w m.0 in
        in_long l (indices_of w) (indices_in_range k n w a) (sym (window_length-blocks k n w a) ∙ eqb-true (window_length k w) l m.1))

    indices_le : length (keep (long_indices l) all) ≤ length (keep (long l) (windows k n))
    indices_le =
        length_le_of_map shown (keep (long_indices l) all) (keep (long l) (windows k n))
        (once_keep (long_indices l) all (once_index_lists k n (levels k n) 1))
        (λ is js i j e. sym (indices-window k n is (of_long l is i).0) ∙ ap indices_of e ∙ indices-window k n js (of_long l js j).0)
        (λ js i.
        let m = of_long l js i in
        in_keep (long l) (shown js) (windows k n) (eq-eqb (window_length k (shown js)) l (window_length_shown js m.0 ∙ m.1))
        ((windows_exactly k n (shown js)).1 (window_passes k n _)))

    -- the windows of a length are as many as the lists of indices of that length
    pub of_length-indices : of_length k n l ≡ count_indices k n (levels k n) 1 l
    unfolding of_length times_of
    of_length-indices = le_antisymm windows_le indices_le
