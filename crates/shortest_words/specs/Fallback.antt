-- Fallbacks, in the field's words the Bruhat order (section F of the specification): subwords of a word, which document
-- 02 calls part-lists, by their places, which count from 0, and the verdict.
use Rattle.std.specs.Prelude.{◌≡◌, Bool, ◌||◌, List, [], ◌∷◌, ℕ, suc, ◌≤◌, ◌<◌, ℤ, length, get_or}
use Rattle.coxeter.specs.declared.Kind.{Kind}
use Rattle.coxeter.specs.Kinds.{lanes}
use Rattle.coxeter.specs.Windows.{act, identity, window}
use Rattle.coxeter.specs.Length.{window_length}
use Rattle.coxeter.specs.NormalForm.{word_normal_form}
use Rattle.coxeter.specs.Calls.{same_window}

-- F3: the places rise from `low` on and lie below m
abbrev pub Rising : ℕ → ℕ → List ℕ → Type 0
Rising m low [] = Unit {0}
Rising m low (p ∷ ps) = (low ≤ p) × (p < m) × Rising m (suc p) ps

-- F3: the letters at these places
unfoldable pub subword_at : List ℕ → List ℕ → List ℕ
subword_at u [] = []
subword_at u (p ∷ ps) = get_or u p 0 ∷ subword_at u ps

-- F2: the places ps name a part-list of the letters of u, in their order, that has the window w
pub record SubwordPlaces (k : Kind) (n : ℕ) (u : List ℕ) (w : List ℤ) (ps : List ℕ) : Type 0 where
  pub rising : Rising (length u) 0 ps
  pub shows : window k n (subword_at u ps) ≡ w

-- F2: some part-list of u has the window w
abbrev pub HasSubword : Kind → ℕ → List ℕ → List ℤ → Type 0
HasSubword k n u w = (ps : List ℕ) × SubwordPlaces k n u w ps

-- F1, F2: the simpler word is a fallback of the present one
abbrev pub FallbackOf : Kind → ℕ → List ℕ → List ℕ → Type 0
FallbackOf k n present simpler = HasSubword k n (word_normal_form k n present) (window k n simpler)

-- F3, F4: the places that may be written for the word u and the window w
pub record ShortestSubwordPlaces (k : Kind) (n : ℕ) (u : List ℕ) (w : List ℤ) (ps : List ℕ) : Type 0 where
  pub subword : SubwordPlaces k n u w ps
  pub count : length ps ≡ window_length k w

-- The verdict as a test, over all part-lists (F2). That it is yes exactly when there are such places is
-- `verdict_exactly` of proofs/Fallbacks.antt.

-- F2: some part-list of the letters u leads from the window v to the window w: each letter, in order, is kept or
-- left out
unfoldable pub some_subword : Kind → ℕ → List ℤ → List ℕ → List ℤ → Bool
some_subword k n v [] w = same_window v w
some_subword k n v (s ∷ u) w = some_subword k n (act k n s v) u w || some_subword k n v u w

-- F2
unfoldable pub is_fallback : Kind → ℕ → List ℕ → List ℕ → Bool
is_fallback k n present simpler = some_subword k n (identity (lanes k n)) (word_normal_form k n present) (window k n simpler)
