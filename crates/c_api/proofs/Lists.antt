-- Calls for C that write numbers to a list of their own: what is left where the list has room for them, where it
-- has none, and where no number goes there; and that a call which answers a negative number leaves everything. By
-- the test of check 14, and by what the numbers of each answer are.
--
-- Sections: the numbers of an answer; a list with room; a list without; refusals.
-- Assumes nothing.
use mathlib.Core.Path.{◌≡◌, refl, ap, ◌∙◌}
use mathlib.Core.Bool.{Bool, true, false}
use mathlib.Core.List.{List, [], ◌∷◌, ◌++◌}
use mathlib.Core.Logic.{◌⊎◌, inl, inr}
use Prim.Native.Nat.{ℕ, suc, ◌+◌, ◌≤◌, ◌<◌}
use native.Mathlib.Decide.{ℕ_discrete}
use native.Mathlib.Omega.{arith}
use lib.Dec.{eqb}
use lib.IntN.{ℤ, pos}
use lib.ListN.{length, drop}
use borrow.Author.Tests.{ne_eqb, lt-ltb, le-ltb}
use Rattle.std.specs.Array.{IsFirstChunk}
use Rattle.std.proofs.lemmas.List.{take-append-drop}
use Rattle.coxeter.specs.answers.Counted.{Counted}
use Rattle.coxeter.specs.answers.Counted as counted
use Rattle.coxeter.specs.Kinds.{pick}
use Rattle.coxeter.specs.Checks.{check, ◌then◌, too_short}
use Rattle.coxeter.specs.Calls.{front}
use Rattle.rules.specs.declared.Rewrite.{Rewrite}
use Rattle.rules.specs.declared.Rewrite.TheVariants as rewrite
use Rattle.shortest_words.specs.answers.Split.{Split}
use Rattle.shortest_words.specs.answers.Split as split
use Rattle.traces.specs.answers.ToEnd.{ToEnd}
use Rattle.traces.specs.answers.ToEnd as to_end
use Rattle.distribution.specs.answers.Table.{Table}
use Rattle.distribution.specs.answers.Table as table
use Rattle.book_format.specs.answers.Preset.{Preset}
use Rattle.book_format.specs.answers.Preset as preset
use Rattle.c_api.specs.Calls.{refused, crossing_numbers, trace_numbers, split_numbers, table_numbers, preset_numbers, listed, listed_beside}

-- ---- the numbers of an answer

-- the numbers of an answer a: a negative number alone, and then P says which answers a is, or a number 0 or more with m
-- numbers for the list
pub data Numbers {A : Type 0} (P : A → Type 0) (m : ℕ) (a : A) : ℤ × List ℕ → Type 0 where
  alone : (k : ℕ) → P a → Numbers P m a (refused k, [])
  more : (p : ℕ) (l : List ℕ) → length l ≡ m → Numbers P m a (pos p, l)

-- a is a refusal
abbrev pub IsRefusal : {A : Type 0} → (ℕ → A) → A → Type 0
IsRefusal refuse a = (r : ℕ) × (a ≡ refuse r)

pub crossing-numbers : (a : Counted) → Numbers (IsRefusal counted.Refused) 3 a (crossing_numbers a)
unfolding crossing_numbers
crossing-numbers (counted.Crossings a b c) = more (a + b + c) (a ∷ b ∷ c ∷ []) refl
crossing-numbers (counted.Refused k) = alone k (k, refl)

-- I19, IC4: a single rewrite's answer as such numbers: the new length with family, i and j; −100 is none fits
unfoldable pub rewrite_numbers : Rewrite → ℤ × List ℕ
rewrite_numbers (rewrite.Used f i j l) = (pos l, f ∷ i ∷ j ∷ [])
rewrite_numbers rewrite.NoneFits = (refused 100, [])
rewrite_numbers (rewrite.Refused k) = (refused k, [])

pub rewrite-numbers : (a : Rewrite) → Numbers (λ x. (x ≡ rewrite.NoneFits) ⊎ IsRefusal rewrite.Refused x) 3 a (rewrite_numbers a)
unfolding rewrite_numbers
rewrite-numbers (rewrite.Used f i j l) = more l (f ∷ i ∷ j ∷ []) refl
rewrite-numbers rewrite.NoneFits = alone 100 (inl refl)
rewrite-numbers (rewrite.Refused k) = alone k (inr (k, refl))

pub trace-numbers : (a : ToEnd) → Numbers (IsRefusal to_end.Refused) 1 a (trace_numbers a)
unfolding trace_numbers
trace-numbers (to_end.Ended s l) = more s (l ∷ []) refl
trace-numbers (to_end.Refused k) = alone k (k, refl)

pub split-numbers : (a : Split) → Numbers (IsRefusal split.Refused) 2 a (split_numbers a)
unfolding split_numbers
split-numbers (split.Words a b) = more (a + b) (a ∷ b ∷ []) refl
split-numbers (split.Refused k) = alone k (k, refl)

pub table-numbers : (a : Table) → Numbers (IsRefusal table.Refused) 3 a (table_numbers a)
unfolding table_numbers
table-numbers (table.Written c e l) = more l (c ∷ e ∷ l ∷ []) refl
table-numbers (table.Refused k) = alone k (k, refl)

pub preset-numbers : (a : Preset) → Numbers (IsRefusal preset.Refused) 4 a (preset_numbers a)
unfolding preset_numbers
preset-numbers (preset.Found k n s l) = more 4 (k ∷ n ∷ s ∷ l ∷ []) refl
preset-numbers (preset.Refused k) = alone k (k, refl)

-- ---- a list with room

module _ (z : ℤ) (l list : List ℕ) where
  pub listed_stored : length l ≤ length list → (z, l ++ drop (length l) list) ≡ listed (z, l) list
  unfolding front listed too_short
  listed_stored h = rw (le-ltb (length list) (length l) h)

  pub beside_stored : {Outputs : Type 0} (new old : Outputs) → length l ≤ length list
      → (z, (new, l ++ drop (length l) list)) ≡ listed_beside (z, l) new old list
  unfolding front listed_beside too_short
  beside_stored new old h = rw (le-ltb (length list) (length l) h)

-- a front that was taken to be written, and was not
pub front_kept : {m : ℕ} {taken list : List ℕ} → IsFirstChunk list taken m → taken ++ drop m list ≡ list
front_kept {m} {taken} {list} h = rw h.same (take-append-drop m list)

-- and where no number goes there
pub listed_alone : (z : ℤ) (list : List ℕ) → (z, list) ≡ listed (z, []) list
listed_alone z list = listed_stored z [] list (omega arith)

pub beside_alone : {Outputs : Type 0} (z : ℤ) (new old : Outputs) (list : List ℕ) → (z, (new, list)) ≡ listed_beside (z, []) new old list
beside_alone z new old list = beside_stored z [] list new old (omega arith)

-- ---- a list without

pub listed-short : (z : ℤ) (l list : List ℕ) → length list < length l → (refused 14, list) ≡ listed (z, l) list
unfolding listed too_short
listed-short z l list h = rw (lt-ltb (length list) (length l) h)

-- the number then
unfoldable pub roomless : ℤ × List ℕ → ℤ
roomless (z, []) = z
roomless (z, x ∷ l) = refused 14

pub beside_roomless : {Outputs A : Type 0} {P : A → Type 0} {m : ℕ} {a : A} {x : ℤ × List ℕ} → Numbers P m a x → (new old : Outputs) (list : List ℕ)
    → 0 < m → length list < m → (P a → new ≡ old) → listed_beside x new old list ≡ (roomless x, (old, list))
unfolding front listed_beside too_short roomless
beside_roomless (alone k e) new old list p h same = rw (le-ltb (length list) 0 (omega arith), same e)
beside_roomless (more s [] e) new old list p h same = absurd (omega arith)
beside_roomless (more s (x ∷ l) e) new old list p h same = rw (lt-ltb (length list) (length (x ∷ l)) (omega arith))

-- refusal 14 of an output stands for that of the list: after the refusal q, check 14 of the outputs is s
room_then : (q s : ℕ) → (s then 14) ≡ 14 → ((q then s) then 14) ≡ (q then 14)
room_then q s h = elim (ℕ_discrete q 0) [ yes z ↦ rw z h | no f ↦ rw (ne_eqb q 0 f) (rw (ne_eqb q 0 f) refl) ]

pub room_last : (t : Bool) → (check 14 t then 14) ≡ 14
room_last true = refl
room_last false = refl

pub room_more : (t : Bool) (s : ℕ) → (s then 14) ≡ 14 → ((check 14 t then s) then 14) ≡ 14
room_more true s h = refl
room_more false s h = h

-- the number of an answer that is good, or a refusal by q or by check 14 of the outputs, which is t
pub roomless_answer : {A : Type 0} (numbers : A → ℤ × List ℕ) (good : A) (refuse : ℕ → A) (q t : ℕ) → roomless (numbers good) ≡ refused 14
    → ((r : ℕ) → roomless (numbers (refuse r)) ≡ refused r) → (t then 14) ≡ 14
    → roomless (numbers (pick (eqb (q then t) 0) good (refuse (q then t)))) ≡ refused (q then 14)
roomless_answer numbers good refuse q t e f h = roomless_answer_by_cases (eqb (q then t) 0) ∙ ap refused (room_then q t h)
  where
    roomless_answer_by_cases : (b : Bool) → roomless (numbers (pick b good (refuse (q then t)))) ≡ refused (pick b 14 (q then t))
    roomless_answer_by_cases true = e
    roomless_answer_by_cases false = f (q then t)

-- ---- refusals

pub listed-unchanged : {A : Type 0} {P : A → Type 0} {m : ℕ} {a : A} {x : ℤ × List ℕ} → Numbers P m a x → (list : List ℕ) (r : ℕ)
    → (listed x list).0 ≡ refused (suc r) → (listed x list).1 ≡ list
unfolding front listed too_short refused
listed-unchanged (alone k e) list r h = rw (le-ltb (length list) 0 (omega arith))
listed-unchanged (more p l e) list r h = listed-unchanged_by_cases (too_short (length l) list) h
  where
    listed-unchanged_by_cases : (t : Bool) → let o = pick {X = ℤ × List ℕ} t (refused 14, list) (pos p, front l list) in
        o.0 ≡ refused (suc r) → o.1 ≡ list
    listed-unchanged_by_cases true h = refl
    listed-unchanged_by_cases false h = cc

pub beside_unchanged : {Outputs A : Type 0} {P : A → Type 0} {m : ℕ} {a : A} {x : ℤ × List ℕ} → Numbers P m a x → (new old : Outputs) (list : List ℕ) (r : ℕ)
    → (P a → new ≡ old) → (listed_beside x new old list).0 ≡ refused (suc r) → (listed_beside x new old list).1 ≡ (old, list)
unfolding front listed_beside too_short refused
beside_unchanged {Outputs} (alone k e) new old list r same h = rw (le-ltb (length list) 0 (omega arith), same e)
beside_unchanged {Outputs} (more p l e) new old list r same h = beside_unchanged_by_cases (too_short (length l) list) h
  where
    beside_unchanged_by_cases : (t : Bool) → let o = pick {X = ℤ × (Outputs × List ℕ)} t (refused 14, (old, list)) (pos p, (new, front l list)) in
        o.0 ≡ refused (suc r) → o.1 ≡ (old, list)
    beside_unchanged_by_cases true h = refl
    beside_unchanged_by_cases false h = cc
