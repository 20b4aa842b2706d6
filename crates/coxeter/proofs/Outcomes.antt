-- What the calls' definitions say in each case, in the checking order.
-- Assumes nothing.
use mathlib.Core.Path.{◌≡◌, refl, sym, ◌∙◌, ap}
use mathlib.Core.Bool.{false, Bool, true}
use mathlib.Core.List.{List, ◌++◌}
use Prim.Native.Nat.{ℕ, ◌≤◌, ◌<◌}
use lib.ListN.{length, drop}
use borrow.Author.Tests.{eq-eqb, ne_eqb, lt-ltb, le-ltb}
use Rattle.coxeter.specs.answers.Answer.{Length, Refused}
use Rattle.coxeter.proofs.FrontLaws.{front_parts}
use Rattle.coxeter.specs.Kinds.{kind_of, lanes}
use Rattle.coxeter.specs.Windows.{window}
use Rattle.coxeter.specs.Checks.{◌then◌, too_short, rank_refusal, word_refusal}
use Rattle.coxeter.specs.Length.{Crossings}
use Rattle.coxeter.specs.Calls.{front, Outcome, Yields, answer_of, written, writes, verdict_of}
use Rattle.coxeter.specs.Calls.{counted_of, same_window, equal_words, same_presets, presets_equal, hands_back}
use native.Mathlib.Decide.{ℕ_discrete}
use Rattle.coxeter.specs.answers.Answer.{Answer}
use Rattle.coxeter.specs.answers.Verdict as verdict
use Rattle.coxeter.specs.answers.Counted as counted

-- ---- calls that write

module _ {X : Type 0} (o : Outcome X) (q r : ℕ) (l out : List X) (is : o ≡ writes q l out) (e : r ≡ q) where
  pub writes-refused : (r ≡ 0 → ⊥) → Yields o (Refused r) out
  unfolding writes answer_of written
  writes-refused f = rw (is, ← e, ne_eqb r 0 f) (rw (ne_eqb r 0 f) (refl, refl))

  pub writes_short : (m : ℕ) → r ≡ 0 → length l ≡ m → length out < m → Yields o (Refused 14) out
  unfolding writes answer_of written too_short
  writes_short m z g h = rw (is, ← e, eq-eqb r 0 z, g, lt-ltb (length out) m h) (refl, refl)

  -- `after` is what a call that is not refused leaves
  pub writes-written : (m : ℕ) (after : List X) → r ≡ 0 → length l ≡ m → m ≤ length out → after ≡ front l out → Yields o (Length m) after
  unfolding writes answer_of written too_short
  writes-written m after z g h v = rw (is, ← e, eq-eqb r 0 z, g, le-ltb (length out) m h, v) (refl, refl)

  pub writes_done : (m : ℕ) (w : List X) → r ≡ 0 → length l ≡ m → m ≤ length out → w ≡ l → Yields o (Length m) (w ++ drop m out)
  writes_done m w z g h v = writes-written m (w ++ drop m out) z g h (front_parts l out m w g v)

  -- no check before check 14 refused
  pub writes_passed : (a : Answer) (after : List X) → r ≡ 0 → Yields (writes 0 l out) a after → Yields o a after
  writes_passed a after z d = rw (is, ← e, z) d

-- ---- lengths

pub answer_refused : (q r l : ℕ) → r ≡ q → (r ≡ 0 → ⊥) → Refused r ≡ answer_of q l
unfolding answer_of
answer_refused q r l e f = rw (← e, ne_eqb r 0 f)

pub answer_length : (q r l a : ℕ) → r ≡ q → r ≡ 0 → a ≡ l → Length a ≡ answer_of q l
unfolding answer_of
answer_length q r l a e z v = rw (← e, eq-eqb r 0 z, v)

-- ---- crossings

pub counted_refused : {q r : ℕ} (c : Crossings) → r ≡ q → (r ≡ 0 → ⊥) → counted.Refused r ≡ counted_of q c
unfolding counted_of
counted_refused {r} c e f = rw (← e, ne_eqb r 0 f)

-- what no check refuses is counted
pub counted_crossings : {q r : ℕ} (c : Crossings) → r ≡ q → r ≡ 0 → counted_of 0 c ≡ counted_of q c
counted_crossings c e z = ap (λ (x : ℕ). counted_of x c) (sym z ∙ e)

-- ---- the verdict

module _ (k n : ℕ) (u : List ℕ) (l m : ℕ) (v : List ℕ) where
  -- r is the refusal that was computed, s whether the presets are the same
  module _ {r : ℕ} (e : r ≡ (rank_refusal k n then word_refusal n u then rank_refusal l m then word_refusal m v)) where
    pub verdict_refused : (r ≡ 0 → ⊥) → verdict.Refused r ≡ presets_equal k n u l m v
    unfolding presets_equal verdict_of
    verdict_refused f = rw (← e, ne_eqb r 0 f)

    pub verdict_yes : {s : Bool} → r ≡ 0 → s ≡ same_presets k n u l m v → s ≡ true → verdict.Yes ≡ presets_equal k n u l m v
    unfolding presets_equal verdict_of
    verdict_yes z g t = rw (← e, eq-eqb r 0 z, ← g, t)

    pub verdict_no : {s : Bool} → r ≡ 0 → s ≡ same_presets k n u l m v → s ≡ false → verdict.No ≡ presets_equal k n u l m v
    unfolding presets_equal verdict_of
    verdict_no z g t = rw (← e, eq-eqb r 0 z, ← g, t)

  pub lanes-differ : {a b : ℕ} → a ≡ lanes (kind_of k) n → b ≡ lanes (kind_of l) m → (a ≡ b → ⊥) → false ≡ same_presets k n u l m v
  unfolding same_presets
  lanes-differ {a} {b} e f d = rw (← e, ← f, ne_eqb a b d)

  pub same_lanes : {s : Bool} → lanes (kind_of k) n ≡ lanes (kind_of l) m → s ≡ same_window (window (kind_of k) n u) (window (kind_of l) m v)
      → s ≡ same_presets k n u l m v
  unfolding same_presets
  same_lanes e g = rw (eq-eqb (lanes (kind_of k) n) (lanes (kind_of l) m) e) g

-- of one kind and rank the windows alone decide
pub same_words : (k n : ℕ) (u v : List ℕ) → same_presets k n u k n v ≡ equal_words (kind_of k) n u v
unfolding same_presets equal_words
same_words k n u v = rw (eq-eqb (lanes (kind_of k) n) (lanes (kind_of k) n) refl)

-- ---- words of one kind and rank

pub hands_back-refused : (k n : ℕ) (u v : List ℕ) (r : ℕ) → r ≡ (rank_refusal k n then word_refusal n u then word_refusal n v) → (r ≡ 0 → ⊥)
    → hands_back k n u v ≡ false
unfolding hands_back
hands_back-refused k n u v r e f = rw (← e, ne_eqb r 0 f)

pub hands_back_words : (k n : ℕ) (u v : List ℕ) {r : ℕ} {t : Bool} → r ≡ (rank_refusal k n then word_refusal n u then word_refusal n v) → r ≡ 0
    → t ≡ equal_words (kind_of k) n u v → hands_back k n u v ≡ t
unfolding hands_back
hands_back_words k n u v {r} e z g = rw (← e, eq-eqb r 0 z) (sym g)

-- ---- the better word

checks_again : (k n : ℕ) (u v : List ℕ)
    → (rank_refusal k n then word_refusal n u then rank_refusal k n then word_refusal n v) ≡ (rank_refusal k n then word_refusal n u then word_refusal n v)
checks_again k n u v = elim (ℕ_discrete (rank_refusal k n) 0) [ yes z ↦ rw z | no f ↦ rw (ne_eqb (rank_refusal k n) 0 f) ]

-- V5: if a check refuses two words of one kind and rank, the verdict on them is that refusal
pub verdict_gives_number : (k n : ℕ) (u v : List ℕ) (r : ℕ) → r ≡ (rank_refusal k n then word_refusal n u then word_refusal n v) → (r ≡ 0 → ⊥)
    → presets_equal k n u k n v ≡ verdict.Refused r
unfolding presets_equal verdict_of
verdict_gives_number k n u v r e f = rw (checks_again k n u v, ← e, ne_eqb r 0 f)
