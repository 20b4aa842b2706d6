-- D6, CO6 and CO7: for each call that writes, an output whose call is refused holds what it held, whatever the
-- number, and past the length that is answered it holds that too. By laws about calls of every sort, of which those of
-- the other crates are instances too.
-- Not here: one rewrite (in the crate rules), the rewriting to its end (in traces), fallbacks, splits and ways (in
-- shortest_words), the delay table (in distribution), calls on books (in book_format).
--
-- Sections: what every call keeps; what a call with one output keeps; the calls.
-- Assumes nothing.
use mathlib.Core.Path.{◌≡◌, refl}
use mathlib.Core.Bool.{Bool, true, false}
use mathlib.Core.List.{List}
use Prim.Native.Nat.{ℕ}
use native.Mathlib.Decide.{ℕ_discrete}
use lib.Dec.{eqb}
use lib.IntN.{ℤ}
use lib.ListN.{length, drop, take}
use Rattle.coxeter.specs.answers.Answer.{Length, Refused}
use Rattle.coxeter.specs.Kinds.{pick}
use Rattle.coxeter.specs.Checks.{check, ◌then◌, too_short}
use Rattle.coxeter.specs.Calls.{front, written, writes, window_of_word, product_of_windows}
use Rattle.coxeter.specs.Calls.{inverse_of_window, normal_form_of_window, normal_form_of_word, product_of_words, inverse_of_word}
use Rattle.coxeter.proofs.FrontLaws.{drop-front, take-front}
use Rattle.coxeter.proofs.AnswersExactly.{answer_of_exactly}
use borrow.Author.Tests.{eq-eqb, ne_eqb}

-- ---- what every call keeps

by_test : {A Output : Type 0} (t : Bool) (good bad a : A) → pick t good bad ≡ a → (good ≡ a → ⊥) → (new old : Output) → pick t new old ≡ old
by_test true good bad a h f new old = absurd (f h)
by_test false good bad a h f new old = refl

by_test_past : {A X : Type 0} (t : Bool) (good bad a : A) → pick t good bad ≡ a → (l out : List X) (m : ℕ) → (good ≡ a → length l ≡ m)
    → drop m (pick t (front l out) out) ≡ drop m out
by_test_past true good bad a h l out m f = drop-front l out m (f h)
by_test_past false good bad a h l out m f = refl

-- a call with the refusal s, 0 for none, that is to write l
module _ {X : Type 0} (s : ℕ) (l out : List X) where
  -- refused with r, it leaves the output as it was lent
  pub kept_whole : {r : ℕ} → (s ≡ r) × (r ≡ 0 → ⊥) → written s l out ≡ out
  unfolding written
  kept_whole {r} h = rw (h.0, ne_eqb r 0 h.1)

  -- refused or not, it leaves what lies from the place m on, if m is the length of what it writes
  pub kept_past : {m : ℕ} → (s ≡ 0 → length l ≡ m) → drop m (written s l out) ≡ drop m out
  unfolding written
  kept_past {m} e = elim (ℕ_discrete s 0) [ yes z ↦ rw (eq-eqb s 0 z) (drop-front l out m (e z)) | no f ↦ rw (ne_eqb s 0 f) ]

  -- not refused, it has l at the front
  pub kept_front : {m : ℕ} → length l ≡ m → s ≡ 0 → take m (written s l out) ≡ l
  unfolding written
  kept_front {m} e z = rw (eq-eqb s 0 z) (take-front l out m e)

-- a call with the refusal s, 0 for none, and answers of any sort, of which `good` is the one with no refusal
module _ {A : Type 0} (s : ℕ) (good : A) (refuse : ℕ → A) where
  -- any other answer leaves an output as it was lent
  pub kept_whole_of_pick : {a : A} → pick (eqb s 0) good (refuse s) ≡ a → (good ≡ a → ⊥) → {X : Type 0} (l out : List X) → written s l out ≡ out
  unfolding written
  kept_whole_of_pick {a} h f l out = by_test (eqb s 0) good (refuse s) a h f (front l out) out

  -- and so does every answer from the place m on, if the good one says that m entries are written
  pub kept_past_of_pick : {a : A} → pick (eqb s 0) good (refuse s) ≡ a → {X : Type 0} (l out : List X) (m : ℕ) → (good ≡ a → length l ≡ m)
      → drop m (written s l out) ≡ drop m out
  unfolding written
  kept_past_of_pick {a} h l out m f = by_test_past (eqb s 0) good (refuse s) a h l out m f

-- ---- what a call with one output keeps

pub writes-unchanged : {X : Type 0} (q : ℕ) (l out : List X) (r : ℕ) → (writes q l out).answer ≡ Refused r → (writes q l out).bytes ≡ out
unfolding writes
writes-unchanged q l out r h =
    let s = q then check 14 (too_short (length l) out) in
    kept_whole s l out (((answer_of_exactly s (length l)).0 r).0 h)

pub writes-past : {X : Type 0} (q : ℕ) (l out : List X) (m : ℕ) → (writes q l out).answer ≡ Length m → drop m (writes q l out).bytes ≡ drop m out
unfolding writes
writes-past q l out m h =
    let s = q then check 14 (too_short (length l) out) in
    kept_past s l out (λ z. (((answer_of_exactly s (length l)).1 m).0 h).1)

-- ---- the calls

pub window_of_word-unchanged : (k n : ℕ) (u : List ℕ) (out : List ℤ) (r : ℕ)
    → (window_of_word k n u out).answer ≡ Refused r → (window_of_word k n u out).bytes ≡ out
unfolding window_of_word
window_of_word-unchanged k n u out = writes-unchanged _ _ out

pub product_of_windows-unchanged : (k n : ℕ) (u v out : List ℤ) (r : ℕ)
    → (product_of_windows k n u v out).answer ≡ Refused r → (product_of_windows k n u v out).bytes ≡ out
unfolding product_of_windows
product_of_windows-unchanged k n u v out = writes-unchanged _ _ out

pub inverse_of_window-unchanged : (k n : ℕ) (w out : List ℤ) (r : ℕ)
    → (inverse_of_window k n w out).answer ≡ Refused r → (inverse_of_window k n w out).bytes ≡ out
unfolding inverse_of_window
inverse_of_window-unchanged k n w out = writes-unchanged _ _ out

pub normal_form_of_window-unchanged : (k n : ℕ) (w : List ℤ) (out : List ℕ) (r : ℕ)
    → (normal_form_of_window k n w out).answer ≡ Refused r → (normal_form_of_window k n w out).bytes ≡ out
unfolding normal_form_of_window
normal_form_of_window-unchanged k n w out = writes-unchanged _ _ out

pub normal_form_of_word-unchanged : (k n : ℕ) (u out : List ℕ) (r : ℕ)
    → (normal_form_of_word k n u out).answer ≡ Refused r → (normal_form_of_word k n u out).bytes ≡ out
unfolding normal_form_of_word
normal_form_of_word-unchanged k n u out = writes-unchanged _ _ out

pub product_of_words-unchanged : (k n : ℕ) (u v out : List ℕ) (r : ℕ)
    → (product_of_words k n u v out).answer ≡ Refused r → (product_of_words k n u v out).bytes ≡ out
unfolding product_of_words
product_of_words-unchanged k n u v out = writes-unchanged _ _ out

pub inverse_of_word-unchanged : (k n : ℕ) (u out : List ℕ) (r : ℕ)
    → (inverse_of_word k n u out).answer ≡ Refused r → (inverse_of_word k n u out).bytes ≡ out
unfolding inverse_of_word
inverse_of_word-unchanged k n u out = writes-unchanged _ _ out
