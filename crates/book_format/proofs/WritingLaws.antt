-- What appending answers and writes, case by case, in the form in which the code meets it.
--
-- Sections: the appended book; appending; what is answered and written.
-- Assumes nothing.
use mathlib.Core.Path.{◌≡◌, refl, sym, ◌∙◌}
use mathlib.Core.Bool.{true, false}
use mathlib.Core.List.{List}
use Prim.Native.Nat.{ℕ, ◌+◌, ◌*◌, ◌≤◌, ◌<◌}
use native.Mathlib.Omega.{arith}
use lib.Dec.{ltb}
use lib.ListN.{length, drop, length-append, length-drop}
use lib.Seq.{sets, length-take-le}
use borrow.Author.Tests.{eq-eqb, ne_eqb, lt-ltb, le-ltb, ltb-false}
use Rattle.book_format.specs.declared.Edition.{Edition}
use Rattle.book_format.specs.declared.Edition.TheVariants.{First, Second}
use Rattle.coxeter.specs.answers.Answer as answer
use Rattle.coxeter.specs.Kinds.{kind_of, lanes}
use Rattle.coxeter.specs.Checks.{check, ◌then◌, rank_refusal, word_refusal, WordOf}
use Rattle.book_format.specs.Books.{two, count, trailer, too_large, retired, book_rank_refusal, book_refusal}
use Rattle.book_format.specs.Books.{lane_byte, record_of, appended, append_refusal, count_place, head_size, added_size}
use Rattle.book_format.specs.Calls.{appending}
use Rattle.book_format.proofs.RankLaws.{book_rank_accepted}
use Rattle.book_format.proofs.BookLaws.{AcceptedBook, accepted, book_size, trailer_le}
use Rattle.coxeter.proofs.Acceptance.{lanes_le}
use Rattle.coxeter.proofs.Outcomes.{writes-refused, writes_short, writes-written}
use Rattle.coxeter.proofs.Refusals.{then_zero, check_zero, then_none}
use Rattle.coxeter.proofs.FrontLaws.{sets-front}

-- ---- the appended book

pub length_two : (x : ℕ) → length (two x) ≡ 2
unfolding two
length_two x = refl

pub length-lane_byte : (ed : Edition) (m : ℕ) → 2 + length (lane_byte ed m) ≡ count_place ed
length-lane_byte First m = refl
length-lane_byte Second m = refl

pub length-record_of : (ed : Edition) (k n m : ℕ) (u : List ℕ) → length (record_of ed k n m u) ≡ head_size ed + length u
unfolding record_of
length-record_of ed k n m u = let l = length-lane_byte ed m in simp (length-append, length_two) (omega arith)

pub length-appended : (ed : Edition) (b : List ℕ) (k n : ℕ) (u : List ℕ) → AcceptedBook ed b → length (appended ed b k n u) ≡ book_size b + added_size ed u
unfolding appended
length-appended ed b k n u a =
    let h = a.inside in
    let s = a.sized in
    simp (
      length-append,
      length-record_of,
      length_two,
      length-take-le (trailer b) b (trailer_le b),
      length-take-le (2 * count b) (drop (trailer b) b) (rw length-drop (omega arith)),
    ) (omega arith)

-- ---- appending

-- the checks of the book, of the kind and the rank, of the word and of the preset, in this order: the first that fails
module _ (ed : Edition) (b : List ℕ) (k n : ℕ) (u : List ℕ) where
  pub append_refusal-book : (book_refusal ed b ≡ 0 → ⊥) → append_refusal ed b k n u ≡ book_refusal ed b
  unfolding append_refusal
  append_refusal-book f = rw (ne_eqb (book_refusal ed b) 0 f)

  pub append_refusal_rank : book_refusal ed b ≡ 0 → (book_rank_refusal ed k n ≡ 0 → ⊥) → append_refusal ed b k n u ≡ book_rank_refusal ed k n
  unfolding append_refusal
  append_refusal_rank z f = rw (eq-eqb (book_refusal ed b) 0 z, ne_eqb (book_rank_refusal ed k n) 0 f)

  pub append_refusal_word : book_refusal ed b ≡ 0 → book_rank_refusal ed k n ≡ 0 → (WordOf n u → ⊥) → append_refusal ed b k n u ≡ word_refusal n u
  unfolding append_refusal
  append_refusal_word z y f = rw (eq-eqb (book_refusal ed b) 0 z, eq-eqb (book_rank_refusal ed k n) 0 y, ne_eqb (word_refusal n u) 0 f)

  pub append_refusal-retired : book_refusal ed b ≡ 0 → book_rank_refusal ed k n ≡ 0 → WordOf n u → retired k n ≡ true → append_refusal ed b k n u ≡ 21
  unfolding append_refusal
  append_refusal-retired z y x w = rw (eq-eqb (book_refusal ed b) 0 z, eq-eqb (book_rank_refusal ed k n) 0 y, eq-eqb (word_refusal n u) 0 x, w)

-- none of them fails
pub record Appendable (ed : Edition) (b : List ℕ) (k n : ℕ) (u : List ℕ) : Type 0 where
  pub opens : book_refusal ed b ≡ 0
  pub ranked : book_rank_refusal ed k n ≡ 0
  pub word : WordOf n u
  pub kept : retired k n ≡ false

module _ {ed : Edition} {b : List ℕ} {k n : ℕ} {u : List ℕ} (a : Appendable ed b k n u) where
  -- only the size is left
  by_size : append_refusal ed b k n u ≡ check 13 (ltb 65535 (book_size b + added_size ed u))
  unfolding append_refusal too_large
  by_size =
      rw (eq-eqb (book_refusal ed b) 0 a.opens, eq-eqb (book_rank_refusal ed k n) 0 a.ranked, eq-eqb (word_refusal n u) 0 a.word, a.kept)
      (rw (length-appended ed b k n u (accepted ed b a.opens)))

  pub append_refusal_large : 65535 < book_size b + added_size ed u → append_refusal ed b k n u ≡ 13
  append_refusal_large h = by_size ∙ rw (lt-ltb 65535 (book_size b + added_size ed u) h)

  pub append_refusal_none : book_size b + added_size ed u ≤ 65535 → append_refusal ed b k n u ≡ 0
  append_refusal_none h = by_size ∙ rw (le-ltb 65535 (book_size b + added_size ed u) h)

-- the calls' checks of a preset whose kind and rank a book takes are those of its word
pub preset_word : (ed : Edition) (k n : ℕ) (u : List ℕ) → book_rank_refusal ed k n ≡ 0 → (rank_refusal k n then word_refusal n u) ≡ word_refusal n u
preset_word ed k n u y = then_none (rank_refusal k n) (word_refusal n u) (book_rank_accepted ed k n y)

-- where appending is not refused, none of its checks refuses
append_parts : (ed : Edition) (b : List ℕ) (k n : ℕ) (u : List ℕ) → append_refusal ed b k n u ≡ 0
    → (book_refusal ed b ≡ 0) × (book_rank_refusal ed k n ≡ 0) × WordOf n u × (check 13 (too_large (length (appended ed b k n u))) ≡ 0)
unfolding append_refusal
append_parts ed b k n u e =
    let size = check 13 (too_large (length (appended ed b k n u))) in
    let own = check 21 (retired k n) in
    let a = then_zero (book_refusal ed b) (book_rank_refusal ed k n then word_refusal n u then own then size) e in
    let c = then_zero (book_rank_refusal ed k n) (word_refusal n u then own then size) a.1 in
    let d = then_zero (word_refusal n u) (own then size) c.1 in
    (a.0, c.0, d.0, (then_zero own size d.1).1)

-- a book to which a preset is appended is accepted
pub append-book : (ed : Edition) (b : List ℕ) (k n : ℕ) (u : List ℕ) → append_refusal ed b k n u ≡ 0 → book_refusal ed b ≡ 0
append-book ed b k n u e = (append_parts ed b k n u e).0

pub append_preset : (ed : Edition) (b : List ℕ) (k n : ℕ) (u : List ℕ) → append_refusal ed b k n u ≡ 0 → (book_rank_refusal ed k n then word_refusal n u) ≡ 0
append_preset ed b k n u e = let p = append_parts ed b k n u e in then_none (book_rank_refusal ed k n) (word_refusal n u) p.1 ∙ p.2

-- M2, C13: an appended book that is not refused has at most 65,535 bytes
pub append_size : (ed : Edition) (b : List ℕ) (k n : ℕ) (u : List ℕ) → append_refusal ed b k n u ≡ 0 → length (appended ed b k n u) ≤ 65535
unfolding too_large
append_size ed b k n u e =
    ltb-false 65535 (length (appended ed b k n u)) (check_zero 13 (too_large (length (appended ed b k n u))) refl (append_parts ed b k n u e).3)

-- its lane count is a byte
pub append-lanes_le : (ed : Edition) (b : List ℕ) (k n : ℕ) (u : List ℕ) (m : ℕ) → append_refusal ed b k n u ≡ 0 → m ≡ lanes (kind_of k) n → m ≤ 255
append-lanes_le ed b k n u m e c = omega (arith, lanes_le k n m (book_rank_accepted ed k n (append_parts ed b k n u e).1) c)

append_accepted : (ed : Edition) (b : List ℕ) (k n : ℕ) (u : List ℕ) → append_refusal ed b k n u ≡ 0 → AcceptedBook ed b
append_accepted ed b k n u e = accepted ed b (append-book ed b k n u e)

-- ---- what is answered and written: r is the refusal of checks 1 to 3, 5 to 8, 21 and 13, s the length of the new book

module _ (ed : Edition) (b : List ℕ) (k n : ℕ) (u out : List ℕ) {r : ℕ} (e : r ≡ append_refusal ed b k n u) where
  pub appending-refused : (r ≡ 0 → ⊥) → (answer.Refused r ≡ (appending ed b k n u out).answer) × (out ≡ (appending ed b k n u out).bytes)
  unfolding appending
  appending-refused f = writes-refused (appending ed b k n u out) (append_refusal ed b k n u) r (appended ed b k n u) out refl e f

  pub appending-short : {s : ℕ} → s ≡ book_size b + added_size ed u → r ≡ 0 → length out < s
      → (answer.Refused 14 ≡ (appending ed b k n u out).answer) × (out ≡ (appending ed b k n u out).bytes)
  unfolding appending
  appending-short {s} f z h =
      writes_short (appending ed b k n u out) (append_refusal ed b k n u) r (appended ed b k n u) out refl e s z
      (length-appended ed b k n u (append_accepted ed b k n u (sym e ∙ z)) ∙ sym f) h

  pub appending-written : {s : ℕ} → s ≡ book_size b + added_size ed u → {o : List ℕ} → r ≡ 0 → s ≤ length out → o ≡ sets out 0 (appended ed b k n u)
      → (answer.Length s ≡ (appending ed b k n u out).answer) × (o ≡ (appending ed b k n u out).bytes)
  unfolding appending
  appending-written {s} f {o} z h p =
      let l = length-appended ed b k n u (append_accepted ed b k n u (sym e ∙ z)) ∙ sym f in
      let new = appended ed b k n u in
      writes-written (appending ed b k n u out) (append_refusal ed b k n u) r new out refl e s o z l h (p ∙ sets-front new out (rw l h))
