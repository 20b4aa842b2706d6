-- Refused appending in plain terms (I28, B12, B23, C13 and C21 of the specification): which preset is refused with which
-- number, and exactly when. A refused call leaves its output as it was lent.
-- Not here: what an accepted call leaves (Sentences).
-- Assumes nothing.
use mathlib.Core.Path.{◌≡◌, refl, sym, ap, ◌∙◌}
use mathlib.Core.Bool.{Bool, true, false, true≢false}
use mathlib.Core.Logic.{◌⊎◌, ◌↔◌}
use mathlib.Core.List.{List, [], ◌∷◌, ◌++◌}
use Prim.Native.Nat.{ℕ, suc, ◌≤◌, ◌<◌}
use native.Mathlib.Decide.{ℕ_discrete}
use native.Mathlib.Omega.{arith}
use lib.ListN.{length}
use Rattle.coxeter.specs.answers.Answer.{Answer}
use Rattle.coxeter.specs.answers.Answer.{Length, Refused}
use Rattle.coxeter.specs.Kinds.{kind_of, lanes}
use Rattle.coxeter.specs.Checks.{first_of, check, ◌then◌, wrong_kind, too_long, wrong_letter, too_short, word_refusal, WordOf}
use Rattle.coxeter.specs.Calls.{Yields, writes}
use Rattle.coxeter.proofs.Refusals.{then_zero, then_some, check_zero}
use Rattle.coxeter.proofs.Writes.{length_or_refused}
use Rattle.coxeter.proofs.AnswersExactly.{answer_of_exactly}
use Rattle.book_format.specs.declared.Edition.{Edition}
use Rattle.book_format.specs.declared.Edition.TheVariants.{First}
use Rattle.book_format.specs.Books.{wrong_size, wrong_count, misplaced, wrong_rank_in_book, too_large}
use Rattle.book_format.specs.Books.{retired, book_rank_refusal, book_refusal, appended, append_refusal}
use Rattle.book_format.specs.Records.{lay_out, records_of}
use Rattle.book_format.specs.Calls.{appending}
use Rattle.book_format.proofs.BookLaws.{accepted}
use Rattle.book_format.proofs.WritingLaws.{length-appended, append_size, append_refusal_rank, append_refusal-retired, append_refusal_large}
use Rattle.book_format.proofs.AppendedBytes.{length_laid_out}
use Rattle.book_format.proofs.Numbers.{then_late, then_early, check-other, check_holds, first_of_then, rank_other, word_other}
use Rattle.book_format.proofs.Outcomes.{append_refusal-first_of, book_refusal_le}
use Rattle.book_format.proofs.Unchanged.{appending-unchanged}
use Rattle.book_format.proofs.Retired.{retired_exactly, not_retired, rank_1_in_book}
use Rattle.book_format.proofs.Sentences.{append_answers}
use Rattle.book_format.proofs.ReadingSentences.{rank_above}
use Rattle.book_format.proofs.ConversionSentences.{too_large_exactly}

module _ (ed : Edition) (b : List ℕ) (k n : ℕ) (u before after : List ℕ) (a : Answer) (c : Yields (appending ed b k n u before) a after) where
  append-refusal : (r : ℕ) → (a ≡ Refused r) ↔ (((append_refusal ed b k n u then check 14 (too_short (length (appended ed b k n u)) before)) ≡ r) × (r ≡ 0 → ⊥))
  unfolding appending writes
  append-refusal r =
      let s = append_refusal ed b k n u then check 14 (too_short (length (appended ed b k n u)) before) in
      let q = (answer_of_exactly s (length (appended ed b k n u))).0 r in
      (λ e. q.0 (sym c.0 ∙ e), λ p. c.0 ∙ q.1 p)

  -- CO3, I28: the number of the first test that holds, 21 after 8
  pub append-refused : (r : ℕ)
      → (a ≡ Refused r)
      ↔ ((first_of
      ((1, wrong_size b)
      ∷ (2, wrong_count b)
      ∷ (3, misplaced ed b)
      ∷ (5, wrong_kind k)
      ∷ (6, wrong_rank_in_book ed (kind_of k) n)
      ∷ (7, too_long u)
      ∷ (8, wrong_letter n u)
      ∷ (21, retired k n)
      ∷ (13, too_large (length (appended ed b k n u)))
      ∷ (14, too_short (length (appended ed b k n u)) before)
      ∷ [])
      ≡ r)
      × (r ≡ 0 → ⊥))
  append-refused r = rw (← all) (append-refusal r)
    where
      size : ℕ
      size = length (appended ed b k n u)

      tests : List (ℕ × Bool)
      tests =
          (1, wrong_size b)
          ∷ (2, wrong_count b)
          ∷ (3, misplaced ed b)
          ∷ (5, wrong_kind k)
          ∷ (6, wrong_rank_in_book ed (kind_of k) n)
          ∷ (7, too_long u)
          ∷ (8, wrong_letter n u)
          ∷ (21, retired k n)
          ∷ (13, too_large size)
          ∷ []

      none : (m : ℕ) → suc m ≡ 0 → ⊥
      none m e = omega arith

      all : (append_refusal ed b k n u then check 14 (too_short size before)) ≡ first_of (tests ++ ((14, too_short size before) ∷ []))
      all =
          ap (λ q. q then check 14 (too_short size before)) (append_refusal-first_of ed b k n u)
          ∙ first_of_then tests 14 (too_short size before) (none 0, (none 1, (none 2, (none 4, (none 5, (none 6, (none 7, (none 20, (none 12, tt)))))))))

  -- D6, CO6
  pub append-refused-unchanged : (r : ℕ) → a ≡ Refused r → after ≡ before
  append-refused-unchanged r e = c.1 ∙ appending-unchanged ed b k n u before r (sym c.0 ∙ e)

  append_parts_21 : append_refusal ed b k n u ≡ 21 → (book_refusal ed b ≡ 0) × WordOf n u × (retired k n ≡ true)
  unfolding append_refusal
  append_parts_21 e =
      let rank = book_rank_refusal ed k n in
      let word = word_refusal n u in
      let own = check 21 (retired k n) in
      let size = check 13 (too_large (length (appended ed b k n u))) in
      let p = then_late (book_refusal ed b) (rank then (word then (own then size))) 21 (λ z. omega (arith, book_refusal_le ed b)) e in
      let q = then_late rank (word then (own then size)) 21 (rank_other ed k n 21 (omega arith)) p.1 in
      let s = then_late word (own then size) 21 (word_other n u 21 (omega arith)) q.1 in
      let t = then_early own size 21 (check-other 13 21 (too_large (length (appended ed b k n u))) (λ z. omega arith) (λ z. omega arith)) s.1 in
      (p.0, s.0, check_holds 21 (retired k n) (λ z. omega arith) t)

  -- C21: exactly then. Checks 5 and 6 accept this kind and rank
  pub refused_21_exactly : (a ≡ Refused 21) ↔ ((book_refusal ed b ≡ 0) × WordOf n u × (k ≡ 1) × (n ≡ 1))
  refused_21_exactly = (
    λ e.
        let l = length (appended ed b k n u) in
        let short = check-other 14 21 (too_short l before) (λ z. omega arith) (λ z. omega arith) in
        let p = append_parts_21 (then_early (append_refusal ed b k n u) (check 14 (too_short l before)) 21 short ((append-refusal 21).0 e).0) in
        let q = (retired_exactly k n).0 p.2 in
        (p.0, p.1, q.0, q.1),
    λ p.
        let rank : book_rank_refusal ed k n ≡ 0 = rw (p.2, p.3) (rank_1_in_book ed) in
        let r =
        append_refusal-retired ed b k n u p.0 rank p.1 ((retired_exactly k n).1 (p.2, p.3)) in
        (append-refusal 21).1 (rw r, λ z. omega arith),
  )

  -- a number after those of the preset's checks is that of the new book's size
  append_late : (r : ℕ) → 8 < r → (21 ≡ r → ⊥) → append_refusal ed b k n u ≡ r
      → (book_refusal ed b ≡ 0) × (book_rank_refusal ed k n ≡ 0) × WordOf n u × (retired k n ≡ false) × (check 13 (too_large (length (appended ed b k n u))) ≡ r)
  unfolding append_refusal
  append_late r h f e =
      let rank = book_rank_refusal ed k n in
      let word = word_refusal n u in
      let own = check 21 (retired k n) in
      let size = check 13 (too_large (length (appended ed b k n u))) in
      let p = then_late (book_refusal ed b) (rank then (word then (own then size))) r (λ z. omega (arith, book_refusal_le ed b)) e in
      let q = then_late rank (word then (own then size)) r (rank_other ed k n r (omega arith)) p.1 in
      let s = then_late word (own then size) r (word_other n u r h) q.1 in
      let t = then_late own size r (check-other 21 r (retired k n) f (λ z. omega arith)) s.1 in
      (p.0, q.0, s.0, check_zero 21 (retired k n) refl t.0, t.1)

  -- C13, I28: exactly when no check before it refuses and the old records with the new one lay out more than 65,535
  -- bytes
  pub refused_13_exactly : (a ≡ Refused 13)
      ↔ ((book_refusal ed b ≡ 0)
      × (book_rank_refusal ed k n ≡ 0)
      × WordOf n u
      × ((k ≡ 1) × (n ≡ 1) → ⊥)
      × (65535 < length (lay_out ed (records_of ed b ++ (record { kind = k; rank = n; lanes = lanes (kind_of k) n; letters = u } ∷ [])))))
  refused_13_exactly = (
    λ e.
        let l = length (appended ed b k n u) in
        let short = check-other 14 13 (too_short l before) (λ z. omega arith) (λ z. omega arith) in
        let p =
        append_late 13 (omega arith) (λ z. omega arith)
        (then_early (append_refusal ed b k n u) (check 14 (too_short l before)) 13 short ((append-refusal 13).0 e).0) in
        let kept : (k ≡ 1) × (n ≡ 1) → ⊥ = λ q. true≢false (sym ((retired_exactly k n).1 q) ∙ p.3) in
        (p.0, p.1, p.2, kept, rw (length_laid_out ed b k n u p.0) at ((too_large_exactly l).0 (check_holds 13 (too_large l) (λ z. omega arith) p.4))),
    λ p.
        let l = length_laid_out ed b k n u p.0 in
        let m = length-appended ed b k n u (accepted ed b p.0) in
        let h = p.4 in
        let r =
        append_refusal_large {b = b} (record { opens = p.0; ranked = p.1; word = p.2; kept = not_retired k n p.3 }) (omega arith) in
        (append-refusal 13).1 (rw r, λ z. omega arith),
  )

  -- M2, C14: 65,535 bytes are room for every appended book
  pub append_room : 65535 ≤ length before → a ≡ Refused 14 → ⊥
  append_room h e =
      let l = length (appended ed b k n u) in
      let r = append_refusal ed b k n u in
      elim (ℕ_discrete r 0) [
        | yes z ↦ let m = append_size ed b k n u z in length_or_refused ((append_answers ed b k n u before after a c l).1 (z, refl, omega arith)) e
        | no f ↦
            let w = sym (then_some r (check 14 (too_short l before)) f) ∙ ((append-refusal 14).0 e).0 in
            check-other 13 14 (too_large l) (λ z. omega arith) (λ z. omega arith) (append_late 14 (omega arith) (λ z. omega arith) w).4
      ]

-- B23: no book, word or output, in either edition
pub never_appended : (ed : Edition) (b u before after : List ℕ) (l : ℕ) → Yields (appending ed b 1 1 u before) (Length l) after → ⊥
unfolding append_refusal
never_appended ed b u before after l c =
    let rank = book_rank_refusal ed 1 1 in
    let word = word_refusal 1 u in
    let own = check 21 (retired 1 1) in
    let size = check 13 (too_large (length (appended ed b 1 1 u))) in
    let p = then_zero (book_refusal ed b) (rank then (word then (own then size))) ((append_answers ed b 1 1 u before after (Length l) c l).0 refl).0 in
    let q = then_zero rank (word then (own then size)) p.1 in
    let s = then_zero word (own then size) q.1 in
    let t = check_zero 21 (retired 1 1) refl (then_zero own size s.1).0 in
    true≢false (sym ((retired_exactly 1 1).1 (refl, refl)) ∙ t)

-- B12: a higher rank, appended
pub above_range_appended : (b : List ℕ) {k : ℕ} (n : ℕ) (u : List ℕ) {before after : List ℕ} {a : Answer} → Yields (appending First b k n u before) a after
    → book_refusal First b ≡ 0 → (((k ≡ 1) × (31 < n)) ⊎ (((k ≡ 2) ⊎ (k ≡ 3)) × (32 < n))) → (a ≡ Refused 6) × (after ≡ before)
above_range_appended b {k} n u {before} {after} {a} c z g =
    let above = rank_above k n g in
    let r = append_refusal_rank First b k n u z (λ e. omega (arith, above, e)) ∙ above in
    let e = (append-refusal First b k n u before after a c 6).1 (rw r, λ y. omega arith) in
    (e, append-refused-unchanged First b k n u before after a c 6 e)
