-- Every length that a call for C answers fits an `i64`: it is at most that of the longest book, by the checks that
-- were made before.
--
-- Sections: numbers; answers; the window layer; the layers above it.
-- Assumes nothing.
use mathlib.Core.Path.{◌≡◌, refl, sym, ap, subst, ◌∙◌}
use mathlib.Core.List.{List, ◌++◌}
use Prim.Native.Nat.{ℕ, zero, suc, ◌+◌, ◌-◌, ◌/◌, ◌^◌, ◌≤◌, ◌<◌, min}
use native.Mathlib.Decide.{ℕ_discrete}
use native.Mathlib.Nat.{le_trans}
use native.Mathlib.Omega.{arith}
use lib.IntN.{ℤ, pos, neg_ℤ, ◌-ℤ◌, +ℤ_idl}
use lib.ListN.{length}
use lib.Signed.{mag}
use mir.Syntax.{w64}
use mir.Val.{SFits, to_z, of_z}
use mir.ValLaws.{to_z-of_z, to_z_pos}
use borrow.Author.Tests.{ne_eqb}
use Rattle.std.specs.Prelude.{Result, Ok, Err, IsErr, IsErrAnd, IfOk}
use Rattle.coxeter.specs.declared.Refusal.{Refusal}
use Rattle.coxeter.specs.declared.Refusal.TheVariants.{OutputTooShort}
use Rattle.coxeter.specs.Refusals.{number}
use Rattle.coxeter.specs.declared.LengthCounts.{LengthCounts}
use Rattle.coxeter.specs.answers.Answer.{Answer, as_answer}
use Rattle.coxeter.specs.answers.Counted.{Counted, as_counted}
use Rattle.coxeter.specs.answers.Answer as answer
use Rattle.coxeter.specs.Kinds.{kind_of}
use Rattle.coxeter.specs.Windows.{window, product, inverse}
use Rattle.coxeter.specs.Length.{window_length}
use Rattle.coxeter.specs.NormalForm.{normal_form}
use Rattle.coxeter.specs.Checks.{check, ◌then◌, too_short, rank_refusal, word_refusal, window_refusal}
use Rattle.coxeter.specs.Calls.{Outcome, answer_of, writes, window_of_word, product_of_windows, inverse_of_window, normal_form_of_window, normal_form_of_word}
use Rattle.coxeter.specs.Calls.{product_of_words, inverse_of_word, length_of_window, length_of_word}
use Rattle.coxeter.proofs.Refusals.{then_zero}
use Rattle.coxeter.proofs.Acceptance.{lanes_le, length_accepted}
use Rattle.coxeter.proofs.Levels.{Accepted, accepted_of_refusal, window_accepted}
use Rattle.coxeter.proofs.Products.{length-product, window-append}
use Rattle.coxeter.proofs.Inverses.{length-inverse, inverse_accepted}
use Rattle.coxeter.proofs.PairWeights.{window_length_le_4096}
use Rattle.coxeter.proofs.Lengths.{length-normal_form}
use Rattle.coxeter.proofs.AnswersExactly.{answer_of_exactly}
use Rattle.coxeter.proofs.TestLaws.{impossible}
use Rattle.coxeter.proofs.Groups.{number_positive}
use Rattle.coxeter.proofs.Totals.{SmallTotal}
use Rattle.rules.specs.declared.Rewrite.{Rewrite}
use Rattle.rules.specs.declared.Rewrite.TheVariants.{Used, Refused}
use Rattle.rules.specs.Calls.{past_end, rewrite_at, Rewrote, single}
use Rattle.rules.specs.Runs.{AcceptedWord}
use Rattle.rules.proofs.Calls.{used_length}
use Rattle.distribution.specs.answers.Table as table
use Rattle.distribution.specs.Distribution.{distribution}
use Rattle.distribution.specs.Longest.{longest}
use Rattle.distribution.specs.Calls.{table_refusal, room_refusal, tables, delay_table}
use Rattle.distribution.proofs.Firsts.{table_of_exactly}
use Rattle.distribution.proofs.Longest.{longest_accepted}
use Rattle.distribution.proofs.Outcomes.{table_accepted, table_rank}
use Rattle.book_format.specs.declared.Edition.{Edition}
use Rattle.book_format.specs.answers.Opened.{Opened, as_opened}
use Rattle.book_format.specs.answers.Opened as opened
use Rattle.book_format.specs.Books.{count, no_such_preset, book_refusal, appended, append_refusal}
use Rattle.book_format.specs.Calls.{checked_book, run_length, reading_presets, appending}
use Rattle.book_format.specs.Conversion.{converted, conversion_refusal, converting}
use Rattle.book_format.proofs.BookLaws.{accepted}
use Rattle.book_format.proofs.PresetLaws.{checked_book_exactly}
use Rattle.book_format.proofs.WritingLaws.{append_size}
use Rattle.book_format.proofs.Converting.{conversion_small}
use Rattle.messages.specs.Messages.{message, refusal_message}
use Rattle.messages.proofs.Texts.{length-message}
use Rattle.c_api.specs.Calls.{refused, number_of, numbered, opened_number}

-- ---- numbers

-- a length as an `i64`
pub length-fits : (l : ℕ) → l < 2 ^ 63 → SFits w64 (pos l)
length-fits l h = record { sfits = omega arith }

pub length_back : (l : ℕ) → l < 2 ^ 63 → to_z w64 l ≡ pos l
length_back l h = to_z_pos w64 l (omega arith)

negate_fits : (k : ℕ) → k < 256 → SFits w64 (neg_ℤ (pos k))
negate_fits zero h = record { sfits = omega arith }
negate_fits (suc k) h = record { sfits = omega arith }

-- `-k` for a cast byte
minus_is : (k : ℕ) → k < 256 → pos 0 -ℤ to_z w64 k ≡ neg_ℤ (pos k)
minus_is k h = rw (to_z_pos w64 k (omega arith)) (+ℤ_idl (neg_ℤ (pos k)))

pub refusal_back : (k : ℕ) → k < 256 → to_z w64 (of_z w64 (pos 0 -ℤ to_z w64 k)) ≡ refused k
unfolding refused
refusal_back k h = rw (minus_is k h) (to_z-of_z w64 (neg_ℤ (pos k)) (negate_fits k h))

-- a number that a call has answered
pub i64_back : (z : ℤ) → mag z < 9223372036854775808 → to_z w64 (of_z w64 z) ≡ z
i64_back z h = to_z-of_z w64 z (record { sfits = h })

-- the number of the result that `?` makes of a refusal
pub handed_on : (r : Result ℕ Refusal) (e : Refusal) → IsErr r × IsErrAnd r (λ (x : Refusal). x ≡ e) → number_of (as_answer r) ≡ refused (number e)
unfolding number_of
handed_on (Ok x) e h = absurd h.1
handed_on (Err x) e h = ap (λ (y : Refusal). refused (number y)) h.1

-- the number of a result that refuses with 14
pub no_room : (r : Result ℕ Refusal) (e : Refusal) → IsErr r × IsErrAnd r (λ (x : Refusal). x ≡ e)
    → {T : Type 0} {y : Result T Refusal} → y ≡ Err e → y ≡ Err OutputTooShort → number_of (as_answer r) ≡ refused 14
no_room r e h f g = let q : e ≡ OutputTooShort = cc in handed_on r e h ∙ ap (λ (x : Refusal). refused (number x)) q

-- the same for a call whose list has no room: its refusal comes before check 14
pub handed_first : (r : Result ℕ Refusal) (e : Refusal) → IsErr r × IsErrAnd r (λ (x : Refusal). x ≡ e)
    → number_of (as_answer r) ≡ refused (number e then 14)
handed_first r e h = rw (ne_eqb (number e) 0 (number_positive e)) (handed_on r e h)

pub answered : (z : ℤ) (a b : Answer) → mag z < 9223372036854775808 → z ≡ number_of a → a ≡ b → to_z w64 (of_z w64 z) ≡ number_of b
answered z a b h e q = i64_back z h ∙ e ∙ ap number_of q

-- with the output that the call below left
pub numbers_alike : {X : Type 0} (z : ℤ) (a : Answer) (after : List X) (o : Outcome X) → mag z < 9223372036854775808 → z ≡ number_of a
    → (a ≡ o.answer) × (after ≡ o.bytes) → (to_z w64 (of_z w64 z), after) ≡ numbered o
numbers_alike z a after o h e q = rw (i64_back z h, e, q.0, q.1)

-- ---- answers

-- a length that an answer gives is at most that of the longest book
abbrev pub Small : Answer → Type 0
Small a = (l : ℕ) → a ≡ answer.Length l → l ≤ 65535

answer_of_small : (r m : ℕ) → (r ≡ 0 → m ≤ 65535) → Small (answer_of r m)
answer_of_small r m h l e = let p = ((answer_of_exactly r m).1 l).0 e in omega (arith, h p.0, p.1)

writes_small : {X : Type 0} (r : ℕ) (l out : List X) → (r ≡ 0 → length l ≤ 65535) → Small (writes r l out).answer
unfolding writes
writes_small r l out h =
    let short = check 14 (too_short (length l) out) in
    answer_of_small (r then short) (length l) (λ z. h (then_zero r short z).0)

-- the length of a result fits, if it is below 2 ^ 63
pub fits_below : (r : Result ℕ Refusal) {a : Answer} → as_answer r ≡ a → ((l : ℕ) → a ≡ answer.Length l → l < 2 ^ 63) → IfOk r (λ (l : ℕ). l < 2 ^ 63)
fits_below (Ok l) e s = s l (sym e)
fits_below (Err r) e s = tt

-- so that of a result which is a small answer fits
pub fits : (r : Result ℕ Refusal) {a : Answer} → as_answer r ≡ a → Small a → IfOk r (λ (l : ℕ). l < 2 ^ 63)
fits r e s = fits_below r e (λ l q. omega (arith, s l q))

-- and the total of counts that are such ones
pub total_fits : (r : Result LengthCounts Refusal) {a : Counted} → as_counted r ≡ a → SmallTotal a
    → IfOk r (λ (c : LengthCounts). c.inversions + c.negative_sum_pairs + c.negatives < 2 ^ 63)
total_fits (Ok c) e s = let m = s c.inversions c.negative_sum_pairs c.negatives (sym e) in omega (arith, m)
total_fits (Err r) e s = tt

-- ---- the window layer

-- each call checks kind and rank first; s are its other checks, and w is the window whose entries, normal form or
-- length it answers
module _ (k n : ℕ) where
  module _ (s : ℕ) (w : List ℤ) (a : s ≡ 0 → Accepted (kind_of k) n w) (z : (rank_refusal k n then s) ≡ 0) where
    entries_le : length w ≤ 64
    entries_le = let h = then_zero (rank_refusal k n) s z in lanes_le k n (length w) h.0 (a h.1).size

    window_length_small : window_length (kind_of k) w ≤ 65535
    window_length_small = le_trans (window_length_le_4096 (kind_of k) n w (a (then_zero (rank_refusal k n) s z).1) entries_le) (omega arith)

    length_form_small : length (normal_form (kind_of k) n w) ≤ 65535
    length_form_small = rw (length-normal_form (kind_of k) n w (a (then_zero (rank_refusal k n) s z).1)) window_length_small

  module _ (s : ℕ) (w : List ℤ) (a : s ≡ 0 → Accepted (kind_of k) n w) where
    entries_small : (l out : List ℤ) → length l ≡ length w → Small (writes (rank_refusal k n then s) l out).answer
    entries_small l out e = writes_small (rank_refusal k n then s) l out (λ z. rw e (le_trans (entries_le s w a z) (omega arith)))

    form_small : (out : List ℕ) → Small (writes (rank_refusal k n then s) (normal_form (kind_of k) n w) out).answer
    form_small out = writes_small (rank_refusal k n then s) (normal_form (kind_of k) n w) out (length_form_small s w a)

    measured_small : Small (answer_of (rank_refusal k n then s) (window_length (kind_of k) w))
    measured_small = answer_of_small (rank_refusal k n then s) (window_length (kind_of k) w) (window_length_small s w a)

  shown : (u : List ℕ) → Accepted (kind_of k) n (window (kind_of k) n u)
  shown u = window_accepted (kind_of k) n u

  pub window_of_word_small : (u : List ℕ) (out : List ℤ) → Small (window_of_word k n u out).answer
  unfolding window_of_word
  window_of_word_small u out = entries_small (word_refusal n u) (window (kind_of k) n u) (λ z. shown u) (window (kind_of k) n u) out refl

  pub product_of_windows_small : (u v out : List ℤ) → Small (product_of_windows k n u v out).answer
  unfolding product_of_windows
  product_of_windows_small u v out =
      let first = window_refusal (kind_of k) n u in
      let second = window_refusal (kind_of k) n v in
      entries_small (first then second) v (λ z. accepted_of_refusal (kind_of k) n v (then_zero first second z).1) (product u v) out (length-product u v)

  pub inverse_of_window_small : (w out : List ℤ) → Small (inverse_of_window k n w out).answer
  unfolding inverse_of_window
  inverse_of_window_small w out =
      entries_small (window_refusal (kind_of k) n w) w (accepted_of_refusal (kind_of k) n w) (inverse w) out (length-inverse w)

  pub normal_form_of_window_small : (w : List ℤ) (out : List ℕ) → Small (normal_form_of_window k n w out).answer
  unfolding normal_form_of_window
  normal_form_of_window_small w out = form_small (window_refusal (kind_of k) n w) w (accepted_of_refusal (kind_of k) n w) out

  pub normal_form_of_word_small : (u out : List ℕ) → Small (normal_form_of_word k n u out).answer
  unfolding normal_form_of_word
  normal_form_of_word_small u out = form_small (word_refusal n u) (window (kind_of k) n u) (λ z. shown u) out

  pub product_of_words_small : (u v out : List ℕ) → Small (product_of_words k n u v out).answer
  unfolding product_of_words
  product_of_words_small u v out =
      form_small (word_refusal n u then word_refusal n v) (product (window (kind_of k) n u) (window (kind_of k) n v))
      (λ z. rw (← window-append (kind_of k) n u v) (shown (u ++ v))) out

  pub inverse_of_word_small : (u out : List ℕ) → Small (inverse_of_word k n u out).answer
  unfolding inverse_of_word
  inverse_of_word_small u out =
      form_small (word_refusal n u) (inverse (window (kind_of k) n u)) (λ z. inverse_accepted (kind_of k) n (window (kind_of k) n u) (shown u)) out

  pub length_of_window_small : (w : List ℤ) → Small (length_of_window k n w)
  unfolding length_of_window
  length_of_window_small w = measured_small (window_refusal (kind_of k) n w) w (accepted_of_refusal (kind_of k) n w)

  pub length_of_word_small : (u : List ℕ) → Small (length_of_word k n u)
  unfolding length_of_word
  length_of_word_small u = measured_small (word_refusal n u) (window (kind_of k) n u) (λ z. shown u)

-- ---- the layers above it

-- a rewritten word is no longer than the word, and so has at most 4,096 letters
pub rewrote_small : {k n : ℕ} {u : List ℕ} {p : ℕ} {before after : List ℕ} {a : Rewrite} → Rewrote single k n u p before after a
    → (f i j l : ℕ) → a ≡ Used f i j l → l ≤ 65535
unfolding rewrite_at
rewrote_small {k} {n} {u} {p} {before} {after} w f i j l e =
    let r = rank_refusal k n then word_refusal n u then check 12 (past_end u p) in
    elim (ℕ_discrete r 0) [
      | yes z ↦
          let x = then_zero (rank_refusal k n) (word_refusal n u then check 12 (past_end u p)) z in
          let y = then_zero (word_refusal n u) (check 12 (past_end u p)) x.1 in
          by_rule (record { rank = x.0; word = y.0 })
      | no g ↦
          let q : Refused r ≡ Used f i j l = sym (rw (ne_eqb r 0 g) at w.answer) ∙ e in
          impossible (cc)
    ]
  where
    by_rule : AcceptedWord k n u → l ≤ 65535
    by_rule h =
        let t = used_length f i j l h (subst (Rewrote single k n u p before after) e w) in
        omega (arith, length_accepted n u h.word)

-- the longest normal form at a rank with a table has at most 4,096 letters
pub delay_table_small : (k n : ℕ) (counts : List ℕ) (entries : List ℤ) (letters : List ℕ)
    → {a b l : ℕ} → (delay_table k n counts entries letters).answer ≡ table.Written a b l → l ≤ 65535
unfolding delay_table tables
delay_table_small k n counts entries letters {a} {b} {l} e =
    let d = distribution (kind_of k) n in
    let w = longest (kind_of k) n in
    let u = normal_form (kind_of k) n w in
    let r = table_refusal k n then room_refusal d w u counts entries letters in
    let p = ((table_of_exactly r (length d) (length w) (length u)).1 a b l).0 e in
    omega (arith, form_small (then_zero (table_refusal k n) (room_refusal d w u counts entries letters) p.0).0, p.3)
  where
    form_small : table_refusal k n ≡ 0 → length (normal_form (kind_of k) n (longest (kind_of k) n)) ≤ 4096
    form_small z =
        let x = longest_accepted (kind_of k) n (table_rank k n z).0 in
        let m = lanes_le k n (length (longest (kind_of k) n)) (table_accepted k n z) x.size in
        omega (arith, length-normal_form (kind_of k) n (longest (kind_of k) n) x, window_length_le_4096 (kind_of k) n (longest (kind_of k) n) x m)

pub appending_small : (ed : Edition) (b : List ℕ) (k n : ℕ) (u out : List ℕ) → Small (appending ed b k n u out).answer
unfolding appending
appending_small ed b k n u out = writes_small (append_refusal ed b k n u) (appended ed b k n u) out (append_size ed b k n u)

pub converting_small : (ed : Edition) (b out : List ℕ) → Small (converting ed b out).answer
unfolding converting
converting_small ed b out = writes_small (conversion_refusal ed b) (converted ed b) out (conversion_small ed b)

-- a run has no more presets than the book
pub reading_presets_small : (ed : Edition) (b : List ℕ) (i : ℕ) (out : List ℕ) → Small (reading_presets ed b i out).answer
unfolding reading_presets run_length
reading_presets_small ed b i out =
    let r = check 4 (no_such_preset b i) then check 14 (too_short 5 out) in
    answer_of_small (book_refusal ed b then r) (min (count b - i) (length out / 5))
    (λ z. let a = accepted ed b (then_zero (book_refusal ed b) r z).0 in omega arith)

pub presets_small : (ed : Edition) (b : List ℕ) (a : Opened) (c : ℕ) → a ≡ checked_book ed b → a ≡ opened.Presets c → c ≤ 65535
presets_small ed b a c e q =
    let p = ((checked_book_exactly ed b).1 c).0 (sym e ∙ q) in
    let a = accepted ed b p.0 in
    omega arith

pub presets-fit : (ed : Edition) (b : List ℕ) (r : Result ℕ Refusal) → as_opened r ≡ checked_book ed b → IfOk r (λ (c : ℕ). c < 2 ^ 63)
presets-fit ed b (Ok c) e = omega (arith, presets_small ed b (opened.Presets c) c e refl)
presets-fit ed b (Err r) e = tt

-- the number of presets as the number of a length
pub opened_numbered : (r : Result ℕ Refusal) → number_of (as_answer r) ≡ opened_number (as_opened r)
unfolding number_of opened_number
opened_numbered (Ok c) = refl
opened_numbered (Err r) = refl

-- a message has at most 255 characters
pub refusal_message_small : (k : ℕ) (out : List ℕ) → Small (refusal_message k out).answer
unfolding refusal_message
refusal_message_small k out = writes_small 0 (message k) out (λ z. le_trans (length-message k) (omega arith))
