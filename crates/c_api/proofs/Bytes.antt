-- Kinds and ranks of 32 bits, as the calls below take them: a byte each, and 0 for what is none. Checks 5 and 6
-- refuse both alike, and a call that they refuse depends on nothing else of its kind and rank.
--
-- Sections: kinds and ranks; calls that go by them; the calls; answers; refusals of 32 bits.
-- Assumes nothing.
use mathlib.Core.Path.{◌≡◌, refl, sym, ap, ap₂, ◌∙◌}
use mathlib.Core.Bool.{Bool, true, false, or-true}
use mathlib.Core.Logic.{◌⊎◌, inl, inr}
use mathlib.Core.List.{List}
use Prim.Native.Nat.{ℕ, ◌≤◌, ◌<◌}
use native.Mathlib.Decide.{ℕ_discrete, dec_le}
use native.Mathlib.Omega.{arith}
use lib.Dec.{ltb}
use lib.IntN.{ℤ}
use lib.Signed.{mag}
use mir.Syntax.{w64}
use mir.Val.{to_z, of_z}
use borrow.Author.Tests.{ne_eqb, lt-ltb, le-ltb}
use Rattle.coxeter.specs.answers.Answer.{Answer}
use Rattle.coxeter.specs.declared.Kind.{Kind}
use Rattle.coxeter.specs.declared.Kind.TheVariants.{A, B, D}
use Rattle.coxeter.specs.Kinds.{pick, kind_of}
use Rattle.coxeter.specs.Checks.{◌then◌, wrong_kind, wrong_rank, rank_refusal, word_refusal}
use Rattle.coxeter.specs.answers.Counted.{Counted}
use Rattle.coxeter.specs.answers.Verdict.{Verdict}
use Rattle.coxeter.specs.answers.Choice.{Choice}
use Rattle.coxeter.specs.Length.{Crossings}
use Rattle.coxeter.specs.Calls.{counted_of, crossings_of_window, crossings_of_word, verdict_of, presets_equal, hands_back, choice}
use Rattle.coxeter.specs.Calls.{Outcome, answer_of, written, writes, window_of_word, product_of_windows, inverse_of_window}
use Rattle.coxeter.specs.Calls.{normal_form_of_window, normal_form_of_word, product_of_words, inverse_of_word, length_of_window, length_of_word}
use Rattle.coxeter.proofs.Refusals.{then_assoc, wrong_kind-above}
use Rattle.rules.specs.Calls.{rewrite_at}
use Rattle.book_format.specs.declared.Edition.{Edition}
use Rattle.book_format.specs.Books.{book_refusal, append_refusal}
use Rattle.book_format.specs.Calls.{appending}
use Rattle.book_format.proofs.RankLaws.{book_rank_refusal-refused}
use Rattle.distribution.specs.Calls.{table_refusal, table_of, tables, delay_table}
use Rattle.messages.specs.Messages.{refusal_message}
use Rattle.messages.proofs.Texts.{unknown_alike}
use Rattle.c_api.specs.Calls.{number_of, numbered, verdict_number, choice_number, rewriting, crossing_numbers, listed}
use Rattle.c_api.proofs.Lengths.{answered, i64_back, numbers_alike}

-- ---- kinds and ranks

abbrev pub byte_of : ℕ → ℕ
byte_of x = pick (ltb 255 x) 0 x

pub byte_of_byte : (x : ℕ) → x ≤ 255 → byte_of x ≡ x
byte_of_byte x h = rw (le-ltb 255 x h)

pub byte_of-above : (x : ℕ) → 255 < x → byte_of x ≡ 0
byte_of-above x h = rw (lt-ltb 255 x h)

rank_refusal_kind : (k n : ℕ) → wrong_kind k ≡ true → rank_refusal k n ≡ 5
unfolding rank_refusal
rank_refusal_kind k n h = rw h

rank_refusal_rank : (k n : ℕ) → wrong_kind k ≡ false → wrong_rank (kind_of k) n ≡ true → rank_refusal k n ≡ 6
unfolding rank_refusal
rank_refusal_rank k n h w = rw (h, w)

wrong_rank_zero : (k : Kind) → wrong_rank k 0 ≡ true
unfolding wrong_rank
wrong_rank_zero A = refl
wrong_rank_zero B = refl
wrong_rank_zero D = refl

wrong_rank-above : (k : Kind) (n : ℕ) → 255 < n → wrong_rank k n ≡ true
unfolding wrong_rank
wrong_rank-above A n h = rw (lt-ltb 63 n (omega arith)) (or-true (ltb n 1))
wrong_rank-above B n h = rw (lt-ltb 64 n (omega arith)) (or-true (ltb n 2))
wrong_rank-above D n h = rw (lt-ltb 64 n (omega arith)) (or-true (ltb n 4))

-- the two are bytes, or are refused as their bytes are
pub bytes_or_refused : (k n : ℕ) → ((byte_of k ≡ k) × (byte_of n ≡ n)) ⊎ ((rank_refusal (byte_of k) (byte_of n) ≡ rank_refusal k n) × (rank_refusal k n ≡ 0 → ⊥))
unfolding wrong_kind
bytes_or_refused k n = elim (dec_le k 255) [
  | yes h ↦ elim (dec_le n 255) [ yes g ↦ inl (byte_of_byte k h, byte_of_byte n g) | no g ↦ inr (high_rank (omega arith) (byte_of_byte k h) (wrong_kind k) refl) ]
  | no h ↦ inr (high_kind (omega arith))
]
  where
    high_kind : 255 < k → (rank_refusal (byte_of k) (byte_of n) ≡ rank_refusal k n) × (rank_refusal k n ≡ 0 → ⊥)
    high_kind h =
        let e = rank_refusal_kind k n (wrong_kind-above k (omega arith)) in
        (ap (λ (x : ℕ). rank_refusal x (byte_of n)) (byte_of-above k h) ∙ rank_refusal_kind 0 (byte_of n) refl ∙ sym e, λ z. omega (arith, e))

    high_rank : 255 < n → byte_of k ≡ k → (t : Bool) → wrong_kind k ≡ t → (rank_refusal (byte_of k) (byte_of n) ≡ rank_refusal k n) × (rank_refusal k n ≡ 0 → ⊥)
    high_rank h b true w =
        let e = rank_refusal_kind k n w in
        (ap (λ (x : ℕ). rank_refusal x (byte_of n)) b ∙ rank_refusal_kind k (byte_of n) w ∙ sym e, λ z. omega (arith, e))
    high_rank h b false w =
        let e = rank_refusal_rank k n w (wrong_rank-above (kind_of k) n h) in
        (ap₂ rank_refusal b (byte_of-above n h) ∙ rank_refusal_rank k 0 w (wrong_rank_zero (kind_of k)) ∙ sym e, λ z. omega (arith, e))

-- ---- calls that go by them

-- a call that checks 5 and 6 refuse depends on nothing but the refusal of its kind and rank
pub record Refusable {Y : Type 0} (F : ℕ → ℕ → Y) : Type 0 where
  pub refused_same : (k n l m : ℕ) → rank_refusal l m ≡ rank_refusal k n → (rank_refusal k n ≡ 0 → ⊥) → F l m ≡ F k n

-- so it is the same for the bytes
as_bytes : {Y : Type 0} {F : ℕ → ℕ → Y} → Refusable F → (k n l m : ℕ) → l ≡ byte_of k → m ≡ byte_of n → F l m ≡ F k n
as_bytes {Y} {F} r k n l m e f =
    ap₂ F e f ∙ elim (bytes_or_refused k n) [ inl h ↦ ap₂ F h.0 h.1 | inr h ↦ r.refused_same k n (byte_of k) (byte_of n) h.0 h.1 ]

-- the refusal of checks 5 and 6, after p and before s or t, decides
then_decided : (p r q s t : ℕ) → q ≡ r → (r ≡ 0 → ⊥) → ((p then (q then s)) ≡ (p then (r then t))) × ((p then (r then t)) ≡ 0 → ⊥)
then_decided p r q s t e f = elim (ℕ_discrete p 0) [
  | yes z ↦ rw (e, z, ne_eqb r 0 f) (refl, f)
  | no g ↦ rw (ne_eqb p 0 g) (refl, g)
]

writes-refused_alike : {X : Type 0} (r q : ℕ) (u v out : List X) → q ≡ r → (r ≡ 0 → ⊥) → writes q u out ≡ writes r v out
unfolding writes answer_of written
writes-refused_alike r q u v out e f = rw (e, ne_eqb r 0 f) (rw (ne_eqb r 0 f) refl)

writes_alike : {X : Type 0} (p : ℕ) {r q : ℕ} (s t : ℕ) (u v out : List X) → q ≡ r → (r ≡ 0 → ⊥)
    → writes (p then (q then s)) u out ≡ writes (p then (r then t)) v out
writes_alike p {r} {q} s t u v out e f =
    let a = then_decided p r q s t e f in
    writes-refused_alike (p then (r then t)) (p then (q then s)) u v out a.0 a.1

verdict_refused_alike : {r q : ℕ} (a b : Bool) → q ≡ r → (r ≡ 0 → ⊥) → verdict_of q a ≡ verdict_of r b
unfolding verdict_of
verdict_refused_alike {r} a b e f = rw (e, ne_eqb r 0 f) refl

-- ---- the calls

-- calls that check kind and rank first: s are their other checks
module _ (s : ℕ → ℕ → ℕ) where
  writes_refusable : {X : Type 0} (u : ℕ → ℕ → List X) (out : List X) → Refusable (λ k n. writes (rank_refusal k n then s k n) (u k n) out)
  writes_refusable u out = record { refused_same = λ k n l m e f. writes_alike 0 (s l m) (s k n) (u l m) (u k n) out e f }

  answers_refusable : (x : ℕ → ℕ → ℕ) → Refusable (λ k n. answer_of (rank_refusal k n then s k n) (x k n))
  unfolding answer_of
  answers_refusable x = record { refused_same = λ k n l m e f. simp (e, ne_eqb (rank_refusal k n) 0 f) }

  counts_refusable : (x : ℕ → ℕ → Crossings) → Refusable (λ k n. counted_of (rank_refusal k n then s k n) (x k n))
  unfolding counted_of
  counts_refusable x = record { refused_same = λ k n l m e f. simp (e, ne_eqb (rank_refusal k n) 0 f) }

pub window_of_word_refusable : (u : List ℕ) (out : List ℤ) → Refusable (λ k n. window_of_word k n u out)
unfolding window_of_word
window_of_word_refusable u out = writes_refusable _ _ _

pub normal_form_of_word_refusable : (u out : List ℕ) → Refusable (λ k n. normal_form_of_word k n u out)
unfolding normal_form_of_word
normal_form_of_word_refusable u out = writes_refusable _ _ _

pub product_of_words_refusable : (u v out : List ℕ) → Refusable (λ k n. product_of_words k n u v out)
unfolding product_of_words
product_of_words_refusable u v out = writes_refusable _ _ _

pub inverse_of_word_refusable : (u out : List ℕ) → Refusable (λ k n. inverse_of_word k n u out)
unfolding inverse_of_word
inverse_of_word_refusable u out = writes_refusable _ _ _

pub length_of_word_refusable : (u : List ℕ) → Refusable (λ k n. length_of_word k n u)
unfolding length_of_word
length_of_word_refusable u = answers_refusable _ _

pub crossings_of_word_refusable : (u : List ℕ) → Refusable (λ k n. crossings_of_word k n u)
unfolding crossings_of_word
crossings_of_word_refusable u = counts_refusable _ _

pub normal_form_of_window_refusable : (w : List ℤ) (out : List ℕ) → Refusable (λ k n. normal_form_of_window k n w out)
unfolding normal_form_of_window
normal_form_of_window_refusable w out = writes_refusable _ _ _

pub product_of_windows_refusable : (u v out : List ℤ) → Refusable (λ k n. product_of_windows k n u v out)
unfolding product_of_windows
product_of_windows_refusable u v out = writes_refusable _ _ _

pub inverse_of_window_refusable : (w out : List ℤ) → Refusable (λ k n. inverse_of_window k n w out)
unfolding inverse_of_window
inverse_of_window_refusable w out = writes_refusable _ _ _

pub length_of_window_refusable : (w : List ℤ) → Refusable (λ k n. length_of_window k n w)
unfolding length_of_window
length_of_window_refusable w = answers_refusable _ _

pub crossings_of_window_refusable : (w : List ℤ) → Refusable (λ k n. crossings_of_window k n w)
unfolding crossings_of_window
crossings_of_window_refusable w = counts_refusable _ _

-- a record's kind and rank that a call refuses are refused alike
pub appending_refusable : (ed : Edition) (b u out : List ℕ) → Refusable (λ k n. appending ed b k n u out)
unfolding appending append_refusal
appending_refusable ed b u out = record {
  refused_same = λ k n l m e f.
      let same = book_rank_refusal-refused ed k n (rank_refusal k n) refl f in
      let other = book_rank_refusal-refused ed l m (rank_refusal l m) refl (λ z. f (sym e ∙ z)) in
      writes_alike (book_refusal ed b) _ _ _ _ out (other ∙ e ∙ sym same) (λ z. f (sym same ∙ z));
}

pub delay_table_refusable : (counts : List ℕ) (entries : List ℤ) (letters : List ℕ) → Refusable (λ k n. delay_table k n counts entries letters)
unfolding delay_table table_refusal tables table_of written
delay_table_refusable counts entries letters = record { refused_same = λ k n l m e f. simp (e, ne_eqb (rank_refusal k n) 0 f) }

-- the verdict, in its first preset and in its second
first_refusable : (u : List ℕ) (k₂ n₂ : ℕ) (v : List ℕ) → Refusable (λ k n. presets_equal k n u k₂ n₂ v)
unfolding presets_equal
first_refusable u k₂ n₂ v = record {
  refused_same = λ k n l m e f. let a = then_decided 0 (rank_refusal k n) (rank_refusal l m) _ _ e f in verdict_refused_alike _ _ a.0 a.1;
}

second_refusable : (k₁ n₁ : ℕ) (u v : List ℕ) → Refusable (λ k n. presets_equal k₁ n₁ u k n v)
unfolding presets_equal
second_refusable k₁ n₁ u v = record {
  refused_same = λ k n l m e f.
      let first = rank_refusal k₁ n₁ then word_refusal n₁ u in
      let a = then_decided first (rank_refusal k n) (rank_refusal l m) (word_refusal m v) (word_refusal n v) e f in
      let p = then_assoc (rank_refusal k₁ n₁) (word_refusal n₁ u) (rank_refusal l m then word_refusal m v) in
      let q = then_assoc (rank_refusal k₁ n₁) (word_refusal n₁ u) (rank_refusal k n then word_refusal n v) in
      verdict_refused_alike _ _ (sym p ∙ a.0 ∙ q) (λ z. a.1 (q ∙ z));
}

-- l and m are the bytes of the kind k and the rank n
pub record AreBytes (k n l m : ℕ) : Type 0 where
  pub kind : l ≡ byte_of k
  pub rank : m ≡ byte_of n

pub verdict_as_bytes : {k n k₂ n₂ l m l₂ m₂ : ℕ} (u v : List ℕ) → AreBytes k n l m → AreBytes k₂ n₂ l₂ m₂
    → presets_equal l m u l₂ m₂ v ≡ presets_equal k n u k₂ n₂ v
verdict_as_bytes {k} {n} {k₂} {n₂} {l} {m} {l₂} {m₂} u v a b =
    as_bytes (first_refusable u l₂ m₂ v) k n l m a.kind a.rank ∙ as_bytes (second_refusable k n u v) k₂ n₂ l₂ m₂ b.kind b.rank

-- z is the number of the verdict a on the bytes
pub verdict_numbered : (k n k₂ n₂ : ℕ) (u v : List ℕ) {l m l₂ m₂ : ℕ} {a : Verdict} {z : ℤ} → l ≡ byte_of k → m ≡ byte_of n → l₂ ≡ byte_of k₂ → m₂ ≡ byte_of n₂
    → a ≡ presets_equal l m u l₂ m₂ v → z ≡ verdict_number a → z ≡ verdict_number (presets_equal k n u k₂ n₂ v)
verdict_numbered k n k₂ n₂ u v b c b₂ c₂ e f =
    f ∙ ap verdict_number (e ∙ verdict_as_bytes u v (record { kind = b; rank = c }) (record { kind = b₂; rank = c₂ }))

better_refusable : (u v : List ℕ) → Refusable (λ k n. hands_back k n u v)
unfolding hands_back
better_refusable u v = record { refused_same = λ k n l m e f. rw (e, ne_eqb (rank_refusal k n) 0 f) (rw (ne_eqb (rank_refusal k n) 0 f) refl) }

-- z is the number of the choice a by the bytes
pub choice_numbered : (k n : ℕ) (u v : List ℕ) (second : Bool) {l m : ℕ} {a : Choice} {z : ℤ} → l ≡ byte_of k → m ≡ byte_of n
    → a ≡ choice (hands_back l m u v) second → z ≡ choice_number a → z ≡ choice_number (choice (hands_back k n u v) second)
choice_numbered k n u v second {l} {m} b c e f =
    f ∙ ap choice_number (e ∙ ap (λ (hands : Bool). choice hands second) (as_bytes (better_refusable u v) k n l m b c))

pub rewriting_refusable : (u : List ℕ) (p : ℕ) (out rule : List ℕ) → Refusable (λ k n. rewriting k n u p out rule)
unfolding rewriting rewrite_at
rewriting_refusable u p out rule = record { refused_same = λ k n l m e f. rw (e, ne_eqb (rank_refusal k n) 0 f) (rw (ne_eqb (rank_refusal k n) 0 f) refl) }

-- ---- answers

-- a call below was given the bytes, and answered a; its number is z
pub measured : {F : ℕ → ℕ → Answer} → Refusable F → (k n : ℕ) {l m : ℕ} {z : ℤ} {a : Answer} → l ≡ byte_of k → m ≡ byte_of n → mag z < 9223372036854775808
    → z ≡ number_of a → a ≡ F l m → to_z w64 (of_z w64 z) ≡ number_of (F k n)
measured r k n {l} {m} {z} {a} e f h q b = answered z a _ h q (b ∙ as_bytes r k n l m e f)

pub yielded : {X : Type 0} {F : ℕ → ℕ → Outcome X} → Refusable F → (k n : ℕ) {l m : ℕ} {z : ℤ} {a : Answer} {after : List X} → l ≡ byte_of k → m ≡ byte_of n
    → mag z < 9223372036854775808 → z ≡ number_of a → (a ≡ (F l m).answer) × (after ≡ (F l m).bytes) → (to_z w64 (of_z w64 z), after) ≡ numbered (F k n)
yielded r k n {l} {m} {z} {a} {after} e f h q b = numbers_alike z a after _ h q (rw (as_bytes r k n l m e f) at b)

-- and a call that counts answered a, whose numbers went to a list with the number x
pub crossings_as_bytes : {F : ℕ → ℕ → Counted} → Refusable F → (k n : ℕ) (list : List ℕ) {l m : ℕ} {a : Counted} {x z : ℤ} {after : List ℕ} → l ≡ byte_of k → m ≡ byte_of n
    → mag z < 9223372036854775808 → z ≡ x → (x, after) ≡ listed (crossing_numbers a) list → a ≡ F l m
    → (to_z w64 (of_z w64 z), after) ≡ listed (crossing_numbers (F k n)) list
crossings_as_bytes f k n list {l} {m} {z = z} b c h e s d = rw (← (d ∙ as_bytes f k n l m b c), i64_back z h, e) s

-- and a call whose number is x left y
pub as_bytes_back : {Y : Type 0} {F : ℕ → ℕ → ℤ × Y} → Refusable F → (k n : ℕ) {l m : ℕ} {x z : ℤ} (y : Y) → l ≡ byte_of k → m ≡ byte_of n
    → mag z < 9223372036854775808 → z ≡ x → (x, y) ≡ F l m → (to_z w64 (of_z w64 z), y) ≡ F k n
as_bytes_back r k n {l} {m} {z = z} y b c h e q = rw (i64_back z h, e) (q ∙ as_bytes r k n l m b c)

-- ---- refusals of 32 bits: a number that is no byte has no message, as 0 has none

message_as_byte : (k : ℕ) (out : List ℕ) → refusal_message (byte_of k) out ≡ refusal_message k out
message_as_byte k out = elim (dec_le k 255) [
  | yes h ↦ ap (λ (j : ℕ). refusal_message j out) (byte_of_byte k h)
  | no g ↦ ap (λ (j : ℕ). refusal_message j out) (byte_of-above k (omega arith)) ∙ sym (unknown_alike k out (omega arith))
]

pub message_yielded : (k : ℕ) {l : ℕ} (out : List ℕ) {z : ℤ} {a : Answer} {after : List ℕ} → l ≡ byte_of k → mag z < 9223372036854775808 → z ≡ number_of a
    → (a ≡ (refusal_message l out).answer) × (after ≡ (refusal_message l out).bytes) → (to_z w64 (of_z w64 z), after) ≡ numbered (refusal_message k out)
message_yielded k {l} out {z} {a} {after} e h q b =
    let same : refusal_message l out ≡ refusal_message k out = ap (λ (j : ℕ). refusal_message j out) e ∙ message_as_byte k out in
    numbers_alike z a after (refusal_message k out) h q (rw same at b)
