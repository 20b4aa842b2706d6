-- What a call that writes leaves at the front of an output with room for every answer: it is not refused, and the
-- answer stands there whole. For the crates above, which call the window layer with work arrays of their own.
--
-- Sections: lengths; any call; the normal form and the window of a word.
-- Assumes nothing.
use mathlib.Core.Path.{◌≡◌, refl, sym, ◌∙◌}
use mathlib.Core.List.{List}
use Prim.Native.Nat.{ℕ, ◌≤◌}
use native.Mathlib.Omega.{arith}
use lib.IntN.{ℤ}
use lib.ListN.{length, take}
use Rattle.coxeter.specs.answers.Answer.{Answer}
use Rattle.coxeter.specs.answers.Answer as answer
use Rattle.coxeter.specs.Kinds.{kind_of}
use Rattle.coxeter.specs.Windows.{window}
use Rattle.coxeter.specs.Checks.{◌then◌, rank_refusal, word_refusal, RankOf, WordOf}
use Rattle.coxeter.specs.NormalForm.{word_normal_form}
use Rattle.coxeter.specs.Calls.{front, Yields, writes, normal_form_of_word, window_of_word}
use Rattle.coxeter.proofs.Refusals.{then_none}
use Rattle.coxeter.proofs.Acceptance.{lanes_le}
use Rattle.coxeter.proofs.Levels.{window_accepted}
use Rattle.coxeter.proofs.PairWeights.{window_length_le_4096}
use Rattle.coxeter.proofs.Lengths.{length-normal_form}
use Rattle.coxeter.proofs.FrontLaws.{take-front}
use Rattle.coxeter.proofs.Outcomes.{writes-written}
use Rattle.coxeter.proofs.Writes.{length_or_refused}

-- ---- lengths

-- M2: the window of a word has at most 64 entries, its normal form at most 4,096 letters
pub length-window_le : (k n : ℕ) (u : List ℕ) → RankOf k n → length (window (kind_of k) n u) ≤ 64
length-window_le k n u h = lanes_le k n (length (window (kind_of k) n u)) h (window_accepted (kind_of k) n u).size

pub length_form_le : (k n : ℕ) (u : List ℕ) → RankOf k n → length (word_normal_form (kind_of k) n u) ≤ 4096
length_form_le k n u h =
    let w = window (kind_of k) n u in
    let a = window_accepted (kind_of k) n u in
    rw (length-normal_form (kind_of k) n w a) (window_length_le_4096 (kind_of k) n w a (length-window_le k n u h))

-- ---- any call

-- l stands at the front of v, of length m and no longer than `most`
pub record AtFront {X : Type 0} (most : ℕ) (l v : List X) (m : ℕ) : Type 0 where
  pub bound : m ≤ most
  pub size : m ≡ length l
  pub part : take m v ≡ l

-- a call that writes l, where nothing refused and there was room; v is the output afterwards
module _ {X : Type 0} (most r : ℕ) (l out v : List X) (z : r ≡ 0) (h : length l ≤ most) (f : most ≡ length out) where
  done : Yields (writes r l out) (answer.Length (length l)) (front l out)
  done = writes-written (writes r l out) r r l out refl refl (length l) (front l out) z refl (omega arith) refl

  pub front_of_bytes : (m : ℕ) → m ≡ length l → v ≡ (writes r l out).bytes → AtFront most l v m
  front_of_bytes m s e = record { bound = omega arith; size = s; part = rw (e ∙ sym done.1) (take-front l out m (sym s)) }

  -- a is what it answered
  module _ (a : Answer) (e : Yields (writes r l out) a v) where
    pub front-written : (m : ℕ) → a ≡ answer.Length m → AtFront most l v m
    front-written m q =
        let p : answer.Length m ≡ answer.Length (length l) = sym q ∙ e.0 ∙ sym done.0 in
        let s : m ≡ length l = cc in
        front_of_bytes m s e.1

    never_refused : (s : ℕ) → a ≡ answer.Refused s → ⊥
    never_refused s q = length_or_refused (e.0 ∙ sym done.0) q

-- ---- the normal form and the window of a word

module _ (k n : ℕ) (u : List ℕ) (h : RankOf k n) (g : WordOf n u) where
  abbrev checks : ℕ
  checks = rank_refusal k n then word_refusal n u

  none : checks ≡ 0
  none = then_none (rank_refusal k n) (word_refusal n u) h ∙ g

  module _ (out v : List ℕ) (a : Answer) (f : 4096 ≡ length out) (e : Yields (normal_form_of_word k n u out) a v) where
    abbrev form : List ℕ
    form = word_normal_form (kind_of k) n u

    pub form_front : (m : ℕ) → a ≡ answer.Length m → AtFront 4096 (word_normal_form (kind_of k) n u) v m
    form_front m q = front-written 4096 checks form out v none (length_form_le k n u h) f a (unfold normal_form_of_word in e) m q

    pub form_never : (s : ℕ) → a ≡ answer.Refused s → ⊥
    form_never s q = never_refused 4096 checks form out v none (length_form_le k n u h) f a (unfold normal_form_of_word in e) s q

  module _ (out v : List ℤ) (f : 64 ≡ length out) (a : Answer) (e : Yields (window_of_word k n u out) a v) where
    abbrev shown : List ℤ
    shown = window (kind_of k) n u

    pub window-front : (m : ℕ) → a ≡ answer.Length m → AtFront 64 (window (kind_of k) n u) v m
    window-front m q = front-written 64 checks shown out v none (length-window_le k n u h) f a (unfold window_of_word in e) m q

    pub window_never : (s : ℕ) → a ≡ answer.Refused s → ⊥
    window_never s q = never_refused 64 checks shown out v none (length-window_le k n u h) f a (unfold window_of_word in e) s q
