-- What the call on fallbacks returns and writes, for every input (I18 of the specification).
use Rattle.std.specs.Prelude.{◌≡◌, Bool, ◌&&◌, List, ℕ, eqb, take, drop}
use Rattle.coxeter.specs.Kinds.{pick, kind_of}
use Rattle.coxeter.specs.Windows.{window}
use Rattle.coxeter.specs.Length.{window_length}
use Rattle.coxeter.specs.Checks.{check, ◌then◌, too_short, rank_refusal, word_refusal}
use Rattle.coxeter.specs.NormalForm.{word_normal_form}
use Rattle.shortest_words.specs.answers.Fallback.{Fallback}
use Rattle.shortest_words.specs.answers.Fallback.{Kept, No, Refused}
use Rattle.shortest_words.specs.Fallback.{ShortestSubwordPlaces, is_fallback}

-- I18, G17: the number and the values of each case of `Fallback`: its refusal, or with none the number of places
-- kept, or no
unfoldable pub fallback_of : ℕ → Bool → ℕ → Fallback
fallback_of r t l = pick (eqb r 0) (pick t (Kept l) No) (Refused r)

-- F3: the length of the simpler window, which is the number of places
abbrev pub simpler_length : ℕ → ℕ → List ℕ → ℕ
simpler_length k n simpler = window_length (kind_of k) (window (kind_of k) n simpler)

-- I18, F8: 14 comes only if there is a fallback
unfoldable pub fallback_answer : ℕ → ℕ → List ℕ → List ℕ → List ℕ → Fallback
fallback_answer k n present simpler places =
    let falls = is_fallback (kind_of k) n present simpler in
    let l = simpler_length k n simpler in
    fallback_of (rank_refusal k n then word_refusal n present then word_refusal n simpler then check 14 (falls && too_short l places)) falls l

-- F3, F5: how many places of the list are written
unfoldable pub kept_count : Fallback → ℕ
kept_count (Kept l) = l
kept_count No = 0
kept_count (Refused r) = 0

-- I18: the answer a, and the lent list `places` afterwards
pub record FellBack (k n : ℕ) (present simpler places : List ℕ) (a : Fallback) (after : List ℕ) : Type 0 where
  -- F2
  pub answer : a ≡ fallback_answer k n present simpler places
  -- F3, F4: with a yes, what holds of the front of the list; which list comes is left free (G2)
  pub kept : (l : ℕ) → a ≡ Kept l → ShortestSubwordPlaces (kind_of k) n (word_normal_form (kind_of k) n present) (window (kind_of k) n simpler) (take l after)
  -- F5, I2: every other place of the list keeps what it held
  pub others : drop (kept_count a) after ≡ drop (kept_count a) places
