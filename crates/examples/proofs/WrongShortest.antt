-- Wrong answers of the calls on shortest words, each of the type of its call's definition. WrongAnswers.antt says
-- where each is wrong.
-- Assumes nothing.
use mathlib.Core.Bool.{Bool, not, ◌&&◌}
use mathlib.Core.List.{List}
use Prim.Native.Nat.{ℕ, suc}
use lib.Dec.{leb}
use lib.IntN.{ℤ}
use lib.ListN.{length}
use Rattle.coxeter.specs.Kinds.{kind_of, lanes}
use Rattle.coxeter.specs.Windows.{identity, window}
use Rattle.coxeter.specs.Checks.{check, ◌then◌, too_short, rank_refusal, word_refusal, window_refusal}
use Rattle.coxeter.specs.Calls.{Outcome, writes}
use Rattle.shortest_words.specs.answers.Fallback.{Fallback}
use Rattle.shortest_words.specs.Fallback.{some_subword, is_fallback}
use Rattle.shortest_words.specs.Calls.{fallback_of, simpler_length}
use Rattle.shortest_words.specs.Allowed.{allows, wrong_set, set_refusal}
use Rattle.shortest_words.specs.Between.{between, reachable}
use Rattle.shortest_words.specs.BetweenCalls.{unreachable, between_refusal}

-- ---- fallbacks

-- the call by another verdict
abbrev fallback_by : Bool → ℕ → ℕ → List ℕ → List ℕ → List ℕ → Fallback
fallback_by t k n u v places =
    let l = simpler_length k n v in
    fallback_of (rank_refusal k n then word_refusal n u then word_refusal n v then check 14 (t && too_short l places)) t l

-- yes where the simpler window is no longer than the present one
abbrev pub verdict_by_length_alone : ℕ → ℕ → List ℕ → List ℕ → List ℕ → Fallback
verdict_by_length_alone k n u v places = fallback_by (leb (simpler_length k n v) (simpler_length k n u)) k n u v places

-- steps removed from the present word as it came, and not from its normal form
abbrev pub present_word_unshortened : ℕ → ℕ → List ℕ → List ℕ → List ℕ → Fallback
present_word_unshortened k n u v places =
    fallback_by (some_subword (kind_of k) n (identity (lanes (kind_of k) n)) u (window (kind_of k) n v)) k n u v places

-- check 14 also with a no
abbrev pub room_asked_for_a_no : ℕ → ℕ → List ℕ → List ℕ → List ℕ → Fallback
room_asked_for_a_no k n u v places =
    let l = simpler_length k n v in
    fallback_of (rank_refusal k n then word_refusal n u then word_refusal n v then check 14 (too_short l places)) (is_fallback (kind_of k) n u v) l

-- ---- from one window to another

-- the checks of the windows
abbrev windows_refusal : ℕ → ℕ → List ℤ → List ℤ → ℕ
windows_refusal k n v w = window_refusal (kind_of k) n v then window_refusal (kind_of k) n w

-- from the second window to the first
abbrev pub way_back : ℕ → ℕ → ℕ → List ℤ → List ℤ → List ℕ → Outcome ℕ
way_back k n set v w out = writes (between_refusal k n set v w) (between (kind_of k) n w v) out

-- a letter that is not allowed let through
abbrev pub letters_not_asked : ℕ → ℕ → ℕ → List ℤ → List ℤ → List ℕ → Outcome ℕ
letters_not_asked k n set v w out = writes (set_refusal k n set then windows_refusal k n v w) (between (kind_of k) n v w) out

-- check 14 before check 19
abbrev pub room_before_the_way : ℕ → ℕ → ℕ → List ℤ → List ℤ → List ℕ → Outcome ℕ
room_before_the_way k n set v w out =
    let u = between (kind_of k) n v w in
    writes (set_refusal k n set then windows_refusal k n v w then check 14 (too_short (length u) out) then check 19 (unreachable (kind_of k) n set v w)) u out

-- check 16 after the windows
abbrev pub windows_before_the_set : ℕ → ℕ → ℕ → List ℤ → List ℤ → List ℕ → Outcome ℕ
windows_before_the_set k n set v w out =
    writes (rank_refusal k n then windows_refusal k n v w then check 16 (wrong_set n set) then check 19 (unreachable (kind_of k) n set v w))
    (between (kind_of k) n v w) out

-- bit 1 for step 1
abbrev pub bits_one_off : ℕ → ℕ → ℕ → List ℤ → List ℤ → List ℕ → Outcome ℕ
bits_one_off k n set v w out =
    writes (set_refusal k n set then windows_refusal k n v w then check 19 (not (reachable (λ s. allows set (suc s)) (kind_of k) n v w)))
    (between (kind_of k) n v w) out
