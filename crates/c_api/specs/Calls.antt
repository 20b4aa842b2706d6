-- What a call for C returns and writes, from what the layers' calls do (section IC of the specification).
--
-- Sections: one number; numbers that go to a list; the calls.
use Rattle.std.specs.Prelude.{◌&&◌, List, [], ◌∷◌, ℕ, ◌+◌, ◌*◌, leb, ℤ, pos, negsuc, neg_ℤ, length, take}
use Rattle.std.proofs.Math.Option.{Option, none, some}
use Rattle.coxeter.specs.answers.Answer.{Answer}
use Rattle.coxeter.specs.answers.Answer as answer
use Rattle.coxeter.specs.answers.Verdict.{Verdict}
use Rattle.coxeter.specs.answers.Verdict as verdict
use Rattle.coxeter.specs.answers.Choice.{Choice}
use Rattle.coxeter.specs.answers.Choice as choices
use Rattle.coxeter.specs.answers.Counted.{Counted}
use Rattle.coxeter.specs.answers.Counted as counted
use Rattle.coxeter.specs.Kinds.{pick}
use Rattle.coxeter.specs.Checks.{too_short}
use Rattle.coxeter.specs.Calls.{front, Outcome}
use Rattle.rules.specs.Calls.{Interface, rewrite_at}
use Rattle.shortest_words.specs.answers.Split.{Split}
use Rattle.shortest_words.specs.answers.Split as split
use Rattle.shortest_words.specs.SplitCalls.{splitting}
use Rattle.traces.specs.answers.ToEnd.{ToEnd}
use Rattle.traces.specs.answers.ToEnd as to_end
use Rattle.traces.specs.Traces.{rewriting_to_end}
use Rattle.distribution.specs.answers.Table.{Table}
use Rattle.distribution.specs.answers.Table as table
use Rattle.distribution.specs.Calls.{delay_table}
use Rattle.book_format.specs.answers.Opened.{Opened}
use Rattle.book_format.specs.answers.Opened as opened
use Rattle.book_format.specs.answers.Preset.{Preset}
use Rattle.book_format.specs.answers.Preset as preset

-- ---- one number

-- IC2: refusal k is −k
unfoldable pub refused : ℕ → ℤ
refused k = neg_ℤ (pos k)

-- IC2, I1: the length written, or the length asked for
unfoldable pub number_of : Answer → ℤ
number_of (answer.Length l) = pos l
number_of (answer.Refused k) = refused k

-- IC2: the number of a call with one output, and the output afterwards
abbrev pub numbered : {X : Type 0} → Outcome X → ℤ × List X
numbered o = (number_of o.answer, o.bytes)

-- IC1, I15: 1 is yes, 0 is no
unfoldable pub verdict_number : Verdict → ℤ
verdict_number verdict.Yes = pos 1
verdict_number verdict.No = pos 0
verdict_number (verdict.Refused k) = refused k

-- IC1, I17: 1 is the first, 2 the second, 0 neither
unfoldable pub choice_number : Choice → ℤ
choice_number choices.First = pos 1
choice_number choices.Second = pos 2
choice_number choices.Neither = pos 0

-- IC1, I25: the number of presets
unfoldable pub opened_number : Opened → ℤ
opened_number (opened.Presets c) = pos c
opened_number (opened.Refused k) = refused k

-- IC10: the library's version, 1.0.0
unfoldable pub version : ℤ
version = pos (1 * 1000000 + 0 * 1000 + 0)

-- ---- numbers that go to a list (IC3): the answer's number first, then what goes to the list, which is nothing if
-- the number is negative

-- I13, I14: the three counts, and the number is their total (L5)
unfoldable pub crossing_numbers : Counted → ℤ × List ℕ
crossing_numbers (counted.Crossings a b c) = (pos (a + b + c), a ∷ b ∷ c ∷ [])
crossing_numbers (counted.Refused k) = (refused k, [])

-- I20, T22: the number of steps, and the final word's length goes to the list
unfoldable pub trace_numbers : ToEnd → ℤ × List ℕ
trace_numbers (to_end.Ended s l) = (pos s, l ∷ [])
trace_numbers (to_end.Refused k) = (refused k, [])

-- I22: the length of each word, and the number is their sum
unfoldable pub split_numbers : Split → ℤ × List ℕ
split_numbers (split.Words a b) = (pos (a + b), a ∷ b ∷ [])
split_numbers (split.Refused k) = (refused k, [])

-- I24: the length of each output, and the number is the greatest length, which is that of the word written
unfoldable pub table_numbers : Table → ℤ × List ℕ
table_numbers (table.Written counts entries letters) = (pos letters, counts ∷ entries ∷ letters ∷ [])
table_numbers (table.Refused k) = (refused k, [])

-- I26: kind, rank, where the letters begin in the book, and how many they are; the number is how many go to the
-- list
unfoldable pub preset_numbers : Preset → ℤ × List ℕ
preset_numbers (preset.Found k n s l) = (pos 4, k ∷ n ∷ s ∷ l ∷ [])
preset_numbers (preset.Refused r) = (refused r, [])

-- IC3, C14: the number x .0, with x.1 written to the front of the list
unfoldable pub listed : ℤ × List ℕ → List ℕ → ℤ × List ℕ
listed x list = pick (too_short (length x.1) list) (refused 14, list) (x.0, front x.1 list)

-- IC3, CO9: the same for a call that leaves `new` in other outputs, which were `old`: a list that is too short
-- leaves them as they were
unfoldable pub listed_beside : {Outputs : Type 0} → ℤ × List ℕ → Outputs → Outputs → List ℕ → ℤ × (Outputs × List ℕ)
listed_beside x new old list =
    pick (too_short (length x.1) list) (refused 14, (old, list)) (x.0, (new, front x.1 list))

-- ---- the calls: the number, the other outputs and the list afterwards

-- T4: the new word stands at the front of the first output if the number is 0 or more
unfoldable pub new_word_in : ℤ → List ℕ × List ℕ → Option (List ℕ)
new_word_in (pos l) o = some (take l o.0)
new_word_in (negsuc r) o = none

-- IC1, IC4, I19, G17: one rewrite for C: the number is the new length, and −100 is none fits; one output is for the
-- new word, the other for the rule's family, i and j, and check 14 concerns both (IC3)
abbrev pub for_C : Interface
for_C = record {
  Answer = ℤ;
  Outputs = List ℕ × List ℕ;
  none_fits = refused 100;
  refused = refused;
  used = λ x l. pos l;
  written = λ x w o. (front w o.0, front (x.family ∷ x.i ∷ x.j ∷ []) o.1);
  room = λ o l. leb l (length o.0) && leb 3 (length o.1);
  new_word = new_word_in;
}

-- IC1, I19: the number, and both outputs afterwards
unfoldable pub rewriting : ℕ → ℕ → List ℕ → ℕ → List ℕ → List ℕ → ℤ × (List ℕ × List ℕ)
rewriting k n u p out rule = let t = rewrite_at for_C k n u p (out, rule) in (t.answer, t.outputs)

-- IC1, I20: the three lists of its steps and the final word, and the length of that
unfoldable pub rewriting_to_end_listed : ℕ → ℕ → List ℕ → List ℕ → List ℕ → List ℕ → List ℕ → List ℕ → ℤ × ((List ℕ × List ℕ × List ℕ × List ℕ) × List ℕ)
rewriting_to_end_listed k n u families places lengths out written =
    let t = rewriting_to_end k n u families places lengths out in
    listed_beside (trace_numbers t.answer) (t.families, t.places, t.lengths, t.bytes) (families, places, lengths, out) written

-- IC1, I22: the two words, and their lengths
unfoldable pub splitting_listed : ℕ → ℕ → ℕ → List ℕ → List ℕ → List ℕ → List ℕ → ℤ × ((List ℕ × List ℕ) × List ℕ)
splitting_listed k n set u first second lengths =
    let p = splitting k n set u first second in
    listed_beside (split_numbers p.answer) (p.first, p.second) (first, second) lengths

-- IC1, I24: the counts, the longest window and its normal form, and the length of each
unfoldable pub delay_table_listed : ℕ → ℕ → List ℕ → List ℤ → List ℕ → List ℕ → ℤ × ((List ℕ × List ℤ × List ℕ) × List ℕ)
delay_table_listed k n counts window form lengths =
    let t = delay_table k n counts window form in
    listed_beside (table_numbers t.answer) (t.counts, t.entries, t.letters) (counts, window, form) lengths
