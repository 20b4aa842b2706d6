-- One rewrite at a named place, for every input (R13 to R19 and I19 of the specification), in whatever form a call
-- takes its outputs and returns its answer: `single` is the library's own form, and the crate c_api has that of C.
use Rattle.std.specs.Prelude.{◌≡◌, Bool, List, ℕ, eqb, leb, length, take}
use Rattle.std.proofs.Math.Option.{Option, none, some}
use Rattle.coxeter.specs.Kinds.{pick, kind_of}
use Rattle.coxeter.specs.Checks.{check, ◌then◌, rank_refusal, word_refusal}
use Rattle.coxeter.specs.Calls.{front}
use Rattle.rules.specs.declared.Rewrite.{Rewrite}
use Rattle.rules.specs.declared.Rewrite.TheVariants.{Used, NoneFits, Refused}
use Rattle.rules.specs.Rules.{Rule, rules, first_fitting, rewritten}

-- C12, R13
unfoldable pub past_end : List ℕ → ℕ → Bool
past_end u p = leb (length u) p

-- T2, T3, G17: the form of a call that makes one rewrite: its answer for each of the three cases, and its outputs
pub record Interface : Type 1 where
  pub Answer : Type 0
  pub Outputs : Type 0
  -- R17: document 01's none fits
  pub none_fits : Answer
  -- CO3: refused with this number
  pub refused : ℕ → Answer
  -- R16: the rule is used, and the new word has this many letters
  pub used : Rule → ℕ → Answer
  -- R16: the outputs after a call that used the rule and left the new word
  pub written : Rule → List ℕ → Outputs → Outputs
  -- C14: the outputs have room for this if the new word has so many letters
  pub room : Outputs → ℕ → Bool
  -- T4: the new word, read off the answer and the outputs afterwards, if the answer says that a rule was used
  pub new_word : Answer → Outputs → Option (List ℕ)

-- I19, T12: what one rewrite returns, what its outputs hold afterwards, and the word that is left
pub record Transition (s : Interface) : Type 0 where
  pub answer : s.Answer
  pub outputs : s.Outputs
  pub word : List ℕ

-- CO6, R17, T4: nothing is written, and the word stays
abbrev pub unchanged : (s : Interface) → s.Answer → List ℕ → s.Outputs → Transition s
unchanged s a u o = record { answer = a; outputs = o; word = u }

-- R16, T4: the rule x is used and leaves the word w
abbrev pub changed : (s : Interface) → Rule → List ℕ → s.Outputs → Transition s
changed s x w o = record { answer = s.used x (length w); outputs = s.written x w o; word = w }

-- R16, R17, C14: none fits, or 14 if there is no room for the answer, or the rule is used. With none the outputs
-- play no part.
unfoldable pub rewrite_by : (s : Interface) → Option Rule → List ℕ → ℕ → s.Outputs → Transition s
rewrite_by s none u p o = unchanged s s.none_fits u o
rewrite_by s (some x) u p o =
    let w = rewritten x u p in
    pick (s.room o (length w)) (changed s x w o) (unchanged s (s.refused 14) u o)

-- I19: one rewrite of the word u at place p: checks 5 to 8 and 12 in order, then the rule that fits there
unfoldable pub rewrite_at : (s : Interface) → ℕ → ℕ → List ℕ → ℕ → s.Outputs → Transition s
rewrite_at s k n u p o =
    let r = rank_refusal k n then word_refusal n u then check 12 (past_end u p) in
    pick (eqb r 0) (rewrite_by s (first_fitting (rules (kind_of k) n) u p) u p o) (unchanged s (s.refused r) u o)

-- I19, T3: a call on the word u at place p with the outputs before and after it, and its answer
pub record Rewrote (s : Interface) (k n : ℕ) (u : List ℕ) (p : ℕ) (before after : s.Outputs) (a : s.Answer) : Type 0 where
  pub answer : a ≡ (rewrite_at s k n u p before).answer
  pub outputs : after ≡ (rewrite_at s k n u p before).outputs

-- I19, T4: the new word stands at the front of the output
unfoldable pub new_word_in : Rewrite → List ℕ → Option (List ℕ)
new_word_in a out = elim a [ Used f i j l ↦ some (take l out) | NoneFits ↦ none | Refused r ↦ none ]

-- I19, R16 to R19, G17: the library's own call: the values of each case of `Rewrite`, and one output, for the word
abbrev pub single : Interface
single = record {
  Answer = Rewrite;
  Outputs = List ℕ;
  none_fits = NoneFits;
  refused = Refused;
  used = λ x l. Used x.family x.i x.j l;
  written = λ x w out. front w out;
  room = λ out l. leb l (length out);
  new_word = new_word_in;
}
