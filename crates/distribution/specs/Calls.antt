-- The delay table as a call, for every input (I24 and C20 of the specification).
use Rattle.std.specs.Prelude.{◌≡◌, Bool, List, ℕ, eqb, ltb, ℤ, length}
use Rattle.coxeter.specs.declared.Kind.{Kind}
use Rattle.coxeter.specs.declared.Kind.TheVariants.{A, B, D}
use Rattle.coxeter.specs.Kinds.{pick, kind_of}
use Rattle.coxeter.specs.Checks.{check, ◌then◌, too_short, rank_refusal}
use Rattle.coxeter.specs.NormalForm.{normal_form}
use Rattle.coxeter.specs.Calls.{written}
use Rattle.distribution.specs.answers.Table.{Table}
use Rattle.distribution.specs.answers.Table.{Written, Refused}
use Rattle.distribution.specs.Distribution.{distribution}
use Rattle.distribution.specs.Longest.{longest}

-- C20: the greatest rank that has a table
abbrev pub greatest_tabled : Kind → ℕ
greatest_tabled A = 19
greatest_tabled B = 16
greatest_tabled D = 16

-- C20
unfoldable pub untabled : Kind → ℕ → Bool
untabled k n = ltb (greatest_tabled k) n

-- I24: checks 5, 6 and 20
unfoldable pub table_refusal : ℕ → ℕ → ℕ
table_refusal k n = rank_refusal k n then check 20 (untabled (kind_of k) n)

-- I24: the answer, and the three outputs afterwards
pub record Tabled : Type 0 where
  pub answer : Table
  pub counts : List ℕ
  pub entries : List ℤ
  pub letters : List ℕ

-- I24, G17: the number and the values of each case of `Table`: its refusal, or with none the lengths written
unfoldable pub table_of : ℕ → ℕ → ℕ → ℕ → Table
table_of r c e l = pick (eqb r 0) (Written c e l) (Refused r)

-- C14, CO9: of each output, before any is written
unfoldable pub room_refusal : List ℕ → List ℤ → List ℕ → List ℕ → List ℤ → List ℕ → ℕ
room_refusal d w u counts entries letters =
    check 14 (too_short (length d) counts) then check 14 (too_short (length w) entries) then check 14 (too_short (length u) letters)

-- CO6, CO9, I2: refused with r, or else 14 if an output is too short, or else d, w and u are written, each to the
-- front of its output
unfoldable pub tables : ℕ → List ℕ → List ℤ → List ℕ → List ℕ → List ℤ → List ℕ → Tabled
tables r d w u counts entries letters =
    let s = r then room_refusal d w u counts entries letters in
    record {
      answer = table_of s (length d) (length w) (length u);
      counts = written s d counts;
      entries = written s w entries;
      letters = written s u letters;
    }

-- I24: the distribution (Y1), the longest window and its normal form (Y4)
unfoldable pub delay_table : ℕ → ℕ → List ℕ → List ℤ → List ℕ → Tabled
delay_table k n =
    tables (table_refusal k n) (distribution (kind_of k) n) (longest (kind_of k) n) (normal_form (kind_of k) n (longest (kind_of k) n))

-- G1: a call returns a and leaves these three in its outputs, as the outcome t says
abbrev pub TableYields : Tabled → Table → List ℕ → List ℤ → List ℕ → Type 0
TableYields t a counts entries letters = (a ≡ t.answer) × (counts ≡ t.counts) × (entries ≡ t.entries) × (letters ≡ t.letters)
